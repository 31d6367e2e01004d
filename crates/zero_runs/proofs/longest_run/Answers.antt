-- `zero_runs::longest_run` meets its contract. The outer loop has the best run among the starts passed, the inner one counts zeros. Assumes nothing.
use mathlib.Core.Path.{◌≡◌}
use Prim.Native.Nat.{◌-◌}
use native.Mathlib.Omega.{arith}
use borrow.Author.Rules.{rules}
use lib.ListN.{length, drop}
use Rattle.zero_runs.specs.Runs.{zeros_of}
use Rattle.zero_runs.proofs.RunLaws.{goes_on, ends, ends_at_end, best_none, best_new, best_kept, best_all}
use Rattle.zero_runs.proofs.longest_run.Goals.{Left-run, else-run-test, then-run-test+then-groups-end-ne0, then-length-end, else-length-end}
use Rattle.zero_runs.proofs.longest_run.Goals as goal

pub loop-start-init : goal.loop-start-init
loop-start-init c = (search rules, best_none _)

pub run-preserved : goal.run-preserved
run-preserved c =
    let gs = c.args.groups in
    let l : length gs ≡ 8 = search rules in
    let z = goes_on gs c.run.end (omega arith) c.if-groups-end-ne0.false in
    (search rules, search rules, omega (arith, z, c.run.invariant.2))

-- where the inner loop is left, the run has been passed
passed : (c : Left-run)
    → zeros_of (drop c.loop-start.start c.args.groups) ≡ c.run.end - c.loop-start.start
passed c =
    let gs = c.args.groups in
    let end = c.run.end in
    let l : length gs ≡ 8 = search rules in
    let i = c.run.invariant.2 in
    elim c.run-test.branch [
      | else-run-test w ↦ let z = ends_at_end gs end (omega arith) in omega arith
      | then-run-test+then-groups-end-ne0 w ↦ let z = ends gs end (omega arith) w.if-groups-end-ne0.true in omega arith
    ]

pub loop-start-preserved : goal.loop-start-preserved
loop-start-preserved c =
    let gs = c.args.groups in
    let l : length gs ≡ 8 = search rules in
    let b = c.loop-start.invariant.1 in (
      search rules,
      elim c.if-length-end.branch [
        | then-length-end w ↦ rw (w.best-is, w.length-is) (best_new gs b (passed (goal.at.loop-start-preserved c).Left-run) (omega arith) w.if-length-end.true)
        | else-length-end w ↦ rw (w.best-is, w.length-is) (best_kept gs b (passed (goal.at.loop-start-preserved c).Left-run) w.if-length-end.false)
      ],
    )

pub returns : goal.returns
returns c =
    let gs = c.args.groups in
    let l : length gs ≡ 8 = search rules in
    best_all gs c.loop-start.invariant.1 (omega arith)
