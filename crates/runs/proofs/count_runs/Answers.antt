-- `runs::count_runs` meets its contract. Assumes nothing.
use Rattle.std.proofs.Common.{◌^◌, ◌<◌, sym, ◌∙◌, lt_trans, arith, lit≤, rules, ltb-false, ltb-true, eqb-true}
use borrow.Author.Tests.{eqb-false, not-true, not-false}
use Rattle.wide.specs.Value.{value}
use Rattle.wide.proofs.Halves.{value_lt}
use Rattle.runs.proofs.LaneLaws.{less_all}
use Rattle.runs.proofs.RangeRuns.{next_exact, count_few, count_on, count_done, nearer, all_count}
use Rattle.runs.proofs.count_runs.Goals.{Else-is_last, Start}
use Rattle.runs.proofs.count_runs.Goals as goal

small : (s : Start) → value s.args.last < 2 ^ 128
small s = value_lt s.args.last (search rules) (search rules)

pub returns-then-is_all : goal.returns-then-is_all
returns-then-is_all c =
    all_count _ _ (small (goal.at.returns-then-is_all c).Start) (eqb-true _ _ (sym c.is_all.ensures ∙ c.if-is_all.true))

pub loop-last-init : goal.loop-last-init
loop-last-init c =
    (c.requires, omega arith, less_all (2 ^ 128) _ _ (small (goal.at.loop-last-init c).Start) (eqb-false _ _ (sym c.is_all.ensures ∙ c.if-is_all.false)))

pub next_run-run-requires : goal.next_run-run-requires
next_run-run-requires c = (c.loop-last.invariant.0, c.loop-last.invariant.2)

pub run_count-n-requires : goal.run_count-n-requires
run_count-n-requires c = (c.next_run-run.ensures.rises, c.next_run-run.ensures.short)

pub overflow_add-n : goal.overflow_add-n
overflow_add-n c =
    omega (arith, count_few c.next_run-run.ensures _ _ c.loop-last.invariant.1 _ c.run_count-n.ensures (lit≤ tt) (small (goal.at.overflow_add-n c).Start))

pub returns-then-is_last : goal.returns-then-is_last
returns-then-is_last c =
    count_done c.next_run-run.ensures _ _ c.loop-last.invariant.1 _ c.run_count-n.ensures (ltb-false _ _ (not-true _ (sym c.is_last.ensures ∙ c.if-is_last.true)))

-- the next address
below : (e : Else-is_last) → value e.next_run-run.result.end < value e.args.last
below e = ltb-true _ _ (not-false _ (sym e.is_last.ensures ∙ e.if-is_last.false))

pub loop-last-smaller : goal.loop-last-smaller
loop-last-smaller c =
    nearer c.next_run-run.ensures _ (next_exact (2 ^ 128) _ _ _ c.saturating_add-start.ensures (below (goal.at.loop-last-smaller c).Else-is_last) (small (goal.at.loop-last-smaller c).Start)) (below (goal.at.loop-last-smaller c).Else-is_last)

pub loop-last-preserved : goal.loop-last-preserved
loop-last-preserved c =
    let next = next_exact (2 ^ 128) _ _ _ c.saturating_add-start.ensures (below (goal.at.loop-last-preserved c).Else-is_last) (small (goal.at.loop-last-preserved c).Start) in (
      omega (arith, next, below (goal.at.loop-last-preserved c).Else-is_last),
      count_on c.next_run-run.ensures _ _ c.loop-last.invariant.1 _ c.run_count-n.ensures _ next,
      lt_trans (nearer c.next_run-run.ensures _ next (below (goal.at.loop-last-preserved c).Else-is_last)) c.loop-last.invariant.2,
    )
