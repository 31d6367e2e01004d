-- `runs::put_runs` meets its contract. Assumes nothing.
use Rattle.std.proofs.Common.{◌^◌, ◌<◌, sym, ◌∙◌, lt_trans, le_refl, lit<, rules, ltb-false, ltb-true, eqb-true}
use borrow.Author.Tests.{eqb-false, not-true, not-false}
use Rattle.wide.specs.Value.{value}
use Rattle.wide.proofs.Halves.{value_lt}
use Rattle.output.proofs.PlacingLaws.{puts_length}
use Rattle.runs.proofs.LaneLaws.{less_all}
use Rattle.runs.proofs.RangeRuns.{next_exact, nearer, between_start, between_fits, between_on, between_done, all_room, all_puts}
use Rattle.runs.proofs.put_runs.Goals.{Else-is_last, Start}
use Rattle.runs.proofs.put_runs.Goals as goal

small : (s : Start) → value s.args.last < 2 ^ 128
small s = value_lt s.args.last (search rules) (search rules)

-- all addresses
pub put_one-requires : goal.put_one-requires
put_one-requires c =
    (lit< tt, le_refl 64, all_room _ _ (small (goal.at.put_one-requires c).Start) (eqb-true _ _ (sym c.is_all.ensures ∙ c.if-is_all.true)) _ _ c.requires.1)

pub returns-then-is_all : goal.returns-then-is_all
returns-then-is_all c =
    all_puts _ _ (small (goal.at.returns-then-is_all c).Start) (eqb-true _ _ (sym c.is_all.ensures ∙ c.if-is_all.true)) c.put_one.ensures

pub shape_of-out-then-is_all : goal.shape_of-out-then-is_all
shape_of-out-then-is_all c = puts_length (returns-then-is_all c)

-- run after run
pub loop-last-init : goal.loop-last-init
loop-last-init c =
    (between_start c.requires.0 c.requires.1, less_all (2 ^ 128) _ _ (small (goal.at.loop-last-init c).Start) (eqb-false _ _ (sym c.is_all.ensures ∙ c.if-is_all.false)))

pub next_run-run-requires : goal.next_run-run-requires
next_run-run-requires c = (c.loop-last.invariant.0.rises, c.loop-last.invariant.1)

pub put_run-next-requires : goal.put_run-next-requires
put_run-next-requires c = between_fits c.loop-last.invariant.0 c.next_run-run.ensures

pub returns-then-is_last : goal.returns-then-is_last
returns-then-is_last c =
    between_done c.loop-last.invariant.0 c.next_run-run.ensures c.put_run-next.ensures (ltb-false _ _ (not-true _ (sym c.is_last.ensures ∙ c.if-is_last.true)))

pub shape_of-out-then-is_last : goal.shape_of-out-then-is_last
shape_of-out-then-is_last c = puts_length (returns-then-is_last c)

below : (e : Else-is_last) → value e.next_run-run.result.end < value e.args.last
below e = ltb-true _ _ (not-false _ (sym e.is_last.ensures ∙ e.if-is_last.false))

pub loop-last-smaller : goal.loop-last-smaller
loop-last-smaller c =
    nearer (goal.at.loop-last-smaller c).Else-is_last.next_run-run.ensures _ (next_exact (2 ^ 128) _ _ _ c.saturating_add-start.ensures (below (goal.at.loop-last-smaller c).Else-is_last) (small (goal.at.loop-last-smaller c).Start)) (below (goal.at.loop-last-smaller c).Else-is_last)

pub loop-last-preserved : goal.loop-last-preserved
loop-last-preserved c =
    let f = (goal.at.loop-last-preserved c).Else-is_last in
    let next = next_exact (2 ^ 128) _ _ _ c.saturating_add-start.ensures (below (goal.at.loop-last-preserved c).Else-is_last) (small (goal.at.loop-last-preserved c).Start) in (
      between_on f.loop-last.invariant.0 f.next_run-run.ensures c.put_run-next.ensures _ next (below (goal.at.loop-last-preserved c).Else-is_last),
      lt_trans (nearer f.next_run-run.ensures _ next (below (goal.at.loop-last-preserved c).Else-is_last)) f.loop-last.invariant.1,
    )
