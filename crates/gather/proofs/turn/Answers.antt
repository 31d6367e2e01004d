-- `gather::turn` meets its contract. Assumes nothing.
use mathlib.Core.Path.{refl, sym, ◌∙◌}
use mathlib.Core.Logic.{inl, inr}
use Prim.Native.Nat.{suc, ◌<◌}
use borrow.Author.Tests.{leb-true, leb-false}
use native.Mathlib.Omega.{arith}
use Rattle.wide.specs.Value.{value}
use Rattle.wide.proofs.Order.{at_most_means}
use Rattle.gather.proofs.PutLaws.{near, far, below_most}
use Rattle.gather.proofs.turn.Goals.{Else-le, Else-le-2}
use Rattle.gather.proofs.turn.Goals as goal

pub returns-then-le : goal.returns-then-le
returns-then-le c = inl (leb-true _ _ (sym (c.le.ensures ∙ at_most_means c.args.block.last c.args.run.last (omega arith) (omega arith)) ∙ c.if-le.true), refl, refl)

-- the block reaches further than the run
further : (c : Else-le) → let a = c.args in value a.run.last < value a.block.last
further c = leb-false _ _ (sym (c.le.ensures ∙ at_most_means c.args.block.last c.args.run.last (omega arith) (omega arith)) ∙ c.if-le.false)

pub returns-then-le-2 : goal.returns-then-le-2
returns-then-le-2 c =
    inr (inl (
      further (goal.at.returns-then-le-2 c).Else-le,
      near _ _ _ _ _ c.saturating_add.ensures c.from.ensures (leb-true _ _ (sym (c.le-2.ensures ∙ at_most_means c.args.block.first c.saturating_add.result (omega arith) (omega arith)) ∙ c.if-le-2.true)),
      record { first = refl; to = refl; alone = refl; at = refl; same = refl },
    ))

-- it starts behind the run, and not right behind it
behind : (c : Else-le-2) → suc (value c.args.run.last) < value c.args.block.first
behind c =
    let pre = c.requires in
    far _ _ _ _ _ _ c.saturating_add.ensures c.from.ensures (leb-false _ _ (sym (c.le-2.ensures ∙ at_most_means c.args.block.first c.saturating_add.result (omega arith) (omega arith)) ∙ c.if-le-2.false))
    (further (goal.at.Else-le-2 c).Else-le) (below_most pre.0.range.sized _ pre.1)

pub put_run-next-requires : goal.put_run-next-requires
put_run-next-requires c = let s = (goal.at.put_run-next-requires c).Else-le-2 in (s.requires.0, s.requires.2 (behind (goal.at.put_run-next-requires c).Else-le-2))

pub returns : goal.returns
returns c = inr (inr (behind (goal.at.returns c).Else-le-2, record { first = refl; last = refl; length = refl; puts = c.put_run-next.ensures }))
