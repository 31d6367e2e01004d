-- `gather::put_before` meets its contract. Assumes nothing.
use mathlib.Core.Path.{◌≡◌, refl, sym, subst, ◌∙◌}
use mathlib.Core.Logic.{inl, inr}
use Prim.Native.Nat.{◌-◌, ◌<◌}
use native.Mathlib.Omega.{arith}
use borrow.Author.Tests.{leb-true, leb-false}
use Rattle.wide.specs.Value.{value}
use Rattle.wide.proofs.Order.{at_most_means}
use Rattle.gather.specs.Inner.{size_of, GapFits}
use Rattle.gather.proofs.BlockLaws.{is_size}
use Rattle.gather.proofs.GapLaws.{gap_same}
use Rattle.gather.proofs.PutLaws.{one_before}
use Rattle.gather.proofs.put_before.Goals.{After-saturating_sub-last}
use Rattle.gather.proofs.put_before.Goals as goal

pub returns-then-le : goal.returns-then-le
returns-then-le c = inl (leb-true _ _ (sym (c.le.ensures ∙ at_most_means c.args.block.first c.args.from (omega arith) (omega arith)) ∙ c.if-le.true), refl, refl)

-- the gap ends right before the block
gap : (c : After-saturating_sub-last) → value c.args.from < value c.args.block.first
gap c = leb-false _ _ (sym (c.le.ensures ∙ at_most_means c.args.block.first c.args.from (omega arith) (omega arith)) ∙ c.if-le.false)

ends : (c : After-saturating_sub-last) → value c.saturating_sub-last.result ≡ value c.args.block.first - 1
ends c = one_before _ _ _ c.saturating_sub-last.ensures c.from.ensures

pub put_gap-requires : goal.put_gap-requires
put_gap-requires c =
    let s = (goal.at.put_gap-requires c).After-saturating_sub-last in
    let a = s.args in (
      record { sized = is_size a.family; rises = omega (arith, gap (goal.at.put_gap-requires c).After-saturating_sub-last, ends (goal.at.put_gap-requires c).After-saturating_sub-last); below = omega (arith, gap (goal.at.put_gap-requires c).After-saturating_sub-last, ends (goal.at.put_gap-requires c).After-saturating_sub-last, (s.requires.0)) },
      subst (λ n. GapFits (size_of a.family) a.write (value a.from) n a.at a.out.now) (sym (ends (goal.at.put_gap-requires c).After-saturating_sub-last)) (s.requires.1 (gap (goal.at.put_gap-requires c).After-saturating_sub-last)),
    )

pub returns : goal.returns
returns c =
    let a = (goal.at.returns c).After-saturating_sub-last.args in
    inr (gap (goal.at.returns c).After-saturating_sub-last, gap_same (size_of a.family) a.write (value a.from) _ _ (ends (goal.at.returns c).After-saturating_sub-last) c.put_gap.ensures)
