-- `gather::Records::sweep` meets its contract. Assumes nothing.
use mathlib.Core.Path.{◌≡◌, refl, sym, subst, ◌∙◌}
use Prim.Native.Nat.{◌+◌, ◌-◌, ◌*◌, ◌^◌, ◌<◌}
use native.Mathlib.Omega.{arith}
use borrow.Author.Tests.{leb-true, leb-false}
use lib.Pow.{pow_pos}
use Rattle.wide.specs.Value.{value}
use Rattle.wide.proofs.Order.{at_most_means}
use Rattle.cover.specs.Blocks.{IsBlock}
use Rattle.record_lists.specs.Inner.{size_width}
use Rattle.gather.specs.Inner.{size_of, width_of, record_at, InList, Spans, place_of, GapFits}
use Rattle.gather.proofs.PutLaws.{below_top}
use Rattle.gather.proofs.PassLaws.{in_list, next_block}
use Rattle.gather.proofs.GapLaws.{sweep_first, first_below, before_fits, before_put, sweep_next, sweep_past, end_fits, sweep_end, if_length, gap_same}
use Rattle.gather.proofs.Records.sweep.Goals.{After-loop-j, After-top-top, After-span-block, Else-le, In-loop-j}
use Rattle.gather.proofs.Records.sweep.Goals as goal

top : (c : After-top-top) → value c.top-top.result ≡ 2 ^ width_of c.args.self.family - 1
top c = c.top-top.ensures

pub loop-j-init : goal.loop-j-init
loop-j-init c = let s = (goal.at.loop-j-init c).After-top-top in sweep_first s.requires.0 s.requires.1 s.args.write s.args.out.now s.requires.2 _ refl

-- the next block
pub place-requires : goal.place-requires
place-requires c = (goal.at.place-requires c).In-loop-j.requires.1.places _ c.loop-j-test.true

pub span-block-requires : goal.span-block-requires
span-block-requires c =
    let s = (goal.at.span-block-requires c).In-loop-j in
    let size = size_of s.args.self.family in
    let bytes = s.args.self.bytes.now in
    subst (λ i. InList size i bytes × IsBlock (size_width size) (record_at (size_width size) bytes i)) (sym c.place.ensures)
    (in_list s.requires.0 _ (s.requires.1.inside _ c.loop-j-test.true), next_block s.requires.0 s.requires.1 _ c.loop-j-test.true)

spans : (c : After-span-block) → let s = c in
    Spans (width_of s.args.self.family) (record_at (width_of s.args.self.family) s.args.self.bytes.now (place_of s.args.order.now c.loop-j.j)) c.span-block.result
spans c =
    let s = c in
    let W = width_of s.args.self.family in
    subst (λ i. Spans W (record_at W s.args.self.bytes.now i) c.span-block.result) c.place.ensures c.span-block.ensures

pub put_before-at-requires : goal.put_before-at-requires
put_before-at-requires c =
    let s = (goal.at.put_before-at-requires c).In-loop-j in
    let S = c.loop-j.invariant in (
      first_below s.requires.0 s.requires.1 s.args.write s.args.out.now s.requires.2 S c.loop-j-test.true _ (spans (goal.at.put_before-at-requires c).After-span-block),
      before_fits s.requires.0 s.requires.1 s.args.write s.args.out.now s.requires.2 S c.loop-j-test.true _ (spans (goal.at.put_before-at-requires c).After-span-block),
    )

pub returns-then-le : goal.returns-then-le
returns-then-le c =
    let s = (goal.at.returns-then-le c).In-loop-j in
    let S = c.loop-j.invariant in
    let put = before_put s.requires.0 s.requires.1 s.args.write s.args.out.now s.requires.2 S c.loop-j-test.true _ (spans (goal.at.returns-then-le c).After-span-block) c.put_before-at.ensures in
    let past = leb-true (value c.top-top.result) (value c.span-block.result.last) (sym (c.le.ensures ∙ at_most_means c.top-top.result c.span-block.result.last (omega arith) (omega arith)) ∙ c.if-le.true) in
    sweep_past s.requires.0 s.requires.1 s.args.write s.args.out.now s.requires.2 S c.loop-j-test.true _ (spans (goal.at.returns-then-le c).After-span-block) put (omega (arith, past, top (goal.at.returns-then-le c).After-top-top))

pub shape_of-out-then-le : goal.shape_of-out-then-le
shape_of-out-then-le c = if_length (goal.at.shape_of-out-then-le c).In-loop-j.args.write (λ t. omega (arith, (goal.at.shape_of-out-then-le c).In-loop-j.requires.2 t)) (returns-then-le c)

-- the block does not reach the last address
short : (c : Else-le) → value c.span-block.result.last < 2 ^ width_of c.args.self.family - 1
short c =
    let less = leb-false (value c.top-top.result) (value c.span-block.result.last) (sym (c.le.ensures ∙ at_most_means c.top-top.result c.span-block.result.last (omega arith) (omega arith)) ∙ c.if-le.false) in
    omega (arith, less, c.top-top.ensures)

pub behind-next-requires : goal.behind-next-requires
behind-next-requires c =
    below_top (goal.at.behind-next-requires c).In-loop-j.requires.0.sized _ (short (goal.at.behind-next-requires c).Else-le)

pub loop-j-preserved : goal.loop-j-preserved
loop-j-preserved c =
    let s = (goal.at.loop-j-preserved c).In-loop-j in
    let S = c.loop-j.invariant in
    let put = before_put s.requires.0 s.requires.1 s.args.write s.args.out.now s.requires.2 S c.loop-j-test.true _ (spans (goal.at.loop-j-preserved c).After-span-block) c.put_before-at.ensures in
    sweep_next s.requires.0 s.requires.1 s.args.write s.args.out.now s.requires.2 S c.loop-j-test.true _ (spans (goal.at.loop-j-preserved c).After-span-block) put (short (goal.at.loop-j-preserved c).Else-le) _ c.behind-next.ensures

-- the gap behind the last block
pub put_gap-requires : goal.put_gap-requires
put_gap-requires c =
    let s = (goal.at.put_gap-requires c).After-loop-j in
    let a = s.args in
    let S = c.loop-j.invariant in
    let t = top (goal.at.put_gap-requires c).After-top-top in (
      record { sized = s.requires.0.sized; rises = omega (arith, t, S.below); below = omega (arith, t, pow_pos (width_of a.self.family)) },
      subst (λ n. GapFits (size_of a.self.family) a.write (c.loop-j.hi * 2 ^ 64 + c.loop-j.lo) n c.loop-j.at c.loop-j.out) (sym t)
          (end_fits s.requires.0 s.requires.1 a.write a.out.now s.requires.2 S c.loop-j-test.false),
    )

pub returns : goal.returns
returns c =
    let s = (goal.at.returns c).After-loop-j in
    let a = s.args in
    sweep_end s.requires.0 s.requires.1 a.write a.out.now s.requires.2 c.loop-j.invariant c.loop-j-test.false
    (gap_same (size_of a.self.family) a.write (c.loop-j.hi * 2 ^ 64 + c.loop-j.lo) _ _ (top (goal.at.returns c).After-top-top) c.put_gap.ensures)

pub shape_of-out : goal.shape_of-out
shape_of-out c = if_length (goal.at.shape_of-out c).After-loop-j.args.write (λ t. omega (arith, (goal.at.shape_of-out c).After-loop-j.requires.2 t)) (returns c)
