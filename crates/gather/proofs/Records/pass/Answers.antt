-- `gather::Records::pass` meets its contract. Assumes nothing.
use mathlib.Core.Path.{refl, sym, subst}
use Prim.Native.Nat.{◌<◌}
use native.Mathlib.Omega.{arith}
use Rattle.cover.specs.Blocks.{IsBlock}
use Rattle.output.proofs.PlacingLaws.{puts_length, all_room}
use Rattle.record_lists.specs.Inner.{size_width}
use Rattle.gather.specs.Inner.{size_of, width_of, record_at, InList, Spans, place_of}
use Rattle.gather.proofs.PassLaws.{in_list, next_block, pass_none, pass_first, below, run_room, pass_turn, end_room, pass_end}
use Rattle.gather.proofs.Records.pass.Goals.{After-loop-j, After-span, Else-self-eq0, In-loop-j}
use Rattle.gather.proofs.Records.pass.Goals as goal

pub returns-then-self-eq0 : goal.returns-then-self-eq0
returns-then-self-eq0 c = pass_none c.requires.0 c.requires.1 c.if-self-eq0.true c.args.out.now

-- the first block
some : (c : Else-self-eq0) → 0 < c.args.self.count
some c = omega (arith, c.if-self-eq0.false)

pub place-requires : goal.place-requires
place-requires c = (goal.at.place-requires c).Else-self-eq0.requires.1.places 0 (some (goal.at.place-requires c).Else-self-eq0)

pub span-b-requires : goal.span-b-requires
span-b-requires c =
    let s = (goal.at.span-b-requires c).Else-self-eq0 in
    let size = size_of s.args.self.family in
    let bytes = s.args.self.bytes.now in
    subst (λ i. InList size i bytes × IsBlock (size_width size) (record_at (size_width size) bytes i)) (sym c.place.ensures)
    (in_list s.requires.0 _ (s.requires.1.inside 0 (some (goal.at.span-b-requires c).Else-self-eq0)), next_block s.requires.0 s.requires.1 0 (some (goal.at.span-b-requires c).Else-self-eq0))

pub loop-j-init : goal.loop-j-init
loop-j-init c =
    let s = (goal.at.loop-j-init c).Else-self-eq0 in
    let W = width_of s.args.self.family in
    let span = subst (λ i. Spans W (record_at W s.args.self.bytes.now i) c.span-b.result) c.place.ensures c.span-b.ensures in
    pass_first s.requires.0 s.requires.1 (some (goal.at.loop-j-init c).Else-self-eq0) s.args.out.now s.requires.2 c.span-b.result span _ refl refl refl refl

-- the next one
pub place-requires-in-loop-j : goal.place-requires-in-loop-j
place-requires-in-loop-j c = (goal.at.place-requires-in-loop-j c).In-loop-j.requires.1.places _ c.loop-j-test.true

pub span-requires : goal.span-requires
span-requires c =
    let s = (goal.at.span-requires c).In-loop-j in
    let size = size_of s.args.self.family in
    let bytes = s.args.self.bytes.now in
    subst (λ i. InList size i bytes × IsBlock (size_width size) (record_at (size_width size) bytes i)) (sym c.place-in-loop-j.ensures)
    (in_list s.requires.0 _ (s.requires.1.inside _ c.loop-j-test.true), next_block s.requires.0 s.requires.1 _ c.loop-j-test.true)

spans : (c : After-span) → let s = c in
    Spans (width_of s.args.self.family) (record_at (width_of s.args.self.family) s.args.self.bytes.now (place_of s.args.order.now c.loop-j.j)) c.span.result
spans c =
    let s = c in
    let W = width_of s.args.self.family in
    subst (λ i. Spans W (record_at W s.args.self.bytes.now i) c.span.result) c.place-in-loop-j.ensures c.span.ensures

pub turn-run-requires : goal.turn-run-requires
turn-run-requires c =
    let s = (goal.at.turn-run-requires c).In-loop-j in
    let P = c.loop-j.invariant in
    (P.built, below s.requires.0 s.requires.1 P c.loop-j-test.true _ (spans (goal.at.turn-run-requires c).After-span), run_room s.requires.0 s.requires.1 P c.loop-j-test.true _ (spans (goal.at.turn-run-requires c).After-span))

pub loop-j-preserved : goal.loop-j-preserved
loop-j-preserved c =
    let s = (goal.at.loop-j-preserved c).In-loop-j in
    pass_turn s.requires.0 s.requires.1 c.loop-j.invariant c.loop-j-test.true _ (spans (goal.at.loop-j-preserved c).After-span) _ _ c.turn-run.ensures

-- the last run
pub put_range-requires : goal.put_range-requires
put_range-requires c = c.loop-j.invariant.built.range

pub returns : goal.returns
returns c =
    let s = (goal.at.returns c).After-loop-j in
    let P = c.loop-j.invariant in
    pass_end s.requires.0 s.requires.1 P c.loop-j-test.false _ _ (all_room c.put_range.ensures (end_room s.requires.0 s.requires.1 P c.loop-j-test.false))

pub shape_of-out : goal.shape_of-out
shape_of-out c = puts_length (returns c)
