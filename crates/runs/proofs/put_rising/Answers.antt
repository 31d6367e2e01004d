-- `runs::put_rising` meets its contract. Assumes nothing.
use Rattle.std.proofs.Common.{◌≡◌, ℕ, ◌+◌, ◌*◌, ◌%◌, ◌^◌, ◌<◌, ◌≤◌, refl, ◌∙◌, arith}
use lib.Count.{count_trailing_zeros}
use Rattle.wide.proofs.Halves.{one_shifted}
use Rattle.output.proofs.PlacingLaws.{puts_length}
use Rattle.runs.specs.Runs.{lane_of, Walk}
use Rattle.runs.proofs.RunLaws.{fits_small, walk_start, walk_top, up_bits, up_requires, up_size, up_next}
use Rattle.runs.proofs.put_rising.Goals.{In-loop-left}
use Rattle.runs.proofs.put_rising.Goals as goal

pub loop-left-init : goal.loop-left-init
loop-left-init c = (λ last fall f p. walk_start f p, refl, refl)

-- a turn of the loop, in the run that is known to have room
abbrev Turn : Type 0
Turn = In-loop-left

walk : (t : Turn) → let a = t.args in let r = t.requires in let l = t.loop-left in
    Walk (lane_of a.longest a.hi) a.first r.last a.out.now a.at l.out l.next l.start l.left r.fall
walk t = let r = t.requires in t.loop-left.invariant.0 r.last r.fall r.fits r.parts

small : (t : Turn) → t.requires.last < 2 ^ 64
small t = fits_small t.requires.fits

-- the size of the block
abbrev up : Turn → ℕ
up t = count_trailing_zeros 64 t.loop-left.start

bits : (t : Turn) → up t < 64
bits t = up_bits (walk t) t.loop-left-test.true (small t)

size : (t : Turn) → 1 * 2 ^ up t % 2 ^ 64 ≡ 2 ^ up t
size t = one_shifted (up t) (bits t)

sized : (t : Turn) → let n = 1 * 2 ^ up t % 2 ^ 64 in let l = t.loop-left in (n ≤ l.left) × (0 < n) × (l.start + n ≤ t.requires.last)
sized t = up_size (walk t) t.loop-left-test.true (small t) _ (size t)

pub put_one-next-requires : goal.put_one-next-requires
put_one-next-requires c = up_requires (walk (goal.at.put_one-next-requires c).In-loop-left) c.loop-left-test.true (small (goal.at.put_one-next-requires c).In-loop-left)

pub overflow_cast-size : goal.overflow_cast-size
overflow_cast-size c = omega (arith, bits (goal.at.overflow_cast-size c).In-loop-left)

pub overflow_shl-size : goal.overflow_shl-size
overflow_shl-size c = bits (goal.at.overflow_shl-size c).In-loop-left

pub overflow_sub-left : goal.overflow_sub-left
overflow_sub-left c = (sized (goal.at.overflow_sub-left c).In-loop-left).0

pub overflow_add-start : goal.overflow_add-start
overflow_add-start c = omega (arith, (sized (goal.at.overflow_add-start c).In-loop-left).2, small (goal.at.overflow_add-start c).In-loop-left)

pub loop-left-smaller : goal.loop-left-smaller
loop-left-smaller c = omega (arith, (sized (goal.at.loop-left-smaller c).In-loop-left).0, (sized (goal.at.loop-left-smaller c).In-loop-left).1)

pub loop-left-preserved : goal.loop-left-preserved
loop-left-preserved c =
    let t = (goal.at.loop-left-preserved c).In-loop-left in
    let i = t.loop-left.invariant in
    let p = c.put_one-next.ensures in (
      λ last fall f q. up_next (i.0 last fall f q) t.loop-left-test.true (fits_small f) _ (size t) p,
      omega (arith, i.1, (sized t).0),
      puts_length p ∙ i.2,
    )

pub shape_of-out : goal.shape_of-out
shape_of-out c = c.loop-left.invariant.2

pub returns : goal.returns
returns c = let i = c.loop-left.invariant in λ last fall f p. walk_top _ (i.0 last fall f p) c.loop-left-test.false i.1
