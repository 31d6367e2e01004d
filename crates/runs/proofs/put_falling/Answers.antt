-- `runs::put_falling` meets its contract. Assumes nothing.
use Rattle.std.proofs.Common.{◌≡◌, ℕ, ◌+◌, ◌-◌, ◌*◌, ◌%◌, ◌^◌, ◌<◌, ◌∙◌, mod-eq_of_lt, arith, rules}
use lib.Count.{count_leading_zeros}
use Rattle.wide.proofs.Halves.{one_shifted}
use Rattle.output.proofs.PlacingLaws.{puts_length}
use Rattle.runs.specs.Runs.{lane_of, Walk}
use Rattle.runs.proofs.RunLaws.{fits_small, walk_start, down_bits, down_requires, down_size, down_next, down_done}
use Rattle.runs.proofs.put_falling.Goals.{In-loop-left}
use Rattle.runs.proofs.put_falling.Goals as goal

pub loop-left-init : goal.loop-left-init
loop-left-init c =
    (λ _. walk_start c.requires.0 c.requires.1, λ none. absurd (omega (arith, c.requires.1.some)), search rules)

-- a turn of the loop
abbrev Turn : Type 0
Turn = In-loop-left

walk : (t : Turn) → let a = t.args in let l = t.loop-left in
    Walk (lane_of a.longest a.hi) a.first (a.first + a.fall - 1) a.out.now a.at l.out l.next l.start 0 l.left
walk t = t.loop-left.invariant.0 t.loop-left-test.true

-- the size of the block
abbrev down : Turn → ℕ
down t = 63 - count_leading_zeros 64 t.loop-left.left

-- the next start, where any number is left
next : (t : Turn) (w : ℕ) → w ≡ (t.loop-left.start + 1 * 2 ^ down t % 2 ^ 64) % 2 ^ 64 → 1 * 2 ^ down t % 2 ^ 64 < t.loop-left.left
    → w ≡ t.loop-left.start + 1 * 2 ^ down t % 2 ^ 64
next t w e more = e ∙ mod-eq_of_lt (omega (arith, (walk t).parts.all, fits_small t.requires.0))

below : (t : Turn) → t.loop-left.left < 2 ^ 64
below t = t.loop-left.invariant.2

size : (t : Turn) → 1 * 2 ^ down t % 2 ^ 64 ≡ 2 ^ down t
size t = one_shifted (down t) (omega arith)

pub overflow_sub-bits : goal.overflow_sub-bits
overflow_sub-bits c = down_bits (walk (goal.at.overflow_sub-bits c).In-loop-left) (below (goal.at.overflow_sub-bits c).In-loop-left)

pub put_one-next-requires : goal.put_one-next-requires
put_one-next-requires c = down_requires (walk (goal.at.put_one-next-requires c).In-loop-left) (below (goal.at.put_one-next-requires c).In-loop-left)

pub overflow_sub-left : goal.overflow_sub-left
overflow_sub-left c = let t = (goal.at.overflow_sub-left c).In-loop-left in (down_size (walk t) (below t) _ (size t)).0

pub loop-left-smaller : goal.loop-left-smaller
loop-left-smaller c = let t = (goal.at.loop-left-smaller c).In-loop-left in omega (arith, (down_size (walk t) (below t) _ (size t)).0, (down_size (walk t) (below t) _ (size t)).1)

pub loop-left-preserved : goal.loop-left-preserved
loop-left-preserved c =
    let t = (goal.at.loop-left-preserved c).In-loop-left in
    let p = c.put_one-next.ensures in (
      λ more. down_next (walk t) (below t) _ (size t) (omega arith) _ (next t _ c.wrapping_add_u64-start.ensures.value (omega arith)) p,
      λ none. down_done (walk t) (below t) _ (size t) (omega arith) p,
      omega (arith, below t),
    )

pub returns : goal.returns
returns c = c.loop-left.invariant.1 c.loop-left-test.false

pub shape_of-out : goal.shape_of-out
shape_of-out c = puts_length (returns c)
