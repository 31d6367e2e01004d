-- `runs::put_run` meets its contract. Assumes nothing.
use Rattle.std.proofs.Common.{◌≡◌, ℕ, ◌+◌, ◌-◌, ◌*◌, ◌%◌, ◌^◌, ◌<◌, subst, arith, rules}
use lib.Count.{count_leading_zeros}
use Rattle.wide.proofs.Halves.{one_shifted}
use Rattle.output.proofs.PlacingLaws.{puts_length}
use Rattle.runs.specs.Runs.{lane_of, Parts, RunFits, Walk}
use Rattle.runs.proofs.RunLaws.{puts_last, walk_start, walk_top, down_bits, down_requires, down_done}
use Rattle.runs.proofs.put_run.Goals.{After-cut-parts, Then-rise-eq0}
use Rattle.runs.proofs.put_run.Goals as goal

pub cut-parts-requires : goal.cut-parts-requires
cut-parts-requires c = (c.requires.rises, c.requires.short)

-- a run with no rising part
flat : (t : Then-rise-eq0) → let a = t.args in
    Walk (lane_of a.longest a.hi) a.first a.last a.out.now a.at a.out.now a.at a.first 0 t.cut-parts.result.fall
flat t = walk_top t.args.first (walk_start t.requires t.cut-parts.ensures) (omega (arith, t.if-rise-eq0.true)) (omega (arith, t.if-rise-eq0.true))

small : (t : Then-rise-eq0) → t.cut-parts.result.fall < 2 ^ 64
small t = search rules

abbrev down : Then-rise-eq0 → ℕ
down t = 63 - count_leading_zeros 64 t.cut-parts.result.fall

size : (t : Then-rise-eq0) → 1 * 2 ^ down t % 2 ^ 64 ≡ 2 ^ down t
size t = one_shifted (down t) (omega arith)

pub overflow_sub-bits : goal.overflow_sub-bits
overflow_sub-bits c = down_bits (flat (goal.at.overflow_sub-bits c).Then-rise-eq0) (small (goal.at.overflow_sub-bits c).Then-rise-eq0)

pub put_one-requires : goal.put_one-requires
put_one-requires c = down_requires (flat (goal.at.put_one-requires c).Then-rise-eq0) (small (goal.at.put_one-requires c).Then-rise-eq0)

pub returns-then-fall-bits : goal.returns-then-fall-bits
returns-then-fall-bits c =
    down_done (flat (goal.at.returns-then-fall-bits c).Then-rise-eq0) (small (goal.at.returns-then-fall-bits c).Then-rise-eq0) _ (size (goal.at.returns-then-fall-bits c).Then-rise-eq0) c.if-fall-bits.true c.put_one.ensures

pub shape_of-out-then-fall-bits : goal.shape_of-out-then-fall-bits
shape_of-out-then-fall-bits c = puts_length (returns-then-fall-bits c)

-- the last number, by the parts
last : (c : After-cut-parts) → let a = c.args in let r = c.cut-parts.result in a.last ≡ a.first + r.rise + r.fall - 1
last c = omega (arith, c.cut-parts.ensures.all)

pub put_parts-requires : goal.put_parts-requires
put_parts-requires c =
    let a = (goal.at.put_parts-requires c).After-cut-parts.args in
    let r = c.cut-parts.result in
    subst (λ (x : ℕ). RunFits (lane_of a.longest a.hi) a.first x a.at a.out.now × Parts a.first x r.rise r.fall) (last (goal.at.put_parts-requires c).After-cut-parts) ((goal.at.put_parts-requires c).After-cut-parts.requires, c.cut-parts.ensures)

pub returns : goal.returns
returns c = puts_last _ _ (last (goal.at.returns c).After-cut-parts) c.put_parts.ensures

pub shape_of-out : goal.shape_of-out
shape_of-out c = puts_length (returns c)
