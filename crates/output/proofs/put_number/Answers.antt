-- `output::put_number` meets its contract. The loop's invariant: the digits from a place down are left, and `place` is the power of ten there. Assumes nothing.
use Prim.Native.Nat.{◌/◌, ◌%◌}
use native.Mathlib.Omega.{arith}
use lib.Dec.{lit<}
use Rattle.output.proofs.PlacingLaws.{puts_length}
use Rattle.output.proofs.WriteLaws.{all_left, place_put, last_put, decimal_byte}
use Rattle.output.proofs.put_number.Goals as goal

pub loop-place-init : goal.loop-place-init
loop-place-init c = all_left 10 (lit< tt) _ 19 (omega arith) _ _

pub loop-place-preserved : goal.loop-place-preserved
loop-place-preserved c =
    let digit = decimal_byte (c.args.n / c.loop-place.place % 10) (omega arith) in
    place_put 10 (lit< tt) _ c.loop-place.invariant c.loop-place-test.true (rw digit c.put_if-next.ensures)

pub returns : goal.returns
returns c =
    let digit = decimal_byte (c.args.n % 10) (omega arith) in
    last_put 10 (lit< tt) _ c.loop-place.invariant c.loop-place-test.false (rw digit c.put.ensures)

pub shape_of-text : goal.shape_of-text
shape_of-text c = puts_length (returns c)
