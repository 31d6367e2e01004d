-- `output::put_bytes` meets its contract. The loop's invariant: the first `i` bytes are put. Assumes nothing.
use native.Mathlib.Omega.{arith}
use Rattle.output.proofs.PlacingLaws.{puts_none, puts_next, puts_cut, puts_all, puts_length}
use Rattle.output.proofs.put_bytes.Goals as goal

pub loop-byte-init : goal.loop-byte-init
loop-byte-init c = puts_none _ _

pub shape_of-text-then-text-next : goal.shape_of-text-then-text-next
shape_of-text-then-text-next c = puts_length c.loop-byte.invariant

pub returns-then-text-next : goal.returns-then-text-next
returns-then-text-next c = puts_cut _ c.loop-byte.byte-index c.loop-byte.invariant c.if-text-next.true

pub overflow_add-next : goal.overflow_add-next
overflow_add-next c = omega (arith, puts_length c.loop-byte.invariant)

pub loop-byte-preserved : goal.loop-byte-preserved
loop-byte-preserved c = puts_next _ c.loop-byte.byte-index c.loop-byte.invariant c.loop-byte-test.true c.if-text-next.false

pub shape_of-text : goal.shape_of-text
shape_of-text c = puts_length c.loop-byte.invariant

pub returns : goal.returns
returns c = puts_all _ c.loop-byte.byte-index c.loop-byte.invariant c.loop-byte-test.false
