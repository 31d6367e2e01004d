-- `loose::last_part` meets its contract. Assumes nothing.
use Prim.Native.Nat.{◌+◌, ◌*◌, ◌^◌, ◌%◌, ◌<◌}
use native.Mathlib.Omega.{arith}
use Rattle.loose.proofs.LooseLaws.{shifted, last_fits, last_refused, last_read}
use Rattle.loose.proofs.last_part.Goals.{Else-room-part}
use Rattle.loose.proofs.last_part.Goals as goal

pub returns-then-room-part : goal.returns-then-room-part
returns-then-room-part c =
    let a = c.args in
    last_refused a.value a.part a.left (omega (arith, c.if-room-part.true, shifted a.left c.requires.0))

-- the part is less than the room, so that all fits 32 bits
less : (c : Else-room-part) → c.args.part < 256 ^ c.args.left
less c = omega (arith, c.if-room-part.false, shifted c.args.left c.requires.0)

fits : (c : Else-room-part) → c.args.value * (1 * 2 ^ (8 * c.args.left) % 2 ^ 64) + c.args.part < 2 ^ 32
fits c =
    let a = c.args in
    rw (shifted a.left c.requires.0) (last_fits a.value a.part a.left c.requires.0 c.requires.1 (less c))

pub overflow_mul-result : goal.overflow_mul-result
overflow_mul-result c = omega (arith, fits (goal.at.overflow_mul-result c).Else-room-part)

pub overflow_add-result : goal.overflow_add-result
overflow_add-result c = omega (arith, fits (goal.at.overflow_add-result c).Else-room-part)

pub overflow_cast-result-3 : goal.overflow_cast-result-3
overflow_cast-result-3 c = omega (arith, fits (goal.at.overflow_cast-result-3 c).Else-room-part)

pub returns : goal.returns
returns c =
    let a = c.args in
    rw (shifted a.left c.requires.0) (last_read a.value a.part a.left (less (goal.at.returns c).Else-room-part))
