-- `digits::groups::packed` meets its contract. Assumes nothing.
use native.Mathlib.Omega.{arith}
use Prim.Native.Nat.{◌+◌, ◌*◌, ◌/◌, ◌≤◌}
use lib.Bits.{bit_and, and_le_r}
use Rattle.digits.proofs.ByteLaws.{nibbles_code, pairs_code, packed_is}
use borrow.Author.Rules.{rules}
use Rattle.digits.proofs.groups.packed.Reads as reads
use Rattle.digits.proofs.groups.packed.Lts as lts
use Rattle.digits.proofs.groups.packed.Goals as goal

pub overflow_mul-v : goal.overflow_mul-v
overflow_mul-v c = omega (arith, and_le_r c.args.w 1077952576)

pub overflow_add-v : goal.overflow_add-v
overflow_add-v c = omega (arith, and_le_r c.args.w 1077952576, and_le_r c.args.w 252645135)

v-le : (c : lts.Start reads.Pre reads.Post) → bit_and (bit_and c.args.w 252645135 + bit_and c.args.w 1077952576 / 64 * 9) 252645135 ≤ 252645135
v-le c = and_le_r (bit_and c.args.w 252645135 + bit_and c.args.w 1077952576 / 64 * 9) 252645135

pub overflow_mul-t : goal.overflow_mul-t
overflow_mul-t c = omega (arith, v-le c)

pub overflow_add-t : goal.overflow_add-t
overflow_add-t c = omega (arith, v-le c)

pub returns : goal.returns
unfolding pairs_code nibbles_code
returns c = packed_is c.args.w (search rules)
