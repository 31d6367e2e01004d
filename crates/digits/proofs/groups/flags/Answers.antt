-- `digits::groups::flags` meets its contract. Assumes nothing.
use native.Mathlib.Omega.{arith}
use Prim.Native.Nat.{◌<◌, ◌^◌}
use lib.Bits.{bit_and, bit_or, and_le_r, or_lt}
use Rattle.digits.proofs.ByteLaws.{flags_code, flags_are}
use borrow.Author.Rules.{rules}
use Rattle.digits.proofs.groups.flags.Reads as reads
use Rattle.digits.proofs.groups.flags.Lts as lts
use Rattle.digits.proofs.groups.flags.Goals as goal

small : (c : lts.Start reads.Pre reads.Post) → bit_or (bit_and c.args.w 2139062143) 538976288 < 2 ^ 31
small c = or_lt 31 (bit_and c.args.w 2139062143) 538976288 (omega (arith, and_le_r c.args.w 2139062143)) (omega arith)

pub overflow_sub-digit : goal.overflow_sub-digit
overflow_sub-digit c = omega (arith, and_le_r c.args.w 2139062143)

pub overflow_add-digit : goal.overflow_add-digit
overflow_add-digit c = omega (arith, and_le_r c.args.w 2139062143)

pub overflow_add-letter : goal.overflow_add-letter
overflow_add-letter c = omega (arith, small c)

pub overflow_add-letter-2 : goal.overflow_add-letter-2
overflow_add-letter-2 c = omega (arith, small c)

pub returns : goal.returns
unfolding flags_code
returns c = flags_are c.args.w (search rules)
