-- `network::clear` meets its contract. Assumes nothing.
use Prim.Native.Nat.{◌-◌, ◌^◌}
use native.Mathlib.Nat.{mod-le}
use native.Mathlib.Omega.{arith}
use lib.Pow.{pow_pos}
use Rattle.network.specs.NetworkText.{cleared}
use Rattle.network.proofs.TextLaws.{shifted}
use Rattle.network.proofs.clear.Goals as goal

pub nonzero_rem-result : goal.nonzero_rem-result
nonzero_rem-result c = rw (shifted c.args.size) (pow_pos (32 - c.args.size))

pub overflow_cast-result-2 : goal.overflow_cast-result-2
overflow_cast-result-2 c = rw (shifted c.args.size) (omega (arith, mod-le c.args.v (2 ^ (32 - c.args.size))))

pub overflow_sub-result : goal.overflow_sub-result
overflow_sub-result c = rw (shifted c.args.size) (mod-le c.args.v (2 ^ (32 - c.args.size)))

pub returns : goal.returns
unfolding cleared
returns c = rw (shifted c.args.size)
