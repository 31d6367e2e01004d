-- `network::widen` meets its contract. Assumes nothing.
use Prim.Native.Nat.{◌*◌}
use native.Mathlib.Omega.{arith}
use borrow.Author.Tests.{le-leb, lt-leb}
use Rattle.network.specs.Network.{widened}
use Rattle.network.proofs.NetworkLaws.{larger}
use Rattle.network.proofs.widen.Goals as goal

pub returns-then-size-lt8 : goal.returns-then-size-lt8
unfolding widened
returns-then-size-lt8 c = rw (lt-leb 8 c.args.size (omega arith))

pub returns : goal.returns
unfolding widened
returns c = let a = c.args in rw (le-leb 8 a.size (omega arith), c.max.ensures) (larger a.size (8 * a.count))
