-- `gather::Records::load_keys` meets its contract. Assumes nothing.
use mathlib.Core.Path.{◌≡◌}
use lib.ListN.{length}
use Rattle.gather.specs.Inner.{width_of, Loaded}
use Rattle.gather.proofs.Records.load_keys.Given as goal

abbrev pub invariant-loop-i : goal.invariant-loop-i
invariant-loop-i l = Loaded (width_of l.self.family) l.i l.self.bytes.now l.hi l.lo × (length l.hi ≡ length l.initial.hi) × (length l.lo ≡ length l.initial.lo)
