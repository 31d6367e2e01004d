-- `loose::read_parts` meets its contract. The invariant: the text says what its rest says after the parts that were read.
-- Assumes nothing.
use mathlib.Core.Path.{◌≡◌}
use Prim.Native.Nat.{◌-◌, ◌^◌, ◌≤◌, ◌<◌}
use lib.ListN.{length}
use Rattle.notation.specs.Pieces.{split_on}
use Rattle.loose.specs.Loose.{loose_of}
use Rattle.loose.proofs.LooseLaws.{loose_from}
use Rattle.loose.proofs.read_parts.Given as goal

abbrev pub invariant-loop-n : goal.invariant-loop-n
invariant-loop-n l = (length l.rest ≤ length l.text) × (l.value < 256 ^ l.n) × (loose_of l.text ≡ loose_from (4 - l.n) l.value (split_on 46 l.rest))
