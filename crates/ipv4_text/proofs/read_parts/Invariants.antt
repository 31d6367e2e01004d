-- `ipv4_text::read_parts` meets its contract. The invariant: the text says what its rest says after the parts that were read.
-- Assumes nothing.
use mathlib.Core.Path.{◌≡◌}
use Prim.Native.Nat.{◌^◌, ◌≤◌, ◌<◌}
use lib.ListN.{length}
use Rattle.notation.specs.Pieces.{split_on}
use Rattle.ipv4_text.specs.Dotted.{parts_of, as_parts}
use Rattle.ipv4_text.proofs.DottedLaws.{parts_from}
use Rattle.ipv4_text.proofs.read_parts.Given as goal

abbrev pub invariant-loop-n : goal.invariant-loop-n
invariant-loop-n l = (length l.rest ≤ length l.text) × (l.value < 256 ^ l.n) × (as_parts (parts_of l.text) ≡ parts_from l.n l.value (split_on 46 l.rest))
