-- `strict::part_front` meets its contract. The invariant: no longer beginning is a part. Assumes nothing.
use mathlib.Core.Path.{◌≡◌}
use Prim.Native.Nat.{◌≤◌}
use lib.ListN.{length}
use Rattle.place.specs.Place.{part_up_to, part_front}
use Rattle.strict.proofs.part_front.Given as goal

abbrev pub invariant-loop-n : goal.invariant-loop-n
invariant-loop-n l = (l.n ≤ length l.text) × (part_front l.text ≡ part_up_to l.n l.text)
