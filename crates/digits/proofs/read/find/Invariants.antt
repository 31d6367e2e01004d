-- `digits::read::find` meets its contract. The invariant: the first separator of the whole lies i past that of the rest. Assumes nothing.
use mathlib.Core.Path.{◌≡◌}
use Prim.Native.Nat.{◌+◌}
use lib.ListN.{drop}
use Rattle.notation.specs.Pieces.{index_of}
use Rattle.digits.proofs.read.find.Given as goal

abbrev pub invariant-loop-i : goal.invariant-loop-i
invariant-loop-i l = index_of l.separator l.text ≡ l.i + index_of l.separator (drop l.i l.text)
