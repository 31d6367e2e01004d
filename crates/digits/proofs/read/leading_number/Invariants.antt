use Prim.Native.Nat.{◌≤◌}
use Rattle.digits.proofs.LeadingLaws.{Scan}
use Rattle.digits.proofs.read.leading_number.Given as goal

-- `digits::read::leading_number` meets its contract. The invariant: the first i digits write the value. Assumes nothing.

abbrev pub invariant-loop-i : goal.invariant-loop-i
invariant-loop-i l = Scan l.base l.text l.value l.i × (l.value ≤ l.most)
