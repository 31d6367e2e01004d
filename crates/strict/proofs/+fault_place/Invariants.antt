use Rattle.strict.proofs.CodeLaws.{depth}
use Rattle.strict.proofs.+fault_place.Given as goal

-- `strict::fault_place` meets its contract. The measure: 1 for either family, which asks for both, and 0 for one. Assumes nothing.

abbrev pub decreases-fault_place : goal.decreases-fault_place
decreases-fault_place l = depth l.family
