-- `sheet::count_lines` meets its contract. Assumes nothing.
use lib.ListN.{length}
use Rattle.sheet.proofs.PassLaws.{Counted}
use Rattle.sheet.proofs.count_lines.Given as goal

abbrev pub invariant-loop-rest : goal.invariant-loop-rest
invariant-loop-rest l = Counted l.sheet l.rest l.count

abbrev pub decreases-loop-rest : goal.decreases-loop-rest
decreases-loop-rest l = length l.rest
