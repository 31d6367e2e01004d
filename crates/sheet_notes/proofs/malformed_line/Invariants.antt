-- `sheet_notes::malformed_line` meets its contract. The measure: the bytes that are left. Assumes nothing.
use lib.ListN.{length}
use Rattle.sheet_notes.proofs.LineLaws.{Passed}
use Rattle.sheet_notes.proofs.malformed_line.Given as goal

abbrev pub invariant-loop-rest : goal.invariant-loop-rest
invariant-loop-rest l = Passed l.sheet l.rest l.line

abbrev pub decreases-loop-rest : goal.decreases-loop-rest
decreases-loop-rest l = length l.rest
