-- `sheet_notes::excess_line` meets its contract. Assumes nothing.
use Rattle.sheet_notes.proofs.LineLaws.{Counted}
use Rattle.sheet_notes.proofs.excess_line.Given as goal

abbrev pub invariant-loop-i : goal.invariant-loop-i
invariant-loop-i l = Counted l.sheet l.i l.line
