use mathlib.Core.Path.{◌≡◌}
use lib.ListN.{length}
use Rattle.sheet_answers.specs.SheetAnswers.{most_lines}
use Rattle.sheet.proofs.CallLaws.{Keyed}
use Rattle.sheet.proofs.sort_rows.Given as goal

abbrev pub invariant-loop-i : goal.invariant-loop-i
invariant-loop-i l = Keyed l.hi l.lo l.rows l.i × (length l.hi ≡ most_lines) × (length l.lo ≡ most_lines)
