use Rattle.sheet_answers.specs.Sheets.{sheet_text}
use Rattle.sheet.proofs.PutLaws.{Putting}
use Rattle.sheet.proofs.put_rows.Given as goal

abbrev pub invariant-loop-row : goal.invariant-loop-row
invariant-loop-row l = Putting sheet_text l.rows l.initial.text 0 l.text l.next l.row-index
