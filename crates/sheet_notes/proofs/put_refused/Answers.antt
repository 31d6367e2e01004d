-- `sheet_notes::put_refused` meets its contract. Assumes nothing.
use Rattle.notation.specs.Ascii.{ascii}
use Rattle.output.proofs.PlacingLaws.{puts_then}
use Rattle.sheet_notes.proofs.NoteLaws.{puts_short, puts_long}
use Rattle.sheet_notes.proofs.put_refused.Goals as goal

pub returns-then-explain : goal.returns-then-explain
returns-then-explain c =
    puts_long _ _ _ c.if-explain.true _ c.fault_line-line.ensures c.put_note.ensures

pub returns : goal.returns
unfolding ascii
returns c =
    puts_short _ _ _ c.if-explain.false
    (puts_then c.put_bytes-refused.ensures (puts_then c.put_bytes-decimal.ensures (puts_then c.put_decimal-end.ensures c.put.ensures)))
