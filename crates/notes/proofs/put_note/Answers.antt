use Rattle.output.proofs.PlacingLaws.{puts_then}
use Rattle.notes.specs.Notes.{note_text}
use Rattle.notes.proofs.put_note.Goals as goal

pub returns : goal.returns
unfolding note_text
returns c =
    puts_then c.put_bytes-colon.ensures
    (puts_then c.put-digits.ensures
    (puts_then c.put_number-refused.ensures
    (puts_then c.put_bytes-decimal.ensures
    (puts_then c.put_decimal-second.ensures
    (puts_then c.put_bytes-words.ensures
    (puts_then c.put_words-end.ensures c.put.ensures))))))
