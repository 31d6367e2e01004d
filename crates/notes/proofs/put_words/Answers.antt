-- `notes::put_words` meets its contract. Assumes nothing.
use Prim.Native.Nat.{◌≤◌}
use mathlib.Core.Path.{◌≡◌, sym, ap, ◌∙◌}
use borrow.Author.Rules.{rules}
use lib.ListN.{length, take}
use lib.Seq.{length-take-le}
use Rattle.address.specs.Answers.{writing_answer}
use Rattle.output.proofs.PlacingLaws.{puts_none}
use Rattle.words.specs.Words.{words_text}
use Rattle.notes.proofs.NoteLaws.{words_held, no_words}
use Rattle.notes.proofs.put_words.Goals.{In-Ok}
use Rattle.notes.proofs.put_words.Goals as goal

-- the words are in the buffer
held : (b : In-Ok) → let k = b.in-Ok.n in let left = b.write_words.new.out in
    (take k left ≡ words_text b.args.number) × (k ≤ length left)
held b =
    words_held _ _ _ (ap writing_answer (sym b.in-Ok.is) ∙ b.write_words.ensures.0) _ b.write_words.ensures.1

pub slice_bounds-words-end : goal.slice_bounds-words-end
slice_bounds-words-end c = (held (goal.at.slice_bounds-words-end c).In-Ok).1

pub slice_bounds-put_bytes-end : goal.slice_bounds-put_bytes-end
slice_bounds-put_bytes-end c = sym (length-take-le _ _ (held (goal.at.slice_bounds-put_bytes-end c).In-Ok).1)

pub returns-in-Ok : goal.returns-in-Ok
returns-in-Ok c = rw (← (held (goal.at.returns-in-Ok c).In-Ok).0) c.put_bytes.ensures

pub returns-in-Err : goal.returns-in-Err
returns-in-Err c =
    rw (← no_words _ _ (search rules) c.in-Err.field-0 (ap writing_answer (sym c.in-Err.is) ∙ c.write_words.ensures.0)) (puts_none _ _)
