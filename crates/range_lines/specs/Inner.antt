-- What the functions inside `range_lines` do, from which `Feeds` of Feeding follows. Assumes nothing.
use Rattle.std.specs.Prelude.{◌≡◌, Bool, not, ◌||◌, List, ◌++◌, ℕ, ◌+◌, eqb, length}
use Rattle.output.specs.Placing.{Puts}
use Rattle.range_text.specs.RangeText.{answer_line}
use Rattle.range_lines.specs.Lines.{told_of}
use Rattle.range_lines.specs.Feeding.{kept, place_of, behind_line}
use Rattle.range_lines.specs.declared.Fed.{Fed}

-- the next line of the piece is answered, `more` and a newline, where `done` is done so far
pub record AnswersLine (explain : Bool) (name : List ℕ) (done : Fed) (more out out_after notes notes_after : List ℕ) (r : Fed) : Type 0 where
  pub answer : Puts out out_after done.next r.next (answer_line ((place_of done.reader).begun ++ more)).text
  pub told : Puts notes notes_after done.noted r.noted (told_of explain name done.reader.line (answer_line ((place_of done.reader).begun ++ more)).number)
  pub refused : r.refused ≡ (done.refused || not (eqb (answer_line ((place_of done.reader).begun ++ more)).number 0))
  pub place : place_of r.reader ≡ behind_line done.reader.line
  pub taken : r.taken ≡ done.taken + length more + 1

-- the bytes behind the last newline begin a line
pub record BeginsLine (done : Fed) (more : List ℕ) (r : Fed) : Type 0 where
  pub place : place_of r.reader ≡ record { begun = kept ((place_of done.reader).begun ++ more); line = done.reader.line }
  pub taken : r.taken ≡ done.taken + length more
  pub answers : r.next ≡ done.next
  pub told : r.noted ≡ done.noted
  pub refused : r.refused ≡ done.refused
