-- An input that is read in pieces, each taken as far as the buffers have room for what its lines are answered with. Assumes nothing.
use Rattle.std.specs.Prelude.{◌≡◌, Bool, true, false, cond, ◌&&◌, ◌||◌, List, [], ◌∷◌, ◌++◌, ℕ, ◌+◌, ◌-◌, ◌≤◌, min, leb, length, take, drop}
use Rattle.notation.specs.Pieces.{split_on, separated}
use Rattle.output.specs.Placing.{Puts}
use Rattle.notes.specs.Notes.{note_room}
use Rattle.range_text.specs.RangeText.{answer_line}
use Rattle.range_lines.specs.Lines.{next_line, Report, silence, followed, line_report, told_of}
use Rattle.range_lines.specs.declared.Pending.{Pending}
use Rattle.range_lines.specs.declared.Reader.{Reader}
use Rattle.range_lines.specs.declared.Fed.{Fed}

-- ---- where the reading stands

-- the bytes that an unfinished line holds. What a contract says of it it says of these: the other bytes are free, and a length above 130 is 130.
abbrev pub pending_text : Pending → List ℕ
pending_text p = take (min p.len 130) p.bytes

-- what is kept of a line: no answer depends on more than its first 130 bytes
abbrev pub kept : List ℕ → List ℕ
kept line = take 130 line

-- the line that is begun, and its number
pub record Place : Type 0 where
  pub begun : List ℕ
  pub line : ℕ

abbrev pub place_of : Reader → Place
place_of r = record { begun = pending_text r.pending; line = r.line }

-- before the first byte, and behind the end of line k
abbrev pub at_start : Place
at_start = record { begun = []; line = 1 }

abbrev pub behind_line : ℕ → Place
behind_line k = record { begun = []; line = next_line k }

-- ---- a piece of the input

-- what a piece gives: the report of the lines that it ends, where the reading then stands, and the bytes that are not taken
pub record Feeding : Type 0 where
  pub report : Report
  pub place : Place
  pub rest : List ℕ

-- room for the note on any line, where notes are wanted
abbrev pub note_space : Bool → List ℕ → ℕ
note_space explain name = cond explain (note_room name) 0

-- whether the answer to any line, and the note on it, have room: no answer is longer than 11,176 bytes
unfoldable pub has_room : Bool → List ℕ → ℕ → ℕ → Bool
has_room explain name free spare = leb 11176 free && leb (note_space explain name) spare

-- The parts of a piece between its newlines, of which the first goes on with the line that is begun, where `free` and `spare` bytes of the two
-- buffers are not used. Each line that ends is answered, up to the first without room; what is behind the last newline begins a line.
unfoldable pub feed_parts : Bool → List ℕ → ℕ → ℕ → Place → List (List ℕ) → Feeding
unfolding has_room separated told_of
feed_parts explain name free spare s [] = record { report = silence; place = s; rest = [] }
feed_parts explain name free spare s (p ∷ []) = record { report = silence; place = record { begun = kept (s.begun ++ p); line = s.line }; rest = [] }
feed_parts explain name free spare s (p ∷ q ∷ ps) = elim (has_room explain name free spare) [
  | true ↦
      let r = line_report explain name s.line (answer_line (s.begun ++ p)) in
      let more = feed_parts explain name (free - length r.text) (spare - length r.notes) (behind_line s.line) (q ∷ ps) in
      record { report = followed r more.report; place = more.place; rest = more.rest }
  | false ↦ record { report = silence; place = s; rest = separated 10 (p ∷ q ∷ ps) }
]

unfoldable pub fed : Bool → List ℕ → ℕ → ℕ → Place → List ℕ → Feeding
unfolding feed_parts split_on
fed explain name free spare s piece = feed_parts explain name free spare s (split_on 10 piece)

-- What a call does with a piece: the answers stand at the start of `out`, what is told at the start of `notes`.
pub record Feeds (explain : Bool) (name : List ℕ) (s : Reader) (piece out out_after notes notes_after : List ℕ) (r : Fed) : Type 0 where
  pub answers : Puts out out_after 0 r.next (fed explain name (length out) (length notes) (place_of s) piece).report.text
  pub told : Puts notes notes_after 0 r.noted (fed explain name (length out) (length notes) (place_of s) piece).report.notes
  pub refused : r.refused ≡ (fed explain name (length out) (length notes) (place_of s) piece).report.refused
  pub place : place_of r.reader ≡ (fed explain name (length out) (length notes) (place_of s) piece).place
  pub taken : r.taken + length (fed explain name (length out) (length notes) (place_of s) piece).rest ≡ length piece

-- the end of the input ends a line that is begun, as a newline does: "A last line without its newline is read as any other"
abbrev pub closing : List ℕ → List ℕ
closing [] = []
closing (x ∷ p) = 10 ∷ []

-- ---- the input

-- The calls on an input that is still to be read, one after the other, and what they leave in their buffers, end to end: each is lent any piece
-- at the start of it and any buffers, and what it does not take is still to be read. The last ends the line that is begun.
pub data Session (explain : Bool) (name : List ℕ) : Reader → List ℕ → Report → Type 0 where
  feeds : {s : Reader} (piece rest : List ℕ) {out out_after notes notes_after : List ℕ} {r : Fed} {later : Report}
      → Feeds explain name s piece out out_after notes notes_after r
      → Session explain name r.reader (drop r.taken piece ++ rest) later
      → Session explain name s (piece ++ rest) (record {
        text = take r.next out_after ++ later.text;
        notes = take r.noted notes_after ++ later.notes;
        refused = r.refused || later.refused;
      })
  ends : {s : Reader} {out out_after notes notes_after : List ℕ} {r : Fed}
      → Feeds explain name s (closing (place_of s).begun) out out_after notes notes_after r
      → r.taken ≡ length (closing (place_of s).begun)
      → Session explain name s [] (record { text = take r.next out_after; notes = take r.noted notes_after; refused = r.refused })

-- a call on a reader and a piece with buffers that have room for an answer and, where notes are wanted, for a note
pub record Called (explain : Bool) (name : List ℕ) (s : Reader) (piece : List ℕ) : Type 0 where
  pub out : List ℕ
  pub out_after : List ℕ
  pub notes : List ℕ
  pub notes_after : List ℕ
  pub answer : Fed
  pub room : 11176 ≤ length out
  pub note_room_lem : explain ≡ true → length name + 91 ≤ length notes
  pub does : Feeds explain name s piece out out_after notes notes_after answer
