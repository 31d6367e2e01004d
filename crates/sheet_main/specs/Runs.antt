-- What the sheet program does with an input: how it is read, what is written, and the status. Assumes nothing.
use Rattle.std.specs.Prelude.{◌≡◌, Bool, true, false, cond, not, List, [], ◌++◌, ℕ, ◌+◌, ◌-◌, ◌≤◌, eqb, ltb, length, take, drop, Result}
use Rattle.std.specs.declared.io.Error.{Error}
use Rattle.program_io.specs.declared.Got.{Got}
use Rattle.program_io.specs.declared.Got.TheVariants.{Bytes, Again, Failed}
use Rattle.program_io.specs.Calls.{brought_of, Filled}
use Rattle.sheet_answers.specs.SheetAnswers.{sheet_refusal, respelled}
use Rattle.sheet_notes.specs.SheetNotes.{refused_note}
use Rattle.sheet_main.specs.declared.End.{End}
use Rattle.sheet_main.specs.declared.End.TheVariants.{More, Ended, Full, Unread}
use Rattle.sheet_main.specs.declared.Run.{Run}
use Rattle.sheet_main.specs.declared.Reply.{Reply}
use Rattle.sheet_main.specs.declared.Answered.{Answered}
use Rattle.sheet_main.specs.declared.InputAnswer.{InputAnswer}

-- ---- a turn

-- nothing is read yet
abbrev pub at_start : Run
at_start = record { len = 0; end = More }

-- so many bytes are read: with more than 65,536 there is nothing more to be known
abbrev pub reached : ℕ → Run
reached n = record { len = n; end = cond (ltb n 65537) More Full }

-- What is done with what a read has brought: it is kept behind what was read before. Only a read that brought nothing ends the input.
abbrev pub after_read : Run → Got → Run
after_read run Again = run
after_read run (Failed why) = record { len = run.len; end = Unread }
after_read run (Bytes n) = cond (eqb n 0) (record { len = run.len; end = Ended }) (reached (run.len + n))

-- A turn, as of a call that answered so on the room that is left: what was read before stays.
pub record Turns (run : Run) (old new : List ℕ) (r : Run) : Type 0 where
  pub answer : Result ℕ Error
  pub got : Got
  pub brings : got ≡ brought_of answer
  pub within : Filled (65537 - run.len) got
  pub kept : take run.len new ≡ take run.len old
  pub next : r ≡ after_read run got

-- ---- all turns

-- whether there may be more
abbrev pub is_more : End → Bool
is_more More = true
is_more Ended = false
is_more Full = false
is_more Unread = false

-- So many turns from the start, each made because there may be more: how far the input is, and the buffer.
pub data Chain : ℕ → Run → List ℕ → Type 0 where
  none : (input : List ℕ) → Chain 0 at_start input
  more : {n : ℕ} {run r : Run} {old new : List ℕ} → Chain n run old → run.end ≡ More → Turns run old new r → Chain (n + 1) r new

-- the bytes that a read has brought, behind what was read before
abbrev pub piece_of : Run → Got → List ℕ → List ℕ
piece_of run (Bytes n) input = take n (drop run.len input)
piece_of run Again input = []
piece_of run (Failed why) input = []

-- all that the reads have brought, one piece behind the other, each as it stood when it was read
unfoldable pub gathered : {n : ℕ} {r : Run} {input : List ℕ} → Chain n r input → List ℕ
gathered (none input) = []
gathered (more {run = run} {new = new} c m t) = gathered c ++ piece_of run t.got new

-- what the last read has brought; before the first there is none, and one is to be made
unfoldable pub last_got : {n : ℕ} {r : Run} {input : List ℕ} → Chain n r input → Got
last_got (none input) = Again
last_got (more c m t) = t.got

-- An input is done with because it ended, or is longer than a sheet may be, or could not be read; or after more turns than any run takes.
pub record Reads (turns : ℕ) (run : Run) (input : List ℕ) : Type 0 where
  pub chain : Chain turns run input
  pub finished : run.end ≡ More → turns ≡ 18446744073709551615
  pub within : run.len ≤ 65537

-- whether what is read tells the answer
abbrev pub is_whole : End → Bool
is_whole More = false
is_whole Ended = true
is_whole Full = true
is_whole Unread = false

-- ---- the answer

-- what a sheet has on standard output, and on standard error
abbrev pub output_of : Bool → List ℕ → List ℕ
output_of sort t = cond (eqb (sheet_refusal t) 0) (respelled sort t) []

abbrev pub note_of : Bool → List ℕ → List ℕ → List ℕ
note_of explain name t = cond (eqb (sheet_refusal t) 0) [] (refused_note name explain (sheet_refusal t) t)

abbrev pub is_refused : List ℕ → Bool
is_refused t = not (eqb (sheet_refusal t) 0)

-- both stand in the buffers
pub record Replies (sort explain : Bool) (name sheet out note : List ℕ) (r : Reply) : Type 0 where
  pub in_out : r.written ≤ 53248
  pub in_note : r.noted ≤ 4187
  pub output : take r.written out ≡ output_of sort sheet
  pub told : take r.noted note ≡ note_of explain name sheet
  pub refused : r.refused ≡ is_refused sheet

-- every byte of both was taken by a call, or is left
pub record Answers (sort explain : Bool) (name sheet : List ℕ) (r : Answered) : Type 0 where
  pub refused : r.refused ≡ is_refused sheet
  pub all : r.moved + r.left ≡ length (output_of sort sheet) + length (note_of explain name sheet)

-- What is read of an input is answered where it tells the answer, and else nothing is written for it.
pub record AnswersRun (sort explain : Bool) (name : List ℕ) (run : Run) (input : List ℕ) (r : Answered) : Type 0 where
  pub whole : is_whole run.end ≡ true → Answers sort explain name (take run.len input) r
  pub part : is_whole run.end ≡ false → (r.refused ≡ false) × (r.moved ≡ 0) × (r.left ≡ 0)

-- ---- the status

-- 0 if the sheet was written, 1 if it was refused, 2 if the input was not read to its end or not all was written
abbrev pub status_of : End → Bool → ℕ → ℕ
status_of Ended refused left = cond (ltb 0 left) 2 (cond refused 1 0)
status_of Full refused left = cond (ltb 0 left) 2 (cond refused 1 0)
status_of More refused left = 2
status_of Unread refused left = 2

-- ---- an input

-- An input is read as above, what was read of it is answered, and the status says so.
pub record AnswersInput (sort explain : Bool) (name input : List ℕ) (r : InputAnswer) : Type 0 where
  pub reads : Reads r.turns r.run input
  pub answers : AnswersRun sort explain name r.run input r.answered
  pub is : r.status ≡ status_of r.run.end r.answered.refused r.answered.left
