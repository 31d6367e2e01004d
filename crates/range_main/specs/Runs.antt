-- What the range program does with an input: the pieces that it reads, and its status. Assumes nothing.
use Rattle.std.specs.Prelude.{◌≡◌, ◌⊎◌, Bool, true, false, cond, ◌||◌, List, ℕ, zero, suc, ◌+◌, ◌-◌, ◌≤◌, ◌<◌, ltb, length, take, drop}
use Rattle.range_lines.specs.declared.Reader.{Reader}
use Rattle.range_lines.specs.Feeding.{place_of, Feeding, fed, closing}
use Rattle.range_main.specs.declared.End.{End}
use Rattle.range_main.specs.declared.End.TheVariants.{More, Ended, Unread, Unwritten}
use Rattle.program_io.specs.declared.Got.{Got}
use Rattle.program_io.specs.declared.Got.TheVariants.{Bytes, Again, Failed}
use Rattle.range_main.specs.declared.Run.{Run}
use Rattle.range_main.specs.declared.Outcome.{Outcome}

-- ---- a turn

-- the bytes that are not taken yet are bytes of the buffer
pub record Within (run : Run) : Type 0 where
  pub order : run.from ≤ run.to
  pub size : run.to ≤ 65536

-- those bytes
abbrev pub piece_of : Run → List ℕ → List ℕ
piece_of run input = take (run.to - run.from) (drop run.from input)

-- what they give with the program's two buffers
abbrev pub given : Bool → List ℕ → Reader → List ℕ → Feeding
given explain name reader piece = fed explain name 65536 65536 (place_of reader) piece

-- They are answered: the reading stands behind what was taken, the rest is still to be taken, and a refusal is kept in mind.
pub record AnswersPiece (explain : Bool) (name : List ℕ) (run : Run) (input : List ℕ) (r : Run) : Type 0 where
  pub place : place_of r.reader ≡ (given explain name run.reader (piece_of run input)).place
  pub rest : r.from + length (given explain name run.reader (piece_of run input)).rest ≡ r.to
  pub same : r.to ≡ run.to
  pub refused : r.refused ≡ (run.refused || (given explain name run.reader (piece_of run input)).report.refused)
  pub goes_on : r.end ≡ More

-- an input has ended where no line is begun, and a line that is still begun is not taken for answered
abbrev pub end_of : Reader → End
end_of reader = cond (ltb 0 (length (place_of reader).begun)) More Ended

-- A last line without its newline is answered, if there is one.
pub record AnswersEnd (explain : Bool) (name : List ℕ) (run r : Run) : Type 0 where
  pub place : place_of r.reader ≡ (given explain name run.reader (closing (place_of run.reader).begun)).place
  pub refused : r.refused ≡ (run.refused || (given explain name run.reader (closing (place_of run.reader).begun)).report.refused)
  pub ends : r.end ≡ end_of r.reader

-- unless what was put could not be written
abbrev pub OrUnwritten : Run → Type 0 → Type 0
OrUnwritten r A = (r.end ≡ Unwritten) ⊎ A

-- a fresh piece of n bytes
abbrev pub fresh : Run → ℕ → Run
fresh run n = record { reader = run.reader; from = 0; to = n; refused = run.refused; end = More }

-- what is done with what a read has brought
abbrev pub AfterRead : Bool → List ℕ → Run → Got → List ℕ → Run → Type 0
AfterRead explain name run Again input r = r ≡ run
AfterRead explain name run (Failed why) input r = r.end ≡ Unread
AfterRead explain name run (Bytes zero) input r = OrUnwritten r (AnswersEnd explain name run r)
AfterRead explain name run (Bytes (suc n)) input r = OrUnwritten r (AnswersPiece explain name (fresh run (suc n)) input r)

-- a turn answers what is left of the last piece, or reads another
abbrev pub Turns : Bool → List ℕ → Run → List ℕ → Run → Type 0
Turns explain name run input r = (run.from < run.to × OrUnwritten r (AnswersPiece explain name run input r)) ⊎ ((got : Got) × AfterRead explain name run got input r)

-- ---- all turns

-- whether there is more
abbrev pub is_more : End → Bool
is_more More = true
is_more Ended = false
is_more Unread = false
is_more Unwritten = false

-- an input is done with because it ended, or could not be read, or the answers could not be written; or after more turns than any run takes
abbrev pub Finished : Outcome → Type 0
Finished r = r.end ≡ More → r.turns ≡ 18446744073709551615

-- ---- the status

-- 0 if every line was answered with blocks, 1 if one was refused, 2 if the input was not read to its end or not all was written
abbrev pub status_of : End → Bool → ℕ
status_of Ended refused = cond refused 1 0
status_of More refused = 2
status_of Unread refused = 2
status_of Unwritten refused = 2

-- whether nothing more is to be read: the answers cannot be written
abbrev pub stops_at : End → Bool
stops_at More = true
stops_at Ended = false
stops_at Unread = false
stops_at Unwritten = true
