-- What is claimed of the sheet program. Assumes nothing.
use Rattle.std.specs.declared.io.Error.{Error}
use mathlib.Core.Path.{◌≡◌}
use mathlib.Core.Logic.{◌↔◌, ◌⊎◌}
use mathlib.Core.Bool.{Bool, true, false}
use mathlib.Core.List.{List, []}
use Prim.Native.Nat.{ℕ, ◌-◌, ◌<◌}
use lib.ListN.{length, take}
use Rattle.program_io.specs.declared.Got.TheVariants.{Bytes, Failed}
use Rattle.program_io.specs.Calls.{brought_of, Filled}
use Rattle.sheet_answers.specs.SheetAnswers.{sheet_refusal, respelled}
use Rattle.sheet_notes.specs.SheetNotes.{refused_note}
use Rattle.sheet_main.specs.declared.Run.{Run}
use Rattle.sheet_main.specs.declared.End.{End}
use Rattle.sheet_main.specs.declared.End.TheVariants.{More, Ended, Full, Unread}
use Rattle.sheet_main.specs.declared.InputAnswer.{InputAnswer}
use Rattle.sheet_main.specs.Runs.{Turns, Chain, more, gathered, last_got, is_whole, output_of, note_of, is_refused, status_of, AnswersInput}
use Rattle.sheet_main.proofs.ChainLaws as chains
use Rattle.sheet_main.proofs.ReplyLaws as replies
use Rattle.sheet_main.proofs.StatusLaws as statuses
use Rattle.sheet_main.proofs.InputLaws as inputs

-- ---- reading

module _ {n : ℕ} {r : Run} {input : List ℕ} (c : Chain n r input) where
  -- Each byte that a read brought is kept, in order, behind those before, and what is answered is nothing else.
  pub all_kept : gathered c ≡ take r.len input
  all_kept = chains.all_kept c

  -- An input has ended exactly if the last read did not fail and brought nothing,
  pub ended : (r.end ≡ Ended) ↔ (last_got c ≡ Bytes 0)
  ended = (chains.ended c, chains.nothing c)

  -- though there was room for a byte;
  pub ended_with_room : r.end ≡ Ended → r.len < 65537
  ended_with_room = chains.ended_room c

  -- it is longer than a sheet may be only if 65,537 bytes are read,
  pub full : r.end ≡ Full → r.len ≡ 65537
  full = chains.full c

  -- and it could not be read exactly if the last read failed: that is never the end.
  pub unread : (r.end ≡ Unread) ↔ ((why : Error) × (last_got c ≡ Failed why))
  unread = (chains.unread c, chains.failed c)

-- What the last read has brought is what its answer says, and no more bytes than there was room for.
pub last_read : {n : ℕ} {run r : Run} {old new : List ℕ} (c : Chain n run old) (m : run.end ≡ More) (t : Turns run old new r)
    → (last_got (more c m t) ≡ brought_of t.answer) × Filled (65537 - run.len) (last_got (more c m t))
unfolding last_got
last_read c m t = (t.brings, t.within)

-- ---- what is written

module _ (sort explain : Bool) (name t : List ℕ) where
  -- Of a refused sheet nothing is written but the note,
  pub refused_sheet : (sheet_refusal t ≡ 0 → ⊥) → (output_of sort t ≡ []) × (note_of explain name t ≡ refused_note name explain (sheet_refusal t) t) × (is_refused t ≡ true)
  refused_sheet z = (replies.bad_output sort explain name t z, replies.bad_note sort explain name t z, replies.bad_is sort explain name t z)

  -- and of every other the sheet respelled.
  pub good_sheet : sheet_refusal t ≡ 0 → (output_of sort t ≡ respelled sort t) × (note_of explain name t ≡ []) × (is_refused t ≡ false)
  good_sheet z = (replies.good_output sort explain name t z, replies.good_note sort explain name t z, replies.good_is sort explain name t z)

-- ---- a sheet that is longer than may be

-- Nothing is answered otherwise because only the first 65,537 bytes are read.
pub front_output : (sort : Bool) (t : List ℕ) → output_of sort (take 65537 t) ≡ output_of sort t
front_output = replies.front_output

pub front_told : (explain : Bool) (name t : List ℕ) → note_of explain name (take 65537 t) ≡ note_of explain name t
front_told = replies.front_told

pub front_refused : (t : List ℕ) → is_refused (take 65537 t) ≡ is_refused t
front_refused = replies.front_refused

-- ---- the status

-- Status 0 exactly if the input was read as far as it matters, was not refused, and nothing is left to be written;
module _ (refused : Bool) (left : ℕ) where
  pub status_0 : (e : End) → (status_of e refused left ≡ 0) ↔ ((is_whole e ≡ true) × (refused ≡ false) × (left ≡ 0))
  status_0 = statuses.status_0 refused left

  -- 1 exactly if it was refused, and so told;
  pub status_1 : (e : End) → (status_of e refused left ≡ 1) ↔ ((is_whole e ≡ true) × (refused ≡ true) × (left ≡ 0))
  status_1 = statuses.status_1 refused left

  -- and else 2.
  pub status_else : (e : End) → (status_of e refused left ≡ 0) ⊎ (status_of e refused left ≡ 1) ⊎ (status_of e refused left ≡ 2)
  status_else = statuses.status_else refused left

-- That is so where the input has ended, or is longer than a sheet may be, and not where a read failed.
pub whole_exactly : (e : End) → (is_whole e ≡ true) ↔ ((e ≡ Ended) ⊎ (e ≡ Full))
whole_exactly = statuses.whole_exactly

-- ---- an input

module _ (sort explain : Bool) (name input : List ℕ) (r : InputAnswer) (a : AnswersInput sort explain name input r) where
  -- By status 0 the bytes that the reads have brought are a good sheet, and as many bytes were taken as it has respelled;
  pub input_written : r.status ≡ 0
      → (sheet_refusal (gathered a.reads.chain) ≡ 0) × (r.answered.moved ≡ length (respelled sort (gathered a.reads.chain)))
  input_written = inputs.input_written sort explain name input r a

  -- by status 1 they are a sheet that is refused, and as many were taken as its note has.
  pub input_refused : r.status ≡ 1
      → (sheet_refusal (gathered a.reads.chain) ≡ 0 → ⊥)
      × (r.answered.moved ≡ length (refused_note name explain (sheet_refusal (gathered a.reads.chain)) (gathered a.reads.chain)))
  input_refused = inputs.input_refused sort explain name input r a

  -- Where a read failed no byte is counted as written, and the status is 2.
  pub part_unanswered : (why : Error) → last_got a.reads.chain ≡ Failed why → (r.status ≡ 2) × (r.answered.moved ≡ 0)
  part_unanswered = inputs.part_unanswered sort explain name input r a
