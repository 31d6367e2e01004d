-- A list of records gathered, and what it does not cover (02, Req 01): what the two calls answer and leave. Assumes nothing.
use Rattle.std.specs.Prelude.{◌≡◌, List, ◌++◌, ℕ, ◌*◌, length, drop}
use Rattle.cover.specs.Blocks.{Block, Fewest}
use Rattle.lists.specs.Lists.{gathered_blocks, uncovered_blocks}
use Rattle.address.specs.Answers.{Answer, answer, write_refusal, write_leaves}
use Rattle.records.specs.Records.{records_of, record_size, read_records}
use Rattle.record_lists.specs.RecordLists.{family_width, list_blocks, list_refusal}

-- "the fewest blocks covering exactly the same addresses, rising"
abbrev pub gathered_list : ℕ → List ℕ → List Block
gathered_list f bytes = gathered_blocks (family_width f) (list_blocks f bytes)

-- "Also give the list of what is not covered, by the same rule"
abbrev pub uncovered_list : ℕ → List ℕ → List Block
uncovered_list f bytes = uncovered_blocks (family_width f) (list_blocks f bytes)

-- ---- "in a second lent buffer"

-- A call on a list that writes the records of these blocks. "Order: 9, 2, 10, then 4 and 5, then 3." The answer is the number of blocks and of bytes.
unfoldable pub blocks_answer : ℕ → List ℕ → List Block → List ℕ → Answer (ℕ × ℕ)
unfolding list_refusal records_of
blocks_answer f bytes bs old =
    let records = records_of (family_width f) bs in
    answer (0, 0) (write_refusal (list_refusal f bytes) records old) (length bs, length records)

-- The records, end to end from the start of the buffer, and behind them what stood there; a refusal alters nothing.
unfoldable pub blocks_leave : ℕ → List ℕ → List Block → List ℕ → List ℕ
unfolding list_refusal records_of write_leaves
blocks_leave f bytes bs old = write_leaves (list_refusal f bytes) (records_of (family_width f) bs) old

-- `gather`
abbrev pub gather_answer : ℕ → List ℕ → List ℕ → Answer (ℕ × ℕ)
gather_answer f bytes old = blocks_answer f bytes (gathered_list f bytes) old

abbrev pub gather_leaves : ℕ → List ℕ → List ℕ → List ℕ
gather_leaves f bytes old = blocks_leave f bytes (gathered_list f bytes) old

-- `uncovered`
abbrev pub uncovered_answer : ℕ → List ℕ → List ℕ → Answer (ℕ × ℕ)
uncovered_answer f bytes old = blocks_answer f bytes (uncovered_list f bytes) old

abbrev pub uncovered_leaves : ℕ → List ℕ → List ℕ → List ℕ
uncovered_leaves f bytes old = blocks_leave f bytes (uncovered_list f bytes) old

-- ---- what a buffer then holds

-- "the fewest blocks", of the records in a buffer, by the answered numbers of blocks and of bytes: those records, read as blocks of the family,
-- which has W bits, are the fewest of the set S. `HoldsFewest` of ranges, of any set.
pub record HoldsFewestOf (W : ℕ) (S : ℕ → Type 0) (answered : ℕ × ℕ) (old left : List ℕ) : Type 0 where
  pub fewest : Fewest W S (read_records W answered.0 left)
  -- the bytes that these records fill
  pub bytes : answered.1 ≡ record_size W * answered.0
  -- end to end from the start of the buffer, and later bytes stay
  pub whole : left ≡ records_of W (read_records W answered.0 left) ++ drop answered.1 old
