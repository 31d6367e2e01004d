-- Definitions for the contracts of private functions. Assumes nothing.
use Rattle.address.specs.declared.Refusal.{Refusal}
use Rattle.std.specs.Prelude.{◌≡◌, ◌⊎◌, Bool, true, false, cond, List, [], ◌∷◌, ℕ, zero, suc, ◌+◌, ◌-◌, ◌*◌, ◌^◌, ◌≤◌, ◌<◌, eqb, length, drop, get_or, Result}
use Rattle.wide.specs.declared.Wide.{Wide}
use Rattle.wide.specs.Value.{value}
use Rattle.cover.specs.Blocks.{Block, AllBlocks, Rising, range_blocks, after}
use Rattle.lists.specs.Lists.{SameMembers}
use Rattle.output.specs.Placing.{placed, Puts}
use Rattle.address.specs.Answers.{answer, write_refusal, write_leaves}
use Rattle.records.specs.Records.{record_size, read_record, read_records, records_of, blocks_writing_answer}
use Rattle.record_lists.specs.RecordLists.{most_records}
use Rattle.record_lists.specs.Inner.{IsSize, size_width}
use Rattle.gather.specs.declared.Family.{Family}
use Rattle.gather.specs.declared.Family.TheVariants.{V4, V6}
use Rattle.gather.specs.declared.Records.{Records}
use Rattle.gather.specs.declared.Span.{Span}
use Rattle.gather.specs.declared.Run.{Run}

-- ---- families

-- how many bytes a record has
abbrev pub size_of : Family → ℕ
size_of V4 = 5
size_of V6 = 17

-- how many bits an address has
abbrev pub width_of : Family → ℕ
width_of f = size_width (size_of f)

-- ---- the blocks of a list

-- an address and a length as a block
abbrev pub numbers : Wide → ℕ → Block
numbers a n = record { address = value a; length = n }

-- what `get_or` answers outside a list
abbrev pub outside : Block
outside = record { address = 0; length = 0 }

-- the block of the record at an index
abbrev pub record_at : ℕ → List ℕ → ℕ → Block
record_at W bytes i = read_record W (drop (i * record_size W) bytes)

-- the record at the index lies in the list, which has at most the 8,704 bytes of 512 records of IPv6
pub record InList (size i : ℕ) (bytes : List ℕ) : Type 0 where
  pub sized : IsSize size
  pub inside : i * size + size ≤ length bytes
  pub small : length bytes ≤ 8704

-- n records of blocks
pub record Listed (size n : ℕ) (bytes : List ℕ) : Type 0 where
  pub sized : IsSize size
  pub long : length bytes ≡ size * n
  pub few : n ≤ most_records
  pub valid : AllBlocks (size_width size) (read_records (size_width size) n bytes)

abbrev pub IsList : Records → Type 0
IsList r = Listed (size_of r.family) r.count r.bytes.now

abbrev pub blocks_of : Records → List Block
blocks_of r = read_records (width_of r.family) r.count r.bytes.now

abbrev pub block_at : Records → ℕ → Block
block_at r i = record_at (width_of r.family) r.bytes.now i

-- the first and the last address of a block, and its length
pub record Spans (W : ℕ) (b : Block) (s : Span) : Type 0 where
  pub first : value s.first ≡ b.address
  pub last : value s.last ≡ after W b - 1
  pub length : s.length ≡ b.length

-- ---- the blocks in order

-- no order stands for the records as they are
abbrev pub place_of : List ℕ → ℕ → ℕ
place_of xs j = cond (eqb (length xs) 0) j (get_or xs j 0)

abbrev pub HasPlace : List ℕ → ℕ → Type 0
HasPlace xs j = (j < most_records) × ((length xs ≡ 0) ⊎ (j < length xs))

-- m blocks from the j-th on
unfoldable pub picks : (ℕ → Block) → ℕ → ℕ → List Block
picks g j zero = []
picks g j (suc m) = g j ∷ picks g (suc j) m

abbrev pub ordered : ℕ → List ℕ → List ℕ → ℕ → Block
ordered W bytes xs j = record_at W bytes (place_of xs j)

-- the order has a place for each of the n records, and in it their blocks rise
pub record InOrder (W n : ℕ) (bytes xs : List ℕ) : Type 0 where
  pub places : (j : ℕ) → j < n → HasPlace xs j
  pub inside : (j : ℕ) → j < n → place_of xs j < n
  pub members : SameMembers outside (read_records W n bytes) (picks (ordered W bytes xs) 0 n)
  pub rising : Rising (picks (ordered W bytes xs) 0 n)

abbrev pub HasOrder : Records → List ℕ → Type 0
HasOrder r xs = InOrder (width_of r.family) r.count r.bytes.now xs

-- the halves of the addresses
abbrev pub Loaded : ℕ → ℕ → List ℕ → List ℕ → List ℕ → Type 0
Loaded W n bytes hi lo = (x : ℕ) → x < n → get_or hi x 0 * 2 ^ 64 + get_or lo x 0 ≡ (record_at W bytes x).address

-- each index below n once, by rising addresses
pub record OrderedBy (W n : ℕ) (bytes xs : List ℕ) : Type 0 where
  pub inside : (p : ℕ) → p < n → get_or xs p 0 < n
  pub each : (x : ℕ) → x < n → (p : ℕ) × (p < n) × (get_or xs p 0 ≡ x)
  pub rising : (p : ℕ) → suc p < n → (record_at W bytes (get_or xs p 0)).address ≤ (record_at W bytes (get_or xs (suc p) 0)).address

-- ---- runs

-- a range of addresses of the width
pub record Bounds (size : ℕ) (first last : Wide) : Type 0 where
  pub sized : IsSize size
  pub rises : value first ≤ value last
  pub below : value last < 2 ^ size_width size

-- the blocks of a run
abbrev pub run_blocks : ℕ → Run → List Block
run_blocks size r = range_blocks (size_width size) (value r.first) (value r.last)

-- a run that is being built
pub record Built (size : ℕ) (r : Run) : Type 0 where
  pub range : Bounds size r.first r.last
  pub alone : r.alone ≡ true → run_blocks size r ≡ numbers r.first r.length ∷ []

-- its records have room
abbrev pub RunFits : ℕ → Run → List ℕ → Type 0
RunFits size r out = r.at + length (records_of (size_width size) (run_blocks size r)) ≤ length out

-- the run goes on to an address, and nothing is put
pub record GoesOn (r : Run) (last : ℕ) (before : List ℕ) (s : Run) (now : List ℕ) : Type 0 where
  pub first : s.first ≡ r.first
  pub to : value s.last ≡ last
  pub alone : s.alone ≡ false
  pub at : s.at ≡ r.at
  pub same : now ≡ before

-- the block starts another run, and the records of this one are put
pub record Starts (size : ℕ) (r : Run) (b : Span) (before : List ℕ) (s : Run) (now : List ℕ) : Type 0 where
  pub first : s.first ≡ b.first
  pub last : s.last ≡ b.last
  pub length : s.length ≡ b.length
  pub puts : Puts before now r.at s.at (records_of (size_width size) (run_blocks size r))

abbrev pub Turned : ℕ → Run → Span → List ℕ → Run → List ℕ → Type 0
Turned size r b before s now =
    ((value b.last ≤ value r.last) × (s ≡ r) × (now ≡ before))
    ⊎ ((value r.last < value b.last) × (value b.first ≤ suc (value r.last)) × GoesOn r (value b.last) before s now)
    ⊎ ((suc (value r.last) < value b.first) × Starts size r b before s now)

-- ---- what is written

-- the answer and the buffer where the list is not refused: the records of these blocks are written, where they have room
pub record WritesBlocks (W : ℕ) (bs : List Block) (old : List ℕ) (r : Result (ℕ × ℕ) Refusal) (now : List ℕ) : Type 0 where
  pub answers : blocks_writing_answer r ≡ answer (0, 0) (write_refusal 0 (records_of W bs) old) (length bs, length (records_of W bs))
  pub leaves : now ≡ write_leaves 0 (records_of W bs) old

-- ---- gaps

-- bytes put at an index, or only counted
pub record PutsIf (write : Bool) (old new : List ℕ) (at next : ℕ) (bytes : List ℕ) : Type 0 where
  pub index : next ≡ at + length bytes
  pub buffer : new ≡ cond write (placed bytes at old) old

-- the records of a gap have room where they are put, and their bytes are counted
pub record GapFits (size : ℕ) (write : Bool) (first last at : ℕ) (out : List ℕ) : Type 0 where
  pub room : write ≡ true → at + length (records_of (size_width size) (range_blocks (size_width size) first last)) ≤ length out
  pub few : at + length (records_of (size_width size) (range_blocks (size_width size) first last)) ≤ 1105425

-- the gap before a block, if there is one
abbrev pub PutsBefore : ℕ → Bool → ℕ → ℕ → List ℕ → ℕ → List ℕ → ℕ → Type 0
PutsBefore size write from first old at new next =
    ((first ≤ from) × (next ≡ at) × (new ≡ old))
    ⊎ ((from < first) × PutsIf write old new at next (records_of (size_width size) (range_blocks (size_width size) from (first - 1))))

-- the bytes of the most blocks that n records can leave uncovered, by the theorem `uncovered_at_most` of lists
abbrev pub most_uncovered : ℕ → ℕ → ℕ
most_uncovered size n = (1 + n * (size_width size - 1)) * size
