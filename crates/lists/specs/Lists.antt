-- Lists of blocks in any order, overlapping or not: what they cover, the gathered list, and the list of what is not covered (02, Req 01).
-- Each block carries a number, its label, and blocks of different labels are never joined; Req 07 makes it the shelf number. The lists of Req 01
-- carry none: they stand at the end, as lists of one label, 0. Assumes nothing.
use Rattle.std.specs.Prelude.{◌≡◌, ◌⊎◌, ◌↔◌, Bool, true, false, ◌&&◌, List, [], ◌∷◌, ◌++◌, ℕ, suc, ◌-◌, ◌^◌, ◌<◌, max, leb, ltb, eqb}
use Rattle.std.proofs.Math.ListN as L
use Rattle.stable_sort.specs.Stable.{sort_by}
use Rattle.cover.specs.Blocks.{Block, Covers, CoversAt, AllBlocks, Rising, range_blocks, after}

-- ---- what a list covers

-- a block and its label
pub record Entry : Type 0 where
  pub block : Block
  pub label : ℕ

-- the blocks of a list, whatever their labels
abbrev pub blocks : List Entry → List Block
blocks [] = []
blocks (e ∷ es) = e.block ∷ blocks es

-- the list covers the address x with the label k: an entry of that label covers it
pub data CoveredAs (W : ℕ) : List Entry → ℕ → ℕ → Type 0 where
  here : {e : Entry} {es : List Entry} {k x : ℕ} → e.label ≡ k → Covers W e.block x → CoveredAs W (e ∷ es) k x
  there : {e : Entry} {es : List Entry} {k x : ℕ} → CoveredAs W es k x → CoveredAs W (e ∷ es) k x

-- the same addresses with the same labels
abbrev pub SameCover : ℕ → List Entry → List Entry → Type 0
SameCover W es fs = (k x : ℕ) → CoveredAs W es k x ↔ CoveredAs W fs k x

-- no address has two labels
abbrev pub OneLabel : ℕ → List Entry → Type 0
OneLabel W es = (k j x : ℕ) → CoveredAs W es k x → CoveredAs W es j x → k ≡ j

-- with each label k the list covers the addresses of the set S k, and no others
abbrev pub ExactlyAs : ℕ → (ℕ → ℕ → Type 0) → List Entry → Type 0
ExactlyAs W S es = (k x : ℕ) → x < 2 ^ W → S k x ↔ CoveredAs W es k x

-- The fewest blocks of the sets S k, each with its label k: `Fewest` of blocks, with labels.
pub record FewestAs (W : ℕ) (S : ℕ → ℕ → Type 0) (es : List Entry) : Type 0 where
  pub valid : AllBlocks W (blocks es)
  pub rising : Rising (blocks es)
  pub exactly : ExactlyAs W S es
  -- no address is covered by two blocks, of one label or of two
  pub once : (x i j : ℕ) → CoversAt W (blocks es) i x → CoversAt W (blocks es) j x → i ≡ j
  -- every other rising list of blocks with that cover is longer
  pub fewest : (fs : List Entry) → AllBlocks W (blocks fs) → Rising (blocks fs) → ExactlyAs W S fs → (fs ≡ es) ⊎ (L.length es < L.length fs)

-- the addresses that no entry covers, whatever its label, as a set with the label 0
abbrev pub NotCovered : ℕ → List Entry → ℕ → ℕ → Type 0
NotCovered W es k x = (k ≡ 0) × ((j : ℕ) → ¬ CoveredAs W es j x)

-- ---- sorted by address

abbrev pub entry_address : Entry → ℕ
entry_address e = e.block.address

-- the same entries, their addresses rising
unfoldable pub sorted : List Entry → List Entry
unfolding sort_by
sorted es = sort_by entry_address es

-- ---- blocks with one label

-- blocks, all with the label k
abbrev pub labelled : ℕ → List Block → List Entry
labelled k [] = []
labelled k (b ∷ bs) = record { block = b; label = k } ∷ labelled k bs

-- each entry has the label k
abbrev pub AllLabelled : ℕ → List Entry → Type 0
AllLabelled k [] = Unit {0}
AllLabelled k (e ∷ es) = (e.label ≡ k) × AllLabelled k es

-- ---- the gathered list

-- the addresses from first to last, all with one label
pub record Run : Type 0 where
  pub first : ℕ
  pub last : ℕ
  pub label : ℕ

-- the run of one entry
abbrev pub run_of : ℕ → Entry → Run
run_of W e = record { first = e.block.address; last = after W e.block - 1; label = e.label }

-- an entry continues a run: it has the same label, and starts in the run or right behind it
abbrev pub joins : Run → Entry → Bool
joins r e = eqb e.label r.label && leb e.block.address (suc r.last)

-- the run with the entry
abbrev pub joined : ℕ → Run → Entry → Run
joined W r e = record { first = r.first; last = max r.last (after W e.block - 1); label = r.label }

-- the fewest blocks of a run
abbrev pub run_entries : ℕ → Run → List Entry
run_entries W r = labelled r.label (range_blocks W r.first r.last)

-- The run r, and the entries of a sorted list behind it: each continues the run, or ends it and starts another.
unfoldable pub gathered_from : ℕ → Run → List Entry → List Entry
unfolding range_blocks
gathered_from W r [] = run_entries W r
gathered_from W r (e ∷ es) = elim (joins r e) [
  | true ↦ gathered_from W (joined W r e) es
  | false ↦ run_entries W r ++ gathered_from W (run_of W e) es
]

-- of a sorted list: its first entry starts the first run
unfoldable pub gathered_sorted : ℕ → List Entry → List Entry
unfolding gathered_from
gathered_sorted W [] = []
gathered_sorted W (e ∷ es) = gathered_from W (run_of W e) es

-- The fewest blocks of each longest run of the list, rising: where no address has two labels, the fewest blocks with the cover of the list, by
-- the theorem `gathered_is_fewest_as`.
unfoldable pub gathered : ℕ → List Entry → List Entry
unfolding sorted gathered_sorted
gathered W es = gathered_sorted W (sorted es)

-- ---- what is not covered

-- the addresses from a to b, as a run with the label 0
abbrev pub gap : ℕ → ℕ → Run
gap a b = record { first = a; last = b; label = 0 }

-- from a on: the gap before each entry of a sorted list, and the gap behind the last
unfoldable pub uncovered_from : ℕ → ℕ → List Entry → List Entry
unfolding range_blocks
uncovered_from W a [] = run_entries W (gap a (2 ^ W - 1))
uncovered_from W a (e ∷ es) =
    let rest = uncovered_from W (max a (after W e.block)) es in
    elim (ltb a e.block.address) [ true ↦ run_entries W (gap a (e.block.address - 1)) ++ rest | false ↦ rest ]

-- The fewest blocks of the addresses that no entry covers, by the theorem `uncovered_is_fewest_as`. Their label is 0.
unfoldable pub uncovered : ℕ → List Entry → List Entry
unfolding sorted uncovered_from
uncovered W es = uncovered_from W 0 (sorted es)

-- ---- lists without labels (02, Req 01)

-- the fewest blocks that cover what a list of blocks covers, by the theorem `gathered_is_fewest`
unfoldable pub gathered_blocks : ℕ → List Block → List Block
unfolding gathered
gathered_blocks W bs = blocks (gathered W (labelled 0 bs))

-- the fewest blocks of what it does not cover, by the theorem `uncovered_is_fewest`
unfoldable pub uncovered_blocks : ℕ → List Block → List Block
unfolding uncovered
uncovered_blocks W bs = blocks (uncovered W (labelled 0 bs))

-- each block of the list bs is one of the list cs; z is what `get_or` answers beyond a list's end, which is not asked here
abbrev pub Among : Block → List Block → List Block → Type 0
Among z bs cs = (i : ℕ) → i < L.length bs → (j : ℕ) × (j < L.length cs) × (L.get_or bs i z ≡ L.get_or cs j z)

-- the same blocks, in any order and any number of times
abbrev pub SameMembers : Block → List Block → List Block → Type 0
SameMembers z bs cs = Among z bs cs × Among z cs bs
