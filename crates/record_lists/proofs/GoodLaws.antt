-- What an answer about a list tells: of a good one, its records are blocks. Assumes nothing.
use mathlib.Core.Path.{◌≡◌, refl, sym, ap, subst, ◌∙◌}
use mathlib.Core.Bool.{Bool, true, false, cond, not}
use mathlib.Core.List.{List, [], ◌∷◌}
use Prim.Native.Nat.{ℕ, zero, suc, ◌*◌, ◌/◌, ◌%◌, ◌^◌, ◌≤◌, ◌<◌}
use native.Mathlib.Nat.{pow-le-pow_right}
use native.Mathlib.Omega.{arith}
use borrow.Author.Tests.{eqb-true, eqb-false, ltb-false, not-false, eq-eqb, le-ltb}
use lib.Dec.{eqb, ltb, lit<}
use lib.ListN.{length, take, drop, get_or, length-take}
use Rattle.notation.specs.BigEndian.{AllBelow}
use Rattle.notation.proofs.DigitLaws.{number_lt, below_take, below_drop}
use Rattle.cover.specs.Blocks.{Block, size, IsBlock, AllBlocks}
use Rattle.address.specs.declared.Refusal.{Refusal}
use Rattle.address.specs.Answers.{Answer, gives, refuses, refusal_number, first_of}
use Rattle.records.specs.Records.{record_size, read_record, read_records}
use Rattle.record_lists.specs.RecordLists.{is_family, family_width, most_records, record_count, list_blocks, is_rising, record_reasons, records_reasons, list_refusal, list_answer}
use Rattle.record_lists.proofs.AnswerLaws.{family_octets, list_length}
use Rattle.record_lists.proofs.ListLaws.{first_good}

-- ---- bytes, one by one and all together

pub all_below : (base : ℕ) (ds : List ℕ) → ((i : ℕ) → get_or ds i 0 < base) → AllBelow base ds
all_below base [] h = tt
all_below base (d ∷ ds) h = (h 0, all_below base ds λ i. h (suc i))

pub below_each : (base : ℕ) → 0 < base → (ds : List ℕ) → AllBelow base ds → (i : ℕ) → get_or ds i 0 < base
below_each base pos [] h i = pos
below_each base pos (d ∷ ds) h zero = h.0
below_each base pos (d ∷ ds) h (suc i) = below_each base pos ds h.1 i

-- ---- no reason of a list holds

-- a number that is not the first's is one behind it
pub not_first : (t : Bool) (k r n : ℕ) → eqb k n ≡ false → cond t k r ≡ n → (t ≡ false) × (r ≡ n)
not_first true k r n other e = absurd (eqb-false k n other e)
not_first false k r n other e = (refl, e)

module _ (W : ℕ) where
  pub block_fine : (b : Block) → IsBlock W b → first_of (record_reasons W b) ≡ 0
  unfolding first_of
  block_fine b h = rw (le-ltb W b.length h.short, eq-eqb _ 0 h.aligned)

  pub blocks_fine : (bs : List Block) → AllBlocks W bs → first_of (records_reasons W bs) ≡ 0
  unfolding first_of records_reasons
  blocks_fine [] h = refl
  blocks_fine (b ∷ bs) h = first_good W b bs (block_fine b h.0) ∙ blocks_fine bs h.1

  -- the first record keeps the two rules, and the others decide
  pub first_fine : (b : Block) (bs : List Block) → first_of (records_reasons W (b ∷ bs)) ≡ 0
      → (b.length ≤ W) × (b.address % size W b ≡ 0) × (first_of (records_reasons W bs) ≡ 0)
  unfolding first_of records_reasons
  first_fine b bs e =
      let (short, e1) = not_first (ltb W b.length) 4 _ 0 refl e in
      let (aligned, e2) = not_first (not (eqb (b.address % size W b) 0)) 5 _ 0 refl e1 in
      (ltb-false W b.length short, eqb-true _ 0 (not-false _ aligned), e2)

  pub reads_length : (n : ℕ) (bytes : List ℕ) → length (read_records W n bytes) ≡ n
  unfolding read_records
  reads_length zero bytes = refl
  reads_length (suc n) bytes = ap suc (reads_length n (drop (record_size W) bytes))

  -- the addresses of records are addresses
  module _ (whole : 256 ^ (W / 8) ≡ 2 ^ W) where
    pub address_below : (bytes : List ℕ) → AllBelow 256 bytes → (read_record W bytes).address < 2 ^ W
    unfolding read_record
    address_below bytes small =
        let ds = take (W / 8) bytes in
        let up : 256 ^ length ds ≤ 256 ^ (W / 8) = pow-le-pow_right (lit< tt) (omega (arith, length-take (W / 8) bytes)) in
        omega (arith, number_lt 256 ds (below_take 256 (W / 8) bytes small))

    pub fine_blocks : (n : ℕ) (bytes : List ℕ) → AllBelow 256 bytes → first_of (records_reasons W (read_records W n bytes)) ≡ 0 → AllBlocks W (read_records W n bytes)
    unfolding read_records
    fine_blocks zero bytes small e = tt
    fine_blocks (suc n) bytes small e =
        let (short, aligned, rest) = first_fine (read_record W bytes) (read_records W n (drop (record_size W) bytes)) e in
        (record { below = address_below bytes small; short = short; aligned = aligned }, fine_blocks n (drop (record_size W) bytes) (below_drop 256 (record_size W) bytes small) rest)

module _ (f : ℕ) (bytes : List ℕ) where
  -- what a list that is not refused keeps
  pub record Fine : Type 0 where
    pub family : is_family f ≡ true
    pub whole : length bytes % record_size (family_width f) ≡ 0
    pub few : record_count f bytes ≤ most_records
    pub sound : first_of (records_reasons (family_width f) (list_blocks f bytes)) ≡ 0

  -- a number other than 9, 2 and 10 is one that the records decide
  pub by_records : (n : ℕ) → eqb 9 n ≡ false → eqb 2 n ≡ false → eqb 10 n ≡ false → list_refusal f bytes ≡ n
      → (is_family f ≡ true) × (length bytes % record_size (family_width f) ≡ 0) × (record_count f bytes ≤ most_records) × (first_of (records_reasons (family_width f) (list_blocks f bytes)) ≡ n)
  unfolding list_refusal
  by_records n no9 no2 no10 e =
      let (known, e1) = not_first (not (is_family f)) 9 _ n no9 e in
      let (whole, e2) = not_first (not (eqb (length bytes % record_size (family_width f)) 0)) 2 _ n no2 e1 in
      let (few, e3) = not_first (ltb most_records (record_count f bytes)) 10 _ n no10 e2 in
      (not-false _ known, eqb-true _ 0 (not-false _ whole), ltb-false most_records _ few, e3)

  pub fine : list_refusal f bytes ≡ 0 → Fine
  fine e = let (known, whole, few, sound) = by_records 0 refl refl refl e in record { family = known; whole = whole; few = few; sound = sound }

  pub list_whole : length bytes % record_size (family_width f) ≡ 0 → length bytes ≡ record_size (family_width f) * record_count f bytes
  list_whole = list_length (record_size (family_width f)) bytes

  pub as_many : length (list_blocks f bytes) ≡ record_count f bytes
  unfolding list_blocks
  as_many = reads_length (family_width f) (record_count f bytes) bytes

  -- a refusal's number is the answer's
  pub refused_number : (e : Refusal) → list_answer f bytes ≡ refuses (0, false) e → list_refusal f bytes ≡ refusal_number e
  unfolding list_answer
  refused_number e h = ap (λ (r : Answer (ℕ × Bool)). r.number) h

  -- ---- a good answer

  pub fine_answer : list_refusal f bytes ≡ 0 → list_answer f bytes ≡ gives (record_count f bytes, is_rising (list_blocks f bytes))
  unfolding list_answer
  fine_answer e = rw e

  module _ (n : ℕ) (rises : Bool) (h : list_answer f bytes ≡ gives (n, rises)) where
    pub good_refusal : list_refusal f bytes ≡ 0
    unfolding list_answer
    good_refusal = ap (λ (r : Answer (ℕ × Bool)). r.number) h

    good_fields : ◌≡◌ {A = ℕ × Bool} (n, rises) (record_count f bytes, is_rising (list_blocks f bytes))
    good_fields = ap (λ (r : Answer (ℕ × Bool)). r.fields) (sym h ∙ fine_answer good_refusal)

    pub good_count : n ≡ record_count f bytes
    good_count = ap (λ (p : ℕ × Bool). p.0) good_fields

    pub good_rises : rises ≡ is_rising (list_blocks f bytes)
    good_rises = ap (λ (p : ℕ × Bool). p.1) good_fields

    pub good_family : is_family f ≡ true
    good_family = (fine good_refusal).family

    pub good_length : length bytes ≡ record_size (family_width f) * n
    good_length = list_whole (fine good_refusal).whole ∙ ap (λ (k : ℕ). record_size (family_width f) * k) (sym good_count)

    pub good_few : n ≤ most_records
    good_few = subst (λ (k : ℕ). k ≤ most_records) (sym good_count) (fine good_refusal).few

    pub good_blocks : AllBelow 256 bytes → AllBlocks (family_width f) (list_blocks f bytes)
    unfolding list_blocks
    good_blocks small = fine_blocks (family_width f) (family_octets f) (record_count f bytes) bytes small (fine good_refusal).sound
