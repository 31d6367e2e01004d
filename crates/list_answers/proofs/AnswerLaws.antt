-- What a call answers and leaves that writes the records of some blocks, and a second call on what it left. Assumes nothing.
use mathlib.Core.Path.{◌≡◌, refl, sym, ap, ap₂, subst, ◌∙◌}
use mathlib.Core.Logic.{inl, inr, ◌↔◌}
use mathlib.Core.Bool.{true}
use mathlib.Core.List.{List, [], ◌∷◌, ◌++◌, append-nil}
use Prim.Native.Nat.{ℕ, zero, suc, ◌+◌, ◌-◌, ◌*◌, ◌/◌, ◌≤◌, ◌<◌}
use native.Mathlib.Nat.{mul-le-mul_left, mul-le-mul_right, le_of_eq}
use native.Mathlib.Omega.{arith}
use borrow.Author.Tests.{ne_eqb}
use lib.ListN.{length, take, drop, replicate}
use lib.Dec.{lit≤}
use lib.Seq.{take_at}
use Rattle.notation.specs.BigEndian.{AllBelow}
use Rattle.notation.proofs.DigitLaws.{digits_zero}
use Rattle.cover.specs.Blocks.{Block, AllBlocks, Rising, Exactly, Fewest}
use Rattle.address.specs.declared.Refusal.{Refusal}
use Rattle.address.specs.declared.Refusal.TheVariants.{TooMany}
use Rattle.address.specs.Answers.{Answer, gives, refuses, refusal_number, write_refusal, write_leaves}
use Rattle.address.proofs.AnswerLaws.{number_pos, answer_refuses, write_other, no_refusal, refusal_3, stands}
use Rattle.records.specs.Records.{record_size, record_of, read_records, records_of}
use Rattle.records.proofs.RecordLaws.{record_length}
use Rattle.records.proofs.Claims.{records_read_back, records_size}
use Rattle.record_lists.specs.RecordLists.{is_family, family_width, most_records, list_blocks, list_refusal}
use Rattle.record_lists.proofs.AnswerLaws.{family_octets, family_size}
use Rattle.record_lists.proofs.GoodLaws.{fine}
use Rattle.record_lists.proofs.ListFormLaws.{count_is}
use Rattle.record_lists.proofs.Claims.{six_numbers, number_0, number_10, written_read, written_fine}
use Rattle.list_answers.specs.ListAnswers.{blocks_answer, blocks_leave, HoldsFewestOf}

-- ---- the list

-- no list is refused by 3 itself
not_3 : (f : ℕ) (bytes : List ℕ) → ¬ (list_refusal f bytes ≡ 3)
not_3 f bytes e = elim (six_numbers f bytes) [
  | inl a ↦ omega (arith, e, a)
  | inr (inl a) ↦ omega (arith, e, a)
  | inr (inr (inl a)) ↦ omega (arith, e, a)
  | inr (inr (inr (inl a))) ↦ omega (arith, e, a)
  | inr (inr (inr (inr (inl a)))) ↦ omega (arith, e, a)
  | inr (inr (inr (inr (inr a)))) ↦ omega (arith, e, a)
]

-- a list that is not refused is of blocks
pub fine_valid : (f : ℕ) (bytes : List ℕ) → AllBelow 256 bytes → list_refusal f bytes ≡ 0 → AllBlocks (family_width f) (list_blocks f bytes)
fine_valid f bytes small e = ((number_0 f bytes small).0 e).3

-- ---- two lists

-- where neither is refused, the blocks alone decide
pub as_blocks : (f : ℕ) (bytes others : List ℕ) (bs cs : List Block) → list_refusal f bytes ≡ 0 → list_refusal f others ≡ 0 → bs ≡ cs → (buf : List ℕ)
    → (blocks_answer f bytes bs buf ≡ blocks_answer f others cs buf) × (blocks_leave f bytes bs buf ≡ blocks_leave f others cs buf)
unfolding blocks_answer blocks_leave
as_blocks f bytes others bs cs e g same buf = rw (e, g, same) (refl, refl)

-- a second call on the records of the first
module _ (f : ℕ) (bs : List Block) (valid : AllBlocks (family_width f) bs) (known : is_family f ≡ true) (seen : List ℕ) (is : seen ≡ records_of (family_width f) bs) where
  pub seen_blocks : list_blocks f seen ≡ bs
  seen_blocks = ap (list_blocks f) is ∙ written_read f bs valid

  pub seen_fine : length bs ≤ most_records → list_refusal f seen ≡ 0
  seen_fine few = ap (list_refusal f) is ∙ written_fine f bs valid known few

  pub seen_many : most_records < length bs → list_refusal f seen ≡ 10
  seen_many many =
      let (whole, count) = count_is f seen (length bs) (ap length is ∙ records_size (family_width f) bs) in
      (number_10 f seen).1 (known, whole, omega (arith, count, many))

-- a list that is refused
pub list_refused : (f : ℕ) (bytes old : List ℕ) (bs : List Block) (e : Refusal) → list_refusal f bytes ≡ refusal_number e
    → (refuses (0, 0) e ≡ blocks_answer f bytes bs old) × (old ≡ blocks_leave f bytes bs old)
unfolding blocks_answer blocks_leave write_leaves
list_refused f bytes old bs e h =
    let records = records_of (family_width f) bs in
    let r : write_refusal (list_refusal f bytes) records old ≡ refusal_number e = stands records old (list_refusal f bytes) (omega (arith, number_pos e, h)) ∙ h in
    (answer_refuses (0, 0) (length bs, length records) (write_refusal (list_refusal f bytes) records old) e (sym r), (write_other (list_refusal f bytes) records old e (sym h)).1)

-- a call that is refused by 10
pub refused_by_10 : (f : ℕ) (bytes : List ℕ) (bs : List Block) (buf : List ℕ) → list_refusal f bytes ≡ 10 → (blocks_answer f bytes bs buf ≡ refuses (0, 0) TooMany) × (blocks_leave f bytes bs buf ≡ buf)
refused_by_10 f bytes bs buf e = let r = list_refused f bytes buf bs TooMany e in (sym r.0, sym r.1)

-- ---- one call

module _ (f : ℕ) (bytes : List ℕ) (bs : List Block) (old : List ℕ) where
  abbrev W : ℕ
  W = family_width f

  abbrev records : List ℕ
  records = records_of W bs

  -- ---- the number

  pub zero_exactly : ((blocks_answer f bytes bs old).number ≡ 0) ↔ ((list_refusal f bytes ≡ 0) × (length records ≤ length old))
  unfolding blocks_answer
  zero_exactly = no_refusal records old (list_refusal f bytes)

  pub three_exactly : ((blocks_answer f bytes bs old).number ≡ 3) ↔ ((list_refusal f bytes ≡ 0) × (length old < length records))
  unfolding blocks_answer
  three_exactly = refusal_3 records old (list_refusal f bytes) (not_3 f bytes)

  -- the list's own refusal stands
  pub own_number : ¬ (list_refusal f bytes ≡ 0) → (blocks_answer f bytes bs old).number ≡ list_refusal f bytes
  unfolding blocks_answer
  own_number n = stands records old (list_refusal f bytes) n

  pub refused : ¬ ((blocks_answer f bytes bs old).number ≡ 0) → ((blocks_answer f bytes bs old).fields ≡ (0, 0)) × (blocks_leave f bytes bs old ≡ old)
  unfolding blocks_answer blocks_leave
  refused m = rw (ne_eqb (write_refusal (list_refusal f bytes) records old) 0 m) (refl, refl)

  -- ---- a good answer

  pub written : list_refusal f bytes ≡ 0 → length records ≤ length old
      → (blocks_answer f bytes bs old ≡ gives (length bs, length records)) × (blocks_leave f bytes bs old ≡ records ++ drop (length records) old)
  unfolding blocks_answer blocks_leave
  written e room = rw ((no_refusal records old (list_refusal f bytes)).1 (e, room)) (refl, refl)

  pub none_written : list_refusal f bytes ≡ 0 → bs ≡ [] → (blocks_answer f bytes bs old ≡ gives (0, 0)) × (blocks_leave f bytes bs old ≡ old)
  unfolding records_of
  none_written e none =
      let w = written e (omega (arith, ap (λ cs. length (records_of W cs)) none)) in
      (w.0 ∙ ap (λ cs. gives (length cs, length (records_of W cs))) none, w.1 ∙ ap (λ cs. records_of W cs ++ drop (length (records_of W cs)) old) none)

  -- one record
  pub one_written : list_refusal f bytes ≡ 0 → (b : Block) → bs ≡ b ∷ [] → (r : List ℕ) → record_of W b ≡ r → record_size W ≤ length old
      → (blocks_answer f bytes bs old ≡ gives (1, record_size W)) × (blocks_leave f bytes bs old ≡ r ++ drop (record_size W) old)
  unfolding records_of
  one_written e b one r is room =
      let all : records ≡ r = ap (records_of W) one ∙ append-nil (record_of W b) ∙ is in
      let count : length bs ≡ 1 = ap length one in
      let long : length records ≡ record_size W = ap length (ap (records_of W) one ∙ append-nil (record_of W b)) ∙ record_length W b in
      let w = written e (omega (arith, long, room)) in
      (w.0 ∙ ap₂ (λ (m n : ℕ). gives (m, n)) count long, w.1 ∙ ap₂ (λ l (n : ℕ). l ++ drop n old) all long)

  module _ (count n : ℕ) (good : blocks_answer f bytes bs old ≡ gives (count, n)) where
    no_reason : (list_refusal f bytes ≡ 0) × (length records ≤ length old)
    no_reason = zero_exactly.0 (ap (λ (r : Answer (ℕ × ℕ)). r.number) good)

    pub good_fine : list_refusal f bytes ≡ 0
    good_fine = no_reason.0

    fields : ◌≡◌ {A = ℕ × ℕ} (count, n) (length bs, length records)
    fields = ap (λ (r : Answer (ℕ × ℕ)). r.fields) (sym good ∙ (written no_reason.0 no_reason.1).0)

    pub good_count : count ≡ length bs
    good_count = ap (λ (p : ℕ × ℕ). p.0) fields

    good_bytes : n ≡ length records
    good_bytes = ap (λ (p : ℕ × ℕ). p.1) fields

    left_is : blocks_leave f bytes bs old ≡ records ++ drop n old
    left_is = (written no_reason.0 no_reason.1).1 ∙ ap (λ (k : ℕ). records ++ drop k old) (sym good_bytes)

    -- the records that the buffer holds
    pub held : take n (blocks_leave f bytes bs old) ≡ records
    held = ap (take n) left_is ∙ take_at records (drop n old) n (sym good_bytes)

    -- its blocks are the fewest of a set, where the list is not refused
    module _ {S : ℕ → Type 0} (few : list_refusal f bytes ≡ 0 → Fewest W S bs) where
      all : AllBlocks W bs
      all = (few good_fine).blocks

      read : read_records W count (blocks_leave f bytes bs old) ≡ bs
      read = ap₂ (λ (k : ℕ) l. read_records W k l) good_count left_is ∙ records_read_back W (family_octets f) bs all (drop n old)

      pub holds : HoldsFewestOf W S (count, n) old (blocks_leave f bytes bs old)
      holds = record {
        fewest = subst (Fewest W S) (sym read) (few good_fine);
        bytes = good_bytes ∙ records_size W bs ∙ ap (λ (k : ℕ). record_size W * k) (sym good_count);
        whole = left_is ∙ ap (λ cs. records_of W cs ++ drop n old) (sym read);
      }

      -- a second call on the records that the buffer holds
      abbrev seen : List ℕ
      seen = take n (blocks_leave f bytes bs old)

      module _ (buf : List ℕ) where
        -- that makes the blocks cs of them answers and leaves what a call on the first list does that writes cs
        pub second : (make : List Block → List Block) (cs : List Block) → make bs ≡ cs → count ≤ most_records
            → (blocks_answer f seen (make (list_blocks f seen)) buf ≡ blocks_answer f bytes cs buf) × (blocks_leave f seen (make (list_blocks f seen)) buf ≡ blocks_leave f bytes cs buf)
        second make cs e less =
            let known = (fine f bytes good_fine).family in
            as_blocks f seen bytes _ _ (seen_fine f bs all known seen held (omega (arith, less, good_count))) good_fine (ap make (seen_blocks f bs all known seen held) ∙ e) buf

        -- or is refused by 10
        pub second_many : (cs : List Block) → most_records < count → (blocks_answer f seen cs buf ≡ refuses (0, 0) TooMany) × (blocks_leave f seen cs buf ≡ buf)
        second_many cs many = refused_by_10 f seen cs buf (seen_many f bs all (fine f bytes good_fine).family seen held (omega (arith, many, good_count)))

-- the records of a fewest list are no longer than those of another rising list with that cover
pub shortest : (W : ℕ) {S : ℕ → Type 0} {bs : List Block} → Fewest W S bs → (cs : List Block) → AllBlocks W cs → Rising cs → Exactly W S cs
    → length (records_of W bs) ≤ length (records_of W cs)
shortest W {S} {bs} few cs all up cover =
    let less : length bs ≤ length cs = elim (few.fewest cs all up cover) [ inl e ↦ le_of_eq (ap length (sym e)) | inr l ↦ omega (arith, l) ] in
    omega (arith, records_size W bs, records_size W cs, mul-le-mul_left (record_size W) less)

-- so that refusal 3 says that none of them fits
pub none_fits : (f : ℕ) (bytes : List ℕ) (bs : List Block) (old : List ℕ) {S : ℕ → Type 0} → (list_refusal f bytes ≡ 0 → Fewest (family_width f) S bs)
    → ((blocks_answer f bytes bs old).number ≡ 3)
    ↔ ((list_refusal f bytes ≡ 0) × ((cs : List Block) → AllBlocks (family_width f) cs → Rising cs → Exactly (family_width f) S cs → length old < length (records_of (family_width f) cs)))
none_fits f bytes bs old few = (
  λ e. let (fine, short) = (three_exactly f bytes bs old).0 e in (fine, λ cs all up cover. omega (arith, short, shortest (family_width f) (few fine) cs all up cover)),
  λ h. let w = few h.0 in (three_exactly f bytes bs old).1 (h.0, h.1 bs w.blocks w.rising w.exactly),
)

-- ---- the empty list, and the record of all addresses

pub empty_blocks : (f : ℕ) → list_blocks f [] ≡ []
unfolding records_of
empty_blocks f = written_read f [] tt

pub empty_fine : (f : ℕ) → is_family f ≡ true → list_refusal f [] ≡ 0
unfolding records_of
empty_fine f known = written_fine f [] tt known (lit≤ tt)

pub some_bits : (f : ℕ) → 1 ≤ family_width f
some_bits f = elim (family_size f) [ inl e ↦ omega (arith, e) | inr e ↦ omega (arith, e) ]

one_more : (n : ℕ) → ◌≡◌ {A = List ℕ} (replicate n 0 ++ 0 ∷ []) (replicate (suc n) 0)
one_more zero = refl
one_more (suc n) = ap (λ ds. 0 ∷ ds) (one_more n)

-- it is zeros
pub zeros : (f : ℕ) → record_of (family_width f) (record { address = 0; length = 0 }) ≡ replicate (record_size (family_width f)) 0
unfolding record_of
zeros f =
    let k = family_width f / 8 in
    let more : suc k ≡ k + 1 = omega arith in
    ap (λ (ds : List ℕ). ds ++ 0 ∷ []) (digits_zero 256 k) ∙ one_more k ∙ ap (λ (n : ℕ). replicate n 0) more

-- so many bytes are the records of k blocks at most, where each of up to 512 records adds W - 1 blocks to one
pub enough : (W m k : ℕ) → m ≤ 512 → k ≤ 1 + m * (W - 1) → record_size W * k ≤ record_size W * (1 + 512 * (W - 1))
enough W m k few most = mul-le-mul_left (record_size W) (omega (arith, most, mul-le-mul_right (W - 1) few))
