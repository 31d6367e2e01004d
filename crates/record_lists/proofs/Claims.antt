-- What is claimed of lists of records (02, Req 01). Assumes nothing.
use Rattle.std.specs.Prelude.{Result}
use mathlib.Core.Path.{◌≡◌, refl, sym, subst, ◌∙◌}
use mathlib.Core.Logic.{◌⊎◌, ◌↔◌}
use mathlib.Core.Bool.{Bool, true, false}
use mathlib.Core.List.{List, ◌∷◌, ◌++◌}
use Prim.Native.Nat.{ℕ, ◌-◌, ◌*◌, ◌/◌, ◌%◌, ◌^◌, ◌≤◌, ◌<◌}
use lib.ListN.{length, take}
use Rattle.notation.specs.BigEndian.{AllBelow}
use Rattle.cover.specs.Blocks.{Block, AllBlocks, Rising}
use Rattle.address.specs.declared.Refusal.{Refusal}
use Rattle.address.specs.declared.Refusal.TheVariants.{LengthTooLarge, BitsBeyondLength}
use Rattle.address.specs.Answers.{Answer, gives}
use Rattle.address.proofs.Claims.{one_result}
use Rattle.records.specs.Records.{record_size, records_of, read_records}
use Rattle.record_lists.specs.RecordLists.{is_family, family_width, record_count, list_blocks, is_rising, list_refusal, list_answer, list_reading_answer}
use Rattle.record_lists.specs.ListForm.{Family, Records, Breaks, FirstBad, ListCall}
use Rattle.record_lists.proofs.AnswerLaws.{family_octets}
use Rattle.record_lists.proofs.GoodLaws as good
use Rattle.record_lists.proofs.ListFormLaws as form
use Rattle.record_lists.proofs.NumberLaws as number

-- ---- the call

-- Reading any bytes: the whole answer, refused calls too, is the one of the rules, case by case; so each refusal is given exactly when its
-- sentence says so.
pub list_exactly : (f : ℕ) (bytes : List ℕ) → AllBelow 256 bytes → (r : Answer (ℕ × Bool)) → (list_answer f bytes ≡ r) ↔ ListCall f bytes r
list_exactly f bytes small r = (λ e. subst (ListCall f bytes) e (form.answers_call f bytes small), form.call_answers f bytes)

-- A promise about the paper's answer fixes the code's answer.
pub one_list_reading : (r s : Result (ℕ × Bool) Refusal) → list_reading_answer r ≡ list_reading_answer s → r ≡ s
one_list_reading = one_result (0, false)

-- ---- families

-- "which the caller names by 4 or 6": with the bytes and bits of its addresses.
pub family_exactly : (f : ℕ) → (is_family f ≡ true) ↔ Family f (family_width f / 8) (family_width f)
family_exactly f = (form.family_of f, form.known)

-- There are no others, and no family has two sizes.
pub two_families : (f k W : ℕ) → Family f k W → ((f ≡ 4) × (k ≡ 4) × (W ≡ 32)) ⊎ ((f ≡ 6) × (k ≡ 16) × (W ≡ 128))
two_families f k W = form.two_families

-- ---- by which number a list is refused

module _ (f : ℕ) (bytes : List ℕ) where
  -- "0 is refusal 9 in every call on records", and so is each number that names no family.
  pub number_9 : (list_refusal f bytes ≡ 9) ↔ (is_family f ≡ false)
  number_9 = number.nine f bytes

  -- "a byte count that is no whole number of records is refusal 2", behind 9.
  pub number_2 : (list_refusal f bytes ≡ 2) ↔ ((is_family f ≡ true) × ¬ (length bytes % record_size (family_width f) ≡ 0))
  number_2 = number.two f bytes

  -- "up to 512 records", "more is a new refusal 10", behind both.
  pub number_10 : (list_refusal f bytes ≡ 10) ↔ ((is_family f ≡ true) × (length bytes % record_size (family_width f) ≡ 0) × (512 < record_count f bytes))
  number_10 = number.ten f bytes

  -- No other number than these, 4, 5 and 0 is given.
  pub six_numbers : (list_refusal f bytes ≡ 0) ⊎ (list_refusal f bytes ≡ 2) ⊎ (list_refusal f bytes ≡ 4) ⊎ (list_refusal f bytes ≡ 5) ⊎ (list_refusal f bytes ≡ 9) ⊎ (list_refusal f bytes ≡ 10)
  six_numbers = number.numbers f bytes (list_refusal f bytes) refl

  module _ (small : AllBelow 256 bytes) where
    -- "In every such call the first bad record decides, 4 before 5", behind the three.
    pub number_4 : (list_refusal f bytes ≡ 4)
        ↔ ((is_family f ≡ true) × (length bytes % record_size (family_width f) ≡ 0) × (record_count f bytes ≤ 512) × FirstBad (family_width f) (list_blocks f bytes) LengthTooLarge)
    number_4 = number.by_rule f bytes small LengthTooLarge refl refl refl

    pub number_5 : (list_refusal f bytes ≡ 5)
        ↔ ((is_family f ≡ true) × (length bytes % record_size (family_width f) ≡ 0) × (record_count f bytes ≤ 512) × FirstBad (family_width f) (list_blocks f bytes) BitsBeyondLength)
    number_5 = number.by_rule f bytes small BitsBeyondLength refl refl refl

    -- A list is not refused exactly if it names a family and is up to 512 whole records, all of them blocks.
    pub number_0 : (list_refusal f bytes ≡ 0)
        ↔ ((is_family f ≡ true) × (length bytes % record_size (family_width f) ≡ 0) × (record_count f bytes ≤ 512) × AllBlocks (family_width f) (list_blocks f bytes))
    number_0 = number.none f bytes small

    -- A good answer is of blocks.
    pub good_blocks : (n : ℕ) (rises : Bool) → list_answer f bytes ≡ gives (n, rises)
        → AllBlocks (family_width f) (list_blocks f bytes) × (length (list_blocks f bytes) ≡ n) × (n ≤ 512) × ((rises ≡ true) ↔ Rising (list_blocks f bytes))
    good_blocks n rises e = (
      good.good_blocks f bytes n rises e small,
      good.as_many f bytes ∙ sym (good.good_count f bytes n rises e),
      good.good_few f bytes n rises e,
      form.rising_is (list_blocks f bytes) rises (sym (good.good_rises f bytes n rises e)),
    )

  -- A list has as many blocks as records.
  pub as_many : length (list_blocks f bytes) ≡ record_count f bytes
  as_many = good.as_many f bytes

-- The first bad record is the one behind blocks alone, whatever stands behind it.
pub first_bad_exactly : (W : ℕ) (bs : List Block) (e : Refusal)
    → FirstBad W bs e ↔ ((before : List Block) × (b : Block) × (behind : List Block) × (bs ≡ before ++ b ∷ behind) × AllBlocks W before × Breaks W b e)
first_bad_exactly W bs e = (form.bad_split W, λ (before, b, behind, all, h, k). subst (λ cs. FirstBad W cs e) (sym all) (form.split_bad W before b behind e h k))

-- "4 before 5" decides nothing: a length above the width leaves no bit beyond it, so that no record breaks both rules.
pub not_both : (W : ℕ) (b : Block) → W < b.length → b.address % 2 ^ (W - b.length) ≡ 0
not_both = form.no_bits_beyond

-- The test of `Rising`.
pub rising_exactly : (bs : List Block) → (is_rising bs ≡ true) ↔ Rising bs
rising_exactly bs = form.rising_is bs (is_rising bs) refl

-- ---- reading and writing

-- What is read, written again, is the bytes, over any width.
pub read_written : (W n : ℕ) (bytes : List ℕ) → AllBelow 256 bytes → record_size W * n ≤ length bytes → records_of W (read_records W n bytes) ≡ take (record_size W * n) bytes
read_written = form.records_again

-- A list of whole records is the records of what it holds.
pub list_written : (f : ℕ) (bytes : List ℕ) → AllBelow 256 bytes → length bytes % record_size (family_width f) ≡ 0 → bytes ≡ records_of (family_width f) (list_blocks f bytes)
list_written = form.list_written

-- Bytes hold blocks, octets and length after octets and length, exactly if they are their records.
pub records_exactly : (W : ℕ) → 256 ^ (W / 8) ≡ 2 ^ W → (bytes : List ℕ) → AllBelow 256 bytes → (bs : List Block) → AllBlocks W bs
    → Records (W / 8) bytes bs ↔ (bytes ≡ records_of W bs)
records_exactly W whole bytes small bs h = (form.records_written W small, λ e. subst (λ l. Records (W / 8) l bs) (sym e) (form.written_records W whole bs h))

-- The records of blocks are read as those blocks, and up to 512 of them are not refused.
module _ (f : ℕ) (bs : List Block) (h : AllBlocks (family_width f) bs) where
  held : Records (family_width f / 8) (records_of (family_width f) bs) bs
  held = form.written_records (family_width f) (family_octets f) bs h

  pub written_read : list_blocks f (records_of (family_width f) bs) ≡ bs
  written_read = form.held_blocks f _ bs held

  module _ (k : is_family f ≡ true) (few : length bs ≤ 512) where
    pub written_fine : list_refusal f (records_of (family_width f) bs) ≡ 0
    written_fine = form.held_fine f _ k bs held few h

    pub written_good : list_answer f (records_of (family_width f) bs) ≡ gives (length bs, is_rising bs)
    written_good = form.held_good f _ k bs held few h (is_rising bs) (form.rises bs)
