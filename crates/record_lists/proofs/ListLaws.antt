-- The records of a list, judged one after the other. Assumes nothing.
use mathlib.Core.Path.{◌≡◌, refl, sym, ap, ap₂, subst, ◌∙◌}
use mathlib.Core.Logic.{inl, inr}
use mathlib.Core.Bool.{Bool, true, false, cond, ◌&&◌, not, and-true, and_assoc}
use mathlib.Core.List.{List, [], ◌∷◌}
use Prim.Native.Nat.{ℕ, suc, ◌+◌, ◌-◌, ◌*◌, ◌%◌, ◌≤◌, ◌<◌}
use native.Mathlib.Nat.{mul_comm, mul-suc, suc-mul, zero-mul, mul-le-mul_left}
use native.Mathlib.Omega.{arith}
use borrow.Author.Tests.{le-leb}
use lib.Dec.{leb, ltb, eqb}
use lib.ListN.{length, take, drop, length-drop}
use lib.Seq.{length-take-le, drop-drop}
use Rattle.cover.specs.Blocks.{Block, size}
use Rattle.address.specs.declared.Refusal.{Refusal}
use Rattle.address.specs.Answers.{gives, refuses, refusal_number, first_of}
use Rattle.address.proofs.AnswerLaws.{number_pos, answer_gives, answer_refuses}
use Rattle.records.specs.Records.{record_size, read_record, read_records}
use Rattle.record_lists.specs.RecordLists.{most_records, record_reasons, records_reasons, is_rising}
use Rattle.record_lists.specs.Inner.{IsSize, size_width, rises_from, records_answer}
use Rattle.record_lists.proofs.RecordLaws.{record_front}

-- ---- the first bad record decides

module _ (W : ℕ) (b : Block) (bs : List Block) where
  pub first_good : first_of (record_reasons W b) ≡ 0 → first_of (records_reasons W (b ∷ bs)) ≡ first_of (records_reasons W bs)
  unfolding first_of records_reasons
  first_good h = go (ltb W b.length) (not (eqb (b.address % size W b) 0)) h
    where
      go : (p q : Bool) → ◌≡◌ {A = ℕ} (cond p 4 (cond q 5 0)) 0 → cond p 4 (cond q 5 (first_of (records_reasons W bs))) ≡ first_of (records_reasons W bs)
      go true q e = absurd (omega arith)
      go false true e = absurd (omega arith)
      go false false e = refl

  pub first_bad : (n : ℕ) → 0 < n → first_of (record_reasons W b) ≡ n → first_of (records_reasons W (b ∷ bs)) ≡ n
  unfolding first_of records_reasons
  first_bad n h e = go (ltb W b.length) (not (eqb (b.address % size W b) 0)) e
    where
      go : (p q : Bool) → cond p 4 (cond q 5 0) ≡ n → cond p 4 (cond q 5 (first_of (records_reasons W bs))) ≡ n
      go true q e = e
      go false true e = e
      go false false e = absurd (omega arith)

  pub rises_more : (a : ℕ) → rises_from a (b ∷ bs) ≡ (leb a b.address && rises_from b.address bs)
  unfolding rises_from
  rises_more a = refl

pub rises_none : (a : ℕ) → rises_from a [] ≡ true
unfolding rises_from
rises_none a = refl

-- a list rises as its tail does behind its first
rises_behind : (b : Block) (bs : List Block) → rises_from b.address bs ≡ is_rising (b ∷ bs)
unfolding rises_from is_rising
rises_behind b [] = refl
rises_behind b (c ∷ bs) = ap (λ t. leb b.address c.address && t) (rises_behind c bs)

-- nothing is below 0
pub rises_start : (bs : List Block) → rises_from 0 bs ≡ is_rising bs
unfolding rises_from is_rising
rises_start [] = refl
rises_start (b ∷ bs) = rw (le-leb 0 b.address (omega arith)) (rises_behind b bs)

-- ---- one record after the other

module _ (W : ℕ) where
  pub reads_none : (bytes : List ℕ) → read_records W 0 bytes ≡ []
  unfolding read_records
  reads_none bytes = refl

  pub reads_more : (n : ℕ) (bytes : List ℕ) → read_records W (suc n) bytes ≡ read_record W bytes ∷ read_records W n (drop (record_size W) bytes)
  unfolding read_records
  reads_more n bytes = refl

  pub no_reasons : first_of (records_reasons W []) ≡ 0
  unfolding first_of records_reasons
  no_reasons = refl

pub size_back : (size : ℕ) → IsSize size → record_size (size_width size) ≡ size
size_back size s = elim s [ inl e ↦ omega arith | inr e ↦ omega arith ]

-- so many records are few bytes
pub list_small : (size n : ℕ) → IsSize size → n ≤ most_records → size * n ≤ 8704
list_small size n s h = elim s [ inl e ↦ rw e (omega arith) | inr e ↦ rw e (omega arith) ]

-- a slice from an index on is the record there
pub part_front : (size at : ℕ) (bytes : List ℕ) → take (at + size - at) (drop at bytes) ≡ take size (drop at bytes)
part_front size at bytes = let e : at + size - at ≡ size = omega arith in ap (λ (k : ℕ). take k (drop at bytes)) e

-- i of the n records are judged: those that are left decide, and whether all rise
pub record Judging (size n : ℕ) (bytes : List ℕ) (last : ℕ) (rises : Bool) (i : ℕ) : Type 0 where
  pub bound : i ≤ n
  pub reasons : first_of (records_reasons (size_width size) (read_records (size_width size) n bytes)) ≡ first_of (records_reasons (size_width size) (read_records (size_width size) (n - i) (drop (i * size) bytes)))
  pub rising : is_rising (read_records (size_width size) n bytes) ≡ (rises && rises_from last (read_records (size_width size) (n - i) (drop (i * size) bytes)))

pub judging_start : (size n : ℕ) (bytes : List ℕ) (a : ℕ) → a ≡ 0 → Judging size n bytes a true 0
judging_start size n bytes a z =
    let all : read_records (size_width size) (n - 0) (drop (0 * size) bytes) ≡ read_records (size_width size) n bytes =
    ap₂ (λ (k m : ℕ). read_records (size_width size) k (drop m bytes)) (let e : n - 0 ≡ n = omega arith in e) (zero-mul size) in
    record {
      bound = omega arith;
      reasons = ap (λ bs. first_of (records_reasons (size_width size) bs)) (sym all);
      rising = sym (ap₂ rises_from z all ∙ rises_start (read_records (size_width size) n bytes));
    }

module _ {size n : ℕ} {bytes : List ℕ} {last : ℕ} {rises : Bool} {i : ℕ} (s : IsSize size) (long : length bytes ≡ size * n) (J : Judging size n bytes last rises i) where
  abbrev W : ℕ
  W = size_width size

  abbrev rest : List ℕ
  rest = drop (i * size) bytes

  module _ (h : i < n) where
    pub next_room : i * size + size ≤ length bytes
    next_room =
        let up = mul-le-mul_left size (let l : suc i ≤ n = omega arith in l) in
        omega (arith, up, mul-suc size i, mul_comm size i)

    more : n - i ≡ suc (n - (i + 1))
    more = omega arith

    next : read_records W (n - i) rest ≡ read_record W rest ∷ read_records W (n - (i + 1)) (drop ((i + 1) * size) bytes)
    next =
        let e : i * size + size ≡ (i + 1) * size = omega (arith, suc-mul i size, let q : i + 1 ≡ suc i = omega arith in ap (λ (k : ℕ). k * size) q) in
        ap (λ (k : ℕ). read_records W k rest) more ∙ reads_more W (n - (i + 1)) rest
        ∙ ap (λ (k : ℕ). read_record W rest ∷ read_records W (n - (i + 1)) (drop k rest)) (size_back size s)
        ∙ ap (λ l. read_record W rest ∷ read_records W (n - (i + 1)) l) (drop-drop size (i * size) bytes ∙ ap (λ (k : ℕ). drop k bytes) e)

    -- the record alone
    module _ (one : List ℕ) (same : one ≡ take size rest) where
      pub one_size : IsSize (length one)
      one_size = let l = length-take-le size rest (omega (arith, next_room, length-drop (i * size) bytes)) in subst IsSize (sym (ap length same ∙ l)) s

      one_is : read_record (size_width (length one)) one ≡ read_record W rest
      one_is =
          let l = length-take-le size rest (omega (arith, next_room, length-drop (i * size) bytes)) in
          ap₂ (λ (k : ℕ) bs. read_record (size_width k) bs) (ap length same ∙ l) same
          ∙ ap (λ (k : ℕ). read_record W (take k rest)) (sym (size_back size s))
          ∙ record_front W rest

      one_width : size_width (length one) ≡ W
      one_width = ap size_width (ap length same ∙ length-take-le size rest (omega (arith, next_room, length-drop (i * size) bytes)))

      one_reasons : first_of (record_reasons (size_width (length one)) (read_record (size_width (length one)) one)) ≡ first_of (record_reasons W (read_record W rest))
      one_reasons = ap₂ (λ (k : ℕ) b. first_of (record_reasons k b)) one_width one_is

      all_next : first_of (records_reasons W (read_records W n bytes)) ≡ first_of (records_reasons W (read_record W rest ∷ read_records W (n - (i + 1)) (drop ((i + 1) * size) bytes)))
      all_next = J.reasons ∙ ap (λ bs. first_of (records_reasons W bs)) next

      pub judging_next : first_of (record_reasons (size_width (length one)) (read_record (size_width (length one)) one)) ≡ 0
          → (a : ℕ) → a ≡ (read_record (size_width (length one)) one).address → (t : Bool) → t ≡ (rises && leb last a) → Judging size n bytes a t (i + 1)
      judging_next good a e t u =
          let own : a ≡ (read_record W rest).address = e ∙ ap (λ (b : Block). b.address) one_is in
          let tail = read_records W (n - (i + 1)) (drop ((i + 1) * size) bytes) in
          record {
            bound = omega arith;
            reasons = all_next ∙ first_good W (read_record W rest) tail (sym one_reasons ∙ good);
            rising = J.rising ∙ ap (λ bs. rises && rises_from last bs) next ∙ ap (λ r. rises && r) (rises_more W (read_record W rest) tail last)
                ∙ ap (λ (k : ℕ). rises && (leb last k && rises_from k tail)) (sym own)
                ∙ sym (and_assoc rises (leb last a) (rises_from a tail)) ∙ ap (λ r. r && rises_from a tail) (sym u);
          }

      pub judging_bad : (e : Refusal) → first_of (record_reasons (size_width (length one)) (read_record (size_width (length one)) one)) ≡ refusal_number e
          → refuses (0, false) e ≡ records_answer W n bytes
      unfolding records_answer
      judging_bad e bad =
          answer_refuses (0, false) (n, is_rising (read_records W n bytes)) _ e
          (sym (all_next ∙ first_bad W (read_record W rest) (read_records W (n - (i + 1)) (drop ((i + 1) * size) bytes)) (refusal_number e) (number_pos e) (sym one_reasons ∙ bad)))

  pub judging_end : n ≤ i → gives (n, rises) ≡ records_answer W n bytes
  unfolding records_answer
  judging_end h =
      let none : read_records W (n - i) rest ≡ [] = ap (λ (k : ℕ). read_records W k rest) (let z : n - i ≡ 0 = omega arith in z) ∙ reads_none W rest in
      let up : is_rising (read_records W n bytes) ≡ rises = J.rising ∙ ap (λ bs. rises && rises_from last bs) none ∙ ap (λ r. rises && r) (rises_none last) ∙ and-true rises in
      ap (λ t. gives (n, t)) (sym up)
      ∙ answer_gives (0, false) (n, is_rising (read_records W n bytes)) _ (J.reasons ∙ ap (λ bs. first_of (records_reasons W bs)) none ∙ no_reasons W)
