-- By which number a list is refused, and when. Assumes nothing.
use mathlib.Core.Path.{◌≡◌, refl, sym, subst, ◌∙◌}
use mathlib.Core.Logic.{◌⊎◌, inl, inr, ◌↔◌}
use mathlib.Core.Bool.{Bool, true, false, cond, not}
use mathlib.Core.List.{List, [], ◌∷◌}
use Prim.Native.Nat.{ℕ, ◌%◌, ◌≤◌, ◌<◌}
use native.Mathlib.Omega.{arith}
use borrow.Author.Tests.{eqb-true, eqb-false, ltb-true, not-true, not-false, ne_eqb, eq-eqb, lt-ltb}
use lib.Dec.{eqb, ltb}
use lib.ListN.{length}
use Rattle.notation.specs.BigEndian.{AllBelow}
use Rattle.cover.specs.Blocks.{Block, size, AllBlocks}
use Rattle.address.specs.declared.Refusal.{Refusal}
use Rattle.address.specs.Answers.{refusal_number, first_of}
use Rattle.address.proofs.AnswerLaws.{number_pos}
use Rattle.address.proofs.Claims.{one_number}
use Rattle.records.specs.Records.{record_size}
use Rattle.record_lists.specs.RecordLists.{is_family, family_width, most_records, record_count, list_blocks, records_reasons, list_refusal}
use Rattle.record_lists.specs.ListForm.{FirstBad}
use Rattle.record_lists.proofs.AnswerLaws.{family_octets}
use Rattle.record_lists.proofs.GoodLaws.{not_first, blocks_fine, fine_blocks, by_records}
use Rattle.record_lists.proofs.ListFormLaws.{all_judged, bad_number, list_refusal_lem}

-- the first has that number, and none behind it has
is_first : (t : Bool) (k r : ℕ) → ¬ (r ≡ k) → cond t k r ≡ k → t ≡ true
is_first true k r n e = refl
is_first false k r n e = absurd (n e)

-- records are refused by 4, by 5 or not at all
rule_number : (p q : Bool) (rest n : ℕ) → (rest ≡ n → (n ≡ 0) ⊎ (n ≡ 4) ⊎ (n ≡ 5)) → cond p 4 (cond q 5 rest) ≡ n → (n ≡ 0) ⊎ (n ≡ 4) ⊎ (n ≡ 5)
rule_number true q rest n h e = inr (inl (sym e))
rule_number false true rest n h e = inr (inr (sym e))
rule_number false false rest n h e = h e

rule_numbers : (W : ℕ) (bs : List Block) (n : ℕ) → first_of (records_reasons W bs) ≡ n → (n ≡ 0) ⊎ (n ≡ 4) ⊎ (n ≡ 5)
unfolding first_of records_reasons
rule_numbers W [] n e = inl (sym e)
rule_numbers W (b ∷ bs) n e = rule_number (ltb W b.length) (not (eqb (b.address % size W b) 0)) (first_of (records_reasons W bs)) n (rule_numbers W bs n) e

no_rule : (W : ℕ) (bs : List Block) (n : ℕ) → eqb n 0 ≡ false → eqb n 4 ≡ false → eqb n 5 ≡ false → ¬ (first_of (records_reasons W bs) ≡ n)
no_rule W bs n no0 no4 no5 e = elim (rule_numbers W bs n e) [ inl z ↦ eqb-false n 0 no0 z | inr (inl z) ↦ eqb-false n 4 no4 z | inr (inr z) ↦ eqb-false n 5 no5 z ]

module _ (f : ℕ) (bytes : List ℕ) where
  abbrev W : ℕ
  W = family_width f

  abbrev rule : ℕ
  rule = first_of (records_reasons W (list_blocks f bytes))

  abbrev whole : Bool
  whole = eqb (length bytes % record_size W) 0

  abbrev many : Bool
  many = ltb most_records (record_count f bytes)

  pub numbers : (n : ℕ) → list_refusal f bytes ≡ n → (n ≡ 0) ⊎ (n ≡ 2) ⊎ (n ≡ 4) ⊎ (n ≡ 5) ⊎ (n ≡ 9) ⊎ (n ≡ 10)
  unfolding list_refusal
  numbers n e = go (not (is_family f)) (not whole) many e
    where
      go : (u p m : Bool) → cond u 9 (cond p 2 (cond m 10 rule)) ≡ n → (n ≡ 0) ⊎ (n ≡ 2) ⊎ (n ≡ 4) ⊎ (n ≡ 5) ⊎ (n ≡ 9) ⊎ (n ≡ 10)
      go true p m e = inr (inr (inr (inr (inl (sym e)))))
      go false true m e = inr (inl (sym e))
      go false false true e = inr (inr (inr (inr (inr (sym e)))))
      go false false false e = elim (rule_numbers W (list_blocks f bytes) n e) [ inl z ↦ inl z | inr (inl z) ↦ inr (inr (inl z)) | inr (inr z) ↦ inr (inr (inr (inl z))) ]

  no_rule_here : (n : ℕ) → eqb n 0 ≡ false → eqb n 4 ≡ false → eqb n 5 ≡ false → ¬ (rule ≡ n)
  no_rule_here = no_rule W (list_blocks f bytes)

  pub nine : (list_refusal f bytes ≡ 9) ↔ (is_family f ≡ false)
  unfolding list_refusal
  nine = (λ e. not-true _ (is_first (not (is_family f)) 9 _ behind e), λ u. rw u)
    where
      behind : ¬ (cond (not whole) 2 (cond many 10 rule) ≡ 9)
      behind e = let (p, e1) = not_first (not whole) 2 _ 9 refl e in let (m, e2) = not_first many 10 _ 9 refl e1 in no_rule_here 9 refl refl refl e2

  pub two : (list_refusal f bytes ≡ 2) ↔ ((is_family f ≡ true) × ¬ (length bytes % record_size W ≡ 0))
  unfolding list_refusal
  two = (to, λ p. rw (p.0, ne_eqb (length bytes % record_size W) 0 p.1))
    where
      behind : ¬ (cond many 10 rule ≡ 2)
      behind e = let (m, e1) = not_first many 10 _ 2 refl e in no_rule_here 2 refl refl refl e1

      to : list_refusal f bytes ≡ 2 → (is_family f ≡ true) × ¬ (length bytes % record_size W ≡ 0)
      to e = let (k, e1) = not_first (not (is_family f)) 9 _ 2 refl e in (not-false _ k, eqb-false _ 0 (not-true _ (is_first (not whole) 2 _ behind e1)))

  pub ten : (list_refusal f bytes ≡ 10) ↔ ((is_family f ≡ true) × (length bytes % record_size W ≡ 0) × (most_records < record_count f bytes))
  unfolding list_refusal
  ten = (to, λ p. rw (p.0, eq-eqb (length bytes % record_size W) 0 p.1, lt-ltb most_records (record_count f bytes) p.2))
    where
      to : list_refusal f bytes ≡ 10 → (is_family f ≡ true) × (length bytes % record_size W ≡ 0) × (most_records < record_count f bytes)
      to e =
          let (k, e1) = not_first (not (is_family f)) 9 _ 10 refl e in
          let (w, e2) = not_first (not whole) 2 _ 10 refl e1 in
          (not-false _ k, eqb-true _ 0 (not-false _ w), ltb-true most_records _ (is_first many 10 rule (no_rule_here 10 refl refl refl) e2))

  module _ (small : AllBelow 256 bytes) where
    pub none : (list_refusal f bytes ≡ 0) ↔ ((is_family f ≡ true) × (length bytes % record_size W ≡ 0) × (record_count f bytes ≤ most_records) × AllBlocks W (list_blocks f bytes))
    unfolding list_blocks
    none = (
      λ e. let (k, w, m, s) = by_records f bytes 0 refl refl refl e in (k, w, m, fine_blocks W (family_octets f) (record_count f bytes) bytes small s),
      λ (k, w, m, h). list_refusal_lem f bytes k w m ∙ blocks_fine W (list_blocks f bytes) h,
    )

    -- records that are refused by that number
    bad : (e : Refusal) → rule ≡ refusal_number e → FirstBad W (list_blocks f bytes) e
    unfolding list_blocks
    bad e h = elim (all_judged W (family_octets f) (record_count f bytes) bytes small) [
      | inl good ↦ absurd (omega (arith, number_pos e, h, blocks_fine W (list_blocks f bytes) good))
      | inr (e', b) ↦ subst (FirstBad W (list_blocks f bytes)) (one_number e' e (sym (bad_number W b) ∙ h)) b
    ]

    pub by_rule : (e : Refusal) → eqb 9 (refusal_number e) ≡ false → eqb 2 (refusal_number e) ≡ false → eqb 10 (refusal_number e) ≡ false
        → (list_refusal f bytes ≡ refusal_number e) ↔ ((is_family f ≡ true) × (length bytes % record_size W ≡ 0) × (record_count f bytes ≤ most_records) × FirstBad W (list_blocks f bytes) e)
    by_rule e no9 no2 no10 = (
      λ h. let (k, w, m, s) = by_records f bytes (refusal_number e) no9 no2 no10 h in (k, w, m, bad e s),
      λ (k, w, m, b). list_refusal_lem f bytes k w m ∙ bad_number W b,
    )
