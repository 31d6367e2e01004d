-- One record as the code judges it. Assumes nothing.
use Rattle.std.specs.Prelude.{Some}
use mathlib.Core.Path.{◌≡◌, refl, sym, ap, ap₂, ◌∙◌}
use mathlib.Core.Logic.{inl, inr}
use mathlib.Core.Bool.{Bool, cond}
use mathlib.Core.List.{List, [], ◌∷◌}
use Prim.Native.Nat.{ℕ, ◌+◌, ◌*◌, ◌/◌, ◌^◌, ◌≤◌, ◌<◌}
use native.Mathlib.Omega.{arith}
use borrow.Author.Tests.{eq-eqb}
use lib.ListN.{length, take, drop, get_or, length-drop, take-append-drop}
use lib.Seq.{length-take-le, take-take, get_or-take}
use Rattle.notation.specs.BigEndian.{number_of}
use Rattle.notation.proofs.DigitLaws.{number_append}
use Rattle.address.specs.declared.Address.TheVariants.{V4}
use Rattle.address.specs.declared.Block.{Block}
use Rattle.address.specs.declared.Refusal.{Refusal}
use Rattle.address.specs.Addresses.{width, number}
use Rattle.address.specs.Answers.{precedence, Answer, gives, refuses, refusal_number, no_block, read_answer, first_of}
use Rattle.address.specs.Blocks.{numbered, too_long, bits_beyond, block_reasons}
use Rattle.octets.specs.Octets.{halves}
use Rattle.records.specs.Records.{record_size, read_record, record_block, record_answer}
use Rattle.records.proofs.RecordLaws.{answer_block}
use Rattle.record_lists.specs.RecordLists.{record_reasons}
use Rattle.record_lists.specs.Inner.{IsSize, size_width}

-- the two rules in the order of 01's table, and one after the other
two_rules : (p q : Bool) → cond p 4 (cond q 5 0) ≡ first_of ((4, p) ∷ (5, q) ∷ [])
unfolding first_of
two_rules p q = refl

-- the block value of a record
record Value (bs : List ℕ) (v : Block) : Type 0 where
  is : record_block bs ≡ Some v
  same : numbered v ≡ read_record (size_width (length bs)) bs
  wide : width v.address ≡ size_width (length bs)

fields_zero : (v : Block) → (read_answer precedence no_block (block_reasons v) (Some v)).number ≡ 0 → (read_answer precedence no_block (block_reasons v) (Some v)).fields ≡ v
unfolding read_answer
fields_zero v z = rw (eq-eqb _ 0 z)

module _ (bs : List ℕ) where
  value_5 : length bs ≡ 5 → (v : Block) × Value bs v
  unfolding record_block read_record
  value_5 l = (record { address = V4 (number_of 256 (take 4 bs)); length = get_or bs 4 0 }, record { is = rw l; same = rw l; wide = rw l })

  sixteen : length bs ≡ 17 → number (halves 256 8 (take 16 bs)) ≡ number_of 256 (take 16 bs)
  sixteen l =
      let t = take 16 bs in
      let long : length t ≡ 16 = length-take-le 16 bs (omega arith) in
      let low : length (drop 8 t) ≡ 8 = omega (arith, length-drop 8 t) in
      sym (ap (number_of 256) (sym (take-append-drop 8 t)) ∙ number_append 256 (take 8 t) (drop 8 t) ∙ ap (λ (k : ℕ). number_of 256 (take 8 t) * 256 ^ k + number_of 256 (drop 8 t)) low)

  value_17 : length bs ≡ 17 → (v : Block) × Value bs v
  unfolding record_block read_record
  value_17 l = (
    record { address = halves 256 8 (take 16 bs); length = get_or bs 16 0 },
    record {
      is = rw l;
      same = rw l (λ i. record { address = sixteen l i; length = get_or bs 16 0 });
      wide = rw l;
    },
  )

  value : IsSize (length bs) → (v : Block) × Value bs v
  value s = elim s [ inl l ↦ value_5 l | inr l ↦ value_17 l ]

  abbrev rules : ℕ
  rules = first_of (record_reasons (size_width (length bs)) (read_record (size_width (length bs)) bs))

  answer_number : (v : Block) → Value bs v → (record_answer bs).number ≡ rules
  unfolding read_answer
  answer_number v d =
      ap (λ (a : Answer Block). a.number) (answer_block bs v d.is) ∙ two_rules (too_long v) (bits_beyond v)
      ∙ ap₂ (λ (W : ℕ) b. first_of (record_reasons W b)) d.wide d.same

  -- a record that was read
  pub judged_good : IsSize (length bs) → (b : Block) → gives b ≡ record_answer bs → (a : ℕ) → a ≡ number b.address
      → (rules ≡ 0) × (a ≡ (read_record (size_width (length bs)) bs).address)
  judged_good s b e a p =
      let (v, d) = value s in
      let zero : 0 ≡ (record_answer bs).number = ap (λ (x : Answer Block). x.number) e in
      let own = answer_block bs v d.is in
      let test : (record_answer bs).fields ≡ v = ap (λ (x : Answer Block). x.fields) own ∙ fields_zero v (ap (λ (x : Answer Block). x.number) (sym own) ∙ sym zero) in
      let is : b ≡ v = ap (λ (x : Answer Block). x.fields) e ∙ test in
      (sym (zero ∙ answer_number v d), p ∙ ap (λ (x : Block). number x.address) is ∙ ap (λ c. c.address) d.same)

  -- and one that was refused
  pub judged_bad : IsSize (length bs) → (e : Refusal) → refuses no_block e ≡ record_answer bs → rules ≡ refusal_number e
  judged_bad s e h = let (v, d) = value s in sym (ap (λ (x : Answer Block). x.number) h ∙ answer_number v d)

-- the bytes behind a record are no part of it
pub record_front : (W : ℕ) (bs : List ℕ) → read_record W (take (record_size W) bs) ≡ read_record W bs
unfolding read_record
record_front W bs =
    let k : W / 8 ≤ record_size W = omega arith in
    let h : W / 8 < record_size W = omega arith in
    λ i. record { address = number_of 256 (take-take (W / 8) (record_size W) bs k i); length = get_or-take (record_size W) bs (W / 8) 0 h i }
