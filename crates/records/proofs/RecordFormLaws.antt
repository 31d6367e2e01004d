-- Bytes read as a record: the form that they have, and what reading answers. Assumes nothing.
use Rattle.std.specs.Prelude.{Some}
use mathlib.Core.Path.{◌≡◌, refl, sym, ap, subst, ◌∙◌}
use mathlib.Core.List.{List, [], ◌∷◌, ◌++◌}
use Prim.Native.Nat.{ℕ, zero, suc, ◌-◌, ◌%◌, ◌^◌}
use native.Mathlib.Decide.{dec_le, ℕ_discrete}
use native.Mathlib.Omega.{arith}
use borrow.Author.Tests.{eq-eqb, ne_eqb}
use lib.Dec.{lit<}
use lib.ListN.{length, take, drop, get_or, length-drop}
use lib.Seq.{length-take-le}
use Rattle.notation.specs.BigEndian.{AllBelow, digits_of, number_of}
use Rattle.notation.proofs.DigitLaws.{below_take, below_drop, number_below, number_digits, halves_digits}
use Rattle.address.specs.declared.Address.{Address}
use Rattle.address.specs.declared.Address.TheVariants.{V4}
use Rattle.address.specs.declared.Block.{Block}
use Rattle.address.specs.declared.Refusal.TheVariants.{LengthTooLarge, BitsBeyondLength}
use Rattle.address.specs.Addresses.{IsAddress, width, number}
use Rattle.address.specs.Answers.{precedence, Answer, no_block, read_answer}
use Rattle.address.specs.Blocks.{block_reasons}
use Rattle.address.proofs.BlockLaws.{refusal_length, refusal_bits, refusal_neither, read_valid, read_refused}
use Rattle.octets.specs.Octets.{octets, halves}
use Rattle.records.specs.Records.{record_block, record_answer}
use Rattle.records.specs.RecordForm.{RecordForm, address_length, RecordCall, no_record, length_above, bits_beyond_lem, block_record_lem}
use Rattle.records.proofs.RecordLaws.{layout, value_back, answer_block, answer_none, record_other}

-- ---- the form

pub form_reads : {bs : List ℕ} {b : Block} → RecordForm bs b → record_block bs ≡ Some b
form_reads (address_length {b} is) = ap record_block (sym (layout b)) ∙ value_back b is

-- the last byte behind the others
last_byte : (n : ℕ) (bs : List ℕ) → length bs ≡ suc n → take n bs ++ get_or bs n 0 ∷ [] ≡ bs
last_byte n [] l = absurd (omega arith)
last_byte zero (x ∷ []) l = refl
last_byte zero (x ∷ y ∷ bs) l = absurd (omega arith)
last_byte (suc n) (x ∷ bs) l = ap (λ r. x ∷ r) (last_byte n bs (omega arith))

-- the value that so many bytes are read as
value_of : (n : ℕ) (bs : List ℕ) (a : Address) → length bs ≡ suc n → IsAddress a → octets a ≡ take n bs → RecordForm bs (record { address = a; length = get_or bs n 0 })
value_of n bs a l is e = subst (λ t. RecordForm t (record { address = a; length = get_or bs n 0 })) (ap (λ os. os ++ get_or bs n 0 ∷ []) e ∙ last_byte n bs l) (address_length is)

module _ (bs : List ℕ) (small : AllBelow 256 bs) where
  pub form_5 : length bs ≡ 5 → RecordForm bs (record { address = V4 (number_of 256 (take 4 bs)); length = get_or bs 4 0 })
  unfolding octets
  form_5 l =
      let ds = take 4 bs in
      let long : length ds ≡ 4 = length-take-le 4 bs (omega arith) in
      let below = below_take 256 4 bs small in
      value_of 4 bs (V4 (number_of 256 ds)) l (number_below 256 4 ds long below) (ap (λ (n : ℕ). digits_of 256 n (number_of 256 ds)) (sym long) ∙ number_digits 256 (lit< tt) ds below)

  pub form_17 : length bs ≡ 17 → RecordForm bs (record { address = halves 256 8 (take 16 bs); length = get_or bs 16 0 })
  unfolding octets
  form_17 l =
      let ds = take 16 bs in
      let long : length ds ≡ 16 = length-take-le 16 bs (omega arith) in
      let below = below_take 256 16 bs small in
      let is : IsAddress (halves 256 8 ds) = (
        number_below 256 8 (take 8 ds) (length-take-le 8 ds (omega arith)) (below_take 256 8 ds below),
        number_below 256 8 (drop 8 ds) (length-drop 8 ds ∙ ap (λ (n : ℕ). n - 8) long) (below_drop 256 8 ds below),
      ) in
      value_of 16 bs (halves 256 8 ds) l is (halves_digits 256 8 (lit< tt) ds long below)

-- ---- the call

module _ (bs : List ℕ) where
  checked : {b : Block} {r : Answer Block} → RecordForm bs b → r ≡ read_answer precedence no_block (block_reasons b) (Some b) → r ≡ record_answer bs
  checked {b} f e = e ∙ sym (answer_block bs b (form_reads f))

  pub call_answers : {r : Answer Block} → RecordCall bs r → record_answer bs ≡ r
  call_answers (no_record n m) = sym (answer_none bs (record_other bs n m))
  call_answers (length_above {b} f l) = sym (checked f (read_refused b LengthTooLarge (sym (refusal_length b l))))
  call_answers (bits_beyond_lem {b} f l z) = sym (checked f (read_refused b BitsBeyondLength (sym (refusal_bits b l (ne_eqb _ 0 z)))))
  call_answers (block_record_lem {b} f l z) = sym (checked f (read_valid b (refusal_neither b l (eq-eqb _ 0 z))))

  of : {r : Answer Block} → RecordCall bs r → RecordCall bs (record_answer bs)
  of c = subst (RecordCall bs) (sym (call_answers c)) c

  found : {b : Block} → RecordForm bs b → RecordCall bs (record_answer bs)
  found {b} f = elim (dec_le b.length (width b.address)) [
    | yes l ↦ elim (ℕ_discrete (number b.address % 2 ^ (width b.address - b.length)) 0) [ yes z ↦ of (block_record_lem f l z) | no z ↦ of (bits_beyond_lem f l z) ]
    | no l ↦ of (length_above f (omega arith))
  ]

  pub answers_call : AllBelow 256 bs → RecordCall bs (record_answer bs)
  answers_call small = elim (ℕ_discrete (length bs) 5) [
    | yes l ↦ found (form_5 bs small l)
    | no n ↦ elim (ℕ_discrete (length bs) 17) [ yes l ↦ found (form_17 bs small l) | no m ↦ of (no_record n m) ]
  ]
