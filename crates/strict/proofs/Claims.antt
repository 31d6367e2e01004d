-- What is claimed of the strict reader: what its answer says of the text, case by case. That exactly the texts of the published grammar are
-- read, and the place over that grammar, is claimed in `grammar`. Assumes nothing.
use Rattle.std.specs.Prelude.{Ok, Err, Result}
use mathlib.Core.Path.{◌≡◌, sym, ap, ◌∙◌}
use mathlib.Core.Logic.{◌↔◌}
use mathlib.Core.List.{List}
use Prim.Native.Nat.{ℕ}
use native.Mathlib.Omega.{arith}
use Rattle.address.specs.declared.Address.{Address}
use Rattle.address.specs.declared.Refusal.{Refusal}
use Rattle.address.specs.declared.Refusal.TheVariants.{Malformed}
use Rattle.address.specs.Answers.{gives, refusal_number}
use Rattle.address.proofs.AnswerLaws.{number_pos}
use Rattle.address.proofs.Claims.{one_number}
use Rattle.text.specs.Strict.{strict_answer}
use Rattle.place.specs.Place.{LongestBeginning, placed_answer}
use Rattle.place.proofs.Claims.{place_of_2, no_other_place}
use Rattle.strict.specs.declared.Fault.{Fault}
use Rattle.strict.specs.StrictReading.{strict_reading_answer}

-- A promise about the paper's answer fixes the reading.
pub one_strict_reading : (r s : Result Address Fault) → strict_reading_answer r ≡ strict_reading_answer s → r ≡ s
one_strict_reading (Ok a) (Ok b) h = ap (λ x. Ok x.fields.0) h
one_strict_reading (Ok a) (Err f) h = let z : 0 ≡ refusal_number f.why = ap (λ x. x.number) h in absurd (omega (arith, number_pos f.why, z))
one_strict_reading (Err e) (Ok b) h = let z : refusal_number e.why ≡ 0 = ap (λ x. x.number) h in absurd (omega (arith, number_pos e.why, z))
one_strict_reading (Err e) (Err f) h = ap Err (λ i. record { why = one_number e.why f.why (ap (λ x. x.number) h) i; place = (h i).fields.1 })

-- Whatever answers as `read_address` promises to:
module _ (family : ℕ) (t : List ℕ) where
  abbrev Promised : Result Address Fault → Type 0
  Promised r = strict_reading_answer r ≡ placed_answer family t

  -- it reads an address exactly if the text means it,
  pub read_exactly : (r : Result Address Fault) → Promised r → (a : Address) → (r ≡ Ok a) ↔ (strict_answer family t ≡ gives a)
  unfolding placed_answer
  read_exactly r promise a = (
    λ e. let is = sym promise ∙ ap strict_reading_answer e in λ i. record { number = (is i).number; fields = (is i).fields.0 },
    λ e.
        let none : (placed_answer family t).fields.1 ≡ 0 = no_other_place family t (λ two. let zero : (strict_answer family t).number ≡ 0 = ap (λ x. x.number) e in omega (arith, zero, two)) in
        one_strict_reading r (Ok a) (promise ∙ (λ i. record { number = (e i).number; fields = ((e i).fields, none i) })),
  )

  -- and refuses it by 2 at a place exactly if 01 refuses it by 2 and the place is the length of the longest beginning.
  pub malformed_exactly : (r : Result Address Fault) → Promised r → (p : ℕ) → (r ≡ Err (record { why = Malformed; place = p })) ↔ (((strict_answer family t).number ≡ 2) × LongestBeginning family t p)
  unfolding placed_answer
  malformed_exactly r promise p = (
    λ e.
        let is = sym promise ∙ ap strict_reading_answer e in
        let two : (strict_answer family t).number ≡ 2 = ap (λ x. x.number) is in
        (two, (place_of_2 family t two p).0 (ap (λ x. x.fields.1) is)),
    λ h. at r promise h.0 ((place_of_2 family t h.0 p).1 h.1),
  )
    where
      at : (r : Result Address Fault) → Promised r → (strict_answer family t).number ≡ 2 → (placed_answer family t).fields.1 ≡ p → r ≡ Err (record { why = Malformed; place = p })
      at (Ok a) promise two is = let zero : 0 ≡ (strict_answer family t).number = ap (λ x. x.number) promise in absurd (omega (arith, zero, two))
      at (Err e) promise two is = ap Err (λ i. record { why = one_number e.why Malformed (ap (λ x. x.number) promise ∙ two) i; place = (ap (λ x. x.fields.1) promise ∙ is) i })

  -- Any other refusal has the place 0.
  pub no_other_place_told : (e : Refusal) (p : ℕ) → Promised (Err (record { why = e; place = p })) → ¬ (e ≡ Malformed) → p ≡ 0
  unfolding placed_answer
  no_other_place_told e p promise n =
      let number : refusal_number e ≡ (strict_answer family t).number = ap (λ x. x.number) promise in
      ap (λ x. x.fields.1) promise ∙ no_other_place family t (λ two. n (one_number e Malformed (number ∙ two)))
