-- The reading, and the place that its refusal carries. Assumes nothing.
use Rattle.std.specs.Prelude.{Ok, Err, Result}
use mathlib.Core.Path.{◌≡◌, sym, ap, ◌∙◌}
use mathlib.Core.List.{List}
use Prim.Native.Nat.{ℕ}
use borrow.Author.Tests.{eq-eqb, ne_eqb}
use Rattle.address.specs.declared.Address.{Address}
use Rattle.address.specs.declared.Refusal.{Refusal}
use Rattle.address.specs.Answers.{gives, refuses, refusal_number, no_address, reading_answer}
use Rattle.text.specs.Strict.{strict_answer}
use Rattle.place.specs.Place.{fault_place, placed_answer}
use Rattle.strict.specs.Inner.{refused_place}
use Rattle.strict.specs.StrictReading.{strict_reading_answer}

module _ (family : ℕ) (t : List ℕ) (r : Result Address Refusal) (h : reading_answer r ≡ strict_answer family t) where
  -- an address has no place
  pub read_placed : (a : Address) → r ≡ Ok a → strict_reading_answer (Ok a) ≡ placed_answer family t
  unfolding placed_answer
  read_placed a e = let is : gives a ≡ strict_answer family t = ap reading_answer (sym e) ∙ h in rw (← is)

  -- a refusal has that of its number
  pub refused_placed : (e : Refusal) (p : ℕ) → r ≡ Err e → p ≡ refused_place (refusal_number e) family t → strict_reading_answer (Err (record { why = e; place = p })) ≡ placed_answer family t
  unfolding placed_answer
  refused_placed e p k q = let is : refuses no_address e ≡ strict_answer family t = ap reading_answer (sym k) ∙ h in rw (← is, q)

-- ---- the place that a refusal carries

module _ (family : ℕ) (t : List ℕ) (e : Refusal) (n : ℕ) (is : n ≡ refusal_number e) where
  pub other_place : ¬ (n ≡ 2) → 0 ≡ refused_place (refusal_number e) family t
  other_place h = rw (← is, ne_eqb n 2 h)

  pub place_2 : n ≡ 2 → (p : ℕ) → p ≡ fault_place family t → p ≡ refused_place (refusal_number e) family t
  place_2 h p q = rw (← is, eq-eqb n 2 h) q
