-- The fields of a line: what is read as each, and what the code's answers say of it. Assumes nothing.
use Rattle.std.specs.Prelude.{Option, Some, None, Result, Ok, Err}
use Rattle.std.specs.Result.{result_ok}
use mathlib.Core.Path.{◌≡◌, refl, sym, ap}
use mathlib.Core.Bool.{Bool, true, false, cond, not}
use mathlib.Core.List.{List, [], ◌∷◌}
use Prim.Native.Nat.{ℕ, ◌≤◌, ◌<◌}
use native.Mathlib.Omega.{arith}
use borrow.Author.Tests.{leb-true, le-leb, lt-leb}
use lib.Dec.{leb, ltb}
use lib.ListN.{length}
use Rattle.address.specs.declared.Address.{Address}
use Rattle.address.specs.declared.Refusal.{Refusal}
use Rattle.address.specs.Answers.{gives, refuses, no_address, precedence, read_answer, reading_answer}
use Rattle.address.proofs.AnswerLaws.{number_pos}
use Rattle.digits.specs.Numerals.{leading_zero, bounded_number, text_number, digit_of}
use Rattle.notation.specs.Pieces.{contains}
use Rattle.digits.proofs.NumeralLaws.{no_digit}
use Rattle.digits.proofs.FirstPieceLaws.{bounded_reads, at_most_says}
use Rattle.text.specs.Strict.{strict_of, strict_answer, known_family}
use Rattle.sheet_lines.specs.Lines.{number_to, at_least, address_of, volume_of, ph_of, entry_of}

-- ---- numbers

module _ (m : ℕ) (t : List ℕ) where
  pub number_zero : leading_zero t ≡ true → number_to m t ≡ None
  unfolding number_to
  number_zero h = rw h

  pub number_rest : leading_zero t ≡ false → number_to m t ≡ bounded_number 10 m t
  unfolding number_to
  number_rest h = rw h

  pub number_says : (v : ℕ) → number_to m t ≡ Some v → (bounded_number 10 m t ≡ Some v) × (leading_zero t ≡ false)
  unfolding number_to
  number_says v e = go (leading_zero t) refl e
    where
      go : (b : Bool) → leading_zero t ≡ b → cond b None (bounded_number 10 m t) ≡ Some v → (bounded_number 10 m t ≡ Some v) × (leading_zero t ≡ false)
      go true q k = let z : ◌≡◌ {A = ℕ} 0 1 = cc in absurd (omega arith)
      go false q k = (k, q)

  pub number_most : (v : ℕ) → number_to m t ≡ Some v → v ≤ m
  number_most v e = (at_most_says m v (text_number 10 t) (number_says v e).0).1

  -- a byte that is no digit is in no number
  pub number_lacks : (b v : ℕ) → digit_of b ≡ 16 → number_to m t ≡ Some v → contains b t ≡ false
  number_lacks b v d e = no_digit 10 b t (omega arith) d (bounded_reads 10 m t v (number_says v e).0)

  pub number_none : (b : ℕ) → digit_of b ≡ 16 → contains b t ≡ true → number_to m t ≡ None
  number_none b d h = go (number_to m t) refl
    where
      go : (o : Option ℕ) → number_to m t ≡ o → o ≡ None
      go None e = refl
      go (Some v) e = let l = number_lacks b v d e in let z : ◌≡◌ {A = ℕ} 0 1 = cc in absurd (omega arith)

pub least_some : (m v : ℕ) → m ≤ v → at_least m (Some v) ≡ Some v
least_some m v h = rw (le-leb m v h)

pub least_none : (m v : ℕ) → v < m → at_least m (Some v) ≡ None
least_none m v h = rw (lt-leb m v h)

pub least_says : (m v : ℕ) (o : Option ℕ) → at_least m o ≡ Some v → (o ≡ Some v) × (m ≤ v)
least_says m v None e = let z : ◌≡◌ {A = ℕ} 0 1 = cc in absurd (omega arith)
least_says m v (Some w) e = go (leb m w) refl e
  where
    go : (b : Bool) → leb m w ≡ b → cond b (Some w) None ≡ Some v → (Some w ≡ Some v) × (m ≤ v)
    go true q k = (k, let s : w ≡ v = cc in omega (arith, leb-true m w q))
    go false q k = let z : ◌≡◌ {A = ℕ} 0 1 = cc in absurd (omega arith)

-- ---- the volume and the pH, from what the code's reader answers

module _ (t : List ℕ) where
  pub volume_none : number_to 999999 t ≡ None → volume_of t ≡ None
  unfolding volume_of
  volume_none e = rw e

  pub volume_zero : (v : ℕ) → number_to 999999 t ≡ Some v → v < 1 → volume_of t ≡ None
  unfolding volume_of
  volume_zero v e h = rw e (least_none 1 v h)

  pub volume_some : (v : ℕ) → number_to 999999 t ≡ Some v → 1 ≤ v → volume_of t ≡ Some v
  unfolding volume_of
  volume_some v e h = rw e (least_some 1 v h)

  pub ph_is : ph_of t ≡ number_to 1400 t
  unfolding ph_of
  ph_is = refl

  -- ---- the address

  address_read : (a : Address) → gives a ≡ strict_answer 0 t → address_of t ≡ Some a
  unfolding address_of strict_answer read_answer
  address_read a h = go (ltb 64 (length t)) (strict_of 0 t) h
    where
      go : (b : Bool) (o : Option Address) → gives a ≡ read_answer precedence no_address ((9, not (known_family 0)) ∷ (1, b) ∷ []) o → cond b None o ≡ Some a
      go true o e = absurd (let z : ◌≡◌ {A = ℕ} 0 1 = ap (λ r. r.number) e in omega arith)
      go false None e = absurd (let z : ◌≡◌ {A = ℕ} 0 2 = ap (λ r. r.number) e in omega arith)
      go false (Some x) e = ap Some (sym (ap (λ r. r.fields) e))

  address_refused : (e : Refusal) → refuses no_address e ≡ strict_answer 0 t → address_of t ≡ None
  unfolding address_of strict_answer read_answer
  address_refused r h = go (ltb 64 (length t)) (strict_of 0 t) h
    where
      go : (b : Bool) (o : Option Address) → refuses no_address r ≡ read_answer precedence no_address ((9, not (known_family 0)) ∷ (1, b) ∷ []) o → cond b None o ≡ None
      go true o e = refl
      go false None e = refl
      go false (Some x) e = absurd (omega (arith, number_pos r, ap (λ q. q.number) e))

-- what the reader of addresses answers, as what the text holds
pub address_found : (t : List ℕ) (r : Result Address Refusal) → reading_answer r ≡ strict_answer 0 t → address_of t ≡ result_ok r
address_found t (Ok a) h = address_read t a h
address_found t (Err e) h = address_refused t e h

pub no_ph : (a : Option Address) (v : Option ℕ) → entry_of a v None ≡ None
no_ph None v = refl
no_ph (Some a) None = refl
no_ph (Some a) (Some v) = refl
