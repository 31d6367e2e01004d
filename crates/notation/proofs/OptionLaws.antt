-- What is there, and what is not. Assumes nothing.
use Rattle.std.specs.Prelude.{Option, Some, None, Result, Ok, Err, ok_or, IsErrAnd}
use mathlib.Core.Path.{◌≡◌, refl, sym, ap}
use mathlib.Core.Logic.{◌⊎◌, inl, inr, ◌↔◌, ⊎_elim}
use Prim.Native.Nat.{ℕ}
use native.Mathlib.Omega.{arith}
use Rattle.notation.specs.Options.{or_else}

pub impossible : {A : Type 0} {a : A} {P : Type 0} → None ≡ Some a → P
impossible e = let z : ◌≡◌ {A = ℕ} 0 1 = cc in absurd (omega arith)

pub same_value : {A : Type 0} {a b : A} → Some a ≡ Some b → a ≡ b
same_value e = cc

-- the same of two values
pub same_pair : {A B : Type 0} {a c : A} {b d : B} → ◌≡◌ {A = Option (A × B)} (Some (a, b)) (Some (c, d)) → (a ≡ c) × (b ≡ d)
same_pair {A} {B} e = let p = same_value e in (ap (λ (q : A × B). q.0) p, ap (λ (q : A × B). q.1) p)

-- what an answer that is an error without a value says of the value
pub ok_is : {A E : Type 0} {a : A} (o : Option A) (e : E) → Ok a ≡ ok_or o e → o ≡ Some a
ok_is None e h = let z : ◌≡◌ {A = ℕ} 0 1 = cc in absurd (omega arith)
ok_is (Some b) e h = cc

pub err_is : {A E : Type 0} {d : E} (o : Option A) (e : E) → Err d ≡ ok_or o e → o ≡ None
err_is None e h = refl
err_is (Some b) e h = let z : ◌≡◌ {A = ℕ} 0 1 = cc in absurd (omega arith)

pub err_says : {A E : Type 0} {d e : E} (o : Option A) → Err d ≡ ok_or o e → d ≡ e
err_says None h = cc
err_says (Some b) h = let z : ◌≡◌ {A = ℕ} 0 1 = cc in absurd (omega arith)

-- what `?` answers of an error
pub passed_on : {A E : Type 0} {r : Result A E} {e : E} → IsErrAnd r (λ x. x ≡ e) → r ≡ Err e
passed_on {r = Err x} h = ap Err h
passed_on {r = Ok a} h = absurd h

-- nothing is there where no value is
pub nothing_there : {A : Type 0} (o : Option A) → ((a : A) → o ≡ Some a → ⊥) → o ≡ None
nothing_there None n = refl
nothing_there (Some a) n = absurd (n a refl)

-- the first that is there
pub or_none : {A : Type 0} (o : Option A) → or_else o None ≡ o
or_none None = refl
or_none (Some a) = refl

pub or_else_exactly : {A : Type 0} (o u : Option A) (a : A) → (or_else o u ≡ Some a) ↔ ((o ≡ Some a) ⊎ (o ≡ None) × (u ≡ Some a))
or_else_exactly None u a = (λ e. inr (refl, e), λ h. ⊎_elim (λ e. impossible e) (λ e. e.1) h)
or_else_exactly (Some b) u a = (λ e. inl e, λ h. ⊎_elim (λ e. e) (λ e. impossible (sym e.0)) h)
