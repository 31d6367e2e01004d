-- The largest number up to a bound that passes a test, told by what passes and what does not. Assumes nothing.
use mathlib.Core.Path.{◌≡◌, refl, sym, ◌∙◌}
use mathlib.Core.Bool.{Bool, true, false}
use Prim.Native.Nat.{ℕ, zero, suc, ◌≤◌}
use native.Mathlib.Nat.{le_refl}
use native.Mathlib.Omega.{arith}
use Rattle.cover.specs.Blocks.{greatest}

module _ (test : ℕ → Bool) where
  step_yes : (m : ℕ) → test (suc m) ≡ true → greatest test (suc m) ≡ suc m
  unfolding greatest
  step_yes m e = rw (e, greatest)

  step_no : (m : ℕ) → test (suc m) ≡ false → greatest test (suc m) ≡ greatest test m
  unfolding greatest
  step_no m e = rw (e, greatest)

  pub greatest_le : (m : ℕ) → greatest test m ≤ m
  unfolding greatest
  greatest_le zero = le_refl 0
  greatest_le (suc m) = go (test (suc m)) refl (greatest_le m)
    where
      go : (t : Bool) → test (suc m) ≡ t → greatest test m ≤ m → greatest test (suc m) ≤ suc m
      go true e ih = omega (arith, step_yes m e)
      go false e ih = omega (arith, step_no m e)

  pub greatest_passes : (m : ℕ) → test 0 ≡ true → test (greatest test m) ≡ true
  unfolding greatest
  greatest_passes zero z = z
  greatest_passes (suc m) z = go (test (suc m)) refl (greatest_passes m z)
    where
      go : (t : Bool) → test (suc m) ≡ t → test (greatest test m) ≡ true → test (greatest test (suc m)) ≡ true
      go true e ih = rw (step_yes m e) e
      go false e ih = rw (step_no m e) ih

  pub greatest_max : (m k : ℕ) → k ≤ m → test k ≡ true → k ≤ greatest test m
  unfolding greatest
  greatest_max zero k l h = l
  greatest_max (suc m) k l h = go (test (suc m)) refl (λ n. greatest_max m k n h)
    where
      go : (t : Bool) → test (suc m) ≡ t → (k ≤ m → k ≤ greatest test m) → k ≤ greatest test (suc m)
      go true e ih = rw (step_yes m e) l
      go false e ih =
          let other : ¬ (k ≡ suc m) = λ q. let z : ◌≡◌ {A = Bool} true false = sym (rw q at h) ∙ e in let n : ◌≡◌ {A = ℕ} 0 1 = cc in omega arith in
          rw (step_no m e) (ih (omega arith))
