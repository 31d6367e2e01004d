-- Which status an input has. Assumes nothing.
use mathlib.Core.Path.{◌≡◌, refl, ap}
use mathlib.Core.Logic.{◌↔◌, ◌⊎◌, inl, inr}
use mathlib.Core.Bool.{Bool, true, false, cond, false≢true}
use Prim.Native.Nat.{ℕ}
use native.Mathlib.Omega.{arith}
use borrow.Author.Tests.{ltb-false, le-ltb}
use lib.Dec.{ltb}
use Rattle.sheet_main.specs.declared.End.{End}
use Rattle.sheet_main.specs.declared.End.TheVariants.{More, Ended, Full, Unread}
use Rattle.sheet_main.specs.Runs.{is_whole, status_of}

pub whole_exactly : (e : End) → (is_whole e ≡ true) ↔ ((e ≡ Ended) ⊎ (e ≡ Full))
whole_exactly e = (to e, from)
  where
    to : (e : End) → is_whole e ≡ true → (e ≡ Ended) ⊎ (e ≡ Full)
    to More h = absurd (false≢true h)
    to Ended h = inl refl
    to Full h = inr refl
    to Unread h = absurd (false≢true h)

    from : (e ≡ Ended) ⊎ (e ≡ Full) → is_whole e ≡ true
    from (inl h) = ap is_whole h
    from (inr h) = ap is_whole h

-- the status of an input of which all is read, by whether something is left to be written
written : (b refused : Bool) → ◌≡◌ {A = ℕ} (cond b 2 (cond refused 1 0)) 0 → (b ≡ false) × (refused ≡ false)
written true refused h = absurd (omega (arith, h))
written false true h = absurd (omega (arith, h))
written false false h = (refl, refl)

told : (b refused : Bool) → ◌≡◌ {A = ℕ} (cond b 2 (cond refused 1 0)) 1 → (b ≡ false) × (refused ≡ true)
told true refused h = absurd (omega (arith, h))
told false true h = (refl, refl)
told false false h = absurd (omega (arith, h))

module _ (refused : Bool) (left : ℕ) where
  none_left : ltb 0 left ≡ false → left ≡ 0
  none_left h = omega (arith, ltb-false 0 left h)

  pub status_0 : (e : End) → (status_of e refused left ≡ 0) ↔ ((is_whole e ≡ true) × (refused ≡ false) × (left ≡ 0))
  status_0 e = (to e, from e)
    where
      all : ◌≡◌ {A = ℕ} (cond (ltb 0 left) 2 (cond refused 1 0)) 0 → (true ≡ true) × (refused ≡ false) × (left ≡ 0)
      all h = let w = written (ltb 0 left) refused h in (refl, w.1, none_left w.0)

      back : refused ≡ false → left ≡ 0 → ◌≡◌ {A = ℕ} (cond (ltb 0 left) 2 (cond refused 1 0)) 0
      back r l = rw (le-ltb 0 left (omega (arith, l)), r)

      to : (e : End) → status_of e refused left ≡ 0 → (is_whole e ≡ true) × (refused ≡ false) × (left ≡ 0)
      to More h = absurd (omega (arith, h))
      to Ended h = all h
      to Full h = all h
      to Unread h = absurd (omega (arith, h))

      from : (e : End) → (is_whole e ≡ true) × (refused ≡ false) × (left ≡ 0) → status_of e refused left ≡ 0
      from More h = absurd (false≢true h.0)
      from Ended h = back h.1 h.2
      from Full h = back h.1 h.2
      from Unread h = absurd (false≢true h.0)

  pub status_1 : (e : End) → (status_of e refused left ≡ 1) ↔ ((is_whole e ≡ true) × (refused ≡ true) × (left ≡ 0))
  status_1 e = (to e, from e)
    where
      all : ◌≡◌ {A = ℕ} (cond (ltb 0 left) 2 (cond refused 1 0)) 1 → (true ≡ true) × (refused ≡ true) × (left ≡ 0)
      all h = let w = told (ltb 0 left) refused h in (refl, w.1, none_left w.0)

      back : refused ≡ true → left ≡ 0 → ◌≡◌ {A = ℕ} (cond (ltb 0 left) 2 (cond refused 1 0)) 1
      back r l = rw (le-ltb 0 left (omega (arith, l)), r)

      to : (e : End) → status_of e refused left ≡ 1 → (is_whole e ≡ true) × (refused ≡ true) × (left ≡ 0)
      to More h = absurd (omega (arith, h))
      to Ended h = all h
      to Full h = all h
      to Unread h = absurd (omega (arith, h))

      from : (e : End) → (is_whole e ≡ true) × (refused ≡ true) × (left ≡ 0) → status_of e refused left ≡ 1
      from More h = absurd (false≢true h.0)
      from Ended h = back h.1 h.2
      from Full h = back h.1 h.2
      from Unread h = absurd (false≢true h.0)

  pub status_else : (e : End) → (status_of e refused left ≡ 0) ⊎ (status_of e refused left ≡ 1) ⊎ (status_of e refused left ≡ 2)
  status_else e = go e
    where
      pick : (b r : Bool) → let s : ℕ = cond b 2 (cond r 1 0) in (s ≡ 0) ⊎ (s ≡ 1) ⊎ (s ≡ 2)
      pick true r = inr (inr refl)
      pick false true = inr (inl refl)
      pick false false = inl refl

      go : (e : End) → (status_of e refused left ≡ 0) ⊎ (status_of e refused left ≡ 1) ⊎ (status_of e refused left ≡ 2)
      go More = inr (inr refl)
      go Ended = pick (ltb 0 left) refused
      go Full = pick (ltb 0 left) refused
      go Unread = inr (inr refl)
