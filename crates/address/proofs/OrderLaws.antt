-- Refusals in an order: what holds of a list of conditions, and what an order of numbers gives, a writer's with the room put last. Assumes nothing.
use mathlib.Core.Path.{◌≡◌, refl, sym, ap, ap₂}
use mathlib.Core.Logic.{◌⊎◌, inl, inr}
use mathlib.Core.Bool.{Bool, true, false, cond, ◌||◌, false≢true}
use mathlib.Core.List.{List, [], ◌∷◌, ◌++◌}
use Prim.Native.Nat.{ℕ, zero, suc, ◌≤◌, ◌<◌}
use native.Mathlib.Omega.{arith}
use borrow.Author.Tests.{eqb-true, eqb-false, eq-eqb, ne_eqb}
use lib.Dec.{eqb, ltb}
use lib.ListN.{length, get_or}
use Rattle.address.specs.Answers.{first_of, holds, in_order, refusal, write_refusal}
use Rattle.address.proofs.AnswerLaws.{stands}

-- ---- conditions that hold

-- one more condition of a number
or_true : (t u : Bool) → (t || u) ≡ true → (t ≡ true) ⊎ (u ≡ true)
or_true true u e = inl refl
or_true false u e = inr e

or_right : (t : Bool) → (t || true) ≡ true
or_right true = refl
or_right false = refl

or_left : (t u : Bool) → t ≡ true → (t || u) ≡ true
or_left t u e = rw e

pub holds_listed : (n : ℕ) (cs : List (ℕ × Bool)) → holds n cs ≡ true → (before : List (ℕ × Bool)) × (after : List (ℕ × Bool)) × (cs ≡ before ++ (n, true) ∷ after)
unfolding holds
holds_listed n [] h = absurd (false≢true h)
holds_listed n ((m, t) ∷ cs) h = go (eqb n m) refl h (holds_listed n cs)
  where
    later : (before : List (ℕ × Bool)) × (after : List (ℕ × Bool)) × (cs ≡ before ++ (n, true) ∷ after)
        → (before : List (ℕ × Bool)) × (after : List (ℕ × Bool)) × ((m, t) ∷ cs ≡ before ++ (n, true) ∷ after)
    later (before, after, e) = ((m, t) ∷ before, after, ap (λ xs. (m, t) ∷ xs) e)

    go : (z : Bool) → eqb n m ≡ z → elim z [ true ↦ holds n cs || t | false ↦ holds n cs ] ≡ true
        → (holds n cs ≡ true → (before : List (ℕ × Bool)) × (after : List (ℕ × Bool)) × (cs ≡ before ++ (n, true) ∷ after))
        → (before : List (ℕ × Bool)) × (after : List (ℕ × Bool)) × ((m, t) ∷ cs ≡ before ++ (n, true) ∷ after)
    go false q h ih = later (ih h)
    go true q h ih = elim (or_true (holds n cs) t h) [
      | inl e ↦ later (ih e)
      | inr e ↦ ([], cs, ap₂ (λ k b. (k, b) ∷ cs) (sym (eqb-true n m q)) e)
    ]

pub listed_holds : (n : ℕ) (before after : List (ℕ × Bool)) → holds n (before ++ (n, true) ∷ after) ≡ true
unfolding holds
listed_holds n [] after = rw (eq-eqb n n refl, holds) (or_right (holds n after))
listed_holds n ((m, t) ∷ before) after = go (eqb n m) (listed_holds n before after)
  where
    go : (z : Bool) → holds n (before ++ (n, true) ∷ after) ≡ true → elim z [ true ↦ holds n (before ++ (n, true) ∷ after) || t | false ↦ holds n (before ++ (n, true) ∷ after) ] ≡ true
    go true h = or_left (holds n (before ++ (n, true) ∷ after)) t h
    go false h = h

pub first_holds : (cs : List (ℕ × Bool)) → 0 < first_of cs → holds (first_of cs) cs ≡ true
unfolding first_of holds
first_holds [] h = absurd (omega arith)
first_holds ((m, true) ∷ cs) h = rw (eq-eqb m m refl, holds) (or_right (holds m cs))
first_holds ((m, false) ∷ cs) h = go (eqb (first_of cs) m) (first_holds cs h)
  where
    go : (z : Bool) → holds (first_of cs) cs ≡ true → elim z [ true ↦ holds (first_of cs) cs || false | false ↦ holds (first_of cs) cs ] ≡ true
    go true e = or_left (holds (first_of cs) cs) false e
    go false e = e

-- ---- an order of numbers

module _ (reasons : List (ℕ × Bool)) where
  pub refusal_none : (order : List ℕ) → ((i : ℕ) → i < length order → holds (get_or order i 0) reasons ≡ false) → refusal order reasons ≡ 0
  unfolding refusal
  refusal_none [] h = refl
  refusal_none (n ∷ ns) h = rw (h 0 (omega arith)) (refusal_none ns (λ i l. h (suc i) (omega arith)))

  pub refusal_holds : (order : List ℕ) → 0 < refusal order reasons → holds (refusal order reasons) reasons ≡ true
  unfolding refusal
  refusal_holds [] h = absurd (omega arith)
  refusal_holds (n ∷ ns) h = pick (holds n reasons) (first_of (in_order ns reasons)) refl (refusal_holds ns) h
    where
      pick : (t : Bool) (m : ℕ) → holds n reasons ≡ t → (0 < m → holds m reasons ≡ true) → 0 < cond t n m → holds (cond t n m) reasons ≡ true
      pick true m e ih h = e
      pick false m e ih h = ih h

  pub refusal_first : (order : List ℕ) (i : ℕ) → i < length order → holds (get_or order i 0) reasons ≡ true → (j : ℕ) × (j ≤ i) × (refusal order reasons ≡ get_or order j 0)
  unfolding refusal
  refusal_first [] i l h = absurd (omega arith)
  refusal_first (n ∷ ns) zero l h = (0, omega arith, rw h)
  refusal_first (n ∷ ns) (suc i) l h = pick (holds n reasons) (refusal_first ns i (omega arith) h)
    where
      pick : (t : Bool) → (j : ℕ) × (j ≤ i) × (first_of (in_order ns reasons) ≡ get_or ns j 0) → (j : ℕ) × (j ≤ suc i) × (cond t n (first_of (in_order ns reasons)) ≡ get_or (n ∷ ns) j 0)
      pick true ih = (0, omega arith, refl)
      pick false (j, k, e) = (suc j, omega arith, e)

-- ---- a writer's refusal in an order of numbers

-- neither 0 nor 3 is one of them
unfoldable pub others : List ℕ → Bool
others [] = true
others (n ∷ ns) = cond (eqb n 0 || eqb n 3) false (others ns)

all_others : (ns : List ℕ) → ((i : ℕ) → i < length ns → (0 < get_or ns i 0) × ¬ (get_or ns i 0 ≡ 3)) → others ns ≡ true
unfolding others
all_others [] h = refl
all_others (n ∷ ns) h =
    let f = h 0 (omega arith) in
    rw (ne_eqb n 0 (omega (arith, f.0)), ne_eqb n 3 f.1) (all_others ns (λ i l. h (suc i) (omega arith)))

module _ (reasons : List (ℕ × Bool)) (unlisted : holds 3 reasons ≡ false) where
  -- a number that is not listed may stand last
  pub unlisted_last : (order : List ℕ) → refusal (order ++ 3 ∷ []) reasons ≡ refusal order reasons
  unfolding refusal
  unlisted_last [] = rw unlisted
  unlisted_last (n ∷ ns) = ap (λ m. cond (holds n reasons) n m) (unlisted_last ns)

  -- the numbers of an order come before the room
  pub room_after : (bytes old order : List ℕ) → others order ≡ true
      → write_refusal (refusal order reasons) bytes old ≡ refusal (order ++ 3 ∷ []) ((3, ltb (length old) (length bytes)) ∷ reasons)
  unfolding refusal others
  room_after bytes old [] w = rw unlisted
  room_after bytes old (n ∷ ns) w = go (eqb n 0) refl (eqb n 3) (holds n reasons) refl w (room_after bytes old ns)
    where
      short : Bool
      short = ltb (length old) (length bytes)

      Rest : ℕ
      Rest = first_of (in_order (ns ++ 3 ∷ []) ((3, short) ∷ reasons))

      go : (z : Bool) → eqb n 0 ≡ z → (y t : Bool) → holds n reasons ≡ t → cond (z || y) false (others ns) ≡ true
          → (others ns ≡ true → write_refusal (first_of (in_order ns reasons)) bytes old ≡ Rest)
          → write_refusal (cond t n (first_of (in_order ns reasons))) bytes old ≡ cond (elim y [ true ↦ holds n reasons || short | false ↦ holds n reasons ]) n Rest
      go true q y t h w ih = absurd (false≢true w)
      go false q true t h w ih = absurd (false≢true w)
      go false q false true h w ih = rw h (stands bytes old n (eqb-false n 0 q))
      go false q false false h w ih = rw h (ih w)

  pub room_behind : (bytes old order : List ℕ) → ((i : ℕ) → i < length order → (0 < get_or order i 0) × ¬ (get_or order i 0 ≡ 3))
      → write_refusal (refusal order reasons) bytes old ≡ refusal (order ++ 3 ∷ []) ((3, ltb (length old) (length bytes)) ∷ reasons)
  room_behind bytes old order h = room_after bytes old order (all_others order h)
