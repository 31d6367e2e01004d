-- The pieces of a text, and its first separator. Assumes nothing.
use mathlib.Core.Path.{◌≡◌, refl, sym, ap}
use mathlib.Core.Bool.{Bool, true, false, cond, ◌||◌}
use mathlib.Core.List.{List, [], ◌∷◌, ◌++◌}
use Prim.Native.Nat.{ℕ, zero, suc, ◌≤◌, ◌<◌}
use native.Mathlib.Decide.{dec_lt}
use native.Mathlib.Omega.{arith}
use borrow.Author.Tests.{eqb-true}
use lib.Dec.{eqb}
use lib.ListN.{length, take, drop}
use lib.Seq.{take_all}
use Rattle.notation.specs.Pieces.{contains, index_of, on_first, split_on}

pub index_le : (b : ℕ) (t : List ℕ) → index_of b t ≤ length t
unfolding index_of
index_le b [] = omega arith
index_le b (x ∷ t) =
    let h = index_le b t in
    elim (eqb x b) as (λ e. cond e zero (suc (index_of b t)) ≤ suc (length t)) [ true ↦ omega arith | false ↦ omega arith ]

-- where the first b comes before the end, there is one
pub index_contains : (b : ℕ) (t : List ℕ) → index_of b t < length t → contains b t ≡ true
unfolding index_of contains
index_contains b [] h = absurd (omega arith)
index_contains b (x ∷ t) h = go (index_contains b t) (eqb x b) h
  where
    go : (index_of b t < length t → contains b t ≡ true) → (e : Bool) → cond e zero (suc (index_of b t)) < suc (length t) → (e || contains b t) ≡ true
    go ih true h = refl
    go ih false h = ih (omega arith)

-- where it is the end, there is none
pub index_lacks : (b : ℕ) (t : List ℕ) → length t ≤ index_of b t → contains b t ≡ false
unfolding index_of contains
index_lacks b [] h = refl
index_lacks b (x ∷ t) h = go (index_lacks b t) (eqb x b) h
  where
    go : (length t ≤ index_of b t → contains b t ≡ false) → (e : Bool) → suc (length t) ≤ cond e zero (suc (index_of b t)) → (e || contains b t) ≡ false
    go ih true h = absurd (omega arith)
    go ih false h = ih (omega arith)

-- a text up to the first b, and the pieces of what follows it
pub split_found : (b : ℕ) (t : List ℕ) → index_of b t < length t → split_on b t ≡ take (index_of b t) t ∷ split_on b (drop (suc (index_of b t)) t)
unfolding index_of split_on
split_found b [] h = absurd (omega arith)
split_found b (x ∷ t) h =
    (elim (eqb x b)
    as (λ e. cond e zero (suc (index_of b t)) < suc (length t)
    → cond e ([] ∷ split_on b t) (on_first x (split_on b t))
    ≡ take (cond e zero (suc (index_of b t))) (x ∷ t) ∷ split_on b (drop (suc (cond e zero (suc (index_of b t)))) (x ∷ t)))
    [ true ↦ λ k. refl | false ↦ λ k. rw (split_found b t (omega arith)) ]) h

-- a text with no b is one piece
pub split_last : (b : ℕ) (t : List ℕ) → length t ≤ index_of b t → split_on b t ≡ t ∷ []
unfolding index_of split_on
split_last b [] h = refl
split_last b (x ∷ t) h =
    (elim (eqb x b)
    as (λ e. suc (length t) ≤ cond e zero (suc (index_of b t)) → cond e ([] ∷ split_on b t) (on_first x (split_on b t)) ≡ (x ∷ t) ∷ [])
    [ true ↦ λ k. absurd (omega arith) | false ↦ λ k. rw (split_last b t (omega arith)) ]) h

-- the first piece ends at the first b
pub split_first : (b : ℕ) (t : List ℕ) → (ps : List (List ℕ)) × (split_on b t ≡ take (index_of b t) t ∷ ps)
split_first b t = elim (dec_lt (index_of b t) (length t)) [
  | yes h ↦ (split_on b (drop (suc (index_of b t)) t), split_found b t h)
  | no n ↦ let l : length t ≤ index_of b t = omega arith in ([], rw (take_all (index_of b t) t l) (split_last b t l))
]

-- a text with its first b in the middle
pub around : (b : ℕ) (t : List ℕ) → contains b t ≡ true → take (index_of b t) t ++ b ∷ drop (suc (index_of b t)) t ≡ t
unfolding contains index_of
around b [] h = let z : ◌≡◌ {A = ℕ} 0 1 = cc in absurd (omega arith)
around b (x ∷ t) h = go (eqb x b) refl h (around b t)
  where
    go : (p : Bool) → eqb x b ≡ p → (p || contains b t) ≡ true → (contains b t ≡ true → take (index_of b t) t ++ b ∷ drop (suc (index_of b t)) t ≡ t)
        → take (cond p 0 (suc (index_of b t))) (x ∷ t) ++ b ∷ drop (suc (cond p 0 (suc (index_of b t)))) (x ∷ t) ≡ x ∷ t
    go true q k ih = ap (λ (y : ℕ). y ∷ t) (sym (eqb-true x b q))
    go false q k ih = ap (λ r. x ∷ r) (ih k)
