-- A list put in the order of its elements' keys, equal keys in their old order, over any type of elements. Assumes nothing.
use Rattle.std.specs.Prelude.{◌≡◌, cond, ℕ, ◌≤◌, eqb, leb}
use mathlib.Core.List.{List, [], ◌∷◌, Permᴰ}

-- ---- what it is

-- no key is below k
abbrev pub From : {A : Type 0} → (A → ℕ) → ℕ → List A → Type 0
From key k [] = Unit {0}
From key k (x ∷ xs) = (k ≤ key x) × From key k xs

-- each key is at most every later one
abbrev pub Rising : {A : Type 0} → (A → ℕ) → List A → Type 0
Rising key [] = Unit {0}
Rising key (x ∷ xs) = From key (key x) xs × Rising key xs

-- the elements with the key k, in their order
unfoldable pub with_key : {A : Type 0} → (A → ℕ) → ℕ → List A → List A
with_key key k [] = []
with_key key k (x ∷ xs) = cond (eqb (key x) k) (x ∷ with_key key k xs) (with_key key k xs)

-- ys are the elements of xs, each once, in the order of their keys, and those of one key in their old order
pub record StableSort {A : Type 0} (key : A → ℕ) (xs ys : List A) : Type 0 where
  pub each_once : Permᴰ xs ys
  pub rising : Rising key ys
  pub old_order : (k : ℕ) → with_key key k ys ≡ with_key key k xs

-- ---- computed, by insertion

-- x before the first element whose key is not below its own
unfoldable pub insert_by : {A : Type 0} → (A → ℕ) → A → List A → List A
insert_by key x [] = x ∷ []
insert_by key x (y ∷ ys) = cond (leb (key x) (key y)) (x ∷ y ∷ ys) (y ∷ insert_by key x ys)

unfoldable pub sort_by : {A : Type 0} → (A → ℕ) → List A → List A
unfolding insert_by
sort_by key [] = []
sort_by key (x ∷ xs) = insert_by key x (sort_by key xs)
