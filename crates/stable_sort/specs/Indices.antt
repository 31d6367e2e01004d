-- The order of a list told by indices. Assumes nothing.
use Rattle.std.specs.Prelude.{◌≡◌, ◌⊎◌, List, [], ◌∷◌, ◌++◌, ℕ, zero, suc, ◌<◌, length, get_or}

-- the indices below n, as they come
unfoldable pub up_to : ℕ → List ℕ
up_to zero = []
up_to (suc n) = up_to n ++ n ∷ []

-- the indices below n, each at one place
pub record Once (n : ℕ) (l : List ℕ) : Type 0 where
  pub size : length l ≡ n
  pub inside : (p : ℕ) → p < n → get_or l p 0 < n
  pub each : (x : ℕ) → x < n → (p : ℕ) × (p < n) × (get_or l p 0 ≡ x)
  pub once : (p q : ℕ) → p < n → q < n → get_or l p 0 ≡ get_or l q 0 → p ≡ q

-- each of them once; an earlier place has the index with the lower key, or with the same key and the lower index
pub record InOrder (key : ℕ → ℕ) (n : ℕ) (l : List ℕ) : Type 0 where
  pub places : Once n l
  pub rising : (p q : ℕ) → p < q → q < n → (key (get_or l p 0) < key (get_or l q 0)) ⊎ ((key (get_or l p 0) ≡ key (get_or l q 0)) × (get_or l p 0 < get_or l q 0))
