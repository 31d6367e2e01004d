-- Runs of zero groups (01, "Normal text"; RFC 5952 section 4.2). Assumes nothing.
use Rattle.std.specs.Prelude.{◌≡◌, cond, List, [], ◌∷◌, ℕ, zero, suc, ◌+◌, ◌≤◌, max, eqb, length, take, drop, replicate}

-- the n groups from `start` on are there, and are zero
pub record ZeroRun (gs : List ℕ) (start n : ℕ) : Type 0 where
  pub inside : start + n ≤ length gs
  pub zeros : take n (drop start gs) ≡ replicate n 0

-- "the longest run" and "Of two runs equally long the leftmost"; where no group is zero, no group at 0
pub record LeftmostLongest (gs : List ℕ) (start n : ℕ) : Type 0 where
  pub run : ZeroRun gs start n
  pub longest : (s m : ℕ) → ZeroRun gs s m → m ≤ n
  pub leftmost : (s : ℕ) → ZeroRun gs s n → start ≤ s

-- how many zeros a list begins with
unfoldable pub zeros_of : List ℕ → ℕ
zeros_of [] = 0
zeros_of (zero ∷ gs) = suc (zeros_of gs)
zeros_of (suc g ∷ gs) = 0

-- the length of the longest run
unfoldable pub longest_run : List ℕ → ℕ
longest_run [] = 0
longest_run (g ∷ gs) = max (zeros_of (g ∷ gs)) (longest_run gs)

-- where the first run of n begins
unfoldable pub first_run : ℕ → List ℕ → ℕ
first_run n [] = 0
first_run n (g ∷ gs) = cond (eqb (zeros_of (g ∷ gs)) n) 0 (suc (first_run n gs))
