-- The leftmost longest run of zeros: found start by start, there is one only, and it is the definition's. Assumes nothing.
use mathlib.Core.Path.{◌≡◌, refl, sym, ap}
use mathlib.Core.List.{List, [], ◌∷◌}
use Prim.Native.Nat.{ℕ, zero, suc, ◌+◌, ◌≤◌, ◌<◌, zero-le, suc-le-suc}
use native.Mathlib.Nat.{lt_of_not-le, le_trans, le_refl, le_of_eq, le_antisymm, le-max_left, le-max_right}
use native.Mathlib.Numerals.{add-one}
use native.Mathlib.Decide.{dec_le, ℕ_discrete}
use native.Mathlib.Omega.{arith}
use borrow.Author.Tests.{eq-eqb, ne_eqb}
use borrow.Author.Count.{below_more}
use lib.ListN.{length, take, drop, get_or, replicate, drop_of_length-le, length-drop}
use lib.Seq.{drop-cons}
use Rattle.zero_runs.specs.Runs.{ZeroRun, LeftmostLongest, zeros_of, longest_run, first_run}

-- ---- the zeros that a list begins with

cons_zero : (g : ℕ) (gs : List ℕ) → g ≡ 0 → zeros_of (g ∷ gs) ≡ suc (zeros_of gs)
unfolding zeros_of
cons_zero zero gs e = refl
cons_zero (suc g) gs e = absurd (omega arith)

cons_other : (g : ℕ) (gs : List ℕ) → ¬ (g ≡ 0) → zeros_of (g ∷ gs) ≡ 0
unfolding zeros_of
cons_other zero gs n = absurd (n refl)
cons_other (suc g) gs n = refl

-- the count goes on at a zero, and ends at another group and at the list's end
pub goes_on : (gs : List ℕ) (i : ℕ) → i < length gs → get_or gs i 0 ≡ 0 → zeros_of (drop i gs) ≡ suc (zeros_of (drop (i + 1) gs))
goes_on gs i h e = rw (drop-cons gs i 0, cons_zero _ _ e, add-one)

pub ends : (gs : List ℕ) (i : ℕ) → i < length gs → ¬ (get_or gs i 0 ≡ 0) → zeros_of (drop i gs) ≡ 0
ends gs i h n = rw (drop-cons gs i 0, cons_other _ _ n)

pub ends_at_end : (gs : List ℕ) (i : ℕ) → length gs ≤ i → zeros_of (drop i gs) ≡ 0
unfolding zeros_of
ends_at_end gs i h = rw (drop_of_length-le gs h)

-- m zeros stand at the start where the count is at least m
few : (m : ℕ) (gs : List ℕ) → m ≤ length gs → take m gs ≡ replicate m 0 → m ≤ zeros_of gs
unfolding zeros_of
few zero gs h e = zero-le
few (suc m) [] h e = absurd (omega arith)
few (suc m) (zero ∷ gs) h e = suc-le-suc (few m gs (omega arith) (cc))
few (suc m) (suc g ∷ gs) h e = let z : suc g ≡ 0 = cc in absurd (omega arith)

counted : (m : ℕ) (gs : List ℕ) → m ≤ zeros_of gs → (m ≤ length gs) × (take m gs ≡ replicate m 0)
unfolding zeros_of
counted zero gs h = (zero-le, refl)
counted (suc m) [] h = absurd (omega arith)
counted (suc m) (zero ∷ gs) h = let r = counted m gs (omega arith) in (suc-le-suc r.0, ap (λ l. 0 ∷ l) r.1)
counted (suc m) (suc g ∷ gs) h = absurd (omega arith)

-- a run of m from s on is there where the count from s on is at least m
module _ (gs : List ℕ) where
  run_count : (s m : ℕ) → ZeroRun gs s m → m ≤ zeros_of (drop s gs)
  run_count s m z = few m (drop s gs) (omega (arith, z.inside, length-drop s gs)) z.zeros

  count_run : (s m : ℕ) → s ≤ length gs → m ≤ zeros_of (drop s gs) → ZeroRun gs s m
  count_run s m l h = let r = counted m (drop s gs) h in record { inside = omega (arith, r.0, length-drop s gs); zeros = r.1 }

-- ---- start by start

-- the run of n from `start` on is the leftmost longest among those that start before k
pub record Best (gs : List ℕ) (k start n : ℕ) : Type 0 where
  pub inside : start ≤ length gs
  pub there : n ≤ zeros_of (drop start gs)
  pub most : (s : ℕ) → s < k → zeros_of (drop s gs) ≤ n
  pub first : (s : ℕ) → s < start → zeros_of (drop s gs) < n

module _ (gs : List ℕ) where
  pub best_none : Best gs 0 0 0
  best_none = record { inside = zero-le; there = zero-le; most = λ s h. absurd (omega arith); first = λ s h. absurd (omega arith) }

  module _ {k start n : ℕ} (b : Best gs k start n) {m : ℕ} (e : zeros_of (drop k gs) ≡ m) where
    -- one start more: its run is longer than the best before, or is not
    pub best_new : k ≤ length gs → n < m → Best gs (k + 1) k m
    best_new l h =
        record {
          inside = l;
          there = omega arith;
          most = below_more (λ (s : ℕ). zeros_of (drop s gs) ≤ m) k (λ s i. omega (arith, b.most s i)) (omega arith);
          first = λ s i. omega (arith, b.most s i);
        }

    pub best_kept : m ≤ n → Best gs (k + 1) start n
    best_kept h = record { inside = b.inside; there = b.there; most = below_more (λ (s : ℕ). zeros_of (drop s gs) ≤ n) k b.most (omega arith); first = b.first }

  -- where every start has been seen
  pub best_all : {k start n : ℕ} → Best gs k start n → length gs ≤ k → LeftmostLongest gs start n
  best_all {k} {start} {n} b l =
      record {
        run = count_run gs start n b.inside b.there;
        longest = λ s m z. elim (dec_le k s) [
          | yes h ↦ omega (arith, run_count gs s m z, ends_at_end gs s (le_trans l h))
          | no h ↦ omega (arith, run_count gs s m z, b.most s (lt_of_not-le h))
        ];
        leftmost = λ s z. elim (dec_le start s) [
          | yes h ↦ h
          | no h ↦ absurd (omega (arith, run_count gs s n z, b.first s (lt_of_not-le h)))
        ];
      }

-- ---- the definition's run

-- no start has more zeros than the longest run, its first start has as many, and those before have not
longest_most : (gs : List ℕ) (s : ℕ) → zeros_of (drop s gs) ≤ longest_run gs
unfolding longest_run zeros_of
longest_most [] zero = zero-le
longest_most [] (suc s) = zero-le
longest_most (g ∷ gs) zero = le-max_left (zeros_of (g ∷ gs)) (longest_run gs)
longest_most (g ∷ gs) (suc s) = le_trans (longest_most gs s) (le-max_right (zeros_of (g ∷ gs)) (longest_run gs))

here : (n g : ℕ) (gs : List ℕ) → zeros_of (g ∷ gs) ≡ n → first_run n (g ∷ gs) ≡ 0
unfolding first_run
here n g gs e = rw (eq-eqb (zeros_of (g ∷ gs)) n e)

later : (n g : ℕ) (gs : List ℕ) → ¬ (zeros_of (g ∷ gs) ≡ n) → first_run n (g ∷ gs) ≡ suc (first_run n gs)
unfolding first_run
later n g gs m = rw (ne_eqb (zeros_of (g ∷ gs)) n m)

first_inside : (n : ℕ) (gs : List ℕ) → first_run n gs ≤ length gs
unfolding first_run
first_inside n [] = zero-le
first_inside n (g ∷ gs) = elim (ℕ_discrete (zeros_of (g ∷ gs)) n) [
  | yes e ↦ rw (here n g gs e) zero-le
  | no m ↦ rw (later n g gs m) (suc-le-suc (first_inside n gs))
]

first_there : (n : ℕ) (gs : List ℕ) → n ≡ longest_run gs → zeros_of (drop (first_run n gs) gs) ≡ n
unfolding first_run longest_run zeros_of
first_there n [] e = sym e
first_there n (g ∷ gs) e = elim (ℕ_discrete (zeros_of (g ∷ gs)) n) [
  | yes h ↦ rw (here n g gs h) h
  | no m ↦ rw (later n g gs m) (first_there n gs (omega (arith, m)))
]

before_first : (n : ℕ) (gs : List ℕ) (s : ℕ) → s < first_run n gs → ¬ (zeros_of (drop s gs) ≡ n)
unfolding first_run
before_first n [] s h = absurd (omega arith)
before_first n (g ∷ gs) zero h = λ e. absurd (omega (arith, here n g gs e))
before_first n (g ∷ gs) (suc s) h = elim (ℕ_discrete (zeros_of (g ∷ gs)) n) [
  | yes e ↦ absurd (omega (arith, here n g gs e))
  | no m ↦ before_first n gs s (omega (arith, later n g gs m))
]

-- so it is the leftmost longest
pub run_is : (gs : List ℕ) → LeftmostLongest gs (first_run (longest_run gs) gs) (longest_run gs)
run_is gs =
    let n = longest_run gs in
    best_all gs {k = length gs} (record {
      inside = first_inside n gs;
      there = le_of_eq (sym (first_there n gs refl));
      most = λ s h. longest_most gs s;
      first = λ s h. omega (arith, longest_most gs s, before_first n gs s h);
    }) (le_refl (length gs))

-- there is no other
pub run_only : {gs : List ℕ} {s n : ℕ} → LeftmostLongest gs s n → (n ≡ longest_run gs) × (s ≡ first_run (longest_run gs) gs)
run_only {gs} {s} {n} p =
    let q = run_is gs in
    let f = first_run (longest_run gs) gs in
    let e : n ≡ longest_run gs = le_antisymm (q.longest s n p.run) (p.longest f (longest_run gs) q.run) in
    (e, le_antisymm (p.leftmost f (rw e q.run)) (q.leftmost s (rw e at p.run)))
