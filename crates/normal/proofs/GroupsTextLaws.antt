-- The text of groups, as the code puts it together: one group more at a time, and around the run. Assumes nothing.
use mathlib.Core.Path.{◌≡◌, refl, sym, ap, ◌∙◌}
use mathlib.Core.List.{List, [], ◌∷◌, ◌++◌, append_assoc}
use Prim.Native.Nat.{ℕ, suc, ◌+◌, ◌-◌, ◌≤◌, ◌<◌}
use native.Mathlib.Numerals.{add-one}
use native.Mathlib.Omega.{arith}
use borrow.Author.Tests.{lt-ltb, le-ltb}
use lib.ListN.{length, take, drop, get_or, length-drop}
use lib.Seq.{take-suc, take_all}
use Rattle.notation.proofs.SliceLaws.{tail, to_end}
use Rattle.digits.specs.Numerals.{hex}
use Rattle.zero_runs.specs.Runs.{LeftmostLongest}
use Rattle.zero_runs.proofs.RunLaws.{run_only}
use Rattle.normal.specs.Normal.{groups_text, normal_groups}

-- one group more
groups_more : (xs : List ℕ) (y : ℕ) → 0 < length xs → groups_text xs ++ 58 ∷ hex y ≡ groups_text (xs ++ y ∷ [])
unfolding groups_text
groups_more [] y h = absurd (omega arith)
groups_more (x ∷ []) y h = refl
groups_more (x ∷ z ∷ xs) y h = append_assoc (hex x) (58 ∷ groups_text (z ∷ xs)) (58 ∷ hex y) ∙ ap (λ t. hex x ++ 58 ∷ t) (groups_more (z ∷ xs) y (omega arith))

-- none
pub no_group : (gs : List ℕ) → length gs < 1 → groups_text gs ≡ []
unfolding groups_text
no_group [] h = refl
no_group (g ∷ gs) h = absurd (omega arith)

-- the first of them, and the next behind i + 1 that are put, where the others are looked at by themselves
pub first_group : (gs : List ℕ) → 1 ≤ length gs → hex (get_or gs 0 0) ≡ groups_text (take 1 gs)
unfolding groups_text
first_group [] h = absurd (omega arith)
first_group (g ∷ gs) h = refl

pub next_group : (gs : List ℕ) (i : ℕ) → 1 ≤ length gs → i < length (tail 1 gs)
    → groups_text (take (suc i) gs) ++ 58 ∷ hex (get_or (tail 1 gs) i 0) ≡ groups_text (take (suc (i + 1)) gs)
next_group gs i h l = rw (to_end 1 gs) (go gs h (rw (to_end 1 gs) at l))
  where
    go : (gs : List ℕ) → 1 ≤ length gs → i < length (drop 1 gs)
        → groups_text (take (suc i) gs) ++ 58 ∷ hex (get_or (drop 1 gs) i 0) ≡ groups_text (take (suc (i + 1)) gs)
    go [] h l = absurd (omega arith)
    go (g ∷ gs) h l = rw add-one (groups_more (g ∷ take i gs) (get_or gs i 0) (omega arith) ∙ ap (λ xs. groups_text (g ∷ xs)) (sym (take-suc gs i 0 l)))

-- all of them
pub all_groups : (gs : List ℕ) (i : ℕ) → 1 ≤ length gs → length (tail 1 gs) ≤ i → take (suc i) gs ≡ gs
all_groups gs i h l = go gs h (rw (to_end 1 gs) at l)
  where
    go : (gs : List ℕ) → 1 ≤ length gs → length (drop 1 gs) ≤ i → take (suc i) gs ≡ gs
    go [] h l = absurd (omega arith)
    go (g ∷ gs) h l = ap (λ xs. g ∷ xs) (take_all i gs l)

module _ (gs : List ℕ) where
  -- the normal text by the run that was found
  module _ {start n : ℕ} (r : LeftmostLongest gs start n) where
    pub no_run : n < 2 → groups_text gs ≡ normal_groups gs
    unfolding normal_groups
    no_run h = rw (← (run_only r).0, lt-ltb n 2 h)

    pub around_run : length gs ≡ 8 → 2 ≤ n → groups_text (take start gs) ++ 58 ∷ 58 ∷ groups_text (take (8 - (start + n)) (drop (start + n) gs)) ≡ normal_groups gs
    unfolding normal_groups
    around_run eight h = rw (take_all (8 - (start + n)) (drop (start + n) gs) (omega (arith, eight, length-drop (start + n) gs)), ← (run_only r).1, ← (run_only r).0, le-ltb n 2 h)
