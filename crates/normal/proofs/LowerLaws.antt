-- Normal text is in lower case. Assumes nothing.
use mathlib.Core.Path.{◌≡◌, refl, ap₂, ◌∙◌}
use mathlib.Core.Bool.{Bool, true, false, cond}
use mathlib.Core.List.{List, [], ◌∷◌, ◌++◌, map}
use Prim.Native.Nat.{ℕ, ◌+◌, ◌≤◌, ◌<◌}
use lib.Dec.{ltb, lit≤, lit<}
use lib.ListN.{take, drop}
use Rattle.notation.specs.BigEndian.{digits_of}
use Rattle.notation.specs.Pieces.{separated}
use Rattle.address.specs.declared.Address.{Address}
use Rattle.address.specs.declared.Address.TheVariants.{V4, V6}
use Rattle.address_groups.specs.Groups.{groups_of}
use Rattle.digits.specs.Numerals.{numeral, lower}
use Rattle.digits.proofs.NumeralLaws.{numeral_lower}
use Rattle.ipv4_text.specs.Dotted.{dotted_text}
use Rattle.zero_runs.specs.Runs.{longest_run, first_run}
use Rattle.normal.specs.Normal.{groups_text, shortened, normal_groups, normal_text}

lower_append : (s t : List ℕ) → map lower (s ++ t) ≡ map lower s ++ map lower t
lower_append [] t = refl
lower_append (c ∷ s) t = ap₂ (λ (b : ℕ) r. b ∷ r) refl (lower_append s t)

-- numerals with a byte between them that is no capital letter
numerals_lower : (base k b : ℕ) → base ≤ 16 → 0 < base → 1 ≤ k → lower b ≡ b → (xs : List ℕ)
    → map lower (separated b (map (numeral base k) xs)) ≡ separated b (map (numeral base k) xs)
unfolding separated
numerals_lower base k b h pos one e [] = refl
numerals_lower base k b h pos one e (x ∷ []) = numeral_lower base k x h pos one
numerals_lower base k b h pos one e (x ∷ y ∷ xs) =
    lower_append (numeral base k x) (b ∷ separated b (map (numeral base k) (y ∷ xs)))
    ∙ ap₂ (λ s t. s ++ t) (numeral_lower base k x h pos one) (ap₂ (λ (c : ℕ) t. c ∷ t) e (numerals_lower base k b h pos one e (y ∷ xs)))

groups_lower : (gs : List ℕ) → map lower (groups_text gs) ≡ groups_text gs
unfolding groups_text lower
groups_lower gs = numerals_lower 16 4 58 (lit≤ tt) (lit< tt) (lit≤ tt) refl gs

shortened_lower : (s n : ℕ) (gs : List ℕ) → map lower (shortened s n gs) ≡ shortened s n gs
unfolding shortened lower
shortened_lower s n gs =
    lower_append (groups_text (take s gs)) (58 ∷ 58 ∷ groups_text (drop (s + n) gs))
    ∙ ap₂ (λ l r. l ++ (58 ∷ 58 ∷ r)) (groups_lower (take s gs)) (groups_lower (drop (s + n) gs))

pub text_lower : (a : Address) → map lower (normal_text a) ≡ normal_text a
unfolding normal_text normal_groups dotted_text lower
text_lower (V4 v) = numerals_lower 10 3 46 (lit≤ tt) (lit< tt) (lit≤ tt) refl (digits_of 256 4 v)
text_lower (V6 hi lo) = pick (ltb (longest_run gs) 2)
  where
    gs : List ℕ
    gs = groups_of hi lo

    pick : (p : Bool) → map lower (cond p (groups_text gs) (shortened (first_run (longest_run gs) gs) (longest_run gs) gs)) ≡ cond p (groups_text gs) (shortened (first_run (longest_run gs) gs) (longest_run gs) gs)
    pick true = groups_lower gs
    pick false = shortened_lower (first_run (longest_run gs) gs) (longest_run gs) gs
