-- Numerals with separators between them. Assumes nothing.
use mathlib.Core.Path.{◌≡◌}
use mathlib.Core.Bool.{false}
use mathlib.Core.List.{List, [], ◌∷◌, map}
use Prim.Native.Nat.{ℕ, suc, ◌-◌, ◌*◌, ◌≤◌, ◌<◌}
use native.Mathlib.Nat.{mul-suc, mul-one}
use native.Mathlib.Omega.{arith}
use lib.Dec.{eqb}
use lib.ListN.{length, length-append}
use Rattle.notation.specs.Pieces.{Lacks, Each, separated}
use Rattle.notation.proofs.SeparatedLaws.{lacks_separated}
use Rattle.digits.specs.Numerals.{digit_of, numeral}
use Rattle.digits.proofs.NumeralLaws.{no_digit, numeral_digits, numeral_length}

-- at most k digits each, and a separator between two
module _ (base k b : ℕ) (h : base ≤ 16) (pos : 0 < base) (one : 1 ≤ k) where
  pub numerals_most : (xs : List ℕ) → length (separated b (map (numeral base k) xs)) ≤ suc k * length xs - 1
  unfolding separated
  numerals_most [] = omega arith
  numerals_most (x ∷ []) = omega (arith, mul-one (suc k), numeral_length base k x h pos one)
  numerals_most (x ∷ y ∷ xs) =
      let rest = separated b (map (numeral base k) (y ∷ xs)) in
      omega (arith, length-append (numeral base k x) (b ∷ rest), numeral_length base k x h pos one, numerals_most (y ∷ xs), mul-suc (suc k) (suc (length xs)), mul-suc (suc k) (length xs))

-- they hold digits and the separator alone
pub numerals_lack : (base k b c : ℕ) → base ≤ 16 → 0 < base → 1 ≤ k → digit_of c ≡ 16 → eqb b c ≡ false → (xs : List ℕ) → Lacks c (separated b (map (numeral base k) xs))
numerals_lack base k b c h pos one n d xs = lacks_separated b c d (map (numeral base k) xs) (each xs)
  where
    each : (xs : List ℕ) → Each (Lacks c) (map (numeral base k) xs)
    each [] = tt
    each (x ∷ xs) = (no_digit base c (numeral base k x) h n (numeral_digits base k x h pos one).all, each xs)
