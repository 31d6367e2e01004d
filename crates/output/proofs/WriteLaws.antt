-- Numerals as the code writes them: a digit for each place that the number reaches, the highest first. Assumes nothing.
use mathlib.Core.Path.{◌≡◌, refl, sym, ap, ap₂, subst, ◌∙◌}
use mathlib.Core.Bool.{Bool, cond}
use mathlib.Core.List.{List, [], ◌∷◌, ◌++◌, map}
use Prim.Native.Nat.{ℕ, zero, suc, ◌+◌, ◌/◌, ◌%◌, ◌^◌, ◌≤◌, ◌<◌}
use native.Mathlib.Nat.{div-div-eq-div-mul, div-one, pow-zero, pow-suc, pow-succ', mod-eq_of_lt, div-eq_of_lt, div-lt_iff_lt-mul, le-div_iff_mul-le, le-mul_of_pos_right, mul-div_cancel, one-le-pow, one-mul, zero-mod, lt_of_not-le}
use native.Mathlib.Decide.{dec_le}
use native.Mathlib.Omega.{arith}
use borrow.Author.Tests.{lt-ltb, le-leb, lt-leb}
use lib.Dec.{leb, lit<}
use Rattle.notation.specs.BigEndian.{digits_of}
use Rattle.digits.specs.Numerals.{digit_byte, trimmed, numeral, decimal}
use Rattle.output.specs.Placing.{Puts}
use Rattle.output.proofs.PlacingLaws.{puts_then}

-- ---- digits without leading zeros

-- all of them stay where the first is not zero
kept : (d : ℕ) (ds : List ℕ) → 0 < d → trimmed (d ∷ ds) ≡ d ∷ ds
unfolding trimmed
kept d [] h = refl
kept zero (e ∷ ds) h = absurd (omega arith)
kept (suc d) (e ∷ ds) h = refl

-- ---- place by place

-- the digits of n from place k down to place 0, each but the last only where n reaches its place
abbrev pub written : ℕ → ℕ → ℕ → List ℕ
written base zero n = digit_byte (n % base) ∷ []
written base (suc k) n = cond (leb (base ^ suc k) n) (digit_byte (n / base ^ suc k % base) ∷ []) [] ++ written base k n

module _ (base : ℕ) (pos : 0 < base) where
  -- the digits, with the highest split off
  highest : (k n : ℕ) → digits_of base (suc k) n ≡ n / base ^ k % base ∷ digits_of base k n
  unfolding digits_of
  highest zero n = ap (λ (d : ℕ). d % base ∷ []) (sym (ap (λ (p : ℕ). n / p) (pow-zero base) ∙ div-one n))
  highest (suc k) n =
      let place : n / base / base ^ k ≡ n / base ^ suc k = div-div-eq-div-mul n base (base ^ k) ∙ ap (λ (p : ℕ). n / p) (sym (pow-succ' base k)) in
      ap (λ ds. ds ++ n % base ∷ []) (highest k (n / base)) ∙ ap (λ (d : ℕ). d % base ∷ digits_of base (suc k) n) place

  -- a number that reaches place k has all its digits from there written
  all : (k n : ℕ) → base ^ k ≤ n → written base k n ≡ map digit_byte (digits_of base (suc k) n)
  unfolding digits_of
  all zero n h = refl
  all (suc k) n h =
      let less : base ^ k ≤ n = omega (arith, pow-suc base k, le-mul_of_pos_right (base ^ k) pos) in
      ap₂ (λ (t : Bool) r. cond t (digit_byte (n / base ^ suc k % base) ∷ []) [] ++ r) (le-leb (base ^ suc k) n h) (all k n less)
      ∙ ap (map digit_byte) (sym (highest (suc k) n))

  -- the highest digit of a number with no more digits is the quotient
  top : (k n : ℕ) → n < base ^ suc k → n / base ^ k % base ≡ n / base ^ k
  top k n h = mod-eq_of_lt ((div-lt_iff_lt-mul (one-le-pow k base pos)).1 (rw pow-succ' at h))

  -- a number that reaches its highest place has no leading zero, and another has one
  reached : (k n : ℕ) → n < base ^ suc k → base ^ k ≤ n → written base k n ≡ numeral base (suc k) n
  unfolding numeral
  reached k n h r =
      let one : 1 ≤ n / base ^ k = (le-div_iff_mul-le (one-le-pow k base pos)).1 (omega (arith, one-mul (base ^ k))) in
      all k n r ∙ ap (map digit_byte) (highest k n ∙ sym (kept (n / base ^ k % base) (digits_of base k n) (rw (top k n h) one)) ∙ ap trimmed (sym (highest k n)))

  not_reached : (k n : ℕ) → n < base ^ suc k → numeral base (suc k) n ≡ numeral base (suc (suc k)) n
  unfolding numeral
  not_reached k n h =
      let none : n / base ^ suc k % base ≡ 0 = ap (λ (d : ℕ). d % base) (div-eq_of_lt h) ∙ zero-mod base in
      let same : trimmed (digits_of base (suc k) n) ≡ trimmed (digits_of base (suc (suc k)) n) = rw (highest (suc k) n, none, highest k n) in
      ap (map digit_byte) same

  -- so what is written is the numeral
  all_written : (k n : ℕ) → n < base ^ suc k → written base k n ≡ numeral base (suc k) n
  unfolding numeral
  all_written zero n h = refl
  all_written (suc k) n h = elim (dec_le (base ^ suc k) n) [
    | yes r ↦ reached (suc k) n h r
    | no m ↦
        let l = lt_of_not-le m in
        ap (λ (t : Bool). cond t (digit_byte (n / base ^ suc k % base) ∷ []) [] ++ written base k n) (lt-leb (base ^ suc k) n l)
        ∙ all_written k n l
        ∙ not_reached k n l
  ]

  -- the same, with the highest digit as the code has it
  pub numeral_written : (k n : ℕ) → n < base ^ suc (suc k)
      → cond (leb (base ^ suc k) n) (digit_byte (n / base ^ suc k) ∷ []) [] ++ written base k n ≡ numeral base (suc (suc k)) n
  numeral_written k n h = ap (λ (d : ℕ). cond (leb (base ^ suc k) n) (digit_byte d ∷ []) [] ++ written base k n) (sym (top (suc k) n h)) ∙ all_written (suc k) n h

-- ---- a decimal

pub decimal_byte : (d : ℕ) → d < 10 → digit_byte d ≡ 48 + d
unfolding digit_byte
decimal_byte d h = rw (lt-ltb d 10 h)

pub decimal_written : (n : ℕ) → n < 1000
    → cond (leb 100 n) ((48 + n / 100) ∷ []) [] ++ (cond (leb 10 n) ((48 + n / 10 % 10) ∷ []) [] ++ (48 + n % 10) ∷ []) ≡ decimal n
decimal_written n h =
    let hundreds = decimal_byte (n / 100) (omega arith) in
    let tens = decimal_byte (n / 10 % 10) (omega arith) in
    let ones = decimal_byte (n % 10) (omega arith) in
    rw (← hundreds, ← tens, ← ones) (numeral_written 10 (lit< tt) 1 n h)

-- ---- a place after the other, as a loop puts them

-- once the digits from place k down are put at `next`, the whole numeral is put at `at`; the code has the place as the base's power
pub record Left (base n : ℕ) (whole old new : List ℕ) (at next place : ℕ) : Type 0 where
  pub k : ℕ
  pub power : place ≡ base ^ k
  pub rest : (last : List ℕ) (end : ℕ) → Puts new last next end (written base k n) → Puts old last at end whole

module _ (base : ℕ) (above : 1 < base) (n : ℕ) where
  -- before the highest place
  pub all_left : (k : ℕ) → n < base ^ suc k → (old : List ℕ) (at : ℕ) → Left base n (numeral base (suc k) n) old old at at (base ^ k)
  all_left k h old at =
      record {
        k = k;
        power = refl;
        rest = λ last end p. subst (Puts old last at end) (all_written base (omega arith) k n h) p;
      }

  module _ {whole old new : List ℕ} {at next place : ℕ} (l : Left base n whole old new at next place) {newer : List ℕ} {end : ℕ} where
    -- a place, if the number reaches it
    pub place_put : base ≤ place → Puts new newer next end (cond (leb place n) (digit_byte (n / place % base) ∷ []) []) → Left base n whole old newer at end (place / base)
    place_put h p = go l.k l.power l.rest
      where
        go : (k : ℕ) → place ≡ base ^ k
            → ((last : List ℕ) (end : ℕ) → Puts new last next end (written base k n) → Puts old last at end whole)
            → Left base n whole old newer at end (place / base)
        go zero e rest = absurd (omega (arith, pow-zero base))
        go (suc k) e rest =
            record {
              k = k;
              power = ap (λ (x : ℕ). x / base) (e ∙ pow-suc base k) ∙ mul-div_cancel (base ^ k) (omega arith);
              rest = λ last end q. rest last end (puts_then (rw e at p) q);
            }

    -- the last one
    pub last_put : place < base → Puts new newer next end (digit_byte (n % base) ∷ []) → Puts old newer at end whole
    last_put h p = go l.k l.power l.rest
      where
        go : (k : ℕ) → place ≡ base ^ k
            → ((last : List ℕ) (end : ℕ) → Puts new last next end (written base k n) → Puts old last at end whole)
            → Puts old newer at end whole
        go zero e rest = rest newer end p
        go (suc k) e rest = absurd (omega (arith, pow-succ' base k, le-mul_of_pos_right base (one-le-pow k base (omega arith))))
