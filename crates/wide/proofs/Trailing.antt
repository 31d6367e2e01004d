-- The zero bits at a number's end say of which powers of two it is a multiple. Assumes nothing.
use Rattle.std.proofs.Common.{◌≡◌, ℕ, zero, suc, ◌+◌, ◌*◌, ◌/◌, ◌%◌, ◌^◌, ◌<◌, ◌≤◌, true, eqb, ◌↔◌, sym, refl, ap, ◌∙◌, zero-le, le_refl, add-zero, add-suc, mod-eq_of_lt, suc-add, zero-add, mul-one, add-one, arith, pow_mono, eq-eqb, ne_eqb}
use native.Mathlib.Nat.{zero-mod, two-pow-succ}
use native.Mathlib.Decide.{dec_le, ℕ_discrete}
use lib.Count.{count_trailing_zeros, under, trailing_le}
use lib.Pow.{mod-pow-add}
use lib.Bits.{block_half, block_odd, shifted_half, shifted_even}
use Rattle.wide.proofs.Aligned.{Aligned, aligned_mono, aligned_nothing}

-- a multiple of 2 ^ (j + 1) is even, and its half is one of 2 ^ j
halve : (j n : ℕ) → n % 2 ^ suc j ≡ n / 2 % 2 ^ j * 2 + n % 2
halve j n = ap (λ (x : ℕ). n % 2 ^ x) (sym (add-one j)) ∙ mod-pow-add n j 1

pub aligned_trailing : (W n j : ℕ) → j ≤ W → Aligned j n ↔ (j ≤ count_trailing_zeros W n)
unfolding count_trailing_zeros
aligned_trailing W n zero l = (λ h. zero-le, λ h. aligned_nothing n)
aligned_trailing zero n (suc j) l = (λ h. omega arith, λ h. omega arith)
aligned_trailing (suc W) n (suc j) l = go (n % 2) refl (aligned_trailing W (n / 2) j (omega arith))
  where
    go : (d : ℕ) → n % 2 ≡ d → Aligned j (n / 2) ↔ (j ≤ count_trailing_zeros W (n / 2)) → Aligned (suc j) n ↔ (suc j ≤ under d (count_trailing_zeros W (n / 2)))
    go zero e ih = (λ h. let half = ih.0 (omega (arith, halve j n)) in omega arith, λ h. let half = ih.1 (omega arith) in omega (arith, halve j n))
    go (suc d) e ih = (λ h. omega (arith, halve j n), λ h. omega arith)

pub trailing_aligned : (W n : ℕ) → Aligned (count_trailing_zeros W n) n
trailing_aligned W n = (aligned_trailing W n (count_trailing_zeros W n) (trailing_le W n)).1 (le_refl (count_trailing_zeros W n))

-- A number in two parts, the lower of k bits: its zeros are those of the lower part, or, where that is 0, k and those of the upper.
pub trailing_lower : (m k hi lo : ℕ) → 0 < lo → lo < 2 ^ k → count_trailing_zeros (m + k) (hi * 2 ^ k + lo) ≡ count_trailing_zeros k lo
unfolding count_trailing_zeros
trailing_lower m zero hi lo pos small = absurd (omega arith)
trailing_lower m (suc k) hi lo pos small = rw (add-suc, block_odd hi k lo, block_half hi k lo) (go (lo % 2) refl (trailing_lower m k hi (lo / 2)))
  where
    go : (d : ℕ) → lo % 2 ≡ d → (0 < lo / 2 → lo / 2 < 2 ^ k → count_trailing_zeros (m + k) (hi * 2 ^ k + lo / 2) ≡ count_trailing_zeros k (lo / 2))
        → under d (count_trailing_zeros (m + k) (hi * 2 ^ k + lo / 2)) ≡ under d (count_trailing_zeros k (lo / 2))
    go zero e ih = ap suc (ih (omega arith) (omega (arith, two-pow-succ k)))
    go (suc d) e ih = refl

pub trailing_upper : (m k hi : ℕ) → count_trailing_zeros (m + k) (hi * 2 ^ k) ≡ k + count_trailing_zeros m hi
unfolding count_trailing_zeros
trailing_upper m zero hi = rw (add-zero, mul-one, zero-add)
trailing_upper m (suc k) hi = rw (add-suc, shifted_even hi k, shifted_half hi k, suc-add) (ap suc (trailing_upper m k hi))

-- The k lowest bits of a number of W bits are zero where there are k trailing zeros; beyond those, only if the number is 0.
pub zeros_within : (W n k : ℕ) → k ≤ count_trailing_zeros W n → eqb (n % 2 ^ k) 0 ≡ true
zeros_within W n k l = eq-eqb (n % 2 ^ k) 0 (aligned_mono n l (trailing_aligned W n))

pub zeros_beyond : (W n k : ℕ) → n < 2 ^ W → count_trailing_zeros W n < k → eqb (n % 2 ^ k) 0 ≡ eqb n 0
zeros_beyond W n k small l = elim (ℕ_discrete n 0) [
  | yes e ↦ rw e (ap (λ (r : ℕ). eqb r 0) (zero-mod (2 ^ k)))
  | no m ↦ ne_eqb (n % 2 ^ k) 0 (λ z. m (all (dec_le k W) z)) ∙ sym (ne_eqb n 0 m)
]
  where
    all : Dec (k ≤ W) → n % 2 ^ k ≡ 0 → n ≡ 0
    all (yes h) z = absurd (omega (arith, (aligned_trailing W n k h).0 z))
    all (no h) z = sym (mod-eq_of_lt (omega (arith, pow_mono {i = W} {j = k} (omega arith)))) ∙ z
