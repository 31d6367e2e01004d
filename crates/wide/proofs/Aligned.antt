-- Multiples of a power of two: the addresses whose k lowest bits are zero. Two of them that differ are a whole power apart (`aligned_gap`). Assumes nothing.
use Rattle.std.proofs.Common.{◌≡◌, ℕ, suc, ◌+◌, ◌-◌, ◌*◌, ◌/◌, ◌%◌, ◌^◌, ◌<◌, ◌≤◌, sym, ap, ◌∙◌, add-zero, mul-le-mul_right, mod-eq_of_lt, suc-mul, lt_of_mul-lt-mul_right, div-add-mod', arith, pow_pos}
use native.Mathlib.Nat.{zero-mod, mod_self, mod-one, add-mod_right, mul-mod_left, two-pow-succ}
use native.Mathlib.Decide.{ℕ_discrete}
use lib.Pow.{mod-mod-pow, pow-lt}

-- a is a multiple of 2 ^ k
abbrev pub Aligned : ℕ → ℕ → Type 0
Aligned k a = a % 2 ^ k ≡ 0

pub aligned_dec : (k a : ℕ) → Dec (Aligned k a)
aligned_dec k a = ℕ_discrete (a % 2 ^ k) 0

pub quotient : (p a : ℕ) → a % p ≡ 0 → a / p * p ≡ a
quotient p a h = sym (add-zero (a / p * p)) ∙ ap (λ (r : ℕ). a / p * p + r) (sym h) ∙ div-add-mod' a p

-- two multiples of a number p that differ are p or more apart
pub multiples_gap : (p a c : ℕ) → a % p ≡ 0 → c % p ≡ 0 → a < c → a + p ≤ c
multiples_gap p a c h k l =
    let qa = quotient p a h in
    let qc = quotient p c k in
    let less : a / p < c / p = lt_of_mul-lt-mul_right p (rw (qa, qc) l) in
    omega (arith, qa, qc, suc-mul (a / p) p, mul-le-mul_right p less)

pub aligned_gap : (k : ℕ) {a c : ℕ} → Aligned k a → Aligned k c → a < c → a + 2 ^ k ≤ c
aligned_gap k {a} {c} h l = multiples_gap (2 ^ k) a c h l

pub aligned_mono : {i k : ℕ} (a : ℕ) → i ≤ k → Aligned k a → Aligned i a
aligned_mono {i} {k} a l h =
    let e : k - i + i ≡ k = omega arith in
    sym (mod-mod-pow a (k - i) i) ∙ ap (λ (j : ℕ). a % 2 ^ j % 2 ^ i) e ∙ ap (λ (r : ℕ). r % 2 ^ i) h ∙ zero-mod (2 ^ i)

pub aligned_nothing : (a : ℕ) → Aligned 0 a
aligned_nothing a = mod-one a

pub aligned_zero : (k : ℕ) → Aligned k 0
aligned_zero k = zero-mod (2 ^ k)

pub aligned_pow : {k m : ℕ} → k ≤ m → Aligned k (2 ^ m)
aligned_pow {k} {m} l = aligned_mono (2 ^ m) l (mod_self (2 ^ m))

pub aligned_next : (k a : ℕ) → Aligned k a → Aligned k (a + 2 ^ k)
aligned_next k a h = add-mod_right a (2 ^ k) ∙ h

pub aligned_back : (k a : ℕ) → Aligned k (a + 2 ^ k) → Aligned k a
aligned_back k a h = sym (add-mod_right a (2 ^ k)) ∙ h

-- a power of two is no multiple of the next
pub aligned_not : (k : ℕ) → ¬ Aligned (suc k) (2 ^ k)
aligned_not k h = omega (arith, pow_pos k, sym (mod-eq_of_lt {n = 2 ^ k} {m = 2 ^ suc k} (pow-lt (omega arith))) ∙ h)

-- a multiple of 2 ^ k that is none of 2 ^ (k + 1) is half way between two of those
pub aligned_odd : (k a : ℕ) → Aligned k a → ¬ Aligned (suc k) a → Aligned (suc k) (a + 2 ^ k)
aligned_odd k a h odd = go (ℕ_discrete (q % 2) 0)
  where
    q : ℕ
    q = a / 2 ^ k

    s : ℕ
    s = q / 2

    multiple : (n c : ℕ) → c ≡ n * 2 ^ suc k → Aligned (suc k) c
    multiple n c e = rw (e, mul-mod_left)

    go : Dec (q % 2 ≡ 0) → Aligned (suc k) (a + 2 ^ k)
    go (yes e) =
        let even : q ≡ s + s = omega arith in
        absurd (odd (multiple s a (sym (quotient (2 ^ k) a h) ∙ ap (λ (n : ℕ). n * 2 ^ k) even ∙ rw two-pow-succ (omega arith))))
    go (no n) =
        let one : q ≡ s + s + 1 = omega arith in
        let a_is : a ≡ (s + s + 1) * 2 ^ k = sym (quotient (2 ^ k) a h) ∙ ap (λ (n : ℕ). n * 2 ^ k) one in
        multiple (s + 1) (a + 2 ^ k) (rw two-pow-succ (omega arith))
