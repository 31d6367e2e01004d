-- The rising and the falling part of a run: its blocks one after the other, and how many they are. Assumes nothing.
use Rattle.std.proofs.Common.{◌≡◌, ℕ, zero, suc, ◌+◌, ◌-◌, ◌*◌, ◌/◌, ◌%◌, ◌^◌, ◌<◌, ◌≤◌, [], ◌∷◌, length, sym, refl, ap, ◌∙◌, subst, inr, add-zero, mod-lt, mod-eq_of_lt, div-add-mod', zero-add, arith, pow_pos, pow_mono}
use native.Mathlib.Nat.{mod_self, mod-add-mod, mul-mod_left}
use native.Mathlib.Decide.{dec_le, dec_lt, ℕ_discrete}
use lib.Count.{ones, ones_cat, count_trailing_zeros, count_leading_zeros, leading_top}
use lib.Pow.{pow-lt}
use Rattle.wide.proofs.Aligned.{Aligned, quotient, aligned_gap, aligned_mono, aligned_next, aligned_odd}
use Rattle.wide.proofs.Trailing.{aligned_trailing, trailing_aligned}
use Rattle.cover.specs.Blocks.{range_blocks}
use Rattle.cover.proofs.Range.{block_at, range_done, range_step}
use Rattle.runs.specs.Runs.{Parts}

pub pow_cancel : (j m : ℕ) → 2 ^ j ≤ 2 ^ m → j ≤ m
pow_cancel j m h = elim (dec_le j m) [ yes l ↦ l | no n ↦ absurd (omega (arith, pow-lt {i = m} {j = j} (omega arith))) ]

-- what is added to a multiple is one where the sum is
pub aligned_rest : (k a b : ℕ) → Aligned k a → Aligned k (a + b) → Aligned k b
aligned_rest k a b h s = sym (ap (λ (r : ℕ). (r + b) % 2 ^ k) h ∙ ap (λ (x : ℕ). x % 2 ^ k) (zero-add b)) ∙ mod-add-mod a (2 ^ k) b ∙ s

-- ---- the parts

cut_aligned : (first h : ℕ) → Aligned h (first + (2 ^ h - first % 2 ^ h) % 2 ^ h)
cut_aligned first h = elim (ℕ_discrete (first % 2 ^ h) 0) [
  | yes e ↦
      let w : 2 ^ h - first % 2 ^ h ≡ 2 ^ h = omega arith in
      let z : (2 ^ h - first % 2 ^ h) % 2 ^ h ≡ 0 = ap (λ (r : ℕ). r % 2 ^ h) w ∙ mod_self (2 ^ h) in
      rw (z, add-zero first) e
  | no n ↦
      let low = mod-lt first (pow_pos h) in
      let z : (2 ^ h - first % 2 ^ h) % 2 ^ h ≡ 2 ^ h - first % 2 ^ h = mod-eq_of_lt (omega arith) in
      let q = div-add-mod' first (2 ^ h) in
      let all : first + (2 ^ h - first % 2 ^ h) ≡ (first / 2 ^ h + 1) * 2 ^ h = omega arith in
      rw (z, all, mul-mod_left)
]

pub cut_parts : (first last left h rise : ℕ) → left ≡ last - first + 1 → first ≤ last → 2 ^ h ≤ left → left < 2 ^ suc h → rise ≡ (2 ^ h - first % 2 ^ h) % 2 ^ h
    → Parts first last rise (left - rise)
cut_parts first last left h rise e rises low high f =
    let few : rise < 2 ^ h = rw f (mod-lt (2 ^ h - first % 2 ^ h) (pow_pos h)) in
    record {
      bits = h;
      room = omega arith;
      few = few;
      aligned = rw f (cut_aligned first h);
      some = omega arith;
      less = omega arith;
      all = omega arith;
    }

-- the highest bit of a number of 64
pub top_bits : (n : ℕ) → 0 < n → n < 2 ^ 64 → (count_leading_zeros 64 n ≤ 63) × (2 ^ (63 - count_leading_zeros 64 n) ≤ n) × (n < 2 ^ suc (63 - count_leading_zeros 64 n))
top_bits n pos small =
    let (j, e, low, high) = leading_top 64 n pos small in
    let at : 63 - count_leading_zeros 64 n ≡ j = omega arith in
    (omega arith, rw at low, rw at high)

-- the same of the code's terms
module _ (first last left h size : ℕ) (e : left ≡ last - first + 1) (rises : first ≤ last) (low : 2 ^ h ≤ left) (high : left < 2 ^ suc h) (s : size ≡ 2 ^ h) where
  pub size_pos : 0 < size
  size_pos = rw s (pow_pos h)

  pub size_below : first % size ≤ size
  size_below = omega (arith, mod-lt first size_pos)

  pub rise_below : (size - first % size) % size ≤ left
  rise_below = omega (arith, mod-lt (size - first % size) size_pos)

  pub size_parts : Parts first last ((size - first % size) % size) (left - (size - first % size) % size)
  size_parts = cut_parts first last left h ((size - first % size) % size) e rises low high (ap (λ (n : ℕ). (n - first % n) % n) s)

-- ---- one block after the other

module _ {first last rise fall : ℕ} (p : Parts first last rise fall) where
  pub bits_le : (M : ℕ) → last < 2 ^ M → p.bits ≤ M
  bits_le M h = pow_cancel p.bits M (omega (arith, p.room))

  -- on the way up
  module _ (pos : 0 < rise) (M : ℕ) (small : last < 2 ^ M) where
    abbrev k : ℕ
    k = count_trailing_zeros M first

    unaligned : ¬ Aligned p.bits first
    unaligned h = omega (arith, p.few, aligned_gap p.bits h p.aligned (omega arith))

    pub rise_bits : k < p.bits
    rise_bits = elim (dec_lt k p.bits) [
      | yes h ↦ h
      | no n ↦ absurd (unaligned (aligned_mono first (omega arith) (trailing_aligned M first)))
    ]

    rise_not : ¬ Aligned (suc k) first
    rise_not h = omega (arith, rise_bits, bits_le M small, (aligned_trailing M first (suc k) (omega (arith, rise_bits, bits_le M small))).0 h)

    pub rise_size : 2 ^ k ≤ rise
    rise_size = omega (arith, aligned_gap k (trailing_aligned M first) (aligned_mono (first + rise) (omega (arith, rise_bits)) p.aligned) (omega arith))

    pub rise_next : Parts (first + 2 ^ k) last (rise - 2 ^ k) fall
    rise_next =
        let s = rise_size in
        let e : first + 2 ^ k + (rise - 2 ^ k) ≡ first + rise = omega arith in
        record { bits = p.bits; room = p.room; few = omega (arith, p.few); aligned = rw e p.aligned; some = p.some; less = p.less; all = omega (arith, p.all) }

    pub rise_step : (W : ℕ) → last < 2 ^ W → range_blocks W first last ≡ block_at W first k ∷ range_blocks W (first + 2 ^ k) last
    rise_step W top =
        let room : first + 2 ^ k ≤ suc last = omega (arith, rise_size, p.all) in
        range_step W last first k (omega (arith, rise_bits, bits_le W top)) (record { aligned = trailing_aligned M first; room = room }) (inr (λ g. rise_not g.aligned))

    -- what is left on the way up has one bit less
    rise_rest : Aligned (suc k) (rise - 2 ^ k)
    rise_rest =
        let s = rise_size in
        let e : first + rise ≡ first + 2 ^ k + (rise - 2 ^ k) = omega arith in
        aligned_rest (suc k) (first + 2 ^ k) (rise - 2 ^ k) (aligned_odd k first (trailing_aligned M first) rise_not)
        (subst (Aligned (suc k)) e (aligned_mono (first + rise) rise_bits p.aligned))

-- on the way down
module _ {first last fall : ℕ} (p : Parts first last 0 fall) (k : ℕ) (low : 2 ^ k ≤ fall) (high : fall < 2 ^ suc k) where
  fall_aligned : Aligned k first
  fall_aligned =
      let h : k ≤ p.bits = elim (dec_le k p.bits) [ yes l ↦ l | no n ↦ absurd (omega (arith, p.less, pow_mono {i = suc p.bits} {j = k} (omega arith))) ] in
      aligned_mono first h (subst (Aligned p.bits) (add-zero first) p.aligned)

  pub fall_bits : (W : ℕ) → last < 2 ^ W → k ≤ W
  fall_bits W top = pow_cancel k W (omega (arith, p.all))

  pub fall_step : (W : ℕ) → last < 2 ^ W → range_blocks W first last ≡ block_at W first k ∷ range_blocks W (first + 2 ^ k) last
  fall_step W top =
      range_step W last first k (fall_bits W top) (record { aligned = fall_aligned; room = omega (arith, p.all) }) (inr (λ g. omega (arith, g.room, p.all)))

  pub fall_next : 2 ^ k < fall → Parts (first + 2 ^ k) last 0 (fall - 2 ^ k)
  fall_next more = record {
    bits = k;
    room = omega (arith, p.all);
    few = pow_pos k;
    aligned = rw (add-zero (first + 2 ^ k)) (aligned_next k first fall_aligned);
    some = omega arith;
    less = omega arith;
    all = omega (arith, p.all);
  }

  pub fall_done : fall ≤ 2 ^ k → (W : ℕ) → range_blocks W (first + 2 ^ k) last ≡ []
  fall_done h W = range_done W last (first + 2 ^ k) (omega (arith, p.all))

parts_down : {first last rise fall : ℕ} → rise ≡ 0 → Parts first last rise fall → Parts first last 0 fall
parts_down {first} {last} {rise} {fall} e p = subst (λ (r : ℕ). Parts first last r fall) e p

-- ---- how many blocks

ones_zero : ones 0 ≡ 0
unfolding ones
ones_zero = refl

ones_one : ones 1 ≡ 1
unfolding ones
ones_one = refl

-- the highest bit, and the lowest
ones_high : (k n : ℕ) → 2 ^ k ≤ n → n < 2 ^ suc k → ones n ≡ suc (ones (n - 2 ^ k))
ones_high k n low high =
    let e : n ≡ 1 * 2 ^ k + (n - 2 ^ k) = omega arith in
    ap ones e ∙ ones_cat k 1 (n - 2 ^ k) (omega arith) ∙ ap (λ (m : ℕ). m + ones (n - 2 ^ k)) ones_one ∙ (let q : 1 + ones (n - 2 ^ k) ≡ suc (ones (n - 2 ^ k)) = omega arith in q)

ones_low : (k n : ℕ) → 2 ^ k ≤ n → Aligned (suc k) (n - 2 ^ k) → ones n ≡ suc (ones (n - 2 ^ k))
ones_low k n low h =
    let m = n - 2 ^ k in
    let q = m / 2 ^ suc k in
    let e : m ≡ q * 2 ^ suc k + 0 = omega (arith, quotient (2 ^ suc k) m h) in
    let f : n ≡ q * 2 ^ suc k + 2 ^ k = omega (arith, quotient (2 ^ suc k) m h) in
    let one : ones (2 ^ k) ≡ suc (ones (2 ^ k - 2 ^ k)) = ones_high k (2 ^ k) (omega arith) (omega (arith, pow_pos k)) in
    let none : ones (2 ^ k - 2 ^ k) ≡ 0 = let z : 2 ^ k - 2 ^ k ≡ 0 = omega arith in ap ones z ∙ ones_zero in
    let all = ap ones f ∙ ones_cat (suc k) q (2 ^ k) (omega (arith, pow_pos k)) in
    let rest = ap ones e ∙ ones_cat (suc k) q 0 (pow_pos (suc k)) in
    omega (arith, ones_zero)

-- THEOREM: a run has as many blocks as its parts have bits.
pub parts_count : (W last : ℕ) → last < 2 ^ W → (n first rise fall : ℕ) → rise + fall ≤ n → Parts first last rise fall → length (range_blocks W first last) ≡ ones rise + ones fall
parts_count W last top zero first rise fall h p = absurd (omega (arith, p.some))
parts_count W last top (suc n) first rise fall h p = elim (dec_lt 0 rise) [
  | yes pos ↦
      let k = count_trailing_zeros W first in
      let size = rise_size p pos W top in
      let ih = parts_count W last top n (first + 2 ^ k) (rise - 2 ^ k) fall (omega (arith, pow_pos k)) (rise_next p pos W top) in
      omega (arith, ap length (rise_step p pos W top W top), ones_low k rise size (rise_rest p pos W top))
  | no none ↦
      let z : rise ≡ 0 = omega arith in
      let d = parts_down z p in
      let t = leading_top (suc W) fall p.some (omega (arith, p.all)) in
      let k = t.0 in
      let step = ap length (fall_step d k t.2 t.3 W top) in
      let bit = ones_high k fall t.2 t.3 in
      let up = ap ones z ∙ ones_zero in
      elim (dec_lt (2 ^ k) fall) [
        | yes more ↦
            let ih = parts_count W last top n (first + 2 ^ k) 0 (fall - 2 ^ k) (omega (arith, pow_pos k)) (fall_next d k t.2 t.3 more) in
            omega (arith, ones_zero)
        | no last' ↦
            let nothing : fall - 2 ^ k ≡ 0 = omega (arith, t.2) in
            let end = ap length (fall_done d k t.2 t.3 (omega arith) W) in
            omega (arith, ap ones nothing ∙ ones_zero)
      ]
]
