-- Numbers of two digits in a base b: the halves of a wide number, with b = 2 ^ 64. Assumes nothing.
-- The base is a variable, since `omega` takes no numeral of 128 bits.
use Rattle.std.proofs.Common.{◌≡◌, ℕ, ◌+◌, ◌-◌, ◌*◌, ◌%◌, ◌^◌, ◌<◌, ◌≤◌, min, false, eqb, sym, ap, ◌∙◌, mul-le-mul_right, add-mul, one-mul, arith, shl_exact, eq-eqb, ne_eqb}
use native.Mathlib.Decide.{dec_lt, ℕ_discrete}
use lib.Arith.{digits_lt}
use Rattle.wide.specs.declared.Wide.{Wide}
use Rattle.wide.specs.Value.{value}

module _ (b ah al bh bl : ℕ) where
  -- the number with the larger upper digit is the larger
  pub high_less : ah < bh → al < b → ah * b + al < bh * b + bl
  high_less h l = let d : ah * b + al < bh * b = digits_lt h l in omega arith

  -- two with the same upper digit are the same where the lower ones are
  pub low_same : ah ≡ bh → eqb al bl ≡ eqb (ah * b + al) (bh * b + bl)
  low_same e =
      let p = ap (λ (x : ℕ). x * b) e in
      elim (ℕ_discrete al bl) [
        | yes h ↦ eq-eqb al bl h ∙ sym (eq-eqb (ah * b + al) (bh * b + bl) (omega arith))
        | no n ↦ ne_eqb al bl n ∙ sym (ne_eqb (ah * b + al) (bh * b + bl) (λ q. n (omega arith)))
      ]

  -- a sum with the carry c that fits two digits
  pub add_fits : (c h l : ℕ) → al + bl ≡ c * b + l → l < b → h ≡ ah + bh + c → h < b → h * b + l ≡ min (ah * b + al + (bh * b + bl)) (b * b - 1)
  add_fits c h l low small e fits =
      let s : h * b ≡ ah * b + bh * b + c * b = ap (λ (x : ℕ). x * b) e ∙ add-mul (ah + bh) c b ∙ ap (λ (x : ℕ). x + c * b) (add-mul ah bh b) in
      let d : h * b + l < b * b = digits_lt fits small in
      omega arith

  -- and one that does not
  pub add_full : (c m : ℕ) → c * b ≤ al + bl → b ≤ ah + bh + c → m + 1 ≡ b → m * b + m ≡ min (ah * b + al + (bh * b + bl)) (b * b - 1)
  add_full c m carry full e =
      let s : b * b ≤ (ah + bh + c) * b = mul-le-mul_right b full in
      let t : (ah + bh + c) * b ≡ ah * b + bh * b + c * b = add-mul (ah + bh) c b ∙ ap (λ (x : ℕ). x + c * b) (add-mul ah bh b) in
      let u : b * b ≡ m * b + b = ap (λ (x : ℕ). x * b) (sym e) ∙ add-mul m 1 b ∙ ap (λ (x : ℕ). m * b + x) (one-mul b) in
      omega arith

  -- a difference with no borrow, with one, and of a number that is no larger
  pub sub_plain : bh ≤ ah → bl ≤ al → (ah - bh) * b + (al - bl) ≡ ah * b + al - (bh * b + bl)
  sub_plain h l =
      let s : ah ≡ ah - bh + bh = omega arith in
      let e : ah * b ≡ (ah - bh) * b + bh * b = ap (λ (x : ℕ). x * b) s ∙ add-mul (ah - bh) bh b in
      omega arith

  pub sub_borrow : bh < ah → al < bl → bl < b → (ah - bh - 1) * b + (b - 1 - bl + al + 1) ≡ ah * b + al - (bh * b + bl)
  sub_borrow h l k =
      let s : ah ≡ ah - bh - 1 + (bh + 1) = omega arith in
      let e : ah * b ≡ (ah - bh - 1) * b + (bh + 1) * b = ap (λ (x : ℕ). x * b) s ∙ add-mul (ah - bh - 1) (bh + 1) b in
      let f : (bh + 1) * b ≡ bh * b + b = add-mul bh 1 b ∙ ap (λ (x : ℕ). bh * b + x) (one-mul b) in
      omega arith

  pub sub_none : ah ≡ bh → al ≤ bl → 0 ≡ ah * b + al - (bh * b + bl)
  sub_none e l = omega (arith, ap (λ (x : ℕ). x * b) e)

-- two numbers whose upper digits differ are not the same
pub high_other : (b ah al bh bl : ℕ) → al < b → bl < b → ¬ (ah ≡ bh) → eqb (ah * b + al) (bh * b + bl) ≡ false
high_other b ah al bh bl l k n = ne_eqb (ah * b + al) (bh * b + bl) (λ e. elim (dec_lt ah bh) [
  | yes h ↦ omega (arith, high_less b ah al bh bl h l)
  | no m ↦ omega (arith, high_less b bh bl ah al (omega arith) k)
])

-- a wide number has 128 bits
pub value_lt : (w : Wide) → w.hi < 2 ^ 64 → w.lo < 2 ^ 64 → value w < 2 ^ 128
value_lt w h l = digits_lt h l

-- ---- one half

-- a one that is shifted by less than the width
pub one_shifted : (k : ℕ) → k < 64 → 1 * 2 ^ k % 2 ^ 64 ≡ 2 ^ k
one_shifted k h = shl_exact 1 k 64 (omega arith) (omega arith) ∙ one-mul (2 ^ k)
