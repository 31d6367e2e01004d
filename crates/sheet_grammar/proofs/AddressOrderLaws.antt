-- The order of addresses by the rules: it is that of their places, by which entries are sorted, and a total order. Assumes nothing.
use mathlib.Core.Path.{◌≡◌, sym, ap, ap₂, ◌∙◌}
use mathlib.Core.Logic.{◌⊎◌, inl, inr, ◌↔◌}
use Prim.Native.Nat.{ℕ, ◌+◌, ◌*◌, ◌^◌, ◌≤◌, ◌<◌}
use native.Mathlib.Decide.{dec_le}
use native.Mathlib.Omega.{arith}
use lib.Arith.{digits_lt}
use Rattle.address.specs.declared.Address.{Address}
use Rattle.address.specs.declared.Address.TheVariants.{V4, V6}
use Rattle.address.specs.Addresses.{IsAddress}
use Rattle.sheet_answers.specs.Sheets.{place}
use Rattle.sheet_grammar.specs.SheetForm.{NotAfter, ipv4_first, both_ipv4, upper_below, upper_equal}

-- ---- as numbers

-- two addresses of IPv6 as numbers of two digits, over any base: 2 ^ 128 is too large for `omega`
module _ (b hi lo i k : ℕ) (s : lo < b) (t : k < b) where
  numbers_halves : hi * b + lo ≤ i * b + k → NotAfter (V6 hi lo) (V6 i k)
  numbers_halves l = elim (dec_le hi i) [
    | no n ↦ let above : i * b + k < hi * b = digits_lt (omega arith) t in absurd (omega arith)
    | yes h ↦ elim (dec_le i hi) [
      | no n ↦ upper_below {hi = hi} {i = i} (omega arith)
      | yes g ↦ let e : hi ≡ i = omega arith in upper_equal {lo = lo} {k = k} e (omega (arith, ap (λ (x : ℕ). x * b) e))
    ]
  ]

  upper_number : hi < i → hi * b + lo ≤ i * b + k
  upper_number h = let below : hi * b + lo < i * b = digits_lt h s in omega arith

  lower_number : hi ≡ i → lo ≤ k → hi * b + lo ≤ i * b + k
  lower_number e h = omega (arith, ap (λ (x : ℕ). x * b) e)

-- ---- as places

-- numbers put behind k others
ahead : (k m n : ℕ) → m < k → m ≤ k + n
ahead k m n h = omega arith

behind : (k m n : ℕ) → m ≤ n → k + m ≤ k + n
behind k m n h = omega arith

before : (k m n : ℕ) → k + m ≤ k + n → m ≤ n
before k m n h = omega arith

pub not_after_place : {a b : Address} → IsAddress a → IsAddress b → NotAfter a b → place a ≤ place b
not_after_place p q (ipv4_first {v} {hi} {lo}) = ahead (2 ^ 32) v (hi * 2 ^ 64 + lo) (omega arith)
not_after_place p q (both_ipv4 h) = omega arith
not_after_place p q (upper_below {hi} {lo} {i} {k} h) = behind (2 ^ 32) (hi * 2 ^ 64 + lo) (i * 2 ^ 64 + k) (upper_number (2 ^ 64) hi lo i k p.1 q.1 h)
not_after_place p q (upper_equal {hi} {lo} {i} {k} e h) = behind (2 ^ 32) (hi * 2 ^ 64 + lo) (i * 2 ^ 64 + k) (lower_number (2 ^ 64) hi lo i k p.1 q.1 e h)

pub place_not_after : (a b : Address) → IsAddress a → IsAddress b → place a ≤ place b → NotAfter a b
place_not_after (V4 v) (V4 w) p q h = both_ipv4 h
place_not_after (V4 v) (V6 i k) p q h = ipv4_first
place_not_after (V6 hi lo) (V4 w) p q h = absurd (omega arith)
place_not_after (V6 hi lo) (V6 i k) p q h = numbers_halves (2 ^ 64) hi lo i k p.1 q.1 (before (2 ^ 32) (hi * 2 ^ 64 + lo) (i * 2 ^ 64 + k) h)

-- two of IPv6 as their numbers
pub as_numbers : (hi lo i k : ℕ) → IsAddress (V6 hi lo) → IsAddress (V6 i k) → NotAfter (V6 hi lo) (V6 i k) ↔ (hi * 2 ^ 64 + lo ≤ i * 2 ^ 64 + k)
as_numbers hi lo i k p q = (
  λ n. before (2 ^ 32) (hi * 2 ^ 64 + lo) (i * 2 ^ 64 + k) (not_after_place p q n),
  numbers_halves (2 ^ 64) hi lo i k p.1 q.1,
)

-- ---- an order

pub total : (a b : Address) → NotAfter a b ⊎ NotAfter b a
total (V4 v) (V4 w) = elim (dec_le v w) [ yes h ↦ inl (both_ipv4 h) | no n ↦ inr (both_ipv4 {v = w} {w = v} (omega arith)) ]
total (V4 v) (V6 i k) = inl ipv4_first
total (V6 hi lo) (V4 w) = inr ipv4_first
total (V6 hi lo) (V6 i k) = elim (dec_le hi i) [
  | no n ↦ inr (upper_below {hi = i} {i = hi} (omega arith))
  | yes h ↦ elim (dec_le i hi) [
    | no n ↦ inl (upper_below {hi = hi} {i = i} (omega arith))
    | yes g ↦
        let e : hi ≡ i = omega arith in
        elim (dec_le lo k) [ yes l ↦ inl (upper_equal e l) | no n ↦ inr (upper_equal {lo = k} {k = lo} (sym e) (omega arith)) ]
  ]
]

pub antisymmetric : {a b : Address} → NotAfter a b → NotAfter b a → a ≡ b
antisymmetric ipv4_first h = elim h [ ]
antisymmetric (both_ipv4 h) (both_ipv4 g) = ap V4 (omega arith)
antisymmetric (upper_below h) (upper_below g) = absurd (omega arith)
antisymmetric (upper_below h) (upper_equal e g) = absurd (omega arith)
antisymmetric (upper_equal e h) (upper_below g) = absurd (omega arith)
antisymmetric (upper_equal e h) (upper_equal f g) = ap₂ V6 e (omega arith)

pub transitive : {a b c : Address} → NotAfter a b → NotAfter b c → NotAfter a c
transitive ipv4_first (upper_below g) = ipv4_first
transitive ipv4_first (upper_equal e g) = ipv4_first
transitive (both_ipv4 h) ipv4_first = ipv4_first
transitive (both_ipv4 {v} h) (both_ipv4 {w = w} g) = both_ipv4 {v = v} {w = w} (omega arith)
transitive (upper_below {hi} h) (upper_below {i = i} g) = upper_below {hi = hi} {i = i} (omega arith)
transitive (upper_below {hi} h) (upper_equal {i = i} e g) = upper_below {hi = hi} {i = i} (omega arith)
transitive (upper_equal {hi} e h) (upper_below {i = i} g) = upper_below {hi = hi} {i = i} (omega arith)
transitive (upper_equal {lo = lo} e h) (upper_equal {k = k} f g) = upper_equal {lo = lo} {k = k} (e ∙ f) (omega arith)
