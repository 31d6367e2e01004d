-- The text of a network as the code puts it, its length, and what writing it answers. Assumes nothing.
use mathlib.Core.Path.{◌≡◌, refl, sym, ap, ◌∙◌}
use mathlib.Core.Logic.{◌↔◌}
use mathlib.Core.Bool.{Bool, true, false, cond}
use mathlib.Core.List.{List, [], ◌∷◌, ◌++◌, map, append_assoc}
use Prim.Native.Nat.{ℕ, ◌+◌, ◌-◌, ◌*◌, ◌/◌, ◌%◌, ◌^◌, ◌≤◌, ◌<◌, max}
use native.Mathlib.Decide.{dec_le}
use native.Mathlib.Omega.{arith}
use borrow.Author.Tests.{lt-ltb, le-ltb, lt-leb, ltb-false}
use lib.Dec.{leb, ltb, lit≤, lit<}
use lib.ListN.{length, take, length-append}
use lib.Pow.{split}
use lib.Seq.{length-take-le}
use Rattle.notation.specs.BigEndian.{digits_of}
use Rattle.notation.specs.Pieces.{separated}
use Rattle.notation.proofs.DigitLaws.{four_digits, digits_length}
use Rattle.wide.proofs.Halves.{one_shifted}
use Rattle.address.specs.declared.Address.{Address}
use Rattle.address.specs.declared.Address.TheVariants.{V4, V6}
use Rattle.address.specs.declared.Refusal.TheVariants.{LengthTooLarge, WrongFamily}
use Rattle.address.specs.Addresses.{family}
use Rattle.address.specs.Answers.{refusal_number}
use Rattle.digits.specs.Numerals.{decimal}
use Rattle.digits.proofs.SeparatedNumeralLaws.{numerals_most}
use Rattle.output.proofs.WriteLaws.{decimal_written}
use Rattle.network.specs.NetworkText.{size_bytes, cleared, network_text, write_network_refusal}

-- ---- bits beyond the size cleared

-- 64 bits have room for the power of every size
pub shifted : (size : ℕ) → 1 * 2 ^ (32 - size) % 2 ^ 64 ≡ 2 ^ (32 - size)
shifted size = one_shifted (32 - size) (omega arith)

-- the bits of the size alone
pub cleared_high : (W size v : ℕ) → cleared W size v ≡ v / 2 ^ (W - size) * 2 ^ (W - size)
unfolding cleared
cleared_high W size v = omega (arith, split v (W - size))

cleared_le : (W size v : ℕ) → cleared W size v ≤ v
unfolding cleared
cleared_le W size v = omega arith

-- ---- octets

module _ (a b c d : ℕ) (rest : List ℕ) where
  -- the first octet, and each further one with its dot where it is wanted
  abbrev pub octets_put : Bool → Bool → Bool → List ℕ
  octets_put p q r = decimal a ++ (cond p (46 ∷ decimal b) [] ++ (cond q (46 ∷ decimal c) [] ++ (cond r (46 ∷ decimal d) [] ++ rest)))

  -- the first k octets with dots between them
  abbrev first_octets : ℕ → List ℕ
  first_octets k = separated 46 (map decimal (take k (a ∷ b ∷ c ∷ d ∷ []))) ++ rest

  one_put : octets_put false false false ≡ first_octets 1
  unfolding separated
  one_put = refl

  two_put : octets_put true false false ≡ first_octets 2
  unfolding separated
  two_put = simp append_assoc

  three_put : octets_put true true false ≡ first_octets 3
  unfolding separated
  three_put = simp append_assoc

  four_put : octets_put true true true ≡ first_octets 4
  unfolding separated
  four_put = simp append_assoc

  octets_put_lem : (size : ℕ) → size ≤ 32 → octets_put (ltb 8 size) (ltb 16 size) (ltb 24 size) ≡ first_octets (max 1 (size_bytes size))
  octets_put_lem size h = elim (dec_le size 8) [
    | yes l ↦ let k : max 1 (size_bytes size) ≡ 1 = omega arith in rw (k, le-ltb 8 size l, le-ltb 16 size (omega arith), le-ltb 24 size (omega arith)) one_put
    | no m ↦ elim (dec_le size 16) [
      | yes l ↦ let k : max 1 (size_bytes size) ≡ 2 = omega arith in rw (k, lt-ltb 8 size (omega arith), le-ltb 16 size l, le-ltb 24 size (omega arith)) two_put
      | no n ↦ elim (dec_le size 24) [
        | yes l ↦ let k : max 1 (size_bytes size) ≡ 3 = omega arith in rw (k, lt-ltb 8 size (omega arith), lt-ltb 16 size (omega arith), le-ltb 24 size l) three_put
        | no o ↦ let k : max 1 (size_bytes size) ≡ 4 = omega arith in rw (k, lt-ltb 8 size (omega arith), lt-ltb 16 size (omega arith), lt-ltb 24 size (omega arith)) four_put
      ]
    ]
  ]

-- ---- the text

module _ (v size : ℕ) (small : v < 2 ^ 32) (h : size ≤ 32) where
  -- as the code puts it
  pub text_put : (w : ℕ) → w ≡ cleared 32 size v
      → octets_put (w / 16777216) (w / 65536 % 256) (w / 256 % 256) (w % 256) (47 ∷ decimal size) (ltb 8 size) (ltb 16 size) (ltb 24 size) ≡ network_text v size
  unfolding network_text
  text_put w e =
      let less = cleared_le 32 size v in
      octets_put_lem (w / 16777216) (w / 65536 % 256) (w / 256 % 256) (w % 256) (47 ∷ decimal size) size h
      ∙ ap (λ ds. separated 46 (map decimal (take (max 1 (size_bytes size)) ds)) ++ 47 ∷ decimal size) (sym (four_digits 256 w (omega arith) (lit< tt)) ∙ ap (digits_of 256 4) e)

-- a size has at most two digits
size_most : (size : ℕ) → size < 100 → length (decimal size) ≤ 2
size_most size h = rw (← decimal_written size (omega arith), lt-leb 100 size h) (go (leb 10 size))
  where
    go : (p : Bool) → length (cond p ((48 + size / 10 % 10) ∷ []) [] ++ (48 + size % 10) ∷ []) ≤ 2
    go true = omega arith
    go false = omega arith

pub text_most : (v size : ℕ) → size ≤ 32 → length (network_text v size) ≤ 18
unfolding network_text
text_most v size h =
    let k = max 1 (size_bytes size) in
    let ds = digits_of 256 4 (cleared 32 size v) in
    omega (
      arith,
      length-append (separated 46 (map decimal (take k ds))) (47 ∷ decimal size),
      numerals_most 10 3 46 (lit≤ tt) (lit< tt) (lit≤ tt) (take k ds),
      length-take-le k ds (omega (arith, digits_length 256 4 (cleared 32 size v))),
      size_most size (omega arith),
    )

-- ---- refusals

-- where an IPv4 address is refused for nothing
none_0 : (p : Bool) → cond {A = ℕ} p 4 0 ≡ 0 → p ≡ false
none_0 true e = absurd (omega arith)
none_0 false e = refl

-- nothing but the room is against an IPv4 address and a size up to 32, and against no other
pub no_reason : (a : Address) (size : ℕ) → (write_network_refusal a size ≡ 0) ↔ ((family a ≡ 4) × (size ≤ 32))
unfolding write_network_refusal
no_reason (V4 v) size = (λ e. (refl, ltb-false 32 size (none_0 (ltb 32 size) e)), λ p. rw (le-ltb 32 size p.1))
no_reason (V6 hi lo) size = (λ e. absurd (omega arith), λ p. absurd (omega arith))

pub write_6 : (hi lo size : ℕ) → refusal_number WrongFamily ≡ write_network_refusal (V6 hi lo) size
unfolding write_network_refusal
write_6 hi lo size = refl

pub write_large : (v size : ℕ) → 32 < size → refusal_number LengthTooLarge ≡ write_network_refusal (V4 v) size
unfolding write_network_refusal
write_large v size h = rw (lt-ltb 32 size h)
