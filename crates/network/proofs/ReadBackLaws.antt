-- What the text of a network is read as. Assumes nothing.
use Rattle.std.specs.Prelude.{Some}
use mathlib.Core.Path.{◌≡◌, refl, sym, ap, ap₂, ◌∙◌}
use mathlib.Core.Bool.{false}
use mathlib.Core.List.{List, ◌∷◌, ◌++◌, map, append-nil}
use Prim.Native.Nat.{ℕ, ◌+◌, ◌-◌, ◌*◌, ◌/◌, ◌^◌, ◌≤◌, max}
use native.Mathlib.Nat.{mul_assoc, one-le-pow}
use native.Mathlib.Omega.{arith}
use borrow.Author.Tests.{le-ltb}
use lib.Dec.{eqb, lit≤, lit<}
use lib.ListN.{length, take, drop, replicate}
use lib.Pow.{pow-add}
use lib.Seq.{length-take-le, take_at}
use Rattle.notation.specs.BigEndian.{AllBelow, digits_of}
use Rattle.notation.specs.Pieces.{separated, Lacks}
use Rattle.notation.proofs.DigitLaws.{digits_length, digits_below, below_take, digits_split, digits_zero, bits_power}
use Rattle.notation.proofs.SeparatedLaws.{seam}
use Rattle.address.specs.Answers.{gives, write_leaves}
use Rattle.digits.specs.Numerals.{digit_of, decimal, part_of}
use Rattle.digits.proofs.NumeralLaws.{decimal_part}
use Rattle.digits.proofs.MarkLaws.{not_marked}
use Rattle.digits.proofs.SeparatedNumeralLaws.{numerals_lack}
use Rattle.ipv4_text.proofs.DottedLaws.{parts_spelling}
use Rattle.ipv4_text.proofs.PartLaws.{every_decimal}
use Rattle.network.specs.GivenBytes.{given_of, zero_filled}
use Rattle.network.specs.NetworkText.{size_bytes, cleared, network_text}
use Rattle.network.specs.Network.{Network, completed, network_of, network_answer, network_leaves}
use Rattle.network.proofs.TextLaws.{cleared_high, text_most}
use Rattle.network.proofs.NetworkLaws.{answer_stored}

-- ---- a text with a slash

-- what is given before the first slash, and the size behind it
slash_network : (s t xs : List ℕ) (size : ℕ) → Lacks 47 s → given_of s ≡ Some xs → part_of 999 t ≡ Some size → network_of (s ++ 47 ∷ t) ≡ Some (completed size xs)
unfolding network_of
slash_network s t xs size l e f = let w = seam 47 s t l in rw (w.0, w.1, w.2, e, f)

-- ---- octets in decimal, with dots

-- no byte but digits and dots
octets_lack : (b : ℕ) → digit_of b ≡ 16 → eqb 46 b ≡ false → (xs : List ℕ) → Lacks b (separated 46 (map decimal xs))
octets_lack b = numerals_lack 10 3 46 b (lit≤ tt) (lit< tt) (lit≤ tt)

module _ (xs : List ℕ) (small : AllBelow 256 xs) (any : 1 ≤ length xs) (most : length xs ≤ 4) where
  octets_given : given_of (separated 46 (map decimal xs)) ≡ Some xs
  unfolding given_of digit_of
  octets_given = rw (not_marked (separated 46 (map decimal xs)) (octets_lack 120 refl refl xs) (octets_lack 88 refl refl xs)) (parts_spelling (map decimal xs) xs (every_decimal xs small) any most)

  -- with a slash and a size behind them
  octets_network : (size : ℕ) → size ≤ 999 → network_of (separated 46 (map decimal xs) ++ 47 ∷ decimal size) ≡ Some (completed size xs)
  unfolding digit_of
  octets_network size h = slash_network (separated 46 (map decimal xs)) (decimal size) xs size (octets_lack 47 refl refl xs) octets_given (decimal_part 999 size h (omega arith))

-- no zeros are missing where there are bytes enough
network_whole : (size : ℕ) (xs : List ℕ) → size_bytes size ≤ length xs → completed size xs ≡ record { size = size; bytes = xs }
unfolding completed
network_whole size xs h =
    let none_missing : max (length xs) (size_bytes size) - length xs ≡ 0 = omega arith in
    ap (λ bs. record { size = size; bytes = bs }) (ap (λ (n : ℕ). xs ++ replicate n 0) none_missing ∙ append-nil xs)

-- ---- the octets behind the size

-- a multiple of 256 ^ n ends in n octets that are zero
multiple_filled : (k hi : ℕ) → k ≤ 4 → zero_filled 4 (take k (digits_of 256 4 (hi * 256 ^ (4 - k)))) ≡ digits_of 256 4 (hi * 256 ^ (4 - k))
unfolding zero_filled
multiple_filled k hi h =
    let n = 4 - k in
    let all : 4 ≡ k + n = omega arith in
    let same : hi * 256 ^ n ≡ hi * 256 ^ n + 0 = omega arith in
    let halves = digits_split 256 (lit< tt) k n hi 0 (one-le-pow n 256 (lit< tt)) in
    let parts : digits_of 256 4 (hi * 256 ^ n) ≡ digits_of 256 k hi ++ replicate n 0 = ap₂ (digits_of 256) all same ∙ halves ∙ ap (λ r. digits_of 256 k hi ++ r) (digits_zero 256 n) in
    rw (parts, take_at (digits_of 256 k hi) (replicate n 0) k (digits_length 256 k hi), digits_length 256 k hi)

-- a cleared number is one, with as many zero octets as the size does not reach
cleared_filled : (v size k : ℕ) → size ≤ 8 * k → k ≤ 4 → zero_filled 4 (take k (digits_of 256 4 (cleared 32 size v))) ≡ digits_of 256 4 (cleared 32 size v)
cleared_filled v size k h four =
    let n = 4 - k in
    let j = 32 - size - 8 * n in
    let hi = v / 2 ^ (32 - size) in
    let bits : 32 - size ≡ j + 8 * n = omega arith in
    let power : 2 ^ (32 - size) ≡ 2 ^ j * 256 ^ n = ap (λ (e : ℕ). 2 ^ e) bits ∙ pow-add 2 j (8 * n) ∙ ap (λ (p : ℕ). 2 ^ j * p) (sym (bits_power 8 n)) in
    let multiple : cleared 32 size v ≡ hi * 2 ^ j * 256 ^ n = cleared_high 32 size v ∙ ap (λ (p : ℕ). hi * p) power ∙ sym (mul_assoc hi (2 ^ j) (256 ^ n)) in
    rw multiple (multiple_filled k (hi * 2 ^ j) four)

-- ---- the network of a text that was written

module _ (v size : ℕ) where
  abbrev pub written : Network
  written = record { size = size; bytes = take (max 1 (size_bytes size)) (digits_of 256 4 (cleared 32 size v)) }

  module _ (h : size ≤ 32) where
    pub written_length : length written.bytes ≡ max 1 (size_bytes size)
    written_length = length-take-le (max 1 (size_bytes size)) (digits_of 256 4 (cleared 32 size v)) (omega (arith, digits_length 256 4 (cleared 32 size v)))

    pub written_read : network_of (network_text v size) ≡ Some written
    unfolding network_text
    written_read =
        let long = written_length in
        octets_network written.bytes (below_take 256 (max 1 (size_bytes size)) (digits_of 256 4 (cleared 32 size v)) (digits_below 256 (lit< tt) 4 (cleared 32 size v))) (omega arith) (omega arith) size (omega arith)
        ∙ ap Some (network_whole size written.bytes (omega arith))

    pub written_filled : zero_filled 4 written.bytes ≡ digits_of 256 4 (cleared 32 size v)
    written_filled = cleared_filled v size (max 1 (size_bytes size)) (omega arith) (omega arith)

-- ---- answers

network_gives : (t old : List ℕ) (n : Network) (k : ℕ) → network_of t ≡ Some n → length n.bytes ≡ k → length t ≤ 64 → n.size ≤ 32 → k ≤ length old
    → (network_answer t old ≡ gives (n.size, k)) × (network_leaves t old ≡ n.bytes ++ drop k old)
unfolding write_leaves
network_gives t old n k e l short small room =
    let a = answer_stored t old short n e small in
    let fits = le-ltb (length old) k room in
    (sym a.0 ∙ rw (l, fits), sym a.1 ∙ rw (l, fits))

pub written_answer_lem : (v size : ℕ) (old : List ℕ) → size ≤ 32 → max 1 (size_bytes size) ≤ length old
    → (network_answer (network_text v size) old ≡ gives (size, max 1 (size_bytes size)))
    × (network_leaves (network_text v size) old ≡ (written v size).bytes ++ drop (max 1 (size_bytes size)) old)
written_answer_lem v size old h =
    network_gives (network_text v size) old (written v size) (max 1 (size_bytes size)) (written_read v size h) (written_length v size h) (omega (arith, text_most v size h)) h
