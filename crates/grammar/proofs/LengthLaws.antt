-- How long a text can be: 15 and 45 bytes of a strict one, 19 of a network and 49 of a block. Assumes nothing.
use mathlib.Core.List.{List, [], ◌∷◌, ◌++◌}
use Prim.Native.Nat.{ℕ, ◌+◌, ◌*◌, ◌≤◌}
use native.Mathlib.Omega.{arith}
use lib.ListN.{length, length-append}
use Rattle.address.specs.declared.Address.{Address}
use Rattle.grammar.specs.Rfc3986.{dec-octet, 0-9, 10-99, 100-199, 200-249, 250-255, IPv4address, four_octets, h16, 1*4HEXDIG, ls32, h16:h16, ipv4_tail, n-h16:, zero_times, once_more, UpTo, left_out, there, IPv6address, alternative_1, alternative_2, alternative_3, alternative_4, alternative_5, alternative_6, alternative_7, alternative_8, alternative_9}
use Rattle.grammar.specs.StrictForm.{of_octets, of_groups, StrictForm, four, six, either_4, either_6}
use Rattle.grammar.specs.NetworkForm.{DecimalParts, a·b·c·d, a·b·c, a·b, only_a, BytesGiven, after_lower_0x, after_upper_0x, or_decimal, SizePart, one_to_three, only_0, NetworkForm, with_size, without}
use Rattle.grammar.specs.BlockForm.{BlockForm, prefix}

octet_most : {t : List ℕ} {x : ℕ} → dec-octet t x → length t ≤ 3
octet_most (0-9 h) = omega arith
octet_most (10-99 h l e) = omega arith
octet_most (100-199 d e) = omega arith
octet_most (200-249 h l e) = omega arith
octet_most (250-255 h l) = omega arith

pub address_4_most : {t os : List ℕ} → IPv4address t os → length t ≤ 15
address_4_most (four_octets {a} {b} {c} {d} g h i j) =
    omega (
      arith,
      length-append a (46 ∷ (b ++ 46 ∷ (c ++ 46 ∷ d))),
      length-append b (46 ∷ (c ++ 46 ∷ d)),
      length-append c (46 ∷ d),
      octet_most g,
      octet_most h,
      octet_most i,
      octet_most j,
    )

h16_most : {t : List ℕ} {x : ℕ} → h16 t x → length t ≤ 4
h16_most (1*4HEXDIG g l) = l

ls32_most : {t gs : List ℕ} → ls32 t gs → length t ≤ 15
ls32_most (h16:h16 {t} {u} h k) = omega (arith, length-append t (58 ∷ u), h16_most h, h16_most k)
ls32_most (ipv4_tail v) = address_4_most v

times_most : {n : ℕ} {t gs : List ℕ} → n-h16: n t gs → length t ≤ 5 * n
times_most zero_times = omega arith
times_most (once_more {t = t} {u = u} h c) = omega (arith, length-append t (58 ∷ u), h16_most h, times_most c)

up_to_most : {n : ℕ} {t gs : List ℕ} → UpTo n t gs → length t ≤ 5 * n + 4
up_to_most left_out = omega arith
up_to_most (there {t = t} {u = u} k c h) = omega (arith, length-append t u, times_most c, h16_most h)

around_most : {n m : ℕ} {s t u ws xs ys : List ℕ} → UpTo n s ws → n-h16: m t xs → ls32 u ys → n + m ≤ 4 → length (s ++ 58 ∷ 58 ∷ (t ++ u)) ≤ 45
around_most {s = s} {t = t} {u = u} b c l few = omega (arith, length-append s (58 ∷ 58 ∷ (t ++ u)), length-append t u, up_to_most b, times_most c, ls32_most l)

pub address_6_most : {t gs : List ℕ} → IPv6address t gs → length t ≤ 45
address_6_most (alternative_1 {t = t} {u = u} c l) = omega (arith, length-append t u, times_most c, ls32_most l)
address_6_most (alternative_2 {t = t} {u = u} c l) = omega (arith, length-append t u, times_most c, ls32_most l)
address_6_most (alternative_3 b c l) = around_most b c l (omega arith)
address_6_most (alternative_4 b c l) = around_most b c l (omega arith)
address_6_most (alternative_5 b c l) = around_most b c l (omega arith)
address_6_most (alternative_6 b c l) = around_most b c l (omega arith)
address_6_most (alternative_7 {s = s} {u = u} b l) = omega (arith, length-append s (58 ∷ 58 ∷ u), up_to_most b, ls32_most l)
address_6_most (alternative_8 {s = s} {u = u} b h) = omega (arith, length-append s (58 ∷ 58 ∷ u), up_to_most b, h16_most h)
address_6_most (alternative_9 {s = s} b) = omega (arith, length-append s (58 ∷ 58 ∷ []), up_to_most b)

-- ---- network and block text

pub size_short : {t : List ℕ} {n : ℕ} → SizePart t n → length t ≤ 3
size_short (one_to_three h g l) = l
size_short only_0 = omega arith

parts_most : {t bs : List ℕ} → DecimalParts t bs → length t ≤ 15
parts_most (a·b·c·d g h i j) = address_4_most (four_octets g h i j)
parts_most (a·b·c {s} {t} {u} g h i) = omega (arith, length-append s (46 ∷ (t ++ 46 ∷ u)), length-append t (46 ∷ u), octet_most g, octet_most h, octet_most i)
parts_most (a·b {s} {t} g h) = omega (arith, length-append s (46 ∷ t), octet_most g, octet_most h)
parts_most (only_a g) = omega (arith, octet_most g)

given_most : {t bs : List ℕ} → BytesGiven t bs → length t ≤ 15
given_most (after_lower_0x l m r) = omega arith
given_most (after_upper_0x l m r) = omega arith
given_most (or_decimal p) = parts_most p

pub network_most : {t ws : List ℕ} {size : ℕ} → NetworkForm t size ws → length t ≤ 19
network_most (with_size {t} {u} g p w) = omega (arith, length-append t (47 ∷ u), given_most g, size_short p)
network_most (without g i w) = omega (arith, given_most g)

pub strict_most : {f : ℕ} {t : List ℕ} {a : Address} → StrictForm f t a → length t ≤ 45
strict_most (four (of_octets h)) = omega (arith, address_4_most h)
strict_most (six (of_groups h)) = address_6_most h
strict_most (either_4 (of_octets h)) = omega (arith, address_4_most h)
strict_most (either_6 (of_groups h)) = address_6_most h

pub block_most : {t : List ℕ} {a : Address} {n : ℕ} → BlockForm t a n → length t ≤ 49
block_most (prefix {t} {u} s p) = omega (arith, length-append t (47 ∷ u), strict_most s, size_short p)
