-- Addresses: their family, width, number and order (01, "What the register needs now" and "Blocks and ranges"). Assumes nothing.
use Rattle.std.specs.Prelude.{Bool, cond, ◌&&◌, ℕ, ◌+◌, ◌*◌, ◌^◌, ◌<◌, eqb, ltb, Option, Some, None}
use Rattle.std.specs.declared.cmp.Ordering.{Ordering}
use Rattle.std.specs.declared.cmp.Ordering.TheVariants.{Less, Equal, Greater}
use Rattle.address.specs.declared.Address.{Address}
use Rattle.address.specs.declared.Address.TheVariants.{V4, V6}

-- 4 or 6
abbrev pub family : Address → ℕ
family (V4 v) = 4
family (V6 hi lo) = 6

-- how many bits an address of the family has
abbrev pub width : Address → ℕ
width (V4 v) = 32
width (V6 hi lo) = 128

-- "ordered as numbers of 32 or 128 bits, the first byte highest"
abbrev pub number : Address → ℕ
number (V4 v) = v
number (V6 hi lo) = hi * 2 ^ 64 + lo

-- each part has the bits that the code's type gives it
abbrev pub IsAddress : Address → Type 0
IsAddress (V4 v) = v < 2 ^ 32
IsAddress (V6 hi lo) = (hi < 2 ^ 64) × (lo < 2 ^ 64)

-- ---- order

abbrev pub number_order : ℕ → ℕ → Ordering
number_order m n = cond (ltb m n) Less (cond (eqb m n) Equal Greater)

-- addresses of one family are ordered as their numbers, those of two are not ordered
abbrev pub address_order : Address → Address → Option Ordering
address_order a b = cond (eqb (family a) (family b)) (Some (number_order (number a) (number b))) None

-- whether two addresses are of one family and one number
abbrev pub same_address : Address → Address → Bool
same_address a b = eqb (family a) (family b) && eqb (number a) (number b)
