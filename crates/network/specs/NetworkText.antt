-- The network form, written (01, "Network form"; document 000). A text is the list of its bytes. Assumes nothing.
use Rattle.std.specs.Prelude.{List, [], ◌∷◌, ◌++◌, map, ℕ, ◌+◌, ◌-◌, ◌/◌, ◌%◌, ◌^◌, max, ltb, eqb, take}
use Rattle.notation.specs.BigEndian.{digits_of}
use Rattle.notation.specs.Pieces.{separated}
use Rattle.address.specs.declared.Address.{Address}
use Rattle.address.specs.Addresses.{family}
use Rattle.address.specs.Answers.{precedence, refusal}
use Rattle.digits.specs.Numerals.{decimal}

-- "the size divided by eight, rounded up"
abbrev pub size_bytes : ℕ → ℕ
size_bytes size = (size + 7) / 8

-- a number of W bits, "bits beyond the size cleared"
unfoldable pub cleared : ℕ → ℕ → ℕ → ℕ
cleared W size v = v - v % 2 ^ (W - size)

-- "the first (size/8, rounded up) bytes in decimal with dots, bits beyond the size cleared, a slash and the size. Size 0 writes `0/0`."
unfoldable pub network_text : ℕ → ℕ → List ℕ
unfolding cleared digits_of separated
network_text v size = separated 46 (map decimal (take (max 1 (size_bytes size)) (digits_of 256 4 (cleared 32 size v)))) ++ 47 ∷ decimal size

-- "an IPv6 address is handed to [...] the network writer", "a length or bit count is above 32"
unfoldable pub write_network_refusal : Address → ℕ → ℕ
unfolding refusal
write_network_refusal a size = refusal precedence ((9, eqb (family a) 6) ∷ (4, ltb 32 size) ∷ [])
