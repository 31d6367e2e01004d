-- The eight groups of an IPv6 address, as one value (01, "What the register needs now"). Assumes nothing.
use Rattle.std.specs.Prelude.{List, ℕ}
use Rattle.notation.specs.BigEndian.{digits_of, number_of}
use Rattle.address.specs.declared.Address.{Address}
use Rattle.address.specs.declared.Address.TheVariants.{V6}
use Rattle.address.specs.Addresses.{number}
use Rattle.octets.specs.Octets.{halves}

-- the groups of the address with these halves
unfoldable pub groups_of : ℕ → ℕ → List ℕ
unfolding digits_of
groups_of hi lo = digits_of 65536 8 (number (V6 hi lo))

-- the address with these groups
unfoldable pub groups_address : List ℕ → Address
unfolding number_of
groups_address gs = halves 65536 4 gs
