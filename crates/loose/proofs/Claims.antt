-- What is claimed of the loose IPv4 form; that exactly its texts are read, and what they mean, is claimed in `grammar`. Assumes nothing.
use Rattle.std.specs.Prelude.{Some}
use mathlib.Core.Path.{◌≡◌}
use mathlib.Core.List.{List}
use Prim.Native.Nat.{ℕ}
use Rattle.address.specs.declared.Address.{Address}
use Rattle.address.specs.declared.Address.TheVariants.{V4}
use Rattle.address.specs.Addresses.{IsAddress}
use Rattle.ipv4_text.specs.Dotted.{dotted_of}
use Rattle.loose.specs.Loose.{loose_of}
use Rattle.loose.proofs.MeaningLaws.{loose_address, strict_loose}

-- What a loose text means is an address: the last part "fills the remaining bytes", so that all parts fill 32 bits.
pub reads_address : (t : List ℕ) (a : Address) → loose_of t ≡ Some a → IsAddress a
reads_address = loose_address

-- A strict IPv4 text means the same address in the loose form: no strict part has a leading zero but `0`, and "`0` is zero".
pub strict_is_loose : (t : List ℕ) (v : ℕ) → dotted_of t ≡ Some v → loose_of t ≡ Some (V4 v)
strict_is_loose = strict_loose
