-- What is claimed of strict text (01, "Strict text"). That exactly the texts of the published grammar are read, and what they mean, is claimed in
-- `grammar`. Assumes nothing.
use Rattle.std.specs.Prelude.{Option, Some, None}
use mathlib.Core.Path.{◌≡◌, refl}
use mathlib.Core.Bool.{true, false}
use mathlib.Core.List.{List, map}
use Prim.Native.Nat.{ℕ}
use native.Mathlib.Omega.{arith}
use lib.Dec.{eqb}
use Rattle.notation.specs.Pieces.{contains}
use Rattle.address.specs.declared.Address.{Address}
use Rattle.address.specs.Addresses.{IsAddress}
use Rattle.digits.specs.Numerals.{digit_of, lower}
use Rattle.text.specs.Strict.{strict_of}
use Rattle.text.proofs.CaseLaws.{lower_strict}
use Rattle.text.proofs.FamilyLaws.{no_colon_4, colon_6}
use Rattle.text.proofs.ByteLaws.{strict_lacks}
use Rattle.text.proofs.MeaningLaws.{strict_address}

-- What a strict text is read as is an address: 32 bits, or two halves of 64.
pub reads_address : (family : ℕ) (t : List ℕ) (a : Address) → strict_of family t ≡ Some a → IsAddress a
reads_address = strict_address

-- "IPv6 text always has a colon and IPv4 text never has one."
pub always_colon : (t : List ℕ) (a : Address) → strict_of 6 t ≡ Some a → contains 58 t ≡ true
always_colon = colon_6

pub never_colon : (t : List ℕ) (a : Address) → strict_of 4 t ≡ Some a → contains 58 t ≡ false
never_colon = no_colon_4

-- "A zero byte inside it is a wrong byte. Surrounding blanks are wrong bytes": so is every byte but a hex digit, a dot and a colon, so that
-- no zone, port or bracket is read.
pub only_these : (b : ℕ) → digit_of b ≡ 16 → eqb 46 b ≡ false → eqb 58 b ≡ false → (family : ℕ) (t : List ℕ) (a : Address) → strict_of family t ≡ Some a → contains b t ≡ false
only_these = strict_lacks

-- "No text is both".
pub not_both : (t : List ℕ) (a : Address) → strict_of 4 t ≡ Some a → strict_of 6 t ≡ None
not_both t a e = go (strict_of 6 t) refl
  where
    go : (o : Option Address) → strict_of 6 t ≡ o → o ≡ None
    go None q = refl
    go (Some b) q =
        let z : ◌≡◌ {A = ℕ} 0 1 = cc (always_colon t b q, never_colon t a e) in
        absurd (omega arith)

-- "hex digits, either case": a text is read as the same text in lower case.
pub either_case : (family : ℕ) (t : List ℕ) → strict_of family (map lower t) ≡ strict_of family t
either_case = lower_strict
