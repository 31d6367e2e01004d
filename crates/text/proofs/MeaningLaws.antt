-- What strict text is read as is an address. Assumes nothing.
use Rattle.std.specs.Prelude.{Option, Some, None, option_map}
use mathlib.Core.Path.{◌≡◌, refl, subst}
use mathlib.Core.Bool.{Bool, true, false, cond}
use mathlib.Core.List.{List}
use Prim.Native.Nat.{ℕ}
use native.Mathlib.Omega.{arith}
use lib.Dec.{eqb}
use lib.ListN.{take, drop, length-drop}
use lib.Seq.{length-take-le}
use Rattle.notation.specs.Options.{or_else}
use Rattle.notation.proofs.OptionLaws.{impossible}
use Rattle.notation.proofs.DigitLaws.{number_below, below_take, below_drop}
use Rattle.address.specs.declared.Address.{Address}
use Rattle.address.specs.declared.Address.TheVariants.{V4}
use Rattle.address.specs.Addresses.{IsAddress}
use Rattle.address_groups.specs.Groups.{groups_address}
use Rattle.ipv4_text.specs.Dotted.{dotted_of}
use Rattle.ipv4_text.proofs.DottedLaws.{dotted_below}
use Rattle.ipv6_text.specs.EightGroups.{eight_of}
use Rattle.ipv6_text.proofs.MeaningLaws.{EightGroups, eight_groups}
use Rattle.text.specs.Strict.{strict_of}

groups_address_lem : (gs : List ℕ) → EightGroups gs → IsAddress (groups_address gs)
unfolding groups_address
groups_address_lem gs e = (
  number_below 65536 4 (take 4 gs) (length-take-le 4 gs (omega (arith, e.count))) (below_take 65536 4 gs e.small),
  number_below 65536 4 (drop 4 gs) (omega (arith, e.count, length-drop 4 gs)) (below_drop 65536 4 gs e.small),
)

pub strict_address : (f : ℕ) (t : List ℕ) (a : Address) → strict_of f t ≡ Some a → IsAddress a
unfolding strict_of
strict_address f t a e = go (dotted_of t) (eight_of t) refl refl (eqb f 6) (eqb f 4) e
  where
    six : (o : Option (List ℕ)) → eight_of t ≡ o → (c : Bool) → cond c None (option_map groups_address o) ≡ Some a → IsAddress a
    six o q true k = impossible k
    six None q false k = impossible k
    six (Some gs) q false k = let is : groups_address gs ≡ a = cc in subst IsAddress is (groups_address_lem gs (eight_groups t gs q))

    go : (p : Option ℕ) (o : Option (List ℕ)) → dotted_of t ≡ p → eight_of t ≡ o → (b c : Bool)
        → or_else (cond b None (option_map V4 p)) (cond c None (option_map groups_address o)) ≡ Some a → IsAddress a
    go None o q r true c k = six o r c k
    go None o q r false c k = six o r c k
    go (Some v) o q r true c k = six o r c k
    go (Some v) o q r false c k = let is : V4 v ≡ a = cc in subst IsAddress is (dotted_below t v q)
