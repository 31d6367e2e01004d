-- What a strict text of each family holds, so that no text is of both. Assumes nothing.
use Rattle.std.specs.Prelude.{Option, Some, None, option_map}
use mathlib.Core.Path.{◌≡◌, refl}
use mathlib.Core.Bool.{true, false}
use mathlib.Core.List.{List}
use Prim.Native.Nat.{ℕ}
use Rattle.notation.specs.Pieces.{contains}
use Rattle.notation.specs.Options.{or_else}
use Rattle.notation.proofs.OptionLaws.{impossible}
use Rattle.address.specs.declared.Address.{Address}
use Rattle.address.specs.declared.Address.TheVariants.{V4}
use Rattle.address_groups.specs.Groups.{groups_address}
use Rattle.ipv4_text.specs.Dotted.{dotted_of}
use Rattle.ipv6_text.specs.EightGroups.{eight_of}
use Rattle.ipv6_text.proofs.ColonLaws.{dotted_no_colon, eight_colon}
use Rattle.text.specs.Strict.{strict_of}

module _ (t : List ℕ) (a : Address) where
  pub no_colon_4 : strict_of 4 t ≡ Some a → contains 58 t ≡ false
  unfolding strict_of
  no_colon_4 e = go (dotted_of t) refl e
    where
      go : (o : Option ℕ) → dotted_of t ≡ o → or_else (option_map V4 o) None ≡ Some a → contains 58 t ≡ false
      go None q k = impossible k
      go (Some v) q k = dotted_no_colon t v q

  pub colon_6 : strict_of 6 t ≡ Some a → contains 58 t ≡ true
  unfolding strict_of
  colon_6 e = go (eight_of t) refl e
    where
      go : (o : Option (List ℕ)) → eight_of t ≡ o → option_map groups_address o ≡ Some a → contains 58 t ≡ true
      go None q k = impossible k
      go (Some gs) q k = eight_colon t gs q
