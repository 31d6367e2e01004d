-- Which bytes stand in a text of a form: digits, separators and the marks of a base alone. Assumes nothing.
use mathlib.Core.Path.{◌≡◌, refl, ap, ◌∙◌}
use mathlib.Core.Bool.{false}
use mathlib.Core.List.{List, [], ◌∷◌, ◌++◌}
use Prim.Native.Nat.{ℕ, ◌≤◌}
use native.Mathlib.Omega.{arith}
use borrow.Author.Tests.{ne_eqb}
use lib.Dec.{eqb, lit≤}
use Rattle.notation.specs.Pieces.{contains, Lacks}
use Rattle.notation.proofs.SeparatedLaws.{lacks_append}
use Rattle.address.specs.declared.Address.{Address}
use Rattle.digits.specs.Numerals.{digit_of}
use Rattle.digits.proofs.NumeralLaws.{no_digit, part_digits}
use Rattle.text.proofs.ByteLaws.{strict_lacks}
use Rattle.grammar.specs.Rfc3986.{dec-octet, DigitString}
use Rattle.grammar.specs.LooseForm.{LoosePart, after_lower_0x, after_upper_0x, after_0, else_decimal, only_0, LooseForm, a·b·c·d, a·b·c, a·b, only_a}
use Rattle.grammar.specs.NetworkForm.{DecimalParts, BytesGiven, or_decimal, SizePart, NetworkForm, with_size, without}
use Rattle.grammar.specs.NetworkForm as net
use Rattle.grammar.specs.BlockForm.{BlockForm, prefix}
use Rattle.grammar.proofs.DigitStringLaws.{Same, same_10, same_16, digits_all}
use Rattle.grammar.proofs.NumberLaws.{octet_reads, size_reads, size_999}
use Rattle.grammar.proofs.StrictFormLaws.{form_reads}
use Rattle.grammar.proofs.LoosePartLaws.{same_8}
use Rattle.grammar.proofs.GivenLaws.{half_reads}

-- a byte that is no digit
module _ (b : ℕ) (none : digit_of b ≡ 16) where
  cons_lacks : (c : ℕ) (t : List ℕ) → eqb c b ≡ false → Lacks b t → Lacks b (c ∷ t)
  unfolding contains
  cons_lacks c t n l = rw (n, l)

  empty_lacks : Lacks b []
  unfolding contains
  empty_lacks = refl

  join_lacks : (c : ℕ) (s t : List ℕ) → eqb c b ≡ false → Lacks b s → Lacks b t → Lacks b (s ++ c ∷ t)
  join_lacks c s t n l r = lacks_append b s (c ∷ t) l (cons_lacks c t n r)

  not_zero : eqb 48 b ≡ false
  unfolding digit_of
  not_zero = ne_eqb 48 b λ e. omega (arith, ap digit_of e ∙ none)

  string_lacks : {base : ℕ} {D : ℕ → ℕ → Type 0} {t : List ℕ} {n : ℕ} → Same base D → base ≤ 16 → DigitString base D t n → Lacks b t
  string_lacks {base} {t = t} same h g = no_digit base b t h none (digits_all same g).all

  octet_lacks : {t : List ℕ} {x : ℕ} → dec-octet t x → Lacks b t
  octet_lacks {t} {x} g = no_digit 10 b t (lit≤ tt) none (part_digits 255 t x (octet_reads g)).all

  size_lacks : {t : List ℕ} {n : ℕ} → SizePart t n → Lacks b t
  size_lacks {t} {n} p = no_digit 10 b t (lit≤ tt) none (part_digits 999 t n (size_reads 999 p (size_999 p))).all

  -- nor a mark of a base
  module _ (x : eqb 120 b ≡ false) (X : eqb 88 b ≡ false) where
    pub part_lacks : {t : List ℕ} {n : ℕ} → LoosePart t n → Lacks b t
    part_lacks (after_lower_0x {t} g) = cons_lacks 48 (120 ∷ t) not_zero (cons_lacks 120 t x (string_lacks same_16 (lit≤ tt) g))
    part_lacks (after_upper_0x {t} g) = cons_lacks 48 (88 ∷ t) not_zero (cons_lacks 88 t X (string_lacks same_16 (lit≤ tt) g))
    part_lacks (after_0 {t} g) = cons_lacks 48 t not_zero (string_lacks same_8 (lit≤ tt) g)
    part_lacks (else_decimal h g) = string_lacks same_10 (lit≤ tt) g
    part_lacks only_0 = cons_lacks 48 [] not_zero empty_lacks

  -- nor a dot
  module _ (dot : eqb 46 b ≡ false) where
    octets_lack : {t bs : List ℕ} → DecimalParts t bs → Lacks b t
    octets_lack (net.only_a g) = octet_lacks g
    octets_lack (net.a·b {s} {t} g h) = join_lacks 46 s t dot (octet_lacks g) (octet_lacks h)
    octets_lack (net.a·b·c {s} {t} {u} g h i) = join_lacks 46 s (t ++ 46 ∷ u) dot (octet_lacks g) (join_lacks 46 t u dot (octet_lacks h) (octet_lacks i))
    octets_lack (net.a·b·c·d {s} {t} {u} {v} g h i j) =
        join_lacks 46 s (t ++ 46 ∷ (u ++ 46 ∷ v)) dot (octet_lacks g) (join_lacks 46 t (u ++ 46 ∷ v) dot (octet_lacks h) (join_lacks 46 u v dot (octet_lacks i) (octet_lacks j)))

    module _ (x : eqb 120 b ≡ false) (X : eqb 88 b ≡ false) where
      pub loose_lacks : {t : List ℕ} {a : Address} → LooseForm t a → Lacks b t
      loose_lacks (only_a g l) = part_lacks x X g
      loose_lacks (a·b {s} {t} g k h l) = join_lacks 46 s t dot (part_lacks x X g) (part_lacks x X h)
      loose_lacks (a·b·c {s} {t} {u} g k h l i m) = join_lacks 46 s (t ++ 46 ∷ u) dot (part_lacks x X g) (join_lacks 46 t u dot (part_lacks x X h) (part_lacks x X i))
      loose_lacks (a·b·c·d {s} {t} {u} {v} g k h l i m j n) =
          join_lacks 46 s (t ++ 46 ∷ (u ++ 46 ∷ v)) dot (part_lacks x X g) (join_lacks 46 t (u ++ 46 ∷ v) dot (part_lacks x X h) (join_lacks 46 u v dot (part_lacks x X i) (part_lacks x X j)))

      pub given_lacks : {t bs : List ℕ} → BytesGiven t bs → Lacks b t
      given_lacks (net.after_lower_0x {t} l m r) = cons_lacks 48 (120 ∷ t) not_zero (cons_lacks 120 t x (no_digit 16 b t (lit≤ tt) none (half_reads r).0))
      given_lacks (net.after_upper_0x {t} l m r) = cons_lacks 48 (88 ∷ t) not_zero (cons_lacks 88 t X (no_digit 16 b t (lit≤ tt) none (half_reads r).0))
      given_lacks (or_decimal p) = octets_lack p

      pub network_lacks : eqb 47 b ≡ false → {t ws : List ℕ} {size : ℕ} → NetworkForm t size ws → Lacks b t
      network_lacks slash (with_size {t} {u} g p w) = join_lacks 47 t u slash (given_lacks g) (size_lacks p)
      network_lacks slash (without g i w) = given_lacks g

    pub block_lacks : eqb 58 b ≡ false → eqb 47 b ≡ false → {t : List ℕ} {a : Address} {n : ℕ} → BlockForm t a n → Lacks b t
    block_lacks colon slash (prefix {t} {u} {a} s p) = join_lacks 47 t u slash (strict_lacks b none dot colon 0 t a (form_reads s)) (size_lacks p)
