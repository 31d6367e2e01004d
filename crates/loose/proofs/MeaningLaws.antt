-- What a loose text means: four octets, and a strict text the same as in the strict form. Assumes nothing.
use Rattle.std.specs.Prelude.{Option, Some, None, option_map}
use mathlib.Core.Path.{◌≡◌, refl, sym, ap, subst, ◌∙◌}
use mathlib.Core.Bool.{Bool, true, false, cond, ◌||◌}
use mathlib.Core.List.{List, [], ◌∷◌}
use Prim.Native.Nat.{ℕ, zero, suc, ◌^◌, ◌<◌}
use native.Mathlib.Nat.{mod-eq_of_lt}
use native.Mathlib.Omega.{arith}
use borrow.Author.Tests.{lt-ltb, ltb-true, eqb-true}
use lib.Dec.{eqb, ltb, lit<}
use lib.ListN.{length}
use Rattle.notation.specs.BigEndian.{AllBelow, digits_of, number_of}
use Rattle.notation.specs.Pieces.{split_on}
use Rattle.notation.specs.Options.{every}
use Rattle.notation.proofs.OptionLaws.{impossible}
use Rattle.notation.proofs.DigitLaws.{digits_below, digits_length, number_below}
use Rattle.notation.proofs.EveryLaws.{every_reads, reads_so}
use Rattle.address.specs.declared.Address.{Address}
use Rattle.address.specs.declared.Address.TheVariants.{V4}
use Rattle.address.specs.Addresses.{IsAddress}
use Rattle.digits.specs.Numerals.{digit_of, all_digits, text_number, bounded_number, leading_zero, part_of}
use Rattle.digits.proofs.FirstPieceLaws.{at_most_says}
use Rattle.ipv4_text.specs.Dotted.{dotted_of}
use Rattle.ipv4_text.proofs.DottedLaws.{dotted_octets}
use Rattle.loose.specs.Loose.{loose_part, octets_from, combined, loose_of}

-- ---- octets

-- as many octets as are asked for
octets_are : (k : ℕ) (xs bs : List ℕ) → octets_from k xs ≡ Some bs → (length bs ≡ k) × AllBelow 256 bs
unfolding octets_from
octets_are zero xs bs e = impossible e
octets_are (suc k) [] bs e = impossible e
octets_are (suc k) (x ∷ []) bs e = go (ltb x (256 ^ suc k)) e
  where
    go : (b : Bool) → cond b (Some (digits_of 256 (suc k) x)) None ≡ Some bs → (length bs ≡ suc k) × AllBelow 256 bs
    go true q = let is : digits_of 256 (suc k) x ≡ bs = cc in rw (← is) (digits_length 256 (suc k) x, digits_below 256 (lit< tt) (suc k) x)
    go false q = impossible q
octets_are (suc k) (x ∷ y ∷ ys) bs e = go (ltb x 256) (octets_from k (y ∷ ys)) refl (octets_are k (y ∷ ys)) e
  where
    go : (b : Bool) (o : Option (List ℕ)) → ltb x 256 ≡ b → ((cs : List ℕ) → o ≡ Some cs → (length cs ≡ k) × AllBelow 256 cs)
        → cond b (option_map (λ cs. x ∷ cs) o) None ≡ Some bs → (length bs ≡ suc k) × AllBelow 256 bs
    go true None l ih q = impossible q
    go true (Some cs) l ih q =
        let is : x ∷ cs ≡ bs = cc in
        let a = ih cs refl in
        rw (← is) (ap suc a.0, (ltb-true x 256 l, a.1))
    go false o l ih q = impossible q

pub loose_address : (t : List ℕ) (a : Address) → loose_of t ≡ Some a → IsAddress a
unfolding loose_of
loose_address t a e = go (every loose_part (split_on 46 t)) e
  where
    from : (o : Option (List ℕ)) → ((bs : List ℕ) → o ≡ Some bs → (length bs ≡ 4) × AllBelow 256 bs) → option_map (λ bs. V4 (number_of 256 bs)) o ≡ Some a → IsAddress a
    from None four q = impossible q
    from (Some bs) four q =
        let is : V4 (number_of 256 bs) ≡ a = cc in
        let f = four bs refl in
        subst IsAddress is (number_below 256 4 bs f.0 f.1)

    go : (o : Option (List ℕ)) → option_map (λ bs. V4 (number_of 256 bs)) (combined o) ≡ Some a → IsAddress a
    go None q = impossible q
    go (Some xs) q = from (octets_from 4 xs) (octets_are 4 xs) q

-- ---- strict parts

-- octets, each by itself
octets_each : (xs : List ℕ) → 0 < length xs → AllBelow 256 xs → octets_from (length xs) xs ≡ Some xs
unfolding octets_from digits_of
octets_each [] any h = absurd (omega arith)
octets_each (x ∷ []) any h = rw (lt-ltb x 256 h.0) (ap (λ (n : ℕ). Some (n ∷ [])) (mod-eq_of_lt h.0))
octets_each (x ∷ y ∷ ys) any h = rw (lt-ltb x 256 h.0, octets_each (y ∷ ys) (omega arith) h.1)

-- `0` is the same number in octal as in decimal
octal_zero : text_number 8 (48 ∷ []) ≡ text_number 10 (48 ∷ [])
unfolding text_number all_digits digit_of
octal_zero = refl

-- so a decimal with no leading zero but in `0` is the same number in the loose form
decimal_loose : (p : List ℕ) (x : ℕ) → leading_zero p ≡ false → text_number 10 p ≡ Some x → loose_part p ≡ Some x
unfolding leading_zero loose_part
decimal_loose [] x h e = impossible e
decimal_loose (c ∷ []) x h e = go (eqb c 48) refl
  where
    go : (b : Bool) → eqb c 48 ≡ b → text_number (cond b 8 10) (c ∷ []) ≡ Some x
    go true q =
        let same = eqb-true c 48 q in
        ap (λ (b : ℕ). text_number 8 (b ∷ [])) same ∙ octal_zero ∙ ap (λ (b : ℕ). text_number 10 (b ∷ [])) (sym same) ∙ e
    go false q = e
decimal_loose (c ∷ d ∷ t) x h e = rw h e

strict_part : (p : List ℕ) (x : ℕ) → part_of 255 p ≡ Some x → loose_part p ≡ Some x
unfolding part_of
strict_part p x e = go (leading_zero p) (ltb 3 (length p)) refl e
  where
    go : (a b : Bool) → leading_zero p ≡ a → cond (a || b) None (bounded_number 10 255 p) ≡ Some x → loose_part p ≡ Some x
    go true b q k = impossible k
    go false true q k = impossible k
    go false false q k = decimal_loose p x q (at_most_says 255 x (text_number 10 p) k).0

pub strict_loose : (t : List ℕ) (v : ℕ) → dotted_of t ≡ Some v → loose_of t ≡ Some (V4 v)
unfolding loose_of
strict_loose t v e =
    let o = dotted_octets t v e in
    let xs = o.0 in
    let four = o.2 in
    let read : every loose_part (split_on 46 t) ≡ Some xs = reads_so strict_part (every_reads (part_of 255) (split_on 46 t) xs o.1.each) in
    let whole : octets_from 4 xs ≡ Some xs = subst (λ (n : ℕ). octets_from n xs ≡ Some xs) four (octets_each xs (omega arith) o.1.octets.small) in
    rw (read, whole, o.3)
