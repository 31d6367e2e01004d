-- IPv4 text: what the grammar has is what is read, and an address has one spelling. Assumes nothing.
use Rattle.std.specs.Prelude.{Some}
use mathlib.Core.Path.{◌≡◌, refl, sym, ap, ap₂, subst, subst₂, ◌∙◌}
use mathlib.Core.List.{List, [], ◌∷◌, map}
use Prim.Native.Nat.{ℕ}
use native.Mathlib.Omega.{arith}
use lib.Dec.{lit<}
use lib.ListN.{length}
use Rattle.notation.specs.BigEndian.{AllBelow, digits_of, number_of}
use Rattle.notation.specs.Pieces.{split_on, separated}
use Rattle.notation.specs.Options.{every}
use Rattle.notation.proofs.DigitLaws.{number_digits}
use Rattle.notation.proofs.SeparatedLaws.{separated_split}
use Rattle.notation.proofs.EveryLaws.{Reads, done, more, every_reads}
use Rattle.digits.specs.Numerals.{part_of, decimal}
use Rattle.ipv4_text.specs.Dotted.{dotted_of, dotted_text}
use Rattle.ipv4_text.proofs.PartLaws.{part_octet}
use Rattle.ipv4_text.proofs.DottedLaws.{dotted_octets, dotted_spelling}
use Rattle.grammar.specs.Rfc3986.{IPv4address, four_octets}
use Rattle.grammar.proofs.NumberLaws.{octet_reads, reads_octet, octet_spelling}

-- ---- four octets

pub address_reads : {t os : List ℕ} → IPv4address t os → dotted_of t ≡ Some (number_of 256 os)
unfolding separated every
address_reads (four_octets {a} {b} {c} {d} {w} {x} {y} {z} g h i j) =
    dotted_spelling (a ∷ b ∷ c ∷ d ∷ []) (w ∷ x ∷ y ∷ z ∷ []) (rw (octet_reads g, octet_reads h, octet_reads i, octet_reads j)) refl

four : {ps : List (List ℕ)} {os : List ℕ} → Reads (part_of 255) ps os → length os ≡ 4 → IPv4address (separated 46 ps) os
unfolding separated
four done e = absurd (omega arith)
four (more g done) e = absurd (omega arith)
four (more g (more h done)) e = absurd (omega arith)
four (more g (more h (more i done))) e = absurd (omega arith)
four (more {p = a} {x = w} g (more {p = b} {x = x} h (more {p = c} {x = y} i (more {p = d} {x = z} j done)))) e =
    four_octets (reads_octet a w g) (reads_octet b x h) (reads_octet c y i) (reads_octet d z j)
four (more g (more h (more i (more j (more k r))))) e = absurd (omega arith)

-- the octets of the number that is read
pub reads_address : (t : List ℕ) (v : ℕ) → dotted_of t ≡ Some v → IPv4address t (digits_of 256 4 v)
reads_address t v e = let o = dotted_octets t v e in go o.0 o.1.each o.2 o.3 o.1.octets.small
  where
    go : (os : List ℕ) → every (part_of 255) (split_on 46 t) ≡ Some os → length os ≡ 4 → number_of 256 os ≡ v → AllBelow 256 os → IPv4address t (digits_of 256 4 v)
    go os each long value small =
        let h = four (every_reads (part_of 255) (split_on 46 t) os each) long in
        let same : os ≡ digits_of 256 4 v = sym (number_digits 256 (lit< tt) os small) ∙ ap₂ (λ (n x : ℕ). digits_of 256 n x) long value in
        subst₂ IPv4address (separated_split 46 t) same h

-- four of them, each below 256
pub address_octets : {t os : List ℕ} → IPv4address t os → (length os ≡ 4) × AllBelow 256 os
address_octets (four_octets {a} {b} {c} {d} {w} {x} {y} {z} g h i j) =
    (refl, (part_octet a w (octet_reads g), (part_octet b x (octet_reads h), (part_octet c y (octet_reads i), (part_octet d z (octet_reads j), tt)))))

pub octets_address : (t os : List ℕ) → length os ≡ 4 → AllBelow 256 os → dotted_of t ≡ Some (number_of 256 os) → IPv4address t os
octets_address t os long small e =
    let same : digits_of 256 4 (number_of 256 os) ≡ os = ap (λ (n : ℕ). digits_of 256 n (number_of 256 os)) (sym long) ∙ number_digits 256 (lit< tt) os small in
    subst (IPv4address t) same (reads_address t (number_of 256 os) e)

-- ---- one spelling

-- "an IPv4 address has one spelling"
pub one_spelling : {t os : List ℕ} → IPv4address t os → separated 46 (map decimal os) ≡ t
unfolding separated
one_spelling (four_octets g h i j) = rw (octet_spelling g, octet_spelling h, octet_spelling i, octet_spelling j)

pub dotted_spelt : (t : List ℕ) (v : ℕ) → dotted_of t ≡ Some v → dotted_text v ≡ t
unfolding dotted_text
dotted_spelt t v e = one_spelling (reads_address t v e)
