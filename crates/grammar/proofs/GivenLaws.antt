-- The bytes that a network text gives: what the form has is what is read. Assumes nothing.
use Rattle.std.specs.Prelude.{Some, None}
use mathlib.Core.Path.{◌≡◌, refl, ap, subst}
use mathlib.Core.Bool.{Bool, true, false, cond, ◌&&◌, ◌||◌}
use mathlib.Core.List.{List, [], ◌∷◌, map}
use Prim.Native.Nat.{ℕ, ◌*◌, ◌≤◌}
use native.Mathlib.Omega.{arith}
use borrow.Author.Tests.{le-leb, leb-true, lt-ltb, eqb-true}
use lib.Dec.{leb, eqb, lit≤}
use lib.ListN.{length}
use Rattle.notation.specs.Pieces.{split_on, separated, Lacks}
use Rattle.notation.proofs.SeparatedLaws.{lacks_separated, separated_split}
use Rattle.notation.proofs.EveryLaws.{Reads, done, more, every_reads, reads_each, reads_so}
use Rattle.notation.proofs.OptionLaws.{impossible}
use Rattle.digits.specs.Numerals.{digit_of, all_digits, part_of, decimal}
use Rattle.digits.proofs.NumeralLaws.{no_digit, part_digits}
use Rattle.digits.proofs.MarkLaws.{not_marked}
use Rattle.ipv4_text.specs.Dotted.{parts_of}
use Rattle.ipv4_text.proofs.DottedLaws.{parts_are, parts_spelling}
use Rattle.network.specs.GivenBytes.{half_bytes, hex_bytes, given_of}
use Rattle.grammar.specs.NetworkForm.{HalfBytes, no_digits, odd_digit, two_digits, DecimalParts, BytesGiven, after_lower_0x, after_upper_0x, or_decimal, a·b·c·d, a·b·c, a·b, only_a}
use Rattle.grammar.proofs.NumberLaws.{octet_reads, reads_octet, octet_spelling}
use Rattle.grammar.proofs.DigitStringLaws.{hex_value, is_hex, all_cons}

-- ---- hex digits

pub half_reads : {t bs : List ℕ} → HalfBytes t bs → (all_digits 16 t ≡ true) × (half_bytes (map digit_of t) ≡ bs)
unfolding all_digits half_bytes
half_reads no_digits = (refl, refl)
half_reads (odd_digit {c} {x} h) = let v = hex_value h in (rw (v.0, lt-ltb x 16 v.1), ap (λ (d : ℕ). (d * 16) ∷ []) v.0)
half_reads (two_digits {c} {e} {x} {y} {t} {bs} h k r) =
    let v = hex_value h in
    let w = hex_value k in
    let ih = half_reads r in
    (rw (v.0, w.0, lt-ltb x 16 v.1, lt-ltb y 16 w.1) ih.0, rw (v.0, w.0, ih.1))

reads_half : (t : List ℕ) → all_digits 16 t ≡ true → HalfBytes t (half_bytes (map digit_of t))
unfolding half_bytes
reads_half [] e = no_digits
reads_half (c ∷ []) e = odd_digit (is_hex c (all_cons 16 c [] e).0)
reads_half (c ∷ d ∷ t) e =
    let a = all_cons 16 c (d ∷ t) e in
    let b = all_cons 16 d t a.1 in
    two_digits (is_hex c a.0) (is_hex d b.0) (reads_half t b.1)

hex_reads : {t bs : List ℕ} → 1 ≤ length t → length t ≤ 8 → HalfBytes t bs → hex_bytes t ≡ Some bs
unfolding hex_bytes
hex_reads {t} {bs} l m r = let h = half_reads r in rw (le-leb 1 (length t) l, le-leb (length t) 8 m, h.0, h.1)

record Hex (t bs : List ℕ) : Type 0 where
  any : 1 ≤ length t
  most : length t ≤ 8
  halves : HalfBytes t bs

hex_says : (t bs : List ℕ) → hex_bytes t ≡ Some bs → Hex t bs
unfolding hex_bytes
hex_says t bs e = go (leb 1 (length t)) refl (leb (length t) 8) refl (all_digits 16 t) refl e
  where
    go : (p : Bool) → leb 1 (length t) ≡ p → (q : Bool) → leb (length t) 8 ≡ q → (r : Bool) → all_digits 16 t ≡ r
        → cond ((p && q) && r) (Some (half_bytes (map digit_of t))) None ≡ Some bs → Hex t bs
    go true f true g true h k =
        let is : half_bytes (map digit_of t) ≡ bs = cc in
        record { any = leb-true 1 (length t) f; most = leb-true (length t) 8 g; halves = subst (HalfBytes t) is (reads_half t h) }
    go true f true g false h k = impossible k
    go true f false g r h k = impossible k
    go false f q g r h k = impossible k

-- ---- decimal parts

octet_lacks : (b : ℕ) → digit_of b ≡ 16 → (p : List ℕ) (x : ℕ) → part_of 255 p ≡ Some x → Lacks b p
octet_lacks b n p x e = no_digit 10 b p (lit≤ tt) n (part_digits 255 p x e).all

module _ {ps : List (List ℕ)} {xs : List ℕ} (r : Reads (part_of 255) ps xs) where
  parts_lack : (b : ℕ) → digit_of b ≡ 16 → eqb 46 b ≡ false → Lacks b (separated 46 ps)
  parts_lack b n m = lacks_separated 46 b m ps (reads_each (octet_lacks b n) r)

  parts_given : 1 ≤ length xs → length xs ≤ 4 → given_of (separated 46 ps) ≡ Some xs
  unfolding given_of digit_of
  parts_given any most =
      rw (not_marked (separated 46 ps) (parts_lack 120 refl refl) (parts_lack 88 refl refl))
      (parts_spelling ps xs (reads_so (λ p x e. e) r) any most)

-- one to four parts as they are read
parts_read : {t bs : List ℕ} → DecimalParts t bs → (ps : List (List ℕ)) × (separated 46 ps ≡ t) × Reads (part_of 255) ps bs × (1 ≤ length bs) × (length bs ≤ 4)
unfolding separated
parts_read (only_a {s} g) = (s ∷ [], refl, more (octet_reads g) done, omega arith, omega arith)
parts_read (a·b {s} {t} g h) = (s ∷ t ∷ [], refl, more (octet_reads g) (more (octet_reads h) done), omega arith, omega arith)
parts_read (a·b·c {s} {t} {u} g h i) = (s ∷ t ∷ u ∷ [], refl, more (octet_reads g) (more (octet_reads h) (more (octet_reads i) done)), omega arith, omega arith)
parts_read (a·b·c·d {s} {t} {u} {v} g h i j) =
    (s ∷ t ∷ u ∷ v ∷ [], refl, more (octet_reads g) (more (octet_reads h) (more (octet_reads i) (more (octet_reads j) done))), omega arith, omega arith)

pieces_parts : {ps : List (List ℕ)} {xs : List ℕ} → Reads (part_of 255) ps xs → 1 ≤ length xs → length xs ≤ 4 → DecimalParts (separated 46 ps) xs
unfolding separated
pieces_parts done any most = absurd (omega arith)
pieces_parts (more {p} {x = a} g done) any most = only_a (reads_octet p a g)
pieces_parts (more {p} {x = a} g (more {p = q} {x = b} h done)) any most = a·b (reads_octet p a g) (reads_octet q b h)
pieces_parts (more {p} {x = a} g (more {p = q} {x = b} h (more {p = r} {x = c} i done))) any most = a·b·c (reads_octet p a g) (reads_octet q b h) (reads_octet r c i)
pieces_parts (more {p} {x = a} g (more {p = q} {x = b} h (more {p = r} {x = c} i (more {p = s} {x = d} j done)))) any most =
    a·b·c·d (reads_octet p a g) (reads_octet q b h) (reads_octet r c i) (reads_octet s d j)
pieces_parts (more g (more h (more i (more j (more k r))))) any most = absurd (omega arith)

-- parts in their one spelling
pub parts_spelling_4 : {t bs : List ℕ} → DecimalParts t bs → separated 46 (map decimal bs) ≡ t
unfolding separated
parts_spelling_4 (only_a g) = octet_spelling g
parts_spelling_4 (a·b g h) = rw (octet_spelling g, octet_spelling h)
parts_spelling_4 (a·b·c g h i) = rw (octet_spelling g, octet_spelling h, octet_spelling i)
parts_spelling_4 (a·b·c·d g h i j) = rw (octet_spelling g, octet_spelling h, octet_spelling i, octet_spelling j)

-- ---- the bytes given

pub given_reads : {t bs : List ℕ} → BytesGiven t bs → given_of t ≡ Some bs
unfolding given_of
given_reads (after_lower_0x l m r) = hex_reads l m r
given_reads (after_upper_0x l m r) = hex_reads l m r
given_reads (or_decimal {t} {bs} p) = let w = parts_read p in subst (λ s. given_of s ≡ Some bs) w.1 (parts_given w.2 w.3 w.4)

pub reads_parts : (t bs : List ℕ) → parts_of t ≡ Some bs → DecimalParts t bs
reads_parts t bs e =
    let o = parts_are t bs e in
    subst (λ s. DecimalParts s bs) (separated_split 46 t) (pieces_parts (every_reads (part_of 255) (split_on 46 t) bs o.each) o.octets.any o.octets.most)

pub reads_given : (t bs : List ℕ) → given_of t ≡ Some bs → BytesGiven t bs
unfolding given_of
reads_given [] bs e = or_decimal (reads_parts [] bs e)
reads_given (c ∷ []) bs e = or_decimal (reads_parts (c ∷ []) bs e)
reads_given (c ∷ d ∷ t) bs e = go (eqb c 48) refl (eqb d 120) refl (eqb d 88) refl e
  where
    go : (p : Bool) → eqb c 48 ≡ p → (q : Bool) → eqb d 120 ≡ q → (r : Bool) → eqb d 88 ≡ r → cond (p && (q || r)) (hex_bytes t) (parts_of (c ∷ d ∷ t)) ≡ Some bs → BytesGiven (c ∷ d ∷ t) bs
    go true f true g r h k = let x = hex_says t bs k in rw (eqb-true c 48 f, eqb-true d 120 g) (after_lower_0x x.any x.most x.halves)
    go true f false g true h k = let x = hex_says t bs k in rw (eqb-true c 48 f, eqb-true d 88 h) (after_upper_0x x.any x.most x.halves)
    go true f false g false h k = or_decimal (reads_parts (c ∷ d ∷ t) bs k)
    go false f q g r h k = or_decimal (reads_parts (c ∷ d ∷ t) bs k)
