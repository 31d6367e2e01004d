-- Groups with single colons between them: the texts of one side of `::`, and what is read of them. Assumes nothing.
use Rattle.std.specs.Prelude.{Option, Some, None, option_map}
use mathlib.Core.Path.{◌≡◌, refl, sym, ap, subst, ◌∙◌}
use mathlib.Core.Bool.{Bool, true, false, cond}
use mathlib.Core.List.{List, [], ◌∷◌, ◌++◌, append_assoc}
use Prim.Native.Nat.{ℕ, suc, ◌+◌, ◌*◌, ◌/◌, ◌%◌, ◌<◌}
use native.Mathlib.Omega.{arith}
use lib.Dec.{eqb, lit≤}
use lib.ListN.{length, length-append}
use Rattle.notation.specs.BigEndian.{digits_of, number_of}
use Rattle.notation.specs.Pieces.{split_on, separated, Lacks}
use Rattle.notation.specs.Options.{joined, single, or_else}
use Rattle.notation.proofs.DigitLaws.{four_number}
use Rattle.notation.proofs.PieceLaws.{split_first}
use Rattle.notation.proofs.SeparatedLaws.{lacks_cons, split_lacks, separated_split}
use Rattle.notation.proofs.OptionLaws.{impossible}
use Rattle.digits.specs.Numerals.{digit_of, group_of}
use Rattle.digits.proofs.NumeralLaws.{no_digit, group_digits}
use Rattle.digits.proofs.FirstPieceLaws.{part_most}
use Rattle.ipv4_text.specs.Dotted.{dotted_of}
use Rattle.ipv6_text.specs.EightGroups.{tail_of, pieces_of, side_of, gap_of}
use Rattle.ipv6_text.proofs.ColonLaws.{dotted_no_colon}
use Rattle.ipv6_text.proofs.SpellingLaws.{gap_piece}
use Rattle.grammar.specs.Rfc3986.{IPv4address, four_octets, h16}
use Rattle.grammar.proofs.NumberLaws.{octet_reads, h16_reads, reads_h16}
use Rattle.grammar.proofs.DottedLaws.{address_reads, reads_address}

-- one or more groups; the last two may be an IPv4 text where the flag allows it
pub data Run : Bool → List ℕ → List ℕ → Type 0 where
  last : {d : Bool} {t : List ℕ} {x : ℕ} → h16 t x → Run d t (x ∷ [])
  tail : {t : List ℕ} {w x y z : ℕ} → IPv4address t (w ∷ x ∷ y ∷ z ∷ []) → Run true t ((w * 256 + x) ∷ (y * 256 + z) ∷ [])
  next : {d : Bool} {t u : List ℕ} {x : ℕ} {xs : List ℕ} → h16 t x → Run d u xs → Run d (t ++ 58 ∷ u) (x ∷ xs)

-- and none
pub data Side : Bool → List ℕ → List ℕ → Type 0 where
  nothing : {d : Bool} → Side d [] []
  groups : {d : Bool} {t gs : List ℕ} → Run d t gs → Side d t gs

-- ---- one piece

-- a text that begins with another byte than a colon
data Begins : List ℕ → Type 0 where
  begins : {c : ℕ} {t : List ℕ} → eqb c 58 ≡ false → Begins (c ∷ t)

piece_begins : (t : List ℕ) → Lacks 58 t → 0 < length t → Begins t
piece_begins [] l h = absurd (omega arith)
piece_begins (c ∷ t) l h = begins (lacks_cons 58 c t l).0

begins_more : {s : List ℕ} → Begins s → (t : List ℕ) → Begins (s ++ t)
begins_more (begins n) t = begins n

module _ {t : List ℕ} {x : ℕ} (h : h16 t x) where
  h16_lacks : Lacks 58 t
  unfolding digit_of
  h16_lacks = no_digit 16 58 t (lit≤ tt) refl (group_digits t x (h16_reads h)).0.all

  h16_dotless : Lacks 46 t
  unfolding digit_of
  h16_dotless = no_digit 16 46 t (lit≤ tt) refl (group_digits t x (h16_reads h)).0.all

  h16_begins : Begins t
  h16_begins = piece_begins t h16_lacks (group_digits t x (h16_reads h)).0.any

address_any : {t os : List ℕ} → IPv4address t os → 0 < length t
address_any (four_octets {a} {b} {c} {d} g h i j) = omega (arith, length-append a (46 ∷ (b ++ 46 ∷ (c ++ 46 ∷ d))))

module _ {t os : List ℕ} (h : IPv4address t os) where
  address_lacks : Lacks 58 t
  address_lacks = dotted_no_colon t (number_of 256 os) (address_reads h)

  address_begins : Begins t
  address_begins = piece_begins t address_lacks (address_any h)

  -- an IPv4 text is no group
  address_no_group : group_of t ≡ None
  unfolding dotted_of
  address_no_group = go (group_of t) refl
    where
      go : (o : Option ℕ) → group_of t ≡ o → o ≡ None
      go None e = refl
      go (Some x) e =
          let no_dots : dotted_of t ≡ None = rw (split_lacks 46 t (h16_dotless (reads_h16 t x e))) in
          impossible (sym no_dots ∙ address_reads h)

-- the two groups of four octets
two_groups : {t : List ℕ} {w x y z : ℕ} → IPv4address t (w ∷ x ∷ y ∷ z ∷ []) → digits_of 65536 2 (number_of 256 (w ∷ x ∷ y ∷ z ∷ [])) ≡ (w * 256 + x) ∷ (y * 256 + z) ∷ []
unfolding digits_of
two_groups (four_octets {a} {b} {c} {d} {w} {x} {y} {z} g h i j) =
    let k = part_most 255 a w (octet_reads g) in
    let l = part_most 255 b x (octet_reads h) in
    let m = part_most 255 c y (octet_reads i) in
    let n = part_most 255 d z (octet_reads j) in
    let v = ((w * 256 + x) * 256 + y) * 256 + z in
    let p : v / 65536 % 65536 ≡ w * 256 + x = omega arith in
    let q : v % 65536 ≡ y * 256 + z = omega arith in
    rw (four_number 256 w x y z, p, q)

-- ---- what is read of one side

split_after : (p t : List ℕ) → Lacks 58 p → split_on 58 (p ++ 58 ∷ t) ≡ p ∷ split_on 58 t
unfolding split_on
split_after [] t h = refl
split_after (x ∷ p) t h = let l = lacks_cons 58 x p h in rw (l.0, split_after p t l.1)

pieces_cons : (d : Bool) (p : List ℕ) (ps : List (List ℕ)) → 0 < length ps → pieces_of d (p ∷ ps) ≡ joined (single (group_of p)) (pieces_of d ps)
unfolding pieces_of
pieces_cons d p [] h = absurd (omega arith)
pieces_cons d p (q ∷ qs) h = refl

run_pieces : {d : Bool} {t gs : List ℕ} → Run d t gs → pieces_of d (split_on 58 t) ≡ Some gs
unfolding pieces_of tail_of
run_pieces (last {t = t} h) = rw (split_lacks 58 t (h16_lacks h)) (rw (h16_reads h))
run_pieces (tail {t = t} v) = rw (split_lacks 58 t (address_lacks v)) (rw (address_no_group v, address_reads v) (ap Some (two_groups v)))
run_pieces (next {d = d} {t = t} {u = u} {x = x} {xs = xs} h r) =
    rw (split_after t u (h16_lacks h), pieces_cons d t (split_on 58 u) (rw (split_first 58 u).1 (omega arith)), h16_reads h, run_pieces r)

run_begins : {d : Bool} {t gs : List ℕ} → Run d t gs → Begins t
run_begins (last h) = h16_begins h
run_begins (tail v) = address_begins v
run_begins (next {u = u} h r) = begins_more (h16_begins h) (58 ∷ u)

pub side_reads : {d : Bool} {t gs : List ℕ} → Side d t gs → side_of d t ≡ Some gs
unfolding side_of
side_reads nothing = refl
side_reads (groups {d} {t} {gs} r) = go (run_begins r) (run_pieces r)
  where
    go : {s : List ℕ} → Begins s → pieces_of d (split_on 58 s) ≡ Some gs → side_of d s ≡ Some gs
    go (begins n) e = e

-- ---- what is read is a run

tail_run : {t os : List ℕ} → IPv4address t os → Run true t (digits_of 65536 2 (number_of 256 os))
tail_run (four_octets g h i j) = let v = four_octets g h i j in rw (two_groups v) (tail v)

reads_tail : (t gs : List ℕ) → tail_of t ≡ Some gs → Run true t gs
unfolding tail_of
reads_tail t gs e = go (dotted_of t) refl e
  where
    go : (o : Option ℕ) → dotted_of t ≡ o → option_map (digits_of 65536 2) o ≡ Some gs → Run true t gs
    go None q k = impossible k
    go (Some v) q k =
        let a = reads_address t v q in
        let f = address_reads a in
        let same : number_of 256 (digits_of 256 4 v) ≡ v = cc in
        let is : digits_of 65536 2 v ≡ gs = cc in
        subst (Run true t) (ap (digits_of 65536 2) same ∙ is) (tail_run a)

pieces_run : (d : Bool) (ps : List (List ℕ)) (gs : List ℕ) → 0 < length ps → pieces_of d ps ≡ Some gs → Run d (separated 58 ps) gs
unfolding pieces_of separated
pieces_run d [] gs any e = absurd (omega arith)
pieces_run d (p ∷ []) gs any e = go (group_of p) refl d e
  where
    go : (o : Option ℕ) → group_of p ≡ o → (d : Bool) → or_else (single o) (cond d (tail_of p) None) ≡ Some gs → Run d p gs
    go (Some x) q d k = let is : x ∷ [] ≡ gs = cc in subst (Run d p) is (last (reads_h16 p x q))
    go None q true k = reads_tail p gs k
    go None q false k = impossible k
pieces_run d (p ∷ q ∷ ps) gs any e = go (group_of p) refl (pieces_of d (q ∷ ps)) refl e (pieces_run d (q ∷ ps))
  where
    go : (o : Option ℕ) → group_of p ≡ o → (os : Option (List ℕ)) → pieces_of d (q ∷ ps) ≡ os → joined (single o) os ≡ Some gs
        → ((ys : List ℕ) → 0 < suc (length ps) → pieces_of d (q ∷ ps) ≡ Some ys → Run d (separated 58 (q ∷ ps)) ys) → Run d (p ++ 58 ∷ separated 58 (q ∷ ps)) gs
    go None f os r k ih = impossible k
    go (Some x) f None r k ih = impossible k
    go (Some x) f (Some ys) r k ih =
        let is : x ∷ ys ≡ gs = cc in
        subst (Run d (p ++ 58 ∷ separated 58 (q ∷ ps))) is (next (reads_h16 p x f) (ih ys (omega arith) r))

pub reads_side : (d : Bool) (t gs : List ℕ) → side_of d t ≡ Some gs → Side d t gs
unfolding side_of
reads_side d [] gs e = let is : [] ≡ gs = cc in subst (Side d []) is nothing
reads_side d (c ∷ t) gs e =
    let s = c ∷ t in
    groups (subst (λ u. Run d u gs) (separated_split 58 s) (pieces_run d (split_on 58 s) gs (rw (split_first 58 s).1 (omega arith)) e))

-- ---- no `::` on a side

colon_begins : {s : List ℕ} → Begins s → gap_of (58 ∷ s) ≡ suc (gap_of s)
unfolding gap_of
colon_begins (begins n) = rw n

run_gap : {d : Bool} {t gs : List ℕ} → Run d t gs → (u : List ℕ) → gap_of (t ++ u) ≡ length t + gap_of u
run_gap (last {t = t} h) u = gap_piece t u (h16_lacks h)
run_gap (tail {t = t} v) u = gap_piece t u (address_lacks v)
run_gap (next {t = t} {u = s} h r) u =
    rw (append_assoc t (58 ∷ s) u)
    (omega (arith, gap_piece t (58 ∷ (s ++ u)) (h16_lacks h), colon_begins (begins_more (run_begins r) u), run_gap r u, length-append t (58 ∷ s)))

pub side_gap : {d : Bool} {t gs : List ℕ} → Side d t gs → (u : List ℕ) → gap_of (t ++ u) ≡ length t + gap_of u
side_gap nothing u = omega arith
side_gap (groups r) u = run_gap r u
