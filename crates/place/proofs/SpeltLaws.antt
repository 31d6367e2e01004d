-- What the rule of IPv6 text accepts is read. Assumes nothing.
use Rattle.std.specs.Prelude.{Option, Some, None}
use mathlib.Core.Path.{◌≡◌, refl, sym, ap, subst, ◌∙◌}
use mathlib.Core.Logic.{◌⊎◌, inl, inr}
use mathlib.Core.Bool.{Bool, true, false}
use mathlib.Core.List.{List, [], ◌∷◌, ◌++◌, append_assoc, append-nil}
use Prim.Native.Nat.{ℕ, zero, suc, ◌+◌, ◌-◌, ◌≤◌, ◌<◌}
use native.Mathlib.Omega.{arith}
use borrow.Author.Tests.{eq-eqb, le-leb, lt-ltb, le-ltb}
use lib.Dec.{ltb, lit≤}
use lib.ListN.{length, replicate, length-append}
use lib.Seq.{take-append_seam, drop-append-add}
use Rattle.notation.specs.BigEndian.{digits_of}
use Rattle.notation.proofs.DigitLaws.{digits_length}
use Rattle.digits.specs.Numerals.{digit_of, group_of}
use Rattle.notation.specs.Pieces.{split_on, separated}
use Rattle.digits.proofs.NumeralLaws.{no_digit, group_digits}
use Rattle.notation.specs.Pieces.{Lacks, Each}
use Rattle.notation.proofs.SeparatedLaws.{lacks_cons, split_lacks, split_separated, separated_cons}
use Rattle.notation.specs.Options.{joined, single}
use Rattle.ipv4_text.specs.Dotted.{dotted_of}
use Rattle.ipv4_text.proofs.DottedLaws.{dotted_octets}
use Rattle.ipv6_text.specs.EightGroups.{pieces_of, side_of, gap_of, eight_of}
use Rattle.ipv6_text.proofs.ColonLaws.{dotted_no_colon}
use Rattle.ipv6_text.proofs.SpellingLaws.{gap_piece}
use Rattle.place.proofs.LongestLaws.{Ends, Either, ByteThen, PieceThen}
use Rattle.place.proofs.FrontLaws.{Group, part_fronts, group_fronts}
use Rattle.place.proofs.DottedLaws.{Parts, rule_dotted, separated_more}
use Rattle.place.proofs.GroupsLaws.{AtMost, Behind, Groups, Eight, group_lacks}

-- ---- pieces between colons

-- at least one byte, and no colon
record Plain (p : List ℕ) : Type 0 where
  lacks : Lacks 58 p
  any : 0 < length p

plain_lack : (ps : List (List ℕ)) → Each Plain ps → Each (Lacks 58) ps
plain_lack [] h = tt
plain_lack (p ∷ ps) h = (h.0.lacks, plain_lack ps h.1)

-- a colon before pieces is not the first of two
gap_colon : (p : List ℕ) (ps : List (List ℕ)) (t : List ℕ) → Plain p → gap_of (58 ∷ (separated 58 (p ∷ ps) ++ t)) ≡ suc (gap_of (separated 58 (p ∷ ps) ++ t))
unfolding gap_of
gap_colon [] ps t g = absurd (omega (arith, g.any))
gap_colon (x ∷ p) ps t g = rw (separated_cons 58 x p ps) (rw (lacks_cons 58 x p g.lacks).0)

gap_join : (p s t : List ℕ) → Lacks 58 p → gap_of (58 ∷ (s ++ t)) ≡ suc (gap_of (s ++ t)) → gap_of (s ++ t) ≡ length s + gap_of t
    → gap_of ((p ++ 58 ∷ s) ++ t) ≡ length (p ++ 58 ∷ s) + gap_of t
gap_join p s t h c ih = rw (append_assoc p (58 ∷ s) t) (omega (arith, gap_piece p (58 ∷ (s ++ t)) h, length-append p (58 ∷ s)))

gap_separated : (ps : List (List ℕ)) (t : List ℕ) → Each Plain ps → gap_of (separated 58 ps ++ t) ≡ length (separated 58 ps) + gap_of t
unfolding separated
gap_separated [] t g = omega arith
gap_separated (p ∷ []) t g = gap_piece p t g.0.lacks
gap_separated (p ∷ q ∷ ps) t g = gap_join p (separated 58 (q ∷ ps)) t g.0.lacks (gap_colon q ps t g.1.0) (gap_separated (q ∷ ps) t g.1)

side_separated : (d : Bool) (ps : List (List ℕ)) → Each Plain ps → side_of d (separated 58 ps) ≡ pieces_of d ps
unfolding side_of separated
side_separated d [] h = refl
side_separated d ([] ∷ ps) h = absurd (omega (arith, h.0.any))
side_separated d ((c ∷ p) ∷ ps) h =
    let begins = separated_cons 58 c p ps in
    ap (side_of d) begins
    ∙ ap (λ t. pieces_of d (split_on 58 t)) (sym begins)
    ∙ ap (pieces_of d) (split_separated 58 ((c ∷ p) ∷ ps) (omega arith) (plain_lack ((c ∷ p) ∷ ps) h))

-- ---- one side of `::`

record Side (d : Bool) (w : List ℕ) : Type 0 where
  pieces : List (List ℕ)
  numbers : List ℕ
  plain : Each Plain pieces
  read : pieces_of d pieces ≡ Some numbers
  is : separated 58 pieces ≡ w

module _ {d : Bool} {w : List ℕ} (s : Side d w) where
  side_reads : side_of d w ≡ Some s.numbers
  side_reads = ap (side_of d) (sym s.is) ∙ side_separated d s.pieces s.plain ∙ s.read

  side_gap : (u : List ℕ) → gap_of (w ++ u) ≡ length w + gap_of u
  side_gap u = subst (λ l. gap_of (l ++ u) ≡ length l + gap_of u) s.is (gap_separated s.pieces u s.plain)

eight_whole : {w : List ℕ} (s : Side true w) → length s.numbers ≡ 8 → eight_of w ≡ Some s.numbers
unfolding eight_of
eight_whole {w} s h =
    let gap : gap_of w ≡ length w + gap_of [] = rw append-nil at (side_gap s []) in
    rw (le-ltb (gap_of w) (length w) (omega arith), side_reads s, eq-eqb (length s.numbers) 8 h)

eight_around : {l r : List ℕ} (a : Side false l) (b : Side true r) → length a.numbers + length b.numbers ≤ 7
    → (gs : List ℕ) × (eight_of (l ++ (58 ∷ 58 ∷ r)) ≡ Some gs)
unfolding eight_of
eight_around {l} {r} a b h =
    let u : List ℕ = 58 ∷ 58 ∷ r in
    let xs = a.numbers in
    let ys = b.numbers in
    let gap : gap_of (l ++ u) ≡ length l = side_gap a u ∙ omega arith in
    let test : ltb (length l) (length (l ++ u)) ≡ true = lt-ltb (length l) (length (l ++ u)) (omega (arith, length-append l u)) in (
      xs ++ (replicate (8 - (length xs + length ys)) 0 ++ ys),
      rw (gap, test, take-append_seam l u, drop-append-add l u 2, side_reads a, side_reads b, le-leb (length xs + length ys) 7 h),
    )

-- ---- sides, piece by piece

side_none : (d : Bool) → (s : Side d []) × (length s.numbers ≡ 0)
unfolding pieces_of separated
side_none d = (record { pieces = []; numbers = []; plain = tt; read = refl; is = refl }, refl)

group_plain : (p : List ℕ) → Group p → Plain p
group_plain p g = record { lacks = group_lacks p g; any = group_fronts.any p g }

side_group : (d : Bool) (p : List ℕ) → Group p → (s : Side d p) × (length s.numbers ≡ 1) × (length s.pieces ≡ 1)
unfolding pieces_of separated
side_group d p g = (record { pieces = p ∷ []; numbers = g.0 ∷ []; plain = (group_plain p g, tt); read = rw g.1; is = refl }, refl, refl)

-- an IPv4 text is no group
dotted_no_group : (p : List ℕ) (v : ℕ) → dotted_of p ≡ Some v → group_of p ≡ None
unfolding digit_of
dotted_no_group p v e = go (group_of p) refl
  where
    go : (o : Option ℕ) → group_of p ≡ o → o ≡ None
    go None q = refl
    go (Some x) q =
        let one = ap length (split_lacks 46 p (no_digit 16 46 p (lit≤ tt) refl (group_digits p x q).0.all)) in
        let o = dotted_octets p v e in
        absurd (omega (arith, o.1.pieces, o.2))

side_dotted : (p : List ℕ) → Parts 3 p → (s : Side true p) × (length s.numbers ≡ 2) × (length s.pieces ≡ 1)
unfolding pieces_of separated
side_dotted p m =
    let v = rule_dotted p m in
    let any = part_fronts.any m.piece m.good in
    let plain : Plain p = record { lacks = dotted_no_colon p v.0 v.1; any = omega (arith, length-append m.piece m.rest, ap length m.is) } in (
      record { pieces = p ∷ []; numbers = digits_of 65536 2 v.0; plain = (plain, tt); read = rw (dotted_no_group p v.0 v.1, v.1); is = refl },
      digits_length 65536 2 v.0,
      refl,
    )

pieces_more : (d : Bool) (p : List ℕ) (ps : List (List ℕ)) → 0 < length ps → pieces_of d (p ∷ ps) ≡ joined (single (group_of p)) (pieces_of d ps)
unfolding pieces_of
pieces_more d p [] h = absurd (omega arith)
pieces_more d p (q ∷ ps) h = refl

side_more : {d : Bool} {w : List ℕ} (p : List ℕ) → Group p → (s : Side d w) → 0 < length s.pieces
    → (r : Side d (p ++ 58 ∷ w)) × (length r.numbers ≡ suc (length s.numbers)) × (0 < length r.pieces)
side_more {d} p g s any = (
  record {
    pieces = p ∷ s.pieces;
    numbers = g.0 ∷ s.numbers;
    plain = (group_plain p g, s.plain);
    read = rw (pieces_more d p s.pieces any) (rw (g.1, s.read));
    is = separated_more 58 p s.pieces any ∙ ap (λ u. p ++ 58 ∷ u) s.is;
  },
  refl,
  omega arith,
)

-- ---- the rule, piece by piece

last_is : {P : List ℕ → Type 0} {w : List ℕ} (m : PieceThen P Ends w) → m.piece ≡ w
last_is m = sym (append-nil m.piece) ∙ ap (λ u. m.piece ++ u) m.then ∙ m.is

-- groups behind `::`, up to n
record Few (n : ℕ) (w : List ℕ) : Type 0 where
  side : Side true w
  few : length side.numbers ≤ n
  any : 0 < length side.pieces

few_group : (n : ℕ) (p : List ℕ) → Group p → Few (suc n) p
few_group n p g = let s = side_group true p g in record { side = s.0; few = omega (arith, s.1); any = omega (arith, s.2) }

few_more : (n : ℕ) (p w : List ℕ) → Group p → Few n w → Few (suc n) (p ++ 58 ∷ w)
few_more n p w g f =
    let r = side_more p g f.side f.any in
    record { side = r.0; few = omega (arith, r.1, f.few); any = r.2 }

some_few : (n : ℕ) (w : List ℕ) → AtMost n w → Few (suc n) w
some_few zero w m = subst (Few 1) (last_is m) (few_group 0 m.piece m.good)
some_few (suc n) w (inl m) = let s = side_dotted w m in record { side = s.0; few = omega (arith, s.1); any = omega (arith, s.2) }
some_few (suc n) w (inr m) = subst (Few (suc (suc n))) m.is (go m.rest m.then (λ u. some_few n u))
  where
    go : (r : List ℕ) → Either Ends (ByteThen 58 (AtMost n)) r → ((u : List ℕ) → AtMost n u → Few (suc n) u) → Few (suc (suc n)) (m.piece ++ r)
    go r (inl e) ih = subst (λ r. Few (suc (suc n)) (m.piece ++ r)) e (subst (Few (suc (suc n))) (sym (append-nil m.piece)) (few_group (suc n) m.piece m.good))
    go r (inr b) ih = subst (λ r. Few (suc (suc n)) (m.piece ++ r)) b.is (few_more (suc n) m.piece b.rest m.good (ih b.rest b.then))

behind_few : (n : ℕ) (w : List ℕ) → Behind n w → (s : Side true w) × (length s.numbers ≤ n)
behind_few n w h = go n h
  where
    none_few : (n : ℕ) → Ends w → (s : Side true w) × (length s.numbers ≤ n)
    none_few n e = subst (λ w. (s : Side true w) × (length s.numbers ≤ n)) e (let s = side_none true in (s.0, omega (arith, s.1)))

    go : (n : ℕ) → Behind n w → (s : Side true w) × (length s.numbers ≤ n)
    go zero e = none_few 0 e
    go (suc n) (inl e) = none_few (suc n) e
    go (suc n) (inr m) = let f = some_few n w m in (f.side, f.few)

-- all the groups without `::`, or with it
record Whole (n : ℕ) (w : List ℕ) : Type 0 where
  side : Side true w
  count : length side.numbers ≡ suc n
  any : 0 < length side.pieces

record Around (n : ℕ) (w : List ℕ) : Type 0 where
  front : List ℕ
  left : Side false front
  any : 0 < length left.pieces
  back : List ℕ
  right : Side true back
  count : length left.numbers + length right.numbers ≤ n
  is : front ++ (58 ∷ 58 ∷ back) ≡ w

module _ (n : ℕ) (p : List ℕ) (g : Group p) where
  whole_more : {w : List ℕ} → Whole n w → Whole (suc n) (p ++ 58 ∷ w)
  whole_more h = let r = side_more p g h.side h.any in record { side = r.0; count = omega (arith, r.1, h.count); any = r.2 }

  around_more : {w : List ℕ} → Around n w → Around (suc n) (p ++ 58 ∷ w)
  around_more a =
      let r = side_more p g a.left a.any in
      record {
        front = p ++ 58 ∷ a.front;
        left = r.0;
        any = r.2;
        back = a.back;
        right = a.right;
        count = omega (arith, r.1, a.count);
        is = append_assoc p (58 ∷ a.front) (58 ∷ 58 ∷ a.back) ∙ ap (λ u. p ++ 58 ∷ u) a.is;
      }

  around_first : (w : List ℕ) → Behind n w → Around (suc n) (p ++ (58 ∷ 58 ∷ w))
  around_first w h =
      let l = side_group false p g in
      let r = behind_few n w h in
      record { front = p; left = l.0; any = omega (arith, l.2); back = w; right = r.0; count = omega (arith, l.1, r.1); is = refl }

  both_more : {w : List ℕ} → Whole n w ⊎ Around n w → Whole (suc n) (p ++ 58 ∷ w) ⊎ Around (suc n) (p ++ 58 ∷ w)
  both_more (inl h) = inl (whole_more h)
  both_more (inr a) = inr (around_more a)

abbrev Spelt : ℕ → List ℕ → Type 0
Spelt n w = Whole n w ⊎ Around n w

group_spelt : (n : ℕ) (w : List ℕ) → PieceThen Group (ByteThen 58 (Either (ByteThen 58 (Behind n)) (Groups n))) w → ((u : List ℕ) → Groups n u → Spelt n u) → Spelt (suc n) w
group_spelt n w m ih = subst (Spelt (suc n)) (ap (λ r. m.piece ++ r) m.then.is ∙ m.is) (go m.then.rest m.then.then)
  where
    go : (u : List ℕ) → Either (ByteThen 58 (Behind n)) (Groups n) u → Spelt (suc n) (m.piece ++ 58 ∷ u)
    go u (inl b) = subst (λ u. Spelt (suc n) (m.piece ++ 58 ∷ u)) b.is (inr (around_first n m.piece m.good b.rest b.then))
    go u (inr h) = both_more n m.piece m.good (ih u h)

groups_spelt : (n : ℕ) (w : List ℕ) → Groups n w → Spelt n w
groups_spelt zero w m = subst (Spelt 0) (last_is m) (let s = side_group true m.piece m.good in inl (record { side = s.0; count = s.1; any = omega (arith, s.2) }))
groups_spelt (suc zero) w (inl m) = let s = side_dotted w m in inl (record { side = s.0; count = s.1; any = omega (arith, s.2) })
groups_spelt (suc zero) w (inr m) = group_spelt zero w m (groups_spelt zero)
groups_spelt (suc (suc n)) w m = group_spelt (suc n) w m (groups_spelt (suc n))

-- ---- eight groups

pub rule_eight : (w : List ℕ) → Eight w → (gs : List ℕ) × (eight_of w ≡ Some gs)
rule_eight w (inl m) =
    let l = side_none false in
    let r = behind_few 7 m.then.rest m.then.then in
    let e = eight_around l.0 r.0 (omega (arith, l.1, r.1)) in
    (e.0, ap eight_of (sym (ap (λ u. 58 ∷ u) m.then.is ∙ m.is)) ∙ e.1)
rule_eight w (inr h) = go (groups_spelt 7 w h)
  where
    go : Spelt 7 w → (gs : List ℕ) × (eight_of w ≡ Some gs)
    go (inl s) = (s.side.numbers, eight_whole s.side s.count)
    go (inr a) = let e = eight_around a.left a.right a.count in (e.0, ap eight_of (sym a.is) ∙ e.1)
