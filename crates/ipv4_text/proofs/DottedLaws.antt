-- Parts with dots, read one after the other. Assumes nothing.
use Rattle.std.specs.Prelude.{Option, Some, None, option_map}
use mathlib.Core.Path.{◌≡◌, refl, sym, ap, subst, ◌∙◌}
use mathlib.Core.Logic.{◌↔◌}
use mathlib.Core.Bool.{Bool, true, false, cond}
use mathlib.Core.List.{List, [], ◌∷◌, map}
use Prim.Native.Nat.{ℕ, suc, ◌+◌, ◌-◌, ◌*◌, ◌^◌, ◌≤◌, ◌<◌}
use native.Mathlib.Nat.{zero-add, pow-le-pow_right}
use native.Mathlib.Numerals.{add-one}
use native.Mathlib.Omega.{arith}
use borrow.Author.Tests.{le-leb, lt-leb, leb-true, eqb-true, eq-eqb}
use lib.Dec.{eqb, leb, lit≤, lit<}
use lib.ListN.{length, take, drop, get_or}
use lib.Seq.{take_all}
use Rattle.notation.specs.BigEndian.{AllBelow, digits_of, number_from, number_of}
use Rattle.notation.specs.Pieces.{Lacks, Each, index_of, split_on, separated}
use Rattle.notation.specs.Options.{joined, every}
use Rattle.notation.proofs.OptionLaws.{impossible, same_pair}
use Rattle.notation.proofs.DigitLaws.{digits_below, digits_length, digits_number, number_below}
use Rattle.notation.proofs.PieceLaws.{split_found, split_last, split_first}
use Rattle.notation.proofs.SeparatedLaws.{split_separated, lacks_split}
use Rattle.notation.proofs.SliceLaws.{to_end}
use Rattle.notation.proofs.EveryLaws.{every_reads, reads_each, reads_length, reads_below}
use Rattle.digits.specs.Numerals.{digit_of, part_of, digit_count, leading, decimal}
use Rattle.digits.proofs.NumeralLaws.{not_of_base, part_digits}
use Rattle.digits.proofs.SeparatedNumeralLaws.{numerals_most}
use Rattle.digits.proofs.FirstPieceLaws.{part_reads, piece_nothing, piece_last, piece_more, piece_other, leading_says, part_most}
use Rattle.ipv4_text.specs.Dotted.{parts_of, dotted_of, as_parts, dotted_text}
use Rattle.ipv4_text.proofs.PartLaws.{every_decimal, part_lacks, part_octet}

-- what an answer says of the definition
pub value_says : (o : Option ℕ) (v : ℕ) → Some v ≡ o → o ≡ Some v
value_says None v e = let z : ◌≡◌ {A = ℕ} 0 1 = cc in absurd (omega arith)
value_says (Some n) v e = cc

pub not_says : (o : Option ℕ) → None ≡ o → o ≡ None
not_says None e = refl
not_says (Some n) e = let z : ◌≡◌ {A = ℕ} 0 1 = cc in absurd (omega arith)

-- ---- after some parts

-- what n parts that write v and more numbers after them are
abbrev after : ℕ → ℕ → Option (List ℕ) → Option (ℕ × ℕ)
after n v None = None
after n v (Some xs) = Some (number_from 256 v xs, n + length xs)

-- what is left to read after n parts that write v
pub parts_from : ℕ → ℕ → List (List ℕ) → Option (ℕ × ℕ)
parts_from n v ps = cond (leb (n + length ps) 4) (after n v (every (part_of 255) ps)) None

after_none : (o : Option (List ℕ)) → after 0 0 o ≡ as_parts o
unfolding number_of
after_none None = refl
after_none (Some xs) = ap (λ k. Some (number_of 256 xs, k)) (omega arith)

after_more : (n v x : ℕ) (o : Option (List ℕ)) → after n v (joined (Some (x ∷ [])) o) ≡ after (n + 1) (v * 256 + x) o
unfolding number_from
after_more n v x None = refl
after_more n v x (Some xs) = ap (λ k. Some (number_from 256 (v * 256 + x) xs, k)) (omega arith)

pub parts_start : (t : List ℕ) → as_parts (parts_of t) ≡ parts_from 0 0 (split_on 46 t)
unfolding parts_of parts_from
parts_start t = rw (zero-add (length (split_on 46 t))) (go (leb (length (split_on 46 t)) 4) (every (part_of 255) (split_on 46 t)))
  where
    go : (b : Bool) (o : Option (List ℕ)) → as_parts (cond b o None) ≡ cond b (after 0 0 o) None
    go true o = sym (after_none o)
    go false o = refl

cond_same : {A : Type 0} (b : Bool) → cond {A = Option A} b None None ≡ None
cond_same true = refl
cond_same false = refl

module _ (n v : ℕ) (p : List ℕ) (ps : List (List ℕ)) where
  part_bad : part_of 255 p ≡ None → parts_from n v (p ∷ ps) ≡ None
  unfolding parts_from every
  part_bad h = rw h (cond_same (leb (n + suc (length ps)) 4))

  part_good : (x : ℕ) → part_of 255 p ≡ Some x → parts_from n v (p ∷ ps) ≡ parts_from (n + 1) (v * 256 + x) ps
  unfolding parts_from every
  part_good x h =
      let e : n + suc (length ps) ≡ n + 1 + length ps = omega arith in
      rw (h, after_more n v x (every (part_of 255) ps), e)

dot : 10 ≤ digit_of 46
unfolding digit_of
dot = omega arith

module _ (n v : ℕ) (t : List ℕ) where
  first_bad : part_of 255 (take (index_of 46 t) t) ≡ None → parts_from n v (split_on 46 t) ≡ None
  first_bad h = rw (split_first 46 t).1 (part_bad n v _ (split_first 46 t).0 h)

  pub parts_nothing : None ≡ leading 10 (part_of 255) t → parts_from n v (split_on 46 t) ≡ None
  parts_nothing h = first_bad (piece_nothing 10 46 dot (part_of 255) (part_reads 255) t h)

  -- a fifth piece
  pub parts_over : 4 ≤ n → parts_from n v (split_on 46 t) ≡ None
  unfolding parts_from
  parts_over h = rw (split_first 46 t).1 (rw (lt-leb (n + suc (length (split_first 46 t).0)) 4 (omega arith)))

  module _ (x e : ℕ) (h : Some (x, e) ≡ leading 10 (part_of 255) t) where
    -- the last part
    pub parts_end : length t ≤ e → n < 4 → parts_from n v (split_on 46 t) ≡ Some (v * 256 + x, n + 1)
    unfolding parts_from every number_from
    parts_end l k =
        let p = piece_last 10 46 dot (part_of 255) (part_reads 255) t x e h l in
        let whole : part_of 255 t ≡ Some x = ap (part_of 255) (sym (take_all (index_of 46 t) t (omega (arith, p.1)))) ∙ p.0 in
        rw (split_last 46 t (omega (arith, p.1))) (rw (whole, le-leb (n + 1) 4 (omega arith)))

    pub parts_other : e < length t → (get_or t e 0 ≡ 46 → ⊥) → parts_from n v (split_on 46 t) ≡ None
    parts_other l d = first_bad (piece_other 10 46 dot (part_of 255) (part_reads 255) t x e h l d)

    pub parts_more : e < length t → get_or t e 0 ≡ 46 → parts_from n v (split_on 46 t) ≡ parts_from (n + 1) (v * 256 + x) (split_on 46 (take (length t - (e + 1)) (drop (e + 1) t)))
    parts_more l d =
        let p = piece_more 10 46 dot (part_of 255) (part_reads 255) t x e h l d in
        let s = split_found 46 t (omega (arith, p.1)) in
        rw (to_end (e + 1) t, s, p.1, ← add-one e) (part_good n v (take e t) (split_on 46 (drop (e + 1) t)) x (ap (λ k. part_of 255 (take k t)) (sym p.1) ∙ p.0))

pub part_small : (t : List ℕ) (x e : ℕ) → Some (x, e) ≡ leading 10 (part_of 255) t → x ≤ 255
part_small t x e h = part_most 255 (take (digit_count 10 t) t) x (leading_says 10 (part_of 255) t x e h).0

-- three parts write less than 2 ^ 24
pub room : (n v : ℕ) → n ≤ 3 → v < 256 ^ n → v < 2 ^ 24
room n v h k =
    let p : 256 ^ n ≤ 256 ^ 3 = pow-le-pow_right (omega arith) h in
    omega arith

-- ---- what parts are

-- one to four octets
pub record Octets (xs : List ℕ) : Type 0 where
  pub any : 1 ≤ length xs
  pub most : length xs ≤ 4
  pub small : AllBelow 256 xs

-- each piece is read as an octet
pub record PartsAre (t xs : List ℕ) : Type 0 where
  pub each : every (part_of 255) (split_on 46 t) ≡ Some xs
  pub pieces : length (split_on 46 t) ≡ length xs
  pub octets : Octets xs

pub parts_are : (t xs : List ℕ) → parts_of t ≡ Some xs → PartsAre t xs
unfolding parts_of
parts_are t xs e = go (leb (length (split_on 46 t)) 4) refl e
  where
    go : (b : Bool) → leb (length (split_on 46 t)) 4 ≡ b → cond b (every (part_of 255) (split_on 46 t)) None ≡ Some xs → PartsAre t xs
    go true p q =
        let r = every_reads (part_of 255) (split_on 46 t) xs q in
        record {
          each = q;
          pieces = reads_length r;
          octets =
              record {
                any = omega (arith, reads_length r, ap length (split_first 46 t).1);
                most = omega (arith, reads_length r, leb-true (length (split_on 46 t)) 4 p);
                small = reads_below 256 part_octet r;
              };
        }
    go false p q = impossible q

pub parts_exactly : (t xs : List ℕ) → (parts_of t ≡ Some xs) ↔ ((every (part_of 255) (split_on 46 t) ≡ Some xs) × (1 ≤ length xs) × (length xs ≤ 4))
unfolding parts_of
parts_exactly t xs = (
  λ e. let o = parts_are t xs e in (o.each, o.octets.any, o.octets.most),
  λ h. rw (le-leb (length (split_on 46 t)) 4 (omega (arith, reads_length (every_reads (part_of 255) (split_on 46 t) xs h.0), h.2))) h.0,
)

-- four parts are among one to four
pub dotted_parts : (t xs : List ℕ) → parts_of t ≡ Some xs → dotted_of t ≡ cond (eqb (length xs) 4) (Some (number_of 256 xs)) None
unfolding dotted_of
dotted_parts t xs e = let o = parts_are t xs e in rw (o.pieces, o.each)

pub dotted_none : (t : List ℕ) → parts_of t ≡ None → dotted_of t ≡ None
unfolding dotted_of parts_of
dotted_none t e = go (eqb (length (split_on 46 t)) 4) refl (every (part_of 255) (split_on 46 t)) e
  where
    go : (b : Bool) → eqb (length (split_on 46 t)) 4 ≡ b → (o : Option (List ℕ)) → cond (leb (length (split_on 46 t)) 4) o None ≡ None → cond b (option_map (number_of 256) o) None ≡ None
    go true q o k =
        let four = eqb-true (length (split_on 46 t)) 4 q in
        let same : o ≡ None = rw (le-leb (length (split_on 46 t)) 4 (omega arith)) at k in
        rw same
    go false q o k = refl

-- what a text of four parts is read as
pub dotted_octets : (t : List ℕ) (v : ℕ) → dotted_of t ≡ Some v → (xs : List ℕ) × PartsAre t xs × (length xs ≡ 4) × (number_of 256 xs ≡ v)
dotted_octets t v e = go (parts_of t) refl
  where
    none_some : ◌≡◌ {A = Option ℕ} None (Some v) → ⊥
    none_some k = let z : ◌≡◌ {A = ℕ} 0 1 = cc in omega arith

    four : (xs : List ℕ) → PartsAre t xs → (b : Bool) → eqb (length xs) 4 ≡ b → cond b (Some (number_of 256 xs)) None ≡ Some v
        → (ys : List ℕ) × PartsAre t ys × (length ys ≡ 4) × (number_of 256 ys ≡ v)
    four xs o true q k = (xs, o, eqb-true (length xs) 4 q, cc)
    four xs o false q k = absurd (none_some k)

    go : (o : Option (List ℕ)) → parts_of t ≡ o → (xs : List ℕ) × PartsAre t xs × (length xs ≡ 4) × (number_of 256 xs ≡ v)
    go None q = absurd (none_some (sym (dotted_none t q) ∙ e))
    go (Some xs) q = four xs (parts_are t xs q) (eqb (length xs) 4) refl (sym (dotted_parts t xs q) ∙ e)

pub dotted_exactly : (t : List ℕ) (v : ℕ)
    → (dotted_of t ≡ Some v) ↔ ((xs : List ℕ) × (every (part_of 255) (split_on 46 t) ≡ Some xs) × (length xs ≡ 4) × (number_of 256 xs ≡ v))
unfolding dotted_of
dotted_exactly t v = (λ e. let o = dotted_octets t v e in (o.0, o.1.each, o.2, o.3), λ h. back h.0 h.1 h.2 h.3)
  where
    back : (xs : List ℕ) → every (part_of 255) (split_on 46 t) ≡ Some xs → length xs ≡ 4 → number_of 256 xs ≡ v → dotted_of t ≡ Some v
    back xs e l n =
        let four : length (split_on 46 t) ≡ 4 = reads_length (every_reads (part_of 255) (split_on 46 t) xs e) ∙ l in
        rw (eq-eqb (length (split_on 46 t)) 4 four, e, n)

-- what an answer says of the definition
pub numbers_says : (o : Option (List ℕ)) (v n : ℕ) → Some (v, n) ≡ as_parts o → (xs : List ℕ) × (o ≡ Some xs) × (v ≡ number_of 256 xs) × (n ≡ length xs)
numbers_says None v n e = impossible (sym e)
numbers_says (Some xs) v n e = let p = same_pair e in (xs, refl, p.0, p.1)

pub not_parts_says : (o : Option (List ℕ)) → None ≡ as_parts o → o ≡ None
not_parts_says None e = refl
not_parts_says (Some xs) e = impossible e

-- parts with single dots between them, up to four
pub parts_spelling : (ps : List (List ℕ)) (xs : List ℕ) → every (part_of 255) ps ≡ Some xs → 1 ≤ length xs → length xs ≤ 4 → parts_of (separated 46 ps) ≡ Some xs
unfolding parts_of
parts_spelling ps xs e any most =
    let r = every_reads (part_of 255) ps xs e in
    let long = reads_length r in
    rw (split_separated 46 ps (omega arith) (reads_each part_lacks r), le-leb (length ps) 4 (omega arith), e)

-- and exactly four
pub dotted_spelling : (ps : List (List ℕ)) (xs : List ℕ) → every (part_of 255) ps ≡ Some xs → length xs ≡ 4 → dotted_of (separated 46 ps) ≡ Some (number_of 256 xs)
unfolding dotted_of
dotted_spelling ps xs e h =
    let r = every_reads (part_of 255) ps xs e in
    let long : length ps ≡ 4 = reads_length r ∙ h in
    rw (split_separated 46 ps (omega arith) (reads_each part_lacks r), eq-eqb (length ps) 4 long, e)

-- ---- what IPv4 text holds

-- an IPv4 text holds digits and dots
pub dotted_lacks : (b : ℕ) → 10 ≤ digit_of b → eqb 46 b ≡ false → (t : List ℕ) (v : ℕ) → dotted_of t ≡ Some v → Lacks b t
unfolding dotted_of
dotted_lacks b n o t v e = lacks_split 46 b o t (go (eqb (length (split_on 46 t)) 4) (every (part_of 255) (split_on 46 t)) refl e)
  where
    go : (c : Bool) (os : Option (List ℕ)) → every (part_of 255) (split_on 46 t) ≡ os → cond c (option_map (number_of 256) os) None ≡ Some v → Each (Lacks b) (split_on 46 t)
    go true None q k = impossible k
    go true (Some xs) q k = reads_each (λ p x r. not_of_base 10 b p n (part_digits 255 p x r).all) (every_reads (part_of 255) (split_on 46 t) xs q)
    go false os q k = impossible k

-- four octets write a number of 32 bits
pub dotted_below : (t : List ℕ) (v : ℕ) → dotted_of t ≡ Some v → v < 2 ^ 32
dotted_below t v e = let o = dotted_octets t v e in subst (λ (n : ℕ). n < 2 ^ 32) o.3 (number_below 256 4 o.0 o.2 o.1.octets.small)

-- ---- the text of an address

pub dotted_back : (v : ℕ) → v < 2 ^ 32 → dotted_of (dotted_text v) ≡ Some v
unfolding dotted_text
dotted_back v h =
    dotted_spelling (map decimal (digits_of 256 4 v)) (digits_of 256 4 v) (every_decimal (digits_of 256 4 v) (digits_below 256 (lit< tt) 4 v)) (digits_length 256 4 v)
    ∙ ap Some (digits_number 256 (lit< tt) 4 v h)

pub dotted_most : (v : ℕ) → length (dotted_text v) ≤ 15
unfolding dotted_text
dotted_most v = omega (arith, numerals_most 10 3 46 (lit≤ tt) (lit< tt) (lit≤ tt) (digits_of 256 4 v), digits_length 256 4 v)
