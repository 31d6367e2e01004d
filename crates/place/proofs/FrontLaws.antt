-- Parts and groups at the start of a text, whole or begun. Assumes nothing.
use Rattle.std.specs.Prelude.{Option, Some, None}
use mathlib.Core.Path.{◌≡◌, refl, sym, ap, subst, ◌∙◌}
use mathlib.Core.Bool.{Bool, true, false, cond, ◌||◌, and-eq-true_iff}
use mathlib.Core.List.{List, [], ◌∷◌, map}
use Prim.Native.Nat.{ℕ, zero, suc, ◌+◌, ◌*◌, ◌≤◌, ◌<◌, min}
use native.Mathlib.Decide.{dec_le}
use native.Mathlib.Omega.{arith}
use borrow.Author.Tests.{le-leb, le-ltb, leb-true, ltb-true, ltb-false}
use lib.Dec.{leb, ltb}
use lib.ListN.{length, take, length-take}
use lib.Seq.{length-take-le, take-take}
use Rattle.notation.specs.BigEndian.{number_from, number_of}
use Rattle.digits.specs.Numerals.{digit_of, all_digits, text_number, at_most, leading_zero, part_of, group_of, digit_count}
use Rattle.digits.proofs.NumeralLaws.{Digits, read_number, part_digits, group_digits}
use Rattle.digits.proofs.LeadingLaws.{lead_from, count_le, count_more, lead_number}
use Rattle.place.specs.Place.{present, part_up_to, part_front, group_front}
use Rattle.place.proofs.LongestLaws.{Agree, start, byte, Fronts, agree_left, agree_right}

-- ---- beginnings

agree_same : {q : ℕ} {t w : List ℕ} → Agree q t w → take q t ≡ take q w
agree_same start = refl
agree_same (byte {x} a) = ap (λ l. x ∷ l) (agree_same a)

digits_begin : (base q : ℕ) (t : List ℕ) → all_digits base t ≡ true → all_digits base (take q t) ≡ true
unfolding all_digits
digits_begin base zero t e = refl
digits_begin base (suc q) [] e = refl
digits_begin base (suc q) (c ∷ t) e =
    let both = (and-eq-true_iff (ltb (digit_of c) base) (all_digits base t)).0 e in
    rw both.0 (digits_begin base q t both.1)

-- ---- parts

abbrev pub Part : List ℕ → Type 0
Part p = (x : ℕ) × (part_of 255 p ≡ Some x)

record PartIs (p : List ℕ) : Type 0 where
  digits : Digits 10 p
  plain : leading_zero p ≡ false
  short : length p ≤ 3
  small : number_of 10 (map digit_of p) ≤ 255

part_is : (p : List ℕ) (x : ℕ) → part_of 255 p ≡ Some x → PartIs p
unfolding part_of
part_is p x e = go (leading_zero p) refl (ltb 3 (length p)) refl e
  where
    d : Digits 10 p
    d = part_digits 255 p x e

    value : (b : Bool) → leb (number_of 10 (map digit_of p)) 255 ≡ b → cond b (Some (number_of 10 (map digit_of p))) None ≡ Some x → number_of 10 (map digit_of p) ≤ 255
    value true q k = leb-true (number_of 10 (map digit_of p)) 255 q
    value false q k = let z : ◌≡◌ {A = ℕ} 0 1 = cc in absurd (omega arith)

    go : (a : Bool) → leading_zero p ≡ a → (b : Bool) → ltb 3 (length p) ≡ b → cond (a || b) None (at_most 255 (text_number 10 p)) ≡ Some x → PartIs p
    go true q b r k = let z : ◌≡◌ {A = ℕ} 0 1 = cc in absurd (omega arith)
    go false q true r k = let z : ◌≡◌ {A = ℕ} 0 1 = cc in absurd (omega arith)
    go false q false r k = record {
      digits = d;
      plain = q;
      short = ltb-false 3 (length p) r;
      small = value (leb (number_of 10 (map digit_of p)) 255) refl (ap (at_most 255) (sym (read_number 10 p d)) ∙ k);
    }

pub part_short : (p : List ℕ) → Part p → length p ≤ 3
part_short p (x, e) = (part_is p x e).short

is_part : (p : List ℕ) → PartIs p → Part p
unfolding part_of
is_part p i = (
  number_of 10 (map digit_of p),
  rw (i.plain, le-ltb 3 (length p) i.short, read_number 10 p i.digits, le-leb (number_of 10 (map digit_of p)) 255 i.small),
)

from_least : (v : ℕ) (ds : List ℕ) → v ≤ number_from 10 v ds
unfolding number_from
from_least v [] = omega arith
from_least v (d ∷ ds) = omega (arith, from_least (v * 10 + d) ds)

from_begin : (v q : ℕ) (t : List ℕ) → number_from 10 v (map digit_of (take q t)) ≤ number_from 10 v (map digit_of t)
unfolding number_from
from_begin v zero t = from_least v (map digit_of t)
from_begin v (suc q) [] = omega arith
from_begin v (suc q) (c ∷ t) = from_begin (v * 10 + digit_of c) q t

zero_begin : (q : ℕ) (t : List ℕ) → leading_zero t ≡ false → leading_zero (take q t) ≡ false
unfolding leading_zero
zero_begin zero t e = refl
zero_begin (suc q) [] e = refl
zero_begin (suc zero) (c ∷ t) e = refl
zero_begin (suc (suc q)) (c ∷ []) e = refl
zero_begin (suc (suc q)) (c ∷ d ∷ t) e = e

-- a beginning of a part is empty or a part
part_begin : (p : List ℕ) (q : ℕ) → Part p → 0 < q → q ≤ length p → Part (take q p)
unfolding number_of
part_begin p q (x, e) pos h =
    let i = part_is p x e in
    let long = length-take-le q p h in
    is_part (take q p) (record {
      digits = record { all = digits_begin 10 q p i.digits.all; any = omega arith };
      plain = zero_begin q p i.plain;
      short = omega (arith, i.short);
      small = omega (arith, i.small, from_begin 0 q p);
    })

up_to_within : (n : ℕ) (t : List ℕ) → part_up_to n t ≤ n
unfolding part_up_to
up_to_within zero t = omega arith
up_to_within (suc n) t = go (present (part_of 255 (take (suc n) t))) (up_to_within n t)
  where
    go : (b : Bool) → part_up_to n t ≤ n → cond b (suc n) (part_up_to n t) ≤ suc n
    go true h = omega arith
    go false h = omega arith

up_to_good : (n : ℕ) (t : List ℕ) → 0 < part_up_to n t → Part (take (part_up_to n t) t)
unfolding part_up_to
up_to_good zero t h = absurd (omega arith)
up_to_good (suc n) t h = go (part_of 255 (take (suc n) t)) refl (up_to_good n t) h
  where
    go : (o : Option ℕ) → part_of 255 (take (suc n) t) ≡ o → (0 < part_up_to n t → Part (take (part_up_to n t) t))
        → 0 < cond (present o) (suc n) (part_up_to n t) → Part (take (cond (present o) (suc n) (part_up_to n t)) t)
    go None q ih k = ih k
    go (Some x) q ih k = (x, q)

up_to_most : (n q : ℕ) (t : List ℕ) → Part (take q t) → q ≤ n → q ≤ part_up_to n t
unfolding part_up_to
up_to_most zero q t p l = omega arith
up_to_most (suc n) q t p l = go (part_of 255 (take (suc n) t)) refl (up_to_most n q t p)
  where
    go : (o : Option ℕ) → part_of 255 (take (suc n) t) ≡ o → (q ≤ n → q ≤ part_up_to n t) → q ≤ cond (present o) (suc n) (part_up_to n t)
    go (Some x) e ih = l
    go None e ih = elim (dec_le q n) [
      | yes m ↦ ih m
      | no m ↦
          let same : q ≡ suc n = omega arith in
          let k : None ≡ Some p.0 = sym e ∙ ap (λ n. part_of 255 (take n t)) (sym same) ∙ p.1 in
          let z : ◌≡◌ {A = ℕ} 0 1 = cc in absurd (omega arith)
    ]

part_most : (p t : List ℕ) (q : ℕ) → Part p → Agree q t p → q ≤ part_front t
part_most p t zero h a = omega arith
part_most p t (suc q) h a =
    let short = part_short p h in
    up_to_most (min 3 (length t)) (suc q) t (subst Part (sym (agree_same a)) (part_begin p (suc q) h (omega arith) (agree_right a))) (omega (arith, agree_left a, agree_right a))

zero_part : Part (48 ∷ [])
unfolding part_of all_digits digit_of
zero_part = (0, refl)

pub part_fronts : Fronts Part part_front
part_fronts = record {
  within = λ t. omega (arith, up_to_within (min 3 (length t)) t);
  good = λ t. up_to_good (min 3 (length t)) t;
  most = part_most;
  any = λ p h. (part_digits 255 p h.0 h.1).any;
  one = (48 ∷ [], zero_part);
}

-- ---- groups

abbrev pub Group : List ℕ → Type 0
Group p = (x : ℕ) × (group_of p ≡ Some x)

pub group_short : (p : List ℕ) → Group p → length p ≤ 4
unfolding group_of
group_short p (x, e) = go (ltb 4 (length p)) refl e
  where
    go : (b : Bool) → ltb 4 (length p) ≡ b → cond b None (text_number 16 p) ≡ Some x → length p ≤ 4
    go true q k = let z : ◌≡◌ {A = ℕ} 0 1 = cc in absurd (omega arith)
    go false q k = ltb-false 4 (length p) q

group_within : (t : List ℕ) → group_front t ≤ length t
unfolding group_front
group_within t = omega (arith, count_le 16 (take 4 t), length-take 4 t)

group_good : (t : List ℕ) → 0 < group_front t → Group (take (group_front t) t)
unfolding group_front group_of
group_good t h =
    let n = digit_count 16 (take 4 t) in
    let few : n ≤ 4 = omega (arith, count_le 16 (take 4 t), length-take 4 t) in
    let read = lead_number 16 (take 4 t) h in
    let short : ltb 4 (length (take n t)) ≡ false = le-ltb 4 (length (take n t)) (omega (arith, length-take n t)) in
    (lead_from 16 0 (take 4 t), rw short (ap (text_number 16) (sym (take-take n 4 t few)) ∙ read))

digits_agree : (n : ℕ) {q : ℕ} {t p : List ℕ} → Agree q t p → q ≤ n → all_digits 16 p ≡ true → q ≤ digit_count 16 (take n t)
unfolding all_digits
digits_agree n start h e = omega arith
digits_agree zero (byte a) h e = absurd (omega arith)
digits_agree (suc n) (byte {x} {q} {t} {w} a) h e =
    let both = (and-eq-true_iff (ltb (digit_of x) 16) (all_digits 16 w)).0 e in
    omega (arith, count_more 16 0 x (take n t) (ltb-true (digit_of x) 16 both.0), digits_agree n a (omega arith) both.1)

group_most : (p t : List ℕ) (q : ℕ) → Group p → Agree q t p → q ≤ group_front t
unfolding group_front
group_most p t q h a = digits_agree 4 a (omega (arith, agree_right a, group_short p h)) (group_digits p h.0 h.1).0.all

zero_group : Group (48 ∷ [])
unfolding group_of all_digits digit_of
zero_group = (0, refl)

pub group_fronts : Fronts Group group_front
group_fronts = record {
  within = group_within;
  good = group_good;
  most = group_most;
  any = λ p h. (group_digits p h.0 h.1).0.any;
  one = (48 ∷ [], zero_group);
}
