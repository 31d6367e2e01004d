-- What the code answers, step by step. Assumes nothing.
use Rattle.std.specs.Prelude.{Option, Some, None}
use mathlib.Core.Path.{◌≡◌, refl, sym, ap, ◌∙◌}
use mathlib.Core.Bool.{Bool, true, false, cond, ◌&&◌, and-eq-true_iff}
use mathlib.Core.List.{List, [], ◌∷◌}
use Prim.Native.Nat.{ℕ, zero, suc, ◌+◌, ◌-◌, ◌≤◌, ◌<◌, min, max}
use native.Mathlib.Nat.{zero-min, min-zero, suc-min-suc}
use native.Mathlib.Omega.{arith}
use native.Mathlib.Decide.{dec_lt}
use borrow.Author.Tests.{eqb-true, eqb-false, eq-eqb, ne_eqb, le-leb, le-ltb, lt-ltb, ltb-true}
use lib.Dec.{eqb, ltb}
use lib.ListN.{length, take, drop, get_or, length-take, length-drop, drop_of_length-le}
use lib.Seq.{drop-cons, drop-drop}
use Rattle.digits.specs.Numerals.{text_number, bounded_number, part_of, group_of, digit_count, as_leading, leading}
use Rattle.digits.proofs.Claims.{group_most}
use Rattle.digits.proofs.FirstPieceLaws.{leading_says, as_nothing}
use Rattle.digits.proofs.LeadingLaws.{lead_from, lead_number}
use Rattle.notation.proofs.OptionLaws.{impossible}
use Rattle.notation.proofs.SliceLaws.{tail, to_end}
use Rattle.strict.specs.Inner.{goes_on}
use Rattle.place.specs.Place.{begins, piece_then, byte_then, ends, present, part_up_to, part_front, parts_place, dotted_place, group_front, behind_place, groups_place, eight_place, fault_place}
use Rattle.place.proofs.LongestLaws.{agree_left, byte_longest}
use Rattle.place.proofs.DottedLaws.{parts_longest}
use Rattle.place.proofs.GroupsLaws.{behind_longest, groups_longest}

-- ---- bytes

module _ (b : ℕ) (t : List ℕ) (at : ℕ) where
  pub has_none : length t ≤ at → false ≡ begins b (drop at t)
  has_none h = rw (drop_of_length-le t h)

  pub has_byte : at < length t → eqb (get_or t at 0) b ≡ begins b (drop at t)
  has_byte h = rw (drop-cons t at 0)

pub not_on : (b n : ℕ) (t : List ℕ) → n ≡ 0 → false ≡ goes_on b n t
not_on b n t e = rw (le-ltb 0 n (omega arith))

pub on_has : (b n : ℕ) (t : List ℕ) → (n ≡ 0 → ⊥) → begins b (drop n t) ≡ goes_on b n t
on_has b n t h = rw (lt-ltb 0 n (omega arith))

pub begins_some : (b : ℕ) (t : List ℕ) → begins b t ≡ true → 0 < length t
begins_some b [] e = let z : ◌≡◌ {A = ℕ} 0 1 = cc in absurd (omega arith)
begins_some b (x ∷ t) e = omega arith

-- a piece that goes on, goes on inside the text
pub on_inside : (b n : ℕ) (t : List ℕ) → goes_on b n t ≡ true → (0 < n) × (n < length t)
on_inside b n t e =
    let both = (and-eq-true_iff (ltb 0 n) (begins b (drop n t))).0 e in
    (ltb-true 0 n both.0, omega (arith, begins_some b (drop n t) both.1, length-drop n t))

-- of k bytes, and of more behind them where c tells so
none_more : (k : ℕ) → k ≡ cond (eqb k 0) 0 (k + 0)
none_more k = go (eqb k 0) refl
  where
    go : (b : Bool) → eqb k 0 ≡ b → k ≡ cond b 0 (k + 0)
    go true e = eqb-true k 0 e
    go false e = omega arith

stops_there : (k : ℕ) (c : Bool) (r : ℕ) → (ltb 0 k && c) ≡ false → k ≡ cond (eqb k 0) 0 (k + cond c r 0)
stops_there k c r h = go (eqb k 0) refl
  where
    few : (k ≡ 0 → ⊥) → (c : Bool) → (ltb 0 k && c) ≡ false → k ≡ k + cond c r 0
    few n true h = let z : ◌≡◌ {A = ℕ} 0 1 = cc (lt-ltb 0 k (omega arith)) in absurd (omega arith)
    few n false h = omega arith

    go : (b : Bool) → eqb k 0 ≡ b → k ≡ cond b 0 (k + cond c r 0)
    go true e = eqb-true k 0 e
    go false e = few (eqb-false k 0 e) c h

-- a piece of n bytes, and the byte b with more behind it
module _ (front rest : List ℕ → ℕ) (b : ℕ) (t : List ℕ) (n : ℕ) (e : n ≡ front t) where
  pub piece_ends : n ≡ piece_then front ends t
  unfolding piece_then
  piece_ends = e ∙ none_more (front t)

  pub piece_stops : goes_on b n t ≡ false → n ≡ piece_then front (byte_then b rest) t
  unfolding piece_then byte_then
  piece_stops h = e ∙ stops_there (front t) (begins b (drop (front t) t)) (suc (rest (drop 1 (drop (front t) t)))) (ap (λ n. goes_on b n t) (sym e) ∙ h)

  pub piece_goes : goes_on b n t ≡ true → n + 1 + rest (tail (n + 1) t) ≡ piece_then front (byte_then b rest) t
  unfolding piece_then byte_then
  piece_goes h =
      let both = (and-eq-true_iff (ltb 0 n) (begins b (drop n t))).0 h in
      let some_bytes = ltb-true 0 n both.0 in
      rw (← e, ne_eqb n 0 (omega arith), both.1, to_end (n + 1) t, drop-drop 1 n t) (omega arith)

-- ---- parts

pub part_yes : (o : Option ℕ) (v n k : ℕ) → Some (v, n) ≡ as_leading o k → true ≡ present o
part_yes None v n k e = let z : ◌≡◌ {A = ℕ} 0 1 = cc in absurd (omega arith)
part_yes (Some x) v n k e = refl

pub part_no : (o : Option ℕ) (k : ℕ) → None ≡ as_leading o k → false ≡ present o
part_no o k e = ap present (sym (as_nothing o k e))

pub up_to_yes : (n : ℕ) (t : List ℕ) → 0 < n → present (part_of 255 (take n t)) ≡ true → part_up_to n t ≡ n
unfolding part_up_to
up_to_yes zero t h e = absurd (omega arith)
up_to_yes (suc n) t h e = rw e

pub up_to_no : (n : ℕ) (t : List ℕ) → 0 < n → present (part_of 255 (take n t)) ≡ false → part_up_to n t ≡ part_up_to (n - 1) t
unfolding part_up_to
up_to_no zero t h e = absurd (omega arith)
up_to_no (suc n) t h e = let s : suc n - 1 ≡ n = omega arith in rw (e, s)

-- ---- groups

take_min : (n : ℕ) (t : List ℕ) → take (min n (length t)) t ≡ take n t
take_min zero t = rw (zero-min (length t))
take_min (suc n) [] = rw (min-zero (suc n))
take_min (suc n) (x ∷ t) = rw (suc-min-suc n (length t)) (ap (λ l. x ∷ l) (take_min n t))

module _ (t : List ℕ) (n : ℕ) (e : n ≡ min 4 (length t)) where
  front_is : take n t ≡ take 4 t
  front_is = ap (λ n. take n t) e ∙ take_min 4 t

  pub group_some : (v k : ℕ) → Some (v, k) ≡ leading 16 (bounded_number 16 65535) (take n t) → k ≡ group_front t
  unfolding group_front
  group_some v k h = sym (leading_says 16 (bounded_number 16 65535) (take 4 t) v k (h ∙ ap (leading 16 (bounded_number 16 65535)) front_is)).1

  pub group_none : None ≡ leading 16 (bounded_number 16 65535) (take n t) → 0 ≡ group_front t
  unfolding group_front leading group_of
  group_none h = elim (dec_lt 0 (digit_count 16 (take 4 t))) [
    | yes l ↦
        let u = take 4 t in
        let k = digit_count 16 u in
        let short : ltb 4 (length (take k u)) ≡ false = le-ltb 4 (length (take k u)) (omega (arith, length-take k u, length-take 4 t)) in
        let v = lead_from 16 0 u in
        let number : text_number 16 (take k u) ≡ Some v = lead_number 16 u l in
        let group : group_of (take k u) ≡ Some v = rw short number in
        let read : bounded_number 16 65535 (take k u) ≡ Some v = rw (number, le-leb v 65535 (omega (arith, group_most (take k u) v group))) in
        impossible (h ∙ ap (leading 16 (bounded_number 16 65535)) front_is ∙ ap (λ o. as_leading o k) read)
    | no l ↦ omega arith
  ]

-- ---- dotted text

pub parts_within : (more : ℕ) (t : List ℕ) → parts_place more t ≤ length t
parts_within more t = agree_left (parts_longest more t).agrees

module _ (t : List ℕ) (n : ℕ) (e : n ≡ part_front t) where
  pub parts_last : (more : ℕ) → more ≡ 0 → n ≡ parts_place more t
  unfolding parts_place
  parts_last zero h = piece_ends part_front ends 46 t n e
  parts_last (suc more) h = absurd (omega arith)

  pub parts_stop : (more : ℕ) → (more ≡ 0 → ⊥) → goes_on 46 n t ≡ false → n ≡ parts_place more t
  unfolding parts_place
  parts_stop zero h k = absurd (h refl)
  parts_stop (suc more) h k = piece_stops part_front (parts_place more) 46 t n e k

  pub parts_go : (more : ℕ) → (more ≡ 0 → ⊥) → goes_on 46 n t ≡ true → n + 1 + parts_place (more - 1) (tail (n + 1) t) ≡ parts_place more t
  unfolding parts_place
  parts_go zero h k = absurd (h refl)
  parts_go (suc more) h k =
      let s : suc more - 1 ≡ more = omega arith in
      rw s (piece_goes part_front (parts_place more) 46 t n e k)

-- what is lent behind a piece is shorter
pub rest_within : (p : List ℕ → ℕ) → ((t : List ℕ) → p t ≤ length t) → (k : ℕ) (t : List ℕ) → p (tail k t) ≤ length t - k
rest_within p h k t = omega (arith, h (tail k t), ap length (to_end k t), length-drop k t)

-- ---- behind `::`

pub behind_within : (room : ℕ) (t : List ℕ) → behind_place room t ≤ length t
behind_within room t = agree_left (behind_longest room t).agrees

pub behind_none : (room : ℕ) (t : List ℕ) → room ≡ 0 → 0 ≡ behind_place room t
unfolding behind_place
behind_none zero t h = refl
behind_none (suc room) t h = absurd (omega arith)

module _ (t : List ℕ) (n : ℕ) (e : n ≡ group_front t) where
  pub behind_one : (room : ℕ) → room ≡ 1 → n ≡ behind_place room t
  unfolding behind_place
  behind_one zero h = absurd (omega arith)
  behind_one (suc zero) h = piece_ends group_front ends 58 t n e
  behind_one (suc (suc room)) h = absurd (omega arith)

  module _ (d : ℕ) (f : d ≡ dotted_place t) where
    pub behind_stop : (room : ℕ) → 2 ≤ room → goes_on 58 n t ≡ false → max d n ≡ behind_place room t
    unfolding behind_place
    behind_stop zero h k = absurd (omega arith)
    behind_stop (suc zero) h k = absurd (omega arith)
    behind_stop (suc (suc room)) h k = rw (← f, ← piece_stops group_front (behind_place (suc room)) 58 t n e k)

    pub behind_go : (room : ℕ) → 2 ≤ room → goes_on 58 n t ≡ true → max d (n + 1 + behind_place (room - 1) (tail (n + 1) t)) ≡ behind_place room t
    unfolding behind_place
    behind_go zero h k = absurd (omega arith)
    behind_go (suc zero) h k = absurd (omega arith)
    behind_go (suc (suc room)) h k =
        let s : suc (suc room) - 1 ≡ suc room = omega arith in
        rw (s, ← f, ← piece_goes group_front (behind_place (suc room)) 58 t n e k)

-- ---- a byte, and more behind it

module _ (b : ℕ) (rest : List ℕ → ℕ) (t : List ℕ) where
  pub byte_none : begins b t ≡ false → 0 ≡ byte_then b rest t
  unfolding byte_then
  byte_none h = rw h

  pub byte_some : begins b t ≡ true → 1 + rest (tail 1 t) ≡ byte_then b rest t
  unfolding byte_then
  byte_some h = rw (h, to_end 1 t) (omega arith)

pub gap_within : (room : ℕ) (t : List ℕ) → byte_then 58 (behind_place room) t ≤ length t
gap_within room t = agree_left (byte_longest 58 (behind_longest room) t).agrees

-- ---- groups

pub groups_within : (more : ℕ) (t : List ℕ) → groups_place more t ≤ length t
groups_within more t = agree_left (groups_longest more t).agrees

-- behind a group's colon: a second colon, or n more groups and one
pub after_colon : ℕ → List ℕ → ℕ
after_colon n u = max (byte_then 58 (behind_place n) u) (groups_place n u)

pub after_is : (n : ℕ) (u : List ℕ) (a b r : ℕ) → r ≡ max a b → a ≡ byte_then 58 (behind_place n) u → b ≡ groups_place n u → r ≡ after_colon n u
unfolding after_colon
after_is n u a b r e f g = rw (e, f, g)

pub after_within : (n : ℕ) (t : List ℕ) → after_colon n t ≤ length t
unfolding after_colon
after_within n t = omega (arith, gap_within n t, groups_within n t)

one_left : (n : ℕ) → eqb (suc n) 1 ≡ eqb n 0
one_left n = go (eqb n 0) refl
  where
    go : (c : Bool) → eqb n 0 ≡ c → eqb (suc n) 1 ≡ c
    go true e = eq-eqb (suc n) 1 (omega (arith, eqb-true n 0 e))
    go false e = let k = eqb-false n 0 e in ne_eqb (suc n) 1 (λ h. k (omega arith))

groups_are : (more : ℕ) (t : List ℕ) → (more ≡ 0 → ⊥)
    → max (cond (eqb more 1) (dotted_place t) 0) (piece_then group_front (byte_then 58 (after_colon (more - 1))) t) ≡ groups_place more t
unfolding groups_place after_colon
groups_are zero t h = absurd (h refl)
groups_are (suc n) t h = let s : suc n - 1 ≡ n = omega arith in rw (s, one_left n)

module _ (t : List ℕ) (n : ℕ) (e : n ≡ group_front t) where
  pub groups_last : (more : ℕ) → more ≡ 0 → n ≡ groups_place more t
  unfolding groups_place
  groups_last zero h = piece_ends group_front ends 58 t n e
  groups_last (suc more) h = absurd (omega arith)

  module _ (more d : ℕ) (h : more ≡ 0 → ⊥) (f : d ≡ cond (eqb more 1) (dotted_place t) 0) where
    are : max d (piece_then group_front (byte_then 58 (after_colon (more - 1))) t) ≡ groups_place more t
    are = ap (λ d. max d (piece_then group_front (byte_then 58 (after_colon (more - 1))) t)) f ∙ groups_are more t h

    pub groups_stop : goes_on 58 n t ≡ false → max d n ≡ groups_place more t
    groups_stop k = ap (max d) (piece_stops group_front (after_colon (more - 1)) 58 t n e k) ∙ are

    pub groups_go : goes_on 58 n t ≡ true → max d (n + 1 + after_colon (more - 1) (tail (n + 1) t)) ≡ groups_place more t
    groups_go k = ap (max d) (piece_goes group_front (after_colon (more - 1)) 58 t n e k) ∙ are

-- ---- both families

module _ (t : List ℕ) where
  pub eight_groups : begins 58 t ≡ false → groups_place 7 t ≡ eight_place t
  unfolding eight_place
  eight_groups h = rw (← byte_none 58 (byte_then 58 (behind_place 7)) t h) (omega arith)

  pub eight_gap : begins 58 t ≡ true → max (1 + byte_then 58 (behind_place 7) (tail 1 t)) (groups_place 7 t) ≡ eight_place t
  unfolding eight_place
  eight_gap h = ap (λ n. max n (groups_place 7 t)) (byte_some 58 (byte_then 58 (behind_place 7)) t h)

  module _ (family : ℕ) where
    pub place_4 : family ≡ 4 → dotted_place t ≡ fault_place family t
    unfolding fault_place
    place_4 e = rw e (omega arith)

    pub place_6 : family ≡ 6 → eight_place t ≡ fault_place family t
    unfolding fault_place
    place_6 e = rw e (omega arith)

    -- of either family it is the farther of the two
    pub place_0 : (family ≡ 4 → ⊥) → (family ≡ 6 → ⊥) → max (fault_place 4 t) (fault_place 6 t) ≡ fault_place family t
    unfolding fault_place
    place_0 n m = rw (ne_eqb family 4 n, ne_eqb family 6 m) (omega arith)

-- how many calls deep the place of a family is found
abbrev pub depth : ℕ → ℕ
depth family = cond (eqb family 4) 0 (cond (eqb family 6) 0 1)

pub depth_either : (family : ℕ) → (family ≡ 4 → ⊥) → (family ≡ 6 → ⊥) → depth family ≡ 1
depth_either family n m = rw (ne_eqb family 4 n, ne_eqb family 6 m)
