-- How a part of a loose text begins, and what the code finds at the start of a text says of its first part. Assumes nothing.
use Rattle.std.specs.Prelude.{Option, Some, None}
use mathlib.Core.Path.{◌≡◌, refl, sym, ap, ap₂, ◌∙◌}
use mathlib.Core.Bool.{Bool, true, false, cond, ◌&&◌, ◌||◌, and-eq-true_iff, false≢true}
use mathlib.Core.List.{List, [], ◌∷◌}
use Prim.Native.Nat.{ℕ, suc, ◌+◌, ◌-◌, ◌≤◌, ◌<◌}
use native.Mathlib.Nat.{zero-add}
use native.Mathlib.Omega.{arith}
use borrow.Author.Tests.{eq-eqb, ne_eqb, eqb-true}
use lib.Dec.{eqb, lit≤}
use lib.ListN.{length, take, drop, get_or, length-drop}
use lib.Seq.{length-take-le, take-add, drop_at, get_or-drop}
use Rattle.notation.proofs.OptionLaws.{impossible, same_pair}
use Rattle.notation.specs.Pieces.{index_of}
use Rattle.notation.proofs.SliceLaws.{to_end}
use Rattle.digits.specs.Numerals.{digit_of, text_number, at_most, bounded_number, hex_marked, leading}
use Rattle.digits.proofs.LeadingLaws.{count_le}
use Rattle.digits.proofs.MarkLaws.{marked_long}
use Rattle.digits.proofs.FirstPieceLaws.{ReadsDigits, bounded_reads, piece_nothing, piece_last, piece_more, piece_other, leading_says}
use Rattle.loose.specs.Inner.{marked, leading_loose}
use Rattle.loose.specs.Loose.{starts_zero, base_of, mark_of, loose_part}

-- ---- the mark and the base, told by tests

module _ (t : List ℕ) where
  pub mark_hex : hex_marked t ≡ true → mark_of t ≡ 2
  unfolding mark_of
  mark_hex h = rw h

  pub mark_none : hex_marked t ≡ false → mark_of t ≡ 0
  unfolding mark_of
  mark_none h = rw h

  pub base_hex : hex_marked t ≡ true → base_of t ≡ 16
  unfolding base_of
  base_hex h = rw h

pub base_empty : (t : List ℕ) → length t ≡ 0 → base_of t ≡ 10
unfolding base_of
base_empty [] h = refl
base_empty (c ∷ t) h = absurd (omega arith)

pub base_zero : (t : List ℕ) → hex_marked t ≡ false → 0 < length t → get_or t 0 0 ≡ 48 → base_of t ≡ 8
unfolding base_of
base_zero [] m h e = absurd (omega arith)
base_zero (c ∷ t) m h e = rw (m, eq-eqb c 48 e)

pub base_other : (t : List ℕ) → hex_marked t ≡ false → 0 < length t → (get_or t 0 0 ≡ 48 → ⊥) → base_of t ≡ 10
unfolding base_of
base_other [] m h n = absurd (omega arith)
base_other (c ∷ t) m h n = rw (m, ne_eqb c 48 n)

pub mark_le : (t : List ℕ) → mark_of t ≤ length t
unfolding mark_of
mark_le t = go (hex_marked t) refl
  where
    go : (b : Bool) → hex_marked t ≡ b → cond b 2 0 ≤ length t
    go true e = marked_long t e
    go false e = omega arith

-- no base has more than 16 digits
base_le : (t : List ℕ) → base_of t ≤ 16
unfolding base_of
base_le t = go (hex_marked t) (starts_zero t)
  where
    go : (a b : Bool) → cond a 16 (cond b 8 10) ≤ 16
    go true b = lit≤ tt
    go false true = lit≤ tt
    go false false = lit≤ tt

-- ---- the first part begins as the text does

-- the bytes before the first dot
abbrev pub first : List ℕ → List ℕ
first t = take (index_of 46 t) t

first_marked : (t : List ℕ) → hex_marked (first t) ≡ hex_marked t
unfolding hex_marked index_of
first_marked [] = refl
first_marked (c ∷ []) = go (eqb c 46)
  where
    go : (a : Bool) → hex_marked (take (cond a 0 1) (c ∷ [])) ≡ false
    go true = refl
    go false = refl
first_marked (c ∷ d ∷ t) = go (eqb c 46) (eqb d 46) refl refl
  where
    and_false : (a : Bool) → (a && false) ≡ false
    and_false true = refl
    and_false false = refl

    go : (a b : Bool) → eqb c 46 ≡ a → eqb d 46 ≡ b
        → hex_marked (take (cond a 0 (suc (cond b 0 (suc (index_of 46 t))))) (c ∷ d ∷ t)) ≡ (eqb c 48 && (eqb d 120 || eqb d 88))
    go true b p q = rw (eqb-true c 46 p)
    go false true p q = rw (eqb-true d 46 q) (sym (and_false (eqb c 48)))
    go false false p q = refl

first_zero : (t : List ℕ) → starts_zero (first t) ≡ starts_zero t
unfolding starts_zero index_of
first_zero [] = refl
first_zero (c ∷ t) = go (eqb c 46) refl
  where
    go : (a : Bool) → eqb c 46 ≡ a → starts_zero (take (cond a 0 (suc (index_of 46 t))) (c ∷ t)) ≡ eqb c 48
    go true p = rw (eqb-true c 46 p)
    go false p = refl

-- no dot stands in the mark
marked_index : (t : List ℕ) → hex_marked t ≡ true → index_of 46 t ≡ 2 + index_of 46 (drop 2 t)
unfolding hex_marked index_of
marked_index [] e = let z : ◌≡◌ {A = ℕ} 0 1 = cc in absurd (omega arith)
marked_index (c ∷ []) e = let z : ◌≡◌ {A = ℕ} 0 1 = cc in absurd (omega arith)
marked_index (c ∷ d ∷ t) e =
    let both = (and-eq-true_iff (eqb c 48) (eqb d 120 || eqb d 88)).0 e in
    let no_dot : ¬ (d ≡ 46) = λ same. false≢true (ap (λ (x : ℕ). eqb x 120 || eqb x 88) (sym same) ∙ both.1) in
    let zero_digit = eqb-true c 48 both.0 in
    rw (ne_eqb c 46 (omega arith), ne_eqb d 46 no_dot) (omega arith)

mark_index : (t : List ℕ) → index_of 46 t ≡ mark_of t + index_of 46 (drop (mark_of t) t)
unfolding mark_of
mark_index t = go (hex_marked t) refl
  where
    go : (b : Bool) → hex_marked t ≡ b → index_of 46 t ≡ cond b 2 0 + index_of 46 (drop (cond b 2 0) t)
    go true e = marked_index t e
    go false e = sym (zero-add (index_of 46 t))

-- the digits that the first part has, behind its mark
first_part_lem : (t : List ℕ) → loose_part (first t) ≡ text_number (base_of t) (first (drop (mark_of t) t))
unfolding loose_part
first_part_lem t =
    let b : base_of (first t) ≡ base_of t = ap₂ (λ (m z : Bool). cond m 16 (cond z 8 10)) (first_marked t) (first_zero t) in
    let k : mark_of (first t) ≡ mark_of t = ap (λ (m : Bool). cond m 2 0) (first_marked t) in
    let n = index_of 46 (drop (mark_of t) t) in
    let behind : drop (mark_of t) (take (mark_of t + n) t) ≡ take n (drop (mark_of t) t) =
    ap (drop (mark_of t)) (take-add (mark_of t) n t) ∙ drop_at (take (mark_of t) t) (take n (drop (mark_of t) t)) (mark_of t) (length-take-le (mark_of t) t (mark_le t)) in
    rw (b, k, mark_index t, behind)

-- ---- what is found at the start of a text

-- a dot is no digit
dot : (t : List ℕ) → base_of t ≤ digit_of 46
unfolding digit_of
dot t = base_le t

-- with the bytes before the digits, and without them
marked_says : (k x e : ℕ) (l : Option (ℕ × ℕ)) → Some (x, e) ≡ marked k l → (n : ℕ) × (e ≡ k + n) × (Some (x, n) ≡ l)
marked_says k x e (Some (v, n)) h = let p = same_pair h in (n, p.1, ap (λ (y : ℕ). Some (y, n)) p.0)
marked_says k x e None h = impossible (sym h)

marked_nothing : (k : ℕ) (l : Option (ℕ × ℕ)) → None ≡ marked k l → None ≡ l
marked_nothing k (Some (v, n)) h = impossible h
marked_nothing k None h = refl

-- the first part as a number of at most 32 bits
abbrev pub first_part : List ℕ → Option ℕ
first_part t = at_most 4294967295 (loose_part (first t))

module _ (t : List ℕ) where
  -- the text behind the mark, and what reads it
  abbrev behind : List ℕ
  behind = drop (mark_of t) t

  abbrev bounded : List ℕ → Option ℕ
  bounded = bounded_number (base_of t) 4294967295

  abbrev only : ReadsDigits (base_of t) bounded
  only = bounded_reads (base_of t) 4294967295

  -- as the code reads it
  pub found_is : (k b : ℕ) (l : Option (ℕ × ℕ)) → k ≡ mark_of t → b ≡ base_of t → l ≡ leading b (bounded_number b 4294967295) (take (length t - k) (drop k t)) → marked k l ≡ leading_loose t
  unfolding leading_loose
  found_is k b l m n h = rw (h, n, m, to_end (mark_of t) t)

  pub found_short : (k b m x n : ℕ) → Some (x, n) ≡ leading b (bounded_number b m) (take (length t - k) (drop k t)) → n ≤ length t - k
  found_short k b m x n h =
      let rest = drop k t in
      omega (arith, (leading_says b (bounded_number b m) (take (length t - k) rest) x n h).1, count_le b (take (length t - k) rest), ap length (to_end k t), length-drop k t)

  bounded_first : first_part t ≡ bounded (first behind)
  bounded_first = ap (at_most 4294967295) (first_part_lem t)

  pub found_nothing : None ≡ leading_loose t → first_part t ≡ None
  unfolding leading_loose
  found_nothing h = bounded_first ∙ piece_nothing (base_of t) 46 (dot t) bounded only behind (marked_nothing (mark_of t) _ h)

  module _ (x e : ℕ) (h : Some (x, e) ≡ leading_loose t) where
    found : (n : ℕ) × (e ≡ mark_of t + n) × (Some (x, n) ≡ leading (base_of t) bounded behind)
    unfolding leading_loose
    found = marked_says (mark_of t) x e _ h

    byte : get_or behind found.0 0 ≡ get_or t e 0
    byte = get_or-drop (mark_of t) t found.0 0 ∙ ap (λ (i : ℕ). get_or t i 0) (sym found.1)

    ends : (bounded (first behind) ≡ Some x) × (index_of 46 behind ≡ found.0) → (first_part t ≡ Some x) × (index_of 46 t ≡ e)
    ends p = (bounded_first ∙ p.0, omega (arith, mark_index t, found.1, p.1))

    -- the digits end with the text, or at a dot
    pub found_last : length t ≤ e → (first_part t ≡ Some x) × (index_of 46 t ≡ e)
    found_last l = ends (piece_last (base_of t) 46 (dot t) bounded only behind x found.0 found.2 (omega (arith, found.1, length-drop (mark_of t) t)))

    pub found_more : e < length t → get_or t e 0 ≡ 46 → (first_part t ≡ Some x) × (index_of 46 t ≡ e)
    found_more l d = ends (piece_more (base_of t) 46 (dot t) bounded only behind x found.0 found.2 (omega (arith, found.1, length-drop (mark_of t) t)) (byte ∙ d))

    -- or at another byte
    pub found_other : e < length t → (get_or t e 0 ≡ 46 → ⊥) → first_part t ≡ None
    found_other l d =
        bounded_first
        ∙ piece_other (base_of t) 46 (dot t) bounded only behind x found.0 found.2 (omega (arith, found.1, length-drop (mark_of t) t)) λ same. d (sym byte ∙ same)
