-- The first `::` of a text, and the groups before it. Assumes nothing.
use Rattle.std.specs.Prelude.{Option, Some, None}
use mathlib.Core.Path.{◌≡◌, refl, sym, ap, ap₂, ◌∙◌}
use mathlib.Core.Bool.{Bool, true, false, cond, ◌&&◌}
use mathlib.Core.List.{List, [], ◌∷◌, ◌++◌}
use Prim.Native.Nat.{ℕ, zero, suc, ◌+◌, ◌-◌, ◌≤◌, ◌<◌}
use native.Mathlib.Numerals.{add-one}
use native.Mathlib.Decide.{dec_lt}
use native.Mathlib.Omega.{arith}
use borrow.Author.Tests.{eq-eqb, eqb-true, ne_eqb, le-leb, lt-leb}
use lib.Dec.{eqb, leb}
use lib.ListN.{length, take, drop, get_or, length-drop}
use lib.Seq.{take_all, take-take, take-add, drop_at, length-take-le}
use Rattle.notation.specs.Pieces.{index_of, split_on}
use Rattle.notation.specs.Options.{joined, single}
use Rattle.notation.proofs.PieceLaws.{index_contains, split_last}
use Rattle.digits.specs.Numerals.{group_of, leading}
use Rattle.digits.proofs.FirstPieceLaws.{group_reads, piece_nothing, piece_last, piece_more, piece_other}
use Rattle.ipv4_text.specs.Dotted.{dotted_of}
use Rattle.ipv6_text.specs.Inner.{colon_first, gap_first, first_side}
use Rattle.ipv6_text.specs.EightGroups.{tail_of, pieces_of, gap_of}
use Rattle.ipv6_text.proofs.ColonLaws.{colon_not_dotted}
use Rattle.ipv6_text.proofs.GroupLaws.{joined_none, colon, several, colon_pieces, pieces_tail, split_some}

-- ---- the first colon and the first `::`

pub gap_le : (s : List ℕ) → gap_of s ≤ length s
unfolding gap_of
gap_le [] = omega arith
gap_le (x ∷ []) = omega arith
gap_le (x ∷ y ∷ t) = go (eqb x 58 && eqb y 58) (gap_le (y ∷ t))
  where
    go : (b : Bool) → gap_of (y ∷ t) ≤ suc (length t) → cond b zero (suc (gap_of (y ∷ t))) ≤ suc (suc (length t))
    go true ih = omega arith
    go false ih = omega arith

index_gap : (t : List ℕ) → index_of 58 t ≤ gap_of t
unfolding index_of gap_of
index_gap [] = omega arith
index_gap (x ∷ []) = elim (eqb x 58) as (λ b. cond b zero (suc zero) ≤ suc zero) [ true ↦ omega arith | false ↦ omega arith ]
index_gap (x ∷ y ∷ t) = go (eqb x 58) (index_gap (y ∷ t))
  where
    go : (b : Bool) → index_of 58 (y ∷ t) ≤ gap_of (y ∷ t) → cond b zero (suc (index_of 58 (y ∷ t))) ≤ cond (b && eqb y 58) zero (suc (gap_of (y ∷ t)))
    go true ih = omega arith
    go false ih = omega arith

-- behind the first colon stands no other
gap_more : (t : List ℕ) → index_of 58 t < length t → colon_first (drop (suc (index_of 58 t)) t) ≡ false
    → gap_of t ≡ suc (index_of 58 t) + gap_of (drop (suc (index_of 58 t)) t)
unfolding index_of gap_of colon_first
gap_more [] h e = absurd (omega arith)
gap_more (x ∷ []) h e = go (eqb x 58) h
  where
    go : (b : Bool) → cond b zero (suc zero) < suc zero → suc zero ≡ suc (cond b zero (suc zero)) + gap_of (drop (suc (cond b zero (suc zero))) (x ∷ []))
    go true h = refl
    go false h = absurd (omega arith)
gap_more (x ∷ y ∷ t) h e = go (eqb x 58) h e (gap_more (y ∷ t))
  where
    go : (b : Bool) → cond b zero (suc (index_of 58 (y ∷ t))) < suc (suc (length t)) → colon_first (drop (suc (cond b zero (suc (index_of 58 (y ∷ t))))) (x ∷ y ∷ t)) ≡ false
        → (index_of 58 (y ∷ t) < suc (length t) → colon_first (drop (suc (index_of 58 (y ∷ t))) (y ∷ t)) ≡ false → gap_of (y ∷ t) ≡ suc (index_of 58 (y ∷ t)) + gap_of (drop (suc (index_of 58 (y ∷ t))) (y ∷ t)))
        → cond (b && eqb y 58) zero (suc (gap_of (y ∷ t))) ≡ suc (cond b zero (suc (index_of 58 (y ∷ t)))) + gap_of (drop (suc (cond b zero (suc (index_of 58 (y ∷ t))))) (x ∷ y ∷ t))
    go true h e ih = ap (λ b. cond b zero (suc (gap_of (y ∷ t)))) e ∙ omega arith
    go false h e ih = omega (arith, ih (omega arith) e)

-- behind the first colon stands another
gap_here : (t : List ℕ) → index_of 58 t < length t → colon_first (drop (suc (index_of 58 t)) t) ≡ true → gap_of t ≡ index_of 58 t
unfolding index_of gap_of colon_first
gap_here [] h e = absurd (omega arith)
gap_here (x ∷ []) h e = go (eqb x 58) h e
  where
    go : (b : Bool) → cond b zero (suc zero) < suc zero → colon_first (drop (suc (cond b zero (suc zero))) (x ∷ [])) ≡ true → suc zero ≡ cond b zero (suc zero)
    go true h e = let z : ◌≡◌ {A = ℕ} 0 1 = cc in absurd (omega arith)
    go false h e = refl
gap_here (x ∷ y ∷ t) h e = go (eqb x 58) h e (gap_here (y ∷ t))
  where
    go : (b : Bool) → cond b zero (suc (index_of 58 (y ∷ t))) < suc (suc (length t)) → colon_first (drop (suc (cond b zero (suc (index_of 58 (y ∷ t))))) (x ∷ y ∷ t)) ≡ true
        → (index_of 58 (y ∷ t) < suc (length t) → colon_first (drop (suc (index_of 58 (y ∷ t))) (y ∷ t)) ≡ true → gap_of (y ∷ t) ≡ index_of 58 (y ∷ t))
        → cond (b && eqb y 58) zero (suc (gap_of (y ∷ t))) ≡ cond b zero (suc (index_of 58 (y ∷ t)))
    go true h e ih = ap (λ b. cond b zero (suc (gap_of (y ∷ t)))) e
    go false h e ih = ap suc (ih (omega arith) e)

index_take : (b k : ℕ) (t : List ℕ) → index_of b t ≤ k → k ≤ length t → index_of b (take k t) ≡ index_of b t
unfolding index_of
index_take b zero t h l = omega arith
index_take b (suc k) [] h l = absurd (omega arith)
index_take b (suc k) (c ∷ t) h l = go (eqb c b) h (index_take b k t)
  where
    go : (e : Bool) → cond e zero (suc (index_of b t)) ≤ suc k → (index_of b t ≤ k → k ≤ length t → index_of b (take k t) ≡ index_of b t)
        → cond e zero (suc (index_of b (take k t))) ≡ cond e zero (suc (index_of b t))
    go true h ih = refl
    go false h ih = ap suc (ih (omega arith) (omega arith))

-- a text that begins with `::`, and one that does not
pub first_zero : (t : List ℕ) → gap_first t ≡ true → (gap_of t ≡ 0) × (2 ≤ length t)
unfolding gap_first gap_of
first_zero [] e = let z : ◌≡◌ {A = ℕ} 0 1 = cc in absurd (omega arith)
first_zero (x ∷ []) e = let z : ◌≡◌ {A = ℕ} 0 1 = cc in absurd (omega arith)
first_zero (x ∷ y ∷ t) e = (rw e, omega arith)

pub first_pos : (t : List ℕ) → gap_first t ≡ false → gap_of t < length t → 0 < gap_of t
unfolding gap_first gap_of
first_pos [] e h = absurd (omega arith)
first_pos (x ∷ []) e h = omega arith
first_pos (x ∷ y ∷ t) e h = rw e (omega arith)

-- both its colons are there
pub gap_two : (t : List ℕ) → gap_of t < length t → gap_of t + 2 ≤ length t
unfolding gap_of
gap_two [] h = absurd (omega arith)
gap_two (x ∷ []) h = absurd (omega arith)
gap_two (x ∷ y ∷ t) h = go (eqb x 58 && eqb y 58) h (gap_two (y ∷ t))
  where
    go : (b : Bool) → cond b zero (suc (gap_of (y ∷ t))) < suc (suc (length t)) → (gap_of (y ∷ t) < suc (length t) → gap_of (y ∷ t) + 2 ≤ suc (length t))
        → cond b zero (suc (gap_of (y ∷ t))) + 2 ≤ suc (suc (length t))
    go true h ih = omega arith
    go false h ih = omega (arith, ih (omega arith))

-- a text with `::` has an empty piece, which is no group
pub gap_pieces : (d : Bool) (n : ℕ) (t : List ℕ) → length t ≤ n → gap_of t < length t → pieces_of d (split_on 58 t) ≡ None
gap_pieces d zero t l h = absurd (omega arith)
gap_pieces d (suc n) t l h = several d t inside ∙ ap (joined first) (go (colon_first rest) refl (gap_pieces d n rest)) ∙ joined_none first
  where
    first : Option (List ℕ)
    first = single (group_of (take (index_of 58 t) t))

    rest : List ℕ
    rest = drop (index_of 58 t + 1) t

    inside : index_of 58 t < length t
    inside = omega (arith, index_gap t)

    go : (b : Bool) → colon_first rest ≡ b → (length rest ≤ n → gap_of rest < length rest → pieces_of d (split_on 58 rest) ≡ None) → pieces_of d (split_on 58 rest) ≡ None
    go true q ih = colon_pieces d rest q
    go false q ih =
        let r : drop (suc (index_of 58 t)) t ≡ rest = ap (λ k. drop k t) (sym (add-one (index_of 58 t))) in
        let g : gap_of t ≡ suc (index_of 58 t) + gap_of rest = gap_more t inside (ap colon_first r ∙ q) ∙ ap (λ s. suc (index_of 58 t) + gap_of s) r in
        ih (omega (arith, length-drop (index_of 58 t + 1) t)) (omega (arith, length-drop (index_of 58 t + 1) t))

-- ---- the groups before it

drop_take : (n m : ℕ) (t : List ℕ) → n ≤ length t → drop n (take (n + m) t) ≡ take m (drop n t)
drop_take n m t h = rw (take-add n m t) (drop_at (take n t) (take m (drop n t)) n (length-take-le n t h))

module _ (t : List ℕ) where
  -- with and without `::`
  pub first_part_lem : gap_of t < length t → first_side t ≡ pieces_of false (split_on 58 (take (gap_of t) t))
  unfolding first_side
  first_part_lem h = ap (λ b. pieces_of b (split_on 58 (take (gap_of t) t))) (lt-leb (length t) (gap_of t) h)

  pub first_whole : length t ≤ gap_of t → first_side t ≡ pieces_of true (split_on 58 t)
  unfolding first_side
  first_whole h = ap₂ (λ b u. pieces_of b (split_on 58 u)) (le-leb (length t) (gap_of t) h) (take_all (gap_of t) t h)

  pub first_some : (ys : List ℕ) → first_side t ≡ Some ys → 0 < length ys
  unfolding first_side
  first_some ys = split_some (leb (length t) (gap_of t)) (take (gap_of t) t) ys

  -- the first piece is that of the text before `::`
  front : take (index_of 58 (take (gap_of t) t)) (take (gap_of t) t) ≡ take (index_of 58 t) t
  front = rw (index_take 58 (gap_of t) t (index_gap t) (gap_le t)) (take-take (index_of 58 t) (gap_of t) t (index_gap t))

  -- the first piece is no group: all of the text is an IPv4 text, or it is wrong
  first_tail : group_of (take (index_of 58 t) t) ≡ None → first_side t ≡ tail_of t
  unfolding tail_of
  first_tail e = elim (dec_lt (gap_of t) (length t)) [
    | yes h ↦
        let d : dotted_of t ≡ None = colon_not_dotted t (index_contains 58 t (omega (arith, index_gap t))) in
        first_part_lem h ∙ pieces_tail false (take (gap_of t) t) (ap group_of front ∙ e) ∙ sym (rw d)
    | no n ↦ first_whole (omega arith) ∙ pieces_tail true t e
  ]

  pub first_nothing : None ≡ leading 16 group_of t → first_side t ≡ tail_of t
  first_nothing h = first_tail (piece_nothing 16 58 colon group_of group_reads t h)

  -- an IPv4 text has no `::`
  pub tail_gap : (ys : List ℕ) → tail_of t ≡ Some ys → length t ≤ gap_of t
  unfolding tail_of
  tail_gap ys e = elim (dec_lt (gap_of t) (length t)) [
    | yes h ↦ let d = colon_not_dotted t (index_contains 58 t (omega (arith, index_gap t))) in let z : ◌≡◌ {A = ℕ} 0 1 = cc in absurd (omega arith)
    | no n ↦ omega arith
  ]

  module _ (x e : ℕ) (h : Some (x, e) ≡ leading 16 group_of t) where
    pub first_other : e < length t → (get_or t e 0 ≡ 58 → ⊥) → first_side t ≡ tail_of t
    first_other l n = first_tail (piece_other 16 58 colon group_of group_reads t x e h l n)

    pub first_last : length t ≤ e → (first_side t ≡ Some (x ∷ [])) × (length t ≤ gap_of t)
    unfolding pieces_of
    first_last l =
        let p = piece_last 16 58 colon group_of group_reads t x e h l in
        let whole : group_of t ≡ Some x = ap group_of (sym (take_all (index_of 58 t) t (omega (arith, p.1)))) ∙ p.0 in
        let long : length t ≤ gap_of t = omega (arith, p.1, index_gap t) in
        (first_whole long ∙ rw (split_last 58 t (omega (arith, p.1)), whole), long)

    module _ (l : e < length t) (c : get_or t e 0 ≡ 58) where
      piece : (group_of (take (index_of 58 t) t) ≡ Some x) × (index_of 58 t ≡ e)
      piece = piece_more 16 58 colon group_of group_reads t x e h l c

      inside : index_of 58 t < length t
      inside = omega (arith, piece.1)

      behind : drop (suc (index_of 58 t)) t ≡ drop (e + 1) t
      behind = let i : suc (index_of 58 t) ≡ e + 1 = omega (arith, piece.1) in ap (λ k. drop k t) i

      whole : group_of (take e t) ≡ Some x
      whole = ap (λ k. group_of (take k t)) (sym piece.1) ∙ piece.0

      -- `::` behind the group
      pub first_gap : colon_first (drop (e + 1) t) ≡ true → (first_side t ≡ Some (x ∷ [])) × (gap_of t ≡ e)
      unfolding pieces_of
      first_gap f =
          let g : gap_of t ≡ e = gap_here t inside (ap colon_first behind ∙ f) ∙ piece.1 in
          let i : index_of 58 (take e t) ≡ index_of 58 t = index_take 58 e t (omega (arith, piece.1)) (omega arith) in (
            first_part_lem (omega arith) ∙ ap (λ k. pieces_of false (split_on 58 (take k t))) g
                ∙ rw (split_last 58 (take e t) (omega (arith, i, piece.1, length-take-le e t (omega arith))), whole),
            g,
          )

      -- a colon behind the group
      part_more : (d : Bool) (m : ℕ) → e + 1 + m ≤ length t → pieces_of d (split_on 58 (take (e + 1 + m) t)) ≡ joined (Some (x ∷ [])) (pieces_of d (split_on 58 (take m (drop (e + 1) t))))
      part_more d m k =
          let u = take (e + 1 + m) t in
          let i : index_of 58 u ≡ e = index_take 58 (e + 1 + m) t (omega (arith, piece.1)) k ∙ piece.1 in
          several d u (omega (arith, i, length-take-le (e + 1 + m) t k))
          ∙ ap (λ k. joined (single (group_of (take k u))) (pieces_of d (split_on 58 (drop (k + 1) u)))) i
          ∙ ap₂ (λ o v. joined (single o) (pieces_of d (split_on 58 v))) (ap group_of (take-take e (e + 1 + m) t (omega arith)) ∙ whole) (drop_take (e + 1) m t (omega arith))

      pub first_more : colon_first (drop (e + 1) t) ≡ false → (first_side t ≡ joined (Some (x ∷ [])) (first_side (drop (e + 1) t))) × (gap_of t ≡ e + 1 + gap_of (drop (e + 1) t))
      unfolding first_side
      first_more f =
          let r = drop (e + 1) t in
          let g : gap_of t ≡ e + 1 + gap_of r = gap_more t inside (ap colon_first behind ∙ f) ∙ ap (λ s. suc (index_of 58 t) + gap_of s) behind ∙ omega (arith, piece.1) in
          let long : length r ≡ length t - (e + 1) = length-drop (e + 1) t in
          let same : leb (length t) (gap_of t) ≡ leb (length r) (gap_of r) = elim (dec_lt (gap_of r) (length r)) [
            | yes h ↦ lt-leb (length t) (gap_of t) (omega arith) ∙ sym (lt-leb (length r) (gap_of r) h)
            | no n ↦ le-leb (length t) (gap_of t) (omega arith) ∙ sym (le-leb (length r) (gap_of r) (omega arith))
          ] in
          (ap₂ (λ b k. pieces_of b (split_on 58 (take k t))) same g ∙ part_more (leb (length r) (gap_of r)) (gap_of r) (omega (arith, gap_le r)), g)

-- ---- the first bytes, as the code looks at them

pub colon_none : (t : List ℕ) → length t ≡ 0 → false ≡ colon_first t
unfolding colon_first
colon_none [] h = refl
colon_none (x ∷ t) h = absurd (omega arith)

pub colon_first_lem : (t : List ℕ) → (length t ≡ 0 → ⊥) → eqb (get_or t 0 0) 58 ≡ colon_first t
unfolding colon_first
colon_first_lem [] h = absurd (h refl)
colon_first_lem (x ∷ t) h = refl

pub colon_some : (t : List ℕ) → colon_first t ≡ true → 1 ≤ length t
unfolding colon_first
colon_some [] e = let z : ◌≡◌ {A = ℕ} 0 1 = cc in absurd (omega arith)
colon_some (x ∷ t) e = omega arith

pub gap_short : (t : List ℕ) → length t < 2 → false ≡ gap_first t
unfolding gap_first
gap_short [] h = refl
gap_short (x ∷ []) h = refl
gap_short (x ∷ y ∷ t) h = absurd (omega arith)

pub gap_other : (t : List ℕ) → 2 ≤ length t → (get_or t 0 0 ≡ 58 → ⊥) → false ≡ gap_first t
unfolding gap_first
gap_other [] h n = absurd (omega arith)
gap_other (x ∷ []) h n = absurd (omega arith)
gap_other (x ∷ y ∷ t) h n = sym (rw (ne_eqb x 58 n))

pub gap_both : (t : List ℕ) → 2 ≤ length t → get_or t 0 0 ≡ 58 → eqb (get_or t 1 0) 58 ≡ gap_first t
unfolding gap_first
gap_both [] h n = absurd (omega arith)
gap_both (x ∷ []) h n = absurd (omega arith)
gap_both (x ∷ y ∷ t) h n = sym (rw (eq-eqb x 58 n))

-- ---- what stands before `::`, and behind it

pub gap_text : (t : List ℕ) → gap_of t < length t → take (gap_of t) t ++ 58 ∷ 58 ∷ drop (gap_of t + 2) t ≡ t
unfolding gap_of
gap_text [] h = absurd (omega arith)
gap_text (x ∷ []) h = absurd (omega arith)
gap_text (x ∷ y ∷ t) h = go (eqb x 58) refl (eqb y 58) refl h (gap_text (y ∷ t))
  where
    later : gap_of (y ∷ t) < suc (length t) → (gap_of (y ∷ t) < suc (length t) → take (gap_of (y ∷ t)) (y ∷ t) ++ 58 ∷ 58 ∷ drop (gap_of (y ∷ t) + 2) (y ∷ t) ≡ y ∷ t)
        → take (suc (gap_of (y ∷ t))) (x ∷ y ∷ t) ++ 58 ∷ 58 ∷ drop (suc (gap_of (y ∷ t)) + 2) (x ∷ y ∷ t) ≡ x ∷ y ∷ t
    later k ih =
        let g = gap_of (y ∷ t) in
        let e : suc g + 2 ≡ suc (g + 2) = omega arith in
        ap (λ (n : ℕ). x ∷ (take g (y ∷ t) ++ 58 ∷ 58 ∷ drop n (x ∷ y ∷ t))) e ∙ ap (λ s. x ∷ s) (ih k)

    go : (p : Bool) → eqb x 58 ≡ p → (q : Bool) → eqb y 58 ≡ q → let g = cond (p && q) zero (suc (gap_of (y ∷ t))) in
        g < suc (suc (length t)) → (gap_of (y ∷ t) < suc (length t) → take (gap_of (y ∷ t)) (y ∷ t) ++ 58 ∷ 58 ∷ drop (gap_of (y ∷ t) + 2) (y ∷ t) ≡ y ∷ t)
        → take g (x ∷ y ∷ t) ++ 58 ∷ 58 ∷ drop (g + 2) (x ∷ y ∷ t) ≡ x ∷ y ∷ t
    go true e true f k ih = let a = eqb-true x 58 e in let b = eqb-true y 58 f in rw (a, b)
    go true e false f k ih = later (omega arith) ih
    go false e q f k ih = later (omega arith) ih
