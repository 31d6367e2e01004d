-- One side of `::`, read group by group. Assumes nothing.
use Rattle.std.specs.Prelude.{Option, Some, None}
use mathlib.Core.Path.{◌≡◌, refl, sym, ap, ◌∙◌}
use mathlib.Core.Bool.{Bool, true, false, cond}
use mathlib.Core.List.{List, [], ◌∷◌}
use Prim.Native.Nat.{ℕ, ◌+◌, ◌-◌, ◌≤◌, ◌<◌}
use native.Mathlib.Decide.{dec_le, dec_lt}
use native.Mathlib.Omega.{arith}
use borrow.Author.Tests.{ne_eqb, le-leb, lt-leb, lt-ltb, le-ltb}
use lib.Dec.{leb}
use lib.ListN.{length, take, drop, set, length-set, length-drop}
use lib.Seq.{length-take-le}
use Rattle.notation.proofs.OptionLaws.{impossible, same_value}
use Rattle.notation.specs.Pieces.{split_on}
use Rattle.notation.specs.Options.{joined}
use Rattle.notation.proofs.SliceLaws.{tail, to_end}
use Rattle.digits.specs.Numerals.{group_of}
use Rattle.ipv4_text.specs.Dotted.{dotted_of}
use Rattle.ipv6_text.specs.declared.Side.{Side}
use Rattle.ipv6_text.specs.Inner.{gap_first, HoldsGroups, first_side, behind_gap, ReadsSide}
use Rattle.ipv6_text.specs.EightGroups.{tail_of, pieces_of, side_of, gap_of, filled, eight, eight_of}
use Rattle.ipv6_text.proofs.GroupLaws.{one_more, joined_assoc, joined_start, side_some}
use Rattle.ipv6_text.proofs.GapLaws.{gap_le, first_pos, first_zero, gap_pieces, tail_gap, first_part_lem, first_whole, first_some}
use Rattle.ipv6_text.proofs.PlaceLaws.{holds_none, holds_some, holds_many, holds_refused, one_held, over_eight}

-- ---- while it is read

-- behind the groups xs others have been read, n in all, and the rest is still to read
pub record Progress (xs text gs rest : List ℕ) (n : ℕ) : Type 0 where
  pub few : n ≤ 8
  pub places : length gs ≡ 8
  pub short : length rest ≤ length text
  pub gap : gap_of text ≡ length text - length rest + gap_of rest
  pub groups : joined (Some xs) (first_side text) ≡ joined (Some (take n gs)) (first_side rest)

pub read_start : (gs text : List ℕ) (n : ℕ) → length gs ≡ 8 → n ≤ 8 → Progress (take n gs) text gs text n
read_start gs text n e h = record { few = h; places = e; short = omega arith; gap = omega arith; groups = refl }

module _ {xs text gs rest : List ℕ} {n : ℕ} (s : Progress xs text gs rest n) where
  -- where no `::` follows, the text has none
  no_gap : length rest ≤ gap_of rest → behind_gap text ≡ None
  no_gap h = ap (λ b. cond b (Some (gap_of text + 2)) None) (le-ltb (gap_of text) (length text) (omega (arith, s.short, s.gap)))

  holds_all : (after : List ℕ) (k : ℕ) (o : Option (List ℕ)) → first_side rest ≡ o → HoldsGroups after k (joined (Some (take n gs)) o) → HoldsGroups after k (joined (Some xs) (first_side text))
  holds_all after k o e h = rw (s.groups, e) h

  -- the rest is an IPv4 text, or wrong
  pub read_tail : (after : List ℕ) (k : ℕ) → first_side rest ≡ tail_of rest → HoldsGroups after k (joined (Some (take n gs)) (tail_of rest)) → ReadsSide xs after text (record { count = k; next = None })
  read_tail after k e h = record { counted = holds_all after k (tail_of rest) e h; next = sym (go (tail_of rest) refl h) }
    where
      either : (b : Bool) → cond {A = Option ℕ} b None None ≡ None
      either true = refl
      either false = refl

      go : (o : Option (List ℕ)) → tail_of rest ≡ o → HoldsGroups after k (joined (Some (take n gs)) o) → cond (leb k 8) (behind_gap text) None ≡ None
      go None q h = ap (λ b. cond b (behind_gap text) None) (lt-leb k 8 (holds_refused after k h))
      go (Some ys) q h = ap (λ z. cond (leb k 8) z None) (no_gap (tail_gap rest ys q)) ∙ either (leb k 8)

  module _ (x : ℕ) (h : n < 8) where
    -- a last group
    pub read_last : first_side rest ≡ Some (x ∷ []) → length rest ≤ gap_of rest → ReadsSide xs (set gs n x) text (record { count = n + 1; next = None })
    read_last e l =
        record {
          counted = holds_all (set gs n x) (n + 1) (Some (x ∷ [])) e (one_held gs n s.places x h);
          next = sym (ap (λ b. cond b (behind_gap text) None) (le-leb (n + 1) 8 (omega arith)) ∙ no_gap l);
        }

    -- a group and `::`
    pub read_gap : (e : ℕ) → first_side rest ≡ Some (x ∷ []) → gap_of rest ≡ e → e < length rest → ReadsSide xs (set gs n x) text (record { count = n + 1; next = Some (length text - length (tail (e + 1) rest) + 1) })
    read_gap e f g l =
        let long = ap length (to_end (e + 1) rest) ∙ length-drop (e + 1) rest in
        let gap : behind_gap text ≡ Some (gap_of text + 2) = ap (λ b. cond b (Some (gap_of text + 2)) None) (lt-ltb (gap_of text) (length text) (omega (arith, s.short, s.gap))) in
        record {
          counted = holds_all (set gs n x) (n + 1) (Some (x ∷ [])) f (one_held gs n s.places x h);
          next = sym (ap (λ b. cond b (behind_gap text) None) (le-leb (n + 1) 8 (omega arith)) ∙ gap ∙ ap Some (omega (arith, s.short, s.gap, long)));
        }

    -- a group and a colon
    pub read_more : (e : ℕ) → e < length rest → (first_side rest ≡ joined (Some (x ∷ [])) (first_side (drop (e + 1) rest))) × (gap_of rest ≡ e + 1 + gap_of (drop (e + 1) rest))
        → Progress xs text (set gs n x) (tail (e + 1) rest) (n + 1)
    read_more e l f =
        rw (to_end (e + 1) rest)
        (record {
          few = omega arith;
          places = length-set gs n x ∙ s.places;
          short = omega (arith, s.short, length-drop (e + 1) rest);
          gap = omega (arith, s.short, s.gap, f.1, length-drop (e + 1) rest);
          groups =
              s.groups ∙ ap (joined (Some (take n gs))) f.0 ∙ sym (joined_assoc (Some (take n gs)) (Some (x ∷ [])) (first_side (drop (e + 1) rest)))
              ∙ ap (λ ys. joined (Some ys) (first_side (drop (e + 1) rest))) (sym (one_more gs n x s.places h));
        })

  -- eight groups, and a colon behind them
  pub read_full : 8 ≤ n → ReadsSide xs gs text (record { count = 9; next = None })
  read_full l =
      record {
        counted = holds_all gs 9 (first_side rest) refl (over_eight gs n s.places (first_side rest) (λ ys q. omega (arith, first_some rest ys q)) s.few);
        next = refl;
      }

-- ---- what is told of a side that was read

module _ {xs gs t : List ℕ} {s : Side} (r : ReadsSide xs gs t s) where
  -- the index behind `::`
  next_gap : s.count ≤ 8 → gap_of t < length t → s.next ≡ Some (gap_of t + 2)
  next_gap k g = r.next ∙ rw (le-leb s.count 8 k, lt-ltb (gap_of t) (length t) g)

  pub next_some : (k : ℕ) → s.next ≡ Some k → (s.count ≤ 8) × (gap_of t < length t) × (k ≡ gap_of t + 2)
  next_some k h = elim (dec_le s.count 8) [
    | yes l ↦ elim (dec_lt (gap_of t) (length t)) [
      | yes g ↦ (l, g, same_value (sym h ∙ next_gap l g))
      | no n ↦ let e : s.next ≡ None = r.next ∙ rw (le-leb s.count 8 l, le-ltb (gap_of t) (length t) (omega arith)) in impossible (sym e ∙ h)
    ]
    | no n ↦ let e : s.next ≡ None = r.next ∙ rw (lt-leb s.count 8 (omega arith)) in impossible (sym e ∙ h)
  ]

  -- a `::` that is not told: the groups before it are none, or too many
  next_none : s.next ≡ None → gap_of t < length t → 8 < s.count
  next_none z g = elim (dec_le s.count 8) [ yes k ↦ impossible (sym z ∙ next_gap k g) | no n ↦ omega arith ]

  -- the right side: no other `::` may follow
  module _ (d : length t ≡ 0 → ⊥) where
    twice : (n : ℕ) → 8 < n → gap_of t < length t → HoldsGroups gs n (joined (Some xs) (side_of true t))
    twice n h g = holds_none gs n (joined (Some xs) (side_of true t)) r.counted.places h (rw (side_some true t d, gap_pieces true (length t) t (omega arith) g))

    pub right_over : (k : ℕ) → s.next ≡ Some k → HoldsGroups gs 9 (joined (Some xs) (side_of true t))
    right_over k h = twice 9 (omega arith) (next_some k h).1

    pub right_end : s.next ≡ None → HoldsGroups gs s.count (joined (Some xs) (side_of true t))
    right_end z = elim (dec_lt (gap_of t) (length t)) [
      | yes g ↦ twice s.count (next_none z g) g
      | no n ↦ rw (side_some true t d, ← first_whole t (omega arith)) r.counted
    ]

-- all of the text
eight_gap : (t : List ℕ) → gap_of t < length t → eight_of t ≡ filled (side_of false (take (gap_of t) t)) (side_of true (drop (gap_of t + 2) t))
unfolding eight_of
eight_gap t h = rw (lt-ltb (gap_of t) (length t) h)

eight_whole : (t : List ℕ) → length t ≤ gap_of t → eight_of t ≡ eight (side_of true t)
unfolding eight_of
eight_whole t h = rw (le-ltb (gap_of t) (length t) h)

-- a text that begins with `::`
pub gap_start : (t : List ℕ) → gap_first t ≡ true → (2 ≤ length t) × (filled (Some []) (side_of true (tail 2 t)) ≡ eight_of t)
unfolding side_of
gap_start t f =
    let z = first_zero t f in
    let e : eight_of t ≡ filled (Some []) (side_of true (drop 2 t)) = eight_gap t (omega arith) ∙ ap (λ k. filled (side_of false (take k t)) (side_of true (drop (k + 2) t))) z.0 in
    (z.1, ap (λ u. filled (Some []) (side_of true u)) (to_end 2 t) ∙ sym e)

eight_pieces : (t : List ℕ) → eight (pieces_of true (split_on 58 t)) ≡ eight (side_of true t)
unfolding split_on pieces_of side_of tail_of group_of dotted_of
eight_pieces [] = refl
eight_pieces (c ∷ t) = refl

module _ {gs t : List ℕ} {s : Side} (r : ReadsSide [] gs t s) (f : gap_first t ≡ false) where
  first_left : gap_of t < length t → first_side t ≡ side_of false (take (gap_of t) t)
  first_left g =
      let n : length (take (gap_of t) t) ≡ 0 → ⊥ = λ z. omega (arith, length-take-le (gap_of t) t (gap_le t), first_pos t f g) in
      first_part_lem t g ∙ sym (side_some false (take (gap_of t) t) n)

  pub left_gap : (k : ℕ) → s.next ≡ Some k → filled (Some (take s.count gs)) (side_of true (tail k t)) ≡ eight_of t
  left_gap k h =
      let m = next_some r k h in
      ap (λ u. filled (Some (take s.count gs)) (side_of true u)) (to_end k t ∙ ap (λ k. drop k t) m.2)
      ∙ ap (λ o. filled o (side_of true (drop (gap_of t + 2) t))) (sym (go m.0 (first_side t) r.counted) ∙ first_left m.1)
      ∙ sym (eight_gap t m.1)
    where
      go : s.count ≤ 8 → (o : Option (List ℕ)) → HoldsGroups gs s.count (joined (Some []) o) → o ≡ Some (take s.count gs)
      go k None h = absurd (omega (arith, holds_refused gs s.count h))
      go k (Some ys) h = ap Some (sym (holds_some gs ys s.count h k))

  pub left_end : s.next ≡ None → eight (joined (Some []) (first_side t)) ≡ eight_of t
  left_end z = elim (dec_lt (gap_of t) (length t)) [
    | yes g ↦ go (next_none r z g) (first_side t) r.counted (side_of true (drop (gap_of t + 2) t))
        ∙ ap (λ o. filled o (side_of true (drop (gap_of t + 2) t))) (first_left g) ∙ sym (eight_gap t g)
    | no n ↦ ap eight (joined_start (first_side t) ∙ first_whole t (omega arith)) ∙ eight_pieces t ∙ sym (eight_whole t (omega arith))
  ]
    where
      go : 8 < s.count → (o : Option (List ℕ)) → HoldsGroups gs s.count (joined (Some []) o) → (b : Option (List ℕ)) → eight (joined (Some []) o) ≡ filled o b
      go k None h b = refl
      go k (Some ys) h None = rw (ne_eqb (length ys) 8 (omega (arith, holds_many gs ys s.count h k)))
      go k (Some ys) h (Some zs) =
          let m = holds_many gs ys s.count h k in
          rw (ne_eqb (length ys) 8 (omega arith), lt-leb (length ys + length zs) 7 (omega arith))
