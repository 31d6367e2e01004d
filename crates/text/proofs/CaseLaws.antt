-- A text is read as the same text in lower case. Assumes nothing.
use Rattle.std.specs.Prelude.{Option}
use mathlib.Core.Path.{◌≡◌, refl, ap, ◌∙◌}
use mathlib.Core.Bool.{Bool, true, false, cond}
use mathlib.Core.List.{List, [], ◌∷◌, map}
use Prim.Native.Nat.{ℕ, zero, suc, ◌+◌, ◌<◌}
use lib.Dec.{eqb, lit<}
use lib.ListN.{take, drop, length-map}
use Rattle.notation.specs.Pieces.{on_first, split_on}
use Rattle.notation.specs.Options.{every}
use Rattle.digits.specs.Numerals.{lower, digit_of, all_digits, text_number, leading_zero, part_of, group_of}
use Rattle.digits.proofs.NumeralLaws.{lower_digit, lower_same}
use Rattle.ipv4_text.specs.Dotted.{dotted_of}
use Rattle.ipv6_text.specs.EightGroups.{pieces_of, side_of, gap_of, eight_of}
use Rattle.text.specs.Strict.{strict_of}

-- ---- numbers

lower_digits : (t : List ℕ) → map digit_of (map lower t) ≡ map digit_of t
lower_digits [] = refl
lower_digits (c ∷ t) = rw (lower_digit c, lower_digits t)

lower_all : (base : ℕ) (t : List ℕ) → all_digits base (map lower t) ≡ all_digits base t
unfolding all_digits
lower_all base [] = refl
lower_all base (c ∷ t) = rw (lower_digit c, lower_all base t)

lower_number : (base : ℕ) (t : List ℕ) → text_number base (map lower t) ≡ text_number base t
unfolding text_number
lower_number base [] = refl
lower_number base (c ∷ t) = rw (lower_all base (c ∷ t), lower_digits (c ∷ t))

lower_leading : (t : List ℕ) → leading_zero (map lower t) ≡ leading_zero t
unfolding leading_zero
lower_leading [] = refl
lower_leading (c ∷ []) = refl
lower_leading (c ∷ d ∷ t) = lower_same 48 c (lit< tt)

lower_part : (m : ℕ) (t : List ℕ) → part_of m (map lower t) ≡ part_of m t
unfolding part_of
lower_part m t = rw (lower_leading t, length-map t lower, lower_number 10 t)

lower_group : (t : List ℕ) → group_of (map lower t) ≡ group_of t
unfolding group_of
lower_group t = rw (length-map t lower, lower_number 16 t)

-- ---- pieces

lower_first : (x : ℕ) (ps : List (List ℕ)) → on_first (lower x) (map (map lower) ps) ≡ map (map lower) (on_first x ps)
unfolding on_first
lower_first x [] = refl
lower_first x (p ∷ ps) = refl

lower_split : (b : ℕ) → b < 65 → (t : List ℕ) → split_on b (map lower t) ≡ map (map lower) (split_on b t)
unfolding split_on
lower_split b h [] = refl
lower_split b h (x ∷ t) = rw (lower_same b x h, lower_split b h t) (go (eqb x b))
  where
    go : (e : Bool) → cond e ([] ∷ map (map lower) (split_on b t)) (on_first (lower x) (map (map lower) (split_on b t))) ≡ map (map lower) (cond e ([] ∷ split_on b t) (on_first x (split_on b t)))
    go true = refl
    go false = lower_first x (split_on b t)

lower_every : (f : List ℕ → Option ℕ) → ((p : List ℕ) → f (map lower p) ≡ f p) → (ps : List (List ℕ)) → every f (map (map lower) ps) ≡ every f ps
unfolding every
lower_every f h [] = refl
lower_every f h (p ∷ ps) = rw (h p, lower_every f h ps)

pub lower_dotted : (t : List ℕ) → dotted_of (map lower t) ≡ dotted_of t
unfolding dotted_of
lower_dotted t = rw (lower_split 46 (lit< tt) t, length-map (split_on 46 t) (map lower), lower_every (part_of 255) (lower_part 255) (split_on 46 t))

lower_pieces : (d : Bool) (ps : List (List ℕ)) → pieces_of d (map (map lower) ps) ≡ pieces_of d ps
unfolding pieces_of
lower_pieces d [] = refl
lower_pieces d (p ∷ []) = rw (lower_group p, lower_dotted p)
lower_pieces d (p ∷ q ∷ ps) = rw (lower_group p, lower_pieces d (q ∷ ps))

lower_side : (d : Bool) (t : List ℕ) → side_of d (map lower t) ≡ side_of d t
unfolding side_of
lower_side d [] = refl
lower_side d (c ∷ t) = ap (pieces_of d) (lower_split 58 (lit< tt) (c ∷ t)) ∙ lower_pieces d (split_on 58 (c ∷ t))

-- ---- both sides of `::`

lower_gap : (t : List ℕ) → gap_of (map lower t) ≡ gap_of t
unfolding gap_of
lower_gap [] = refl
lower_gap (x ∷ []) = refl
lower_gap (x ∷ y ∷ t) = rw (lower_same 58 x (lit< tt), lower_same 58 y (lit< tt), lower_gap (y ∷ t))

lower_take : (n : ℕ) (t : List ℕ) → take n (map lower t) ≡ map lower (take n t)
lower_take zero t = refl
lower_take (suc n) [] = refl
lower_take (suc n) (x ∷ t) = ap (λ s. lower x ∷ s) (lower_take n t)

lower_drop : (n : ℕ) (t : List ℕ) → drop n (map lower t) ≡ map lower (drop n t)
lower_drop zero t = refl
lower_drop (suc n) [] = refl
lower_drop (suc n) (x ∷ t) = lower_drop n t

pub lower_eight : (t : List ℕ) → eight_of (map lower t) ≡ eight_of t
unfolding eight_of
lower_eight t =
    rw (
      lower_gap t,
      length-map t lower,
      lower_take (gap_of t) t,
      lower_drop (gap_of t + 2) t,
      lower_side false (take (gap_of t) t),
      lower_side true (drop (gap_of t + 2) t),
      lower_side true t,
    )

pub lower_strict : (family : ℕ) (t : List ℕ) → strict_of family (map lower t) ≡ strict_of family t
unfolding strict_of
lower_strict family t = rw (lower_dotted t, lower_eight t)
