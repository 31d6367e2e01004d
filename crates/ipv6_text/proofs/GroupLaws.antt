-- Groups, read piece after piece. Assumes nothing.
use Rattle.std.specs.Prelude.{Option, Some, None, option_map}
use mathlib.Core.Path.{◌≡◌, refl, sym, ap, ◌∙◌}
use mathlib.Core.Bool.{Bool, true, false, cond}
use mathlib.Core.List.{List, [], ◌∷◌, ◌++◌, append_assoc}
use Prim.Native.Nat.{ℕ, ◌+◌, ◌/◌, ◌%◌, ◌^◌, ◌≤◌, ◌<◌}
use native.Mathlib.Numerals.{add-one}
use native.Mathlib.Decide.{dec_lt}
use native.Mathlib.Omega.{arith}
use lib.ListN.{length, take, drop, set}
use lib.Seq.{take_all, take-suc-set}
use Rattle.notation.specs.BigEndian.{digits_of}
use Rattle.notation.specs.Pieces.{index_of, split_on}
use Rattle.notation.specs.Options.{joined, single, or_else}
use Rattle.notation.proofs.OptionLaws.{impossible}
use Rattle.notation.proofs.PieceLaws.{split_found, split_last, split_first, index_contains}
use Rattle.digits.specs.Numerals.{digit_of, group_of, digit_count, leading}
use Rattle.digits.proofs.NumeralLaws.{group_digits}
use Rattle.digits.proofs.FirstPieceLaws.{leading_says}
use Rattle.ipv4_text.specs.Dotted.{dotted_of}
use Rattle.ipv6_text.specs.Inner.{colon_first}
use Rattle.ipv6_text.specs.EightGroups.{tail_of, pieces_of, side_of}
use Rattle.ipv6_text.proofs.ColonLaws.{colon_not_dotted}

-- one group more
module _ (gs : List ℕ) (n x : ℕ) (e : length gs ≡ 8) (h : n < 8) where
  pub one_more : take (n + 1) (set gs n x) ≡ take n gs ++ x ∷ []
  one_more = let k : n < length gs = omega arith in rw (add-one n, take-suc-set gs n x)

pub joined_assoc : (a b c : Option (List ℕ)) → joined (joined a b) c ≡ joined a (joined b c)
joined_assoc None b c = refl
joined_assoc (Some xs) None c = refl
joined_assoc (Some xs) (Some ys) None = refl
joined_assoc (Some xs) (Some ys) (Some zs) = ap Some (append_assoc xs ys zs)

pub joined_none : (a : Option (List ℕ)) → joined a None ≡ None
joined_none None = refl
joined_none (Some xs) = refl

pub joined_start : (o : Option (List ℕ)) → joined (Some []) o ≡ o
joined_start None = refl
joined_start (Some ys) = refl

-- the two groups of a number below 2 ^ 32
pub two_digits : (x : ℕ) → x < 2 ^ 32 → digits_of 65536 2 x ≡ x / 65536 ∷ x % 65536 ∷ []
unfolding digits_of
two_digits x h = let small : x / 65536 % 65536 ≡ x / 65536 = omega arith in rw small

-- ---- pieces

-- pieces that are read have a group
pieces_some : (d : Bool) (p : List ℕ) (ps : List (List ℕ)) (ys : List ℕ) → pieces_of d (p ∷ ps) ≡ Some ys → 0 < length ys
unfolding pieces_of tail_of digits_of
pieces_some d p [] ys e = first d (group_of p) (dotted_of p) e
  where
    first : (d : Bool) (o v : Option ℕ) → or_else (single o) (cond d (option_map (digits_of 65536 2) v) None) ≡ Some ys → 0 < length ys
    first d (Some x) v e = let k : x ∷ [] ≡ ys = cc in rw (← k) (omega arith)
    first true None (Some v) e = let k : digits_of 65536 2 v ≡ ys = cc in rw (← k) (omega arith)
    first true None None e = impossible e
    first false None v e = impossible e
pieces_some d p (q ∷ qs) ys e = more (group_of p) (pieces_of d (q ∷ qs)) e
  where
    more : (o : Option ℕ) (b : Option (List ℕ)) → joined (single o) b ≡ Some ys → 0 < length ys
    more None b e = impossible e
    more (Some x) None e = impossible e
    more (Some x) (Some zs) e = let k : x ∷ zs ≡ ys = cc in rw (← k) (omega arith)

pub split_some : (d : Bool) (t ys : List ℕ) → pieces_of d (split_on 58 t) ≡ Some ys → 0 < length ys
split_some d t ys e = let f = split_first 58 t in pieces_some d (take (index_of 58 t) t) f.0 ys (ap (pieces_of d) (sym f.1) ∙ e)

pieces_cons : (d : Bool) (p : List ℕ) (ps : List (List ℕ)) → 0 < length ps → pieces_of d (p ∷ ps) ≡ joined (single (group_of p)) (pieces_of d ps)
unfolding pieces_of
pieces_cons d p [] h = absurd (omega arith)
pieces_cons d p (q ∷ qs) h = refl

-- a piece with nothing in it is none
pub colon_pieces : (d : Bool) (t : List ℕ) → colon_first t ≡ true → pieces_of d (split_on 58 t) ≡ None
unfolding colon_first split_on group_of
colon_pieces d [] e = let z : ◌≡◌ {A = ℕ} 0 1 = cc in absurd (omega arith)
colon_pieces d (c ∷ t) e = rw e (pieces_cons d [] (split_on 58 t) (rw (split_first 58 t).1 (omega arith)))

pub colon : 16 ≤ digit_of 58
unfolding digit_of
colon = omega arith

module _ (d : Bool) (t : List ℕ) where
  pub side_none : length t ≡ 0 → side_of d t ≡ Some []
  unfolding side_of
  side_none = elim t as (λ t. length t ≡ 0 → side_of d t ≡ Some []) [ [] ↦ λ h. refl | ◌∷◌ c t ↦ λ h. absurd (omega arith) ]

  pub side_some : (length t ≡ 0 → ⊥) → side_of d t ≡ pieces_of d (split_on 58 t)
  unfolding side_of
  side_some = elim t as (λ t. (length t ≡ 0 → ⊥) → side_of d t ≡ pieces_of d (split_on 58 t)) [ [] ↦ λ h. absurd (h refl) | ◌∷◌ c t ↦ λ h. refl ]

  pub several : index_of 58 t < length t → pieces_of d (split_on 58 t) ≡ joined (single (group_of (take (index_of 58 t) t))) (pieces_of d (split_on 58 (drop (index_of 58 t + 1) t)))
  several h =
      let r = drop (index_of 58 t + 1) t in
      rw (split_found 58 t h, ← add-one (index_of 58 t)) (pieces_cons d (take (index_of 58 t) t) (split_on 58 r) (rw (split_first 58 r).1 (omega arith)))

  -- the first piece is no group: all of the text is an IPv4 text, or it is wrong
  pub pieces_tail : group_of (take (index_of 58 t) t) ≡ None → pieces_of d (split_on 58 t) ≡ cond d (tail_of t) None
  unfolding pieces_of tail_of
  pieces_tail e = elim (dec_lt (index_of 58 t) (length t)) [
    | yes h ↦ several h ∙ ap (λ o. joined (single o) (pieces_of d (split_on 58 (drop (index_of 58 t + 1) t)))) e
        ∙ sym (both_none d (colon_not_dotted t (index_contains 58 t h)))
    | no n ↦
        let l : length t ≤ index_of 58 t = omega arith in
        let whole : group_of t ≡ None = ap group_of (sym (take_all (index_of 58 t) t l)) ∙ e in
        rw (split_last 58 t l) (rw whole)
  ]
    where
      both_none : (b : Bool) → dotted_of t ≡ None → cond b (tail_of t) None ≡ None
      both_none true e = rw e
      both_none false e = refl

pub group_small : (t : List ℕ) (x e : ℕ) → Some (x, e) ≡ leading 16 group_of t → x < 65536
group_small t x e h = (group_digits (take (digit_count 16 t) t) x (leading_says 16 group_of t x e h).0).1
