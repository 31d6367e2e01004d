-- What IPv6 text is read as: eight groups of 16 bits. Assumes nothing.
use Rattle.std.specs.Prelude.{Option, Some, None, option_map}
use mathlib.Core.Path.{◌≡◌, refl, subst}
use mathlib.Core.Bool.{Bool, true, false, cond}
use mathlib.Core.List.{List, [], ◌∷◌, ◌++◌}
use Prim.Native.Nat.{ℕ, ◌+◌, ◌-◌}
use native.Mathlib.Omega.{arith}
use borrow.Author.Tests.{eqb-true, leb-true}
use lib.Dec.{eqb, leb, ltb, lit<}
use lib.ListN.{length, take, drop, replicate, length-append, length-replicate}
use Rattle.notation.specs.BigEndian.{AllBelow, digits_of}
use Rattle.notation.specs.Pieces.{split_on}
use Rattle.notation.specs.Options.{joined, single, or_else}
use Rattle.notation.proofs.OptionLaws.{impossible}
use Rattle.notation.proofs.DigitLaws.{below_append, zeros_below, digits_below}
use Rattle.digits.specs.Numerals.{group_of}
use Rattle.digits.proofs.NumeralLaws.{group_digits}
use Rattle.ipv4_text.specs.Dotted.{dotted_of}
use Rattle.ipv6_text.specs.EightGroups.{tail_of, pieces_of, side_of, gap_of, filled, eight, eight_of}

-- numbers that are there are groups
abbrev AllGroups : Option (List ℕ) → Type 0
AllGroups None = Unit {0}
AllGroups (Some xs) = AllBelow 65536 xs

joined_groups : (a b : Option (List ℕ)) → AllGroups a → AllGroups b → AllGroups (joined a b)
joined_groups None b g h = tt
joined_groups (Some xs) None g h = tt
joined_groups (Some xs) (Some ys) g h = below_append 65536 xs ys g h

group_groups : (p : List ℕ) → AllGroups (single (group_of p))
group_groups p = go (group_of p) refl
  where
    go : (o : Option ℕ) → group_of p ≡ o → AllGroups (single o)
    go None e = tt
    go (Some x) e = ((group_digits p x e).1, tt)

tail_groups : (p : List ℕ) → AllGroups (tail_of p)
unfolding tail_of
tail_groups p = go (dotted_of p)
  where
    go : (o : Option ℕ) → AllGroups (option_map (digits_of 65536 2) o)
    go None = tt
    go (Some v) = digits_below 65536 (lit< tt) 2 v

pieces_groups : (d : Bool) (ps : List (List ℕ)) → AllGroups (pieces_of d ps)
unfolding pieces_of
pieces_groups d [] = tt
pieces_groups d (p ∷ []) = go (single (group_of p)) d (group_groups p)
  where
    go : (o : Option (List ℕ)) (d : Bool) → AllGroups o → AllGroups (or_else o (cond d (tail_of p) None))
    go None true g = tail_groups p
    go None false g = tt
    go (Some xs) d g = g
pieces_groups d (p ∷ q ∷ ps) = joined_groups (single (group_of p)) (pieces_of d (q ∷ ps)) (group_groups p) (pieces_groups d (q ∷ ps))

side_groups : (d : Bool) (t : List ℕ) → AllGroups (side_of d t)
unfolding side_of
side_groups d [] = tt
side_groups d (c ∷ t) = pieces_groups d (split_on 58 (c ∷ t))

-- eight groups
pub record EightGroups (gs : List ℕ) : Type 0 where
  pub count : length gs ≡ 8
  pub small : AllBelow 65536 gs

filled_eight : (a b : Option (List ℕ)) (gs : List ℕ) → AllGroups a → AllGroups b → filled a b ≡ Some gs → EightGroups gs
filled_eight None b gs g h e = impossible e
filled_eight (Some xs) None gs g h e = impossible e
filled_eight (Some xs) (Some ys) gs g h e = go (leb (length xs + length ys) 7) refl e
  where
    n : ℕ
    n = 8 - (length xs + length ys)

    go : (b : Bool) → leb (length xs + length ys) 7 ≡ b → cond b (Some (xs ++ (replicate n 0 ++ ys))) None ≡ Some gs → EightGroups gs
    go true l k =
        let few = leb-true (length xs + length ys) 7 l in
        let is : xs ++ (replicate n 0 ++ ys) ≡ gs = cc in
        subst EightGroups is (record {
          count = omega (arith, length-append xs (replicate n 0 ++ ys), length-append (replicate n 0) ys, length-replicate {A = ℕ} n 0);
          small = below_append 65536 xs (replicate n 0 ++ ys) g (below_append 65536 (replicate n 0) ys (zeros_below 65536 n (lit< tt)) h);
        })
    go false l k = impossible k

eight_eight : (a : Option (List ℕ)) (gs : List ℕ) → AllGroups a → eight a ≡ Some gs → EightGroups gs
eight_eight None gs g e = impossible e
eight_eight (Some xs) gs g e = go (eqb (length xs) 8) refl e
  where
    go : (b : Bool) → eqb (length xs) 8 ≡ b → cond b (Some xs) None ≡ Some gs → EightGroups gs
    go true l k = let is : xs ≡ gs = cc in subst EightGroups is (record { count = eqb-true (length xs) 8 l; small = g })
    go false l k = impossible k

pub eight_groups : (t gs : List ℕ) → eight_of t ≡ Some gs → EightGroups gs
unfolding eight_of
eight_groups t gs e = go (ltb (gap_of t) (length t)) e
  where
    left : Option (List ℕ)
    left = side_of false (take (gap_of t) t)

    right : Option (List ℕ)
    right = side_of true (drop (gap_of t + 2) t)

    go : (b : Bool) → cond b (filled left right) (eight (side_of true t)) ≡ Some gs → EightGroups gs
    go true k = filled_eight left right gs (side_groups false (take (gap_of t) t)) (side_groups true (drop (gap_of t + 2) t)) k
    go false k = eight_eight (side_of true t) gs (side_groups true t) k
