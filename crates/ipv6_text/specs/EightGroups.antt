-- The eight groups of IPv6 text (01, "Strict text"; RFC 4291 section 2.2). A text is the list of its bytes. Assumes nothing.
use Rattle.std.specs.Prelude.{Bool, true, false, cond, ◌&&◌, List, [], ◌∷◌, ◌++◌, ℕ, zero, suc, ◌+◌, ◌-◌, leb, ltb, eqb, length, take, drop, replicate, Option, Some, None, option_map}
use Rattle.notation.specs.BigEndian.{digits_of}
use Rattle.notation.specs.Pieces.{split_on}
use Rattle.notation.specs.Options.{or_else, joined, single}
use Rattle.digits.specs.Numerals.{group_of}
use Rattle.ipv4_text.specs.Dotted.{dotted_of}

-- "The last two groups may be one strict IPv4 text."
unfoldable pub tail_of : List ℕ → Option (List ℕ)
unfolding digits_of
tail_of p = option_map (digits_of 65536 2) (dotted_of p)

-- the groups of pieces: each a group, but the last may be an IPv4 text where `dotted` allows it
unfoldable pub pieces_of : Bool → List (List ℕ) → Option (List ℕ)
unfolding tail_of
pieces_of dotted [] = Some []
pieces_of dotted (p ∷ []) = or_else (single (group_of p)) (cond dotted (tail_of p) None)
pieces_of dotted (p ∷ q ∷ ps) = joined (single (group_of p)) (pieces_of dotted (q ∷ ps))

-- the groups with "single colons between them" on one side of `::`, which may be none
unfoldable pub side_of : Bool → List ℕ → Option (List ℕ)
unfolding pieces_of
side_of dotted [] = Some []
side_of dotted (c ∷ t) = pieces_of dotted (split_on 58 (c ∷ t))

-- the index of the first `::`, or the length where there is none
unfoldable pub gap_of : List ℕ → ℕ
gap_of [] = zero
gap_of (x ∷ []) = suc zero
gap_of (x ∷ y ∷ t) = cond (eqb x 58 && eqb y 58) zero (suc (gap_of (y ∷ t)))

-- "`::` may stand once for one or more whole zero groups, so at most seven groups stand beside it."
abbrev pub filled : Option (List ℕ) → Option (List ℕ) → Option (List ℕ)
filled None b = None
filled (Some xs) None = None
filled (Some xs) (Some ys) =
    cond (leb (length xs + length ys) 7) (Some (xs ++ (replicate (8 - (length xs + length ys)) 0 ++ ys))) None

-- "eight groups"
abbrev pub eight : Option (List ℕ) → Option (List ℕ)
eight None = None
eight (Some xs) = cond (eqb (length xs) 8) (Some xs) None

-- the eight groups of an IPv6 text. An IPv4 text is last, so none stands before `::`.
unfoldable pub eight_of : List ℕ → Option (List ℕ)
unfolding side_of gap_of
eight_of t =
    cond (ltb (gap_of t) (length t))
    (filled (side_of false (take (gap_of t) t)) (side_of true (drop (gap_of t + 2) t)))
    (eight (side_of true t))
