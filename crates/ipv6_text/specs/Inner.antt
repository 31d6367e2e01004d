-- What the contracts of private functions cite: groups on their way to their places. Assumes nothing.
use Rattle.std.specs.Prelude.{◌≡◌, Bool, false, cond, ◌&&◌, List, [], ◌∷◌, ◌++◌, ℕ, ◌+◌, ◌-◌, ◌≤◌, leb, ltb, eqb, length, take, drop, replicate, Option, Some, None, ⊤}
use Rattle.notation.specs.Pieces.{split_on}
use Rattle.notation.specs.Options.{joined}
use Rattle.ipv6_text.specs.EightGroups.{pieces_of, gap_of}
use Rattle.ipv6_text.specs.declared.Layout.{Layout}
use Rattle.ipv6_text.specs.declared.Side.{Side}

-- ---- groups that were read, one after the other in eight places

-- the first n of eight places; none where n is more than eight
abbrev pub held : ℕ → List ℕ → Option (List ℕ)
held n gs = cond (leb n 8) (Some (take n gs)) None

-- no more than eight
abbrev pub up_to8 : Option (List ℕ) → Option (List ℕ)
up_to8 None = None
up_to8 (Some xs) = cond (leb (length xs) 8) (Some xs) None

-- the first n places hold the groups o; n is more than eight where o is none, or more than eight groups
pub record HoldsGroups (gs : List ℕ) (n : ℕ) (o : Option (List ℕ)) : Type 0 where
  pub places : length gs ≡ 8
  pub groups : held n gs ≡ up_to8 o

-- how many groups an answer tells; nine, more than there may be, where it tells none
abbrev pub count_of : Option ℕ → ℕ
count_of None = 9
count_of (Some n) = n

-- ---- one side of `::`

-- whether a text begins with a colon, and with `::`
unfoldable pub colon_first : List ℕ → Bool
colon_first [] = false
colon_first (x ∷ t) = eqb x 58

unfoldable pub gap_first : List ℕ → Bool
gap_first [] = false
gap_first (x ∷ []) = false
gap_first (x ∷ y ∷ t) = eqb x 58 && eqb y 58

-- the groups of a text up to its first `::`, or to its end, where the last two may be an IPv4 text
unfoldable pub first_side : List ℕ → Option (List ℕ)
unfolding gap_of pieces_of split_on
first_side t = pieces_of (leb (length t) (gap_of t)) (split_on 58 (take (gap_of t) t))

-- the index behind the first `::`, where there is one
abbrev pub behind_gap : List ℕ → Option ℕ
behind_gap t = cond (ltb (gap_of t) (length t)) (Some (gap_of t + 2)) None

-- a side as an answer tells it; of nine groups, more than there may be, where it tells none
abbrev pub sided : Option Side → Side
sided None = record { count = 9; next = None }
sided (Some s) = s

-- the groups of a text up to `::` or its end, behind the groups xs; the index behind `::` is told where there are eight at most
pub record ReadsSide (xs gs t : List ℕ) (s : Side) : Type 0 where
  pub counted : HoldsGroups gs s.count (joined (Some xs) (first_side t))
  pub next : s.next ≡ cond (leb s.count 8) (behind_gap t) None

-- ---- all eight groups

-- the first gap of n groups, a zero group for each that `::` stands for, and the other groups
abbrev pub expanded : ℕ → ℕ → List ℕ → List ℕ
expanded n gap gs = take gap gs ++ (replicate (8 - n) 0 ++ drop gap (take n gs))

-- the eight groups that a layout makes of groups that were read
abbrev pub laid : Option Layout → List ℕ → Option (List ℕ)
laid None gs = None
laid (Some l) gs = Some (expanded l.count l.gap gs)

abbrev pub IsLayout : Option Layout → Type 0
IsLayout None = ⊤
IsLayout (Some l) = (l.gap ≤ l.count) × (l.count ≤ 8)

-- groups that were read, and the layout in which they are the eight groups o
pub record LaidOut (gs : List ℕ) (l : Option Layout) (o : Option (List ℕ)) : Type 0 where
  pub places : length gs ≡ 8
  pub order : IsLayout l
  pub groups : laid l gs ≡ o
