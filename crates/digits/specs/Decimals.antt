-- The decimal digit at the start of a text, as the reader of parts looks at it. Assumes nothing.
use Rattle.std.specs.Prelude.{cond, List, [], ◌∷◌, ℕ, ltb}
use Rattle.digits.specs.Numerals.{digit_of}

-- the decimal digit that a text begins with, or 32
unfoldable pub decimal_of : List ℕ → ℕ
decimal_of [] = 32
decimal_of (c ∷ t) = cond (ltb (digit_of c) 10) (digit_of c) 32
