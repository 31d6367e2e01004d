-- What the private functions of the loose reader answer. Assumes nothing.
use Rattle.std.specs.Prelude.{List, ℕ, ◌+◌, drop, Some, None, Option}
use Rattle.digits.specs.Numerals.{bounded_number, leading}
use Rattle.loose.specs.Loose.{base_of, mark_of}

-- a number with k more bytes before its digits
abbrev pub marked : ℕ → Option (ℕ × ℕ) → Option (ℕ × ℕ)
marked k (Some (v, n)) = Some (v, k + n)
marked k None = None

-- the part of at most 32 bits that a text begins with, and how many bytes it has
unfoldable pub leading_loose : List ℕ → Option (ℕ × ℕ)
unfolding leading
leading_loose t = marked (mark_of t) (leading (base_of t) (bounded_number (base_of t) 4294967295) (drop (mark_of t) t))
