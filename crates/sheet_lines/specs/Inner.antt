-- What the contracts of private functions cite. Assumes nothing.
use Rattle.std.specs.Prelude.{cond, List, [], ◌∷◌, ℕ, ◌+◌, ◌/◌, ◌%◌, leb}

-- the decimal digit of a number at a place, if the number reaches it
abbrev pub digit_at : ℕ → ℕ → List ℕ
digit_at place n = cond (leb place n) ((48 + n / place % 10) ∷ []) []
