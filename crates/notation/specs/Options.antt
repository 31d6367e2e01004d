-- What is read of a text, or of each of its pieces, where it can be read. Assumes nothing.
use Rattle.std.specs.Prelude.{List, [], ◌∷◌, ◌++◌, ℕ, Option, Some, None}

-- the first that is there
abbrev pub or_else : {A : Type 0} → Option A → Option A → Option A
or_else None b = b
or_else (Some a) b = Some a

-- numbers, and more numbers after them
abbrev pub joined : Option (List ℕ) → Option (List ℕ) → Option (List ℕ)
joined None b = None
joined (Some xs) None = None
joined (Some xs) (Some ys) = Some (xs ++ ys)

abbrev pub single : Option ℕ → Option (List ℕ)
single None = None
single (Some x) = Some (x ∷ [])

-- what f reads of each piece, if it reads every one
unfoldable pub every : (List ℕ → Option ℕ) → List (List ℕ) → Option (List ℕ)
every f [] = Some []
every f (p ∷ ps) = joined (single (f p)) (every f ps)
