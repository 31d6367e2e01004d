-- What the contracts of private functions cite. Assumes nothing.
use Rattle.std.specs.Prelude.{Bool, cond, ◌&&◌, List, ℕ, eqb, ltb, drop}
use Rattle.place.specs.Place.{begins, fault_place}

-- whether a piece of n bytes goes on with the byte b: there is a piece, and the byte behind it
abbrev pub goes_on : ℕ → ℕ → List ℕ → Bool
goes_on b n t = ltb 0 n && begins b (drop n t)

-- the place that a refusal of a text carries
abbrev pub refused_place : ℕ → ℕ → List ℕ → ℕ
refused_place number family t = cond (eqb number 2) (fault_place family t) 0
