-- What is told of a line, and whether one was refused. Assumes nothing.
use mathlib.Core.Path.{◌≡◌, refl, sym}
use mathlib.Core.Bool.{Bool, true, false, ◌||◌}
use mathlib.Core.List.{List, []}
use Prim.Native.Nat.{ℕ, ◌≤◌, ◌<◌}
use native.Mathlib.Omega.{arith}
use borrow.Author.Tests.{eq-eqb, ne_eqb}
use Rattle.notes.specs.Notes.{note_text}
use Rattle.range_lines.specs.Lines.{told_of}

-- ---- what is told

module _ (name : List ℕ) (k n : ℕ) where
  pub unwanted_note : {explain : Bool} → explain ≡ false → told_of explain name k n ≡ []
  unfolding told_of
  unwanted_note e = rw e

  pub no_note : (explain : Bool) → n < 1 → told_of explain name k n ≡ []
  unfolding told_of
  no_note true z = rw (eq-eqb n 0 (omega arith))
  no_note false z = refl

  pub a_note : {explain : Bool} → explain ≡ true → 1 ≤ n → told_of explain name k n ≡ note_text name k n
  unfolding told_of
  a_note e z = rw (e, ne_eqb n 0 (omega arith))

-- ---- refused

pub or_none : (a b : Bool) → b ≡ false → a ≡ (a || b)
or_none true b e = refl
or_none false b e = sym e
