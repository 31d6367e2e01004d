-- Bytes from one to another. Assumes nothing.
use mathlib.Core.Path.{◌≡◌}
use mathlib.Core.Logic.{◌↔◌}
use mathlib.Core.Bool.{true, and-eq-true_iff}
use Prim.Native.Nat.{ℕ, ◌≤◌}
use borrow.Author.Tests.{leb-true, le-leb}
use lib.Dec.{leb}
use Rattle.notation.specs.Ascii.{within}

pub within_exactly : (a b c : ℕ) → (within a b c ≡ true) ↔ ((a ≤ c) × (c ≤ b))
within_exactly a b c =
    let both = and-eq-true_iff (leb a c) (leb c b) in
    (λ e. (leb-true a c (both.0 e).0, leb-true c b (both.0 e).1), λ h. both.1 (le-leb a c h.0, le-leb c b h.1))
