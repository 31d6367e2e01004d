-- `octets::four` meets its contract. Assumes nothing.
use mathlib.Core.Path.{◌∙◌}
use Prim.Native.Nat.{ℕ, ◌<◌}
use native.Mathlib.Omega.{arith}
use lib.ListN.{get_or}
use Rattle.notation.proofs.DigitLaws.{swapped_back}
use Rattle.octets.proofs.four.Goals as goal

pub returns : goal.returns
returns c =
    let byte : (i : ℕ) → get_or c.args.bytes.now i 0 < 256 = λ i. omega (arith, c.type_inv.bytes i) in
    c.swapped.ensures ∙ swapped_back 256 c.args.bytes.now c.args.at _ byte c.requires c.little.ensures
