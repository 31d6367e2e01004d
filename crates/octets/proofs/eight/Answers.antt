-- `octets::eight` meets its contract. Assumes nothing.
use mathlib.Core.Path.{◌∙◌}
use Rattle.notation.proofs.DigitLaws.{eight_number}
use Rattle.octets.proofs.eight.Goals as goal

pub returns : goal.returns
returns c =
    c.pair.ensures ∙ eight_number 256 c.args.bytes.now c.args.at _ _ c.requires c.four.ensures c.four-2.ensures
