-- `octets::little` meets its contract. Assumes nothing.
use mathlib.Core.Path.{sym, ap, ◌∙◌}
use mathlib.Core.List.{reverse}
use Rattle.notation.specs.BigEndian.{number_of}
use Rattle.notation.proofs.DigitLaws.{take_four, four_number}
use Rattle.octets.proofs.little.Goals as goal

pub returns : goal.returns
returns c =
    c.quad.ensures ∙ sym (ap (λ l. number_of 256 (reverse l)) (take_four c.args.bytes.now c.args.at c.requires) ∙ four_number 256 _ _ _ _)
