-- `strict::is_part` meets its contract. Assumes nothing.
use mathlib.Core.Path.{sym, ◌∙◌}
use lib.ListN.{length}
use Rattle.digits.specs.Numerals.{part_of}
use Rattle.strict.proofs.CodeLaws.{part_yes, part_no}
use Rattle.strict.proofs.is_part.Goals as goal

pub returns-in_default : goal.returns-in_default
returns-in_default c =
    let t = c.args.text.now in
    part_no (part_of 255 t) (length t) (sym c.in_default.is ∙ c.whole_part.ensures)

pub returns : goal.returns
returns c =
    let t = c.args.text.now in
    part_yes (part_of 255 t) _ _ (length t) (sym c.in-Some.is ∙ c.whole_part.ensures)
