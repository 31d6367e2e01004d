-- `strict::group_front` meets its contract. Assumes nothing.
use mathlib.Core.Path.{sym, ◌∙◌}
use native.Mathlib.Omega.{arith}
use borrow.Author.Rules.{rules}
use lib.Seq.{length-take-le}
use Rattle.strict.proofs.CodeLaws.{group_some, group_none}
use Rattle.strict.proofs.group_front.Goals as goal

pub slice_bounds-leading_number-end : goal.slice_bounds-leading_number-end
slice_bounds-leading_number-end c = sym (length-take-le _ _ (search rules))

pub returns-in_default : goal.returns-in_default
returns-in_default c =
    group_none c.args.text.now c.min-n.result (omega arith) (sym c.in_default.is ∙ c.leading_number.ensures)

pub returns : goal.returns
returns c =
    group_some c.args.text.now c.min-n.result (omega arith) _ _ (sym c.in-Some.is ∙ c.leading_number.ensures)
