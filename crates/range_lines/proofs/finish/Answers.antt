-- `range_lines::finish` meets its contract. Assumes nothing.
use mathlib.Core.Path.{sym, ◌∙◌}
use Rattle.range_lines.proofs.UnderwayLaws.{none_closes, some_closes}
use Rattle.range_lines.proofs.finish.Goals as goal

pub returns-then-not-is_begun : goal.returns-then-not-is_begun
returns-then-not-is_begun c = none_closes _ _ _ _ _ (sym c.is_begun.ensures ∙ c.if-not-is_begun.true)

pub returns : goal.returns
returns c =
    some_closes _ _ _ (sym c.is_begun.ensures ∙ c.if-not-is_begun.false) c.feed.ensures
