-- `range_text::put_answer` meets its contract. Assumes nothing.
use mathlib.Core.Path.{sym}
use borrow.Author.Rules.{rules}
use lib.Seq.{length-take-le}
use Rattle.range_text.proofs.RangeTextLaws.{line_long, line_none, line_more, line_two}
use Rattle.range_text.proofs.put_answer.Goals as goal

pub returns-then-line-gt129 : goal.returns-then-line-gt129
returns-then-line-gt129 c =
    rw (← line_long _ c.if-line-gt129.true) c.put_refused.ensures

pub returns-then-line-space : goal.returns-then-line-space
returns-then-line-space c =
    rw (← line_none _ c.if-line-gt129.false _ c.find-space.ensures c.if-line-space.true) c.put_refused-then-line-space.ensures

pub returns-then-find-rest : goal.returns-then-find-rest
returns-then-find-rest c =
    rw (← line_more _ c.if-line-gt129.false _ c.find-space.ensures c.if-line-space.false _ c.find.ensures c.if-find-rest.true) c.put_refused-then-find-rest.ensures

pub slice_bounds-put_pair-end : goal.slice_bounds-put_pair-end
slice_bounds-put_pair-end c = sym (length-take-le _ _ (search rules))

pub returns : goal.returns
returns c =
    rw (← line_two _ c.if-line-gt129.false _ c.find-space.ensures c.if-line-space.false _ c.find.ensures c.if-find-rest.false) c.put_pair.ensures
