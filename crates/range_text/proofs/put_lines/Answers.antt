-- `range_text::put_lines` meets its contract. Assumes nothing.
use mathlib.Core.Path.{sym, ap, ◌∙◌}
use native.Mathlib.Omega.{arith}
use borrow.Author.Rules.{rules}
use lib.Seq.{length-take-le}
use Rattle.notation.proofs.SliceLaws.{tail_less}
use Rattle.address.specs.Answers.{block_answer}
use Rattle.range_text.proofs.RangeTextLaws.{walk_start, walk_on, lines_none, lines_refused}
use Rattle.range_text.proofs.put_lines.Goals as goal

pub loop-rest-init : goal.loop-rest-init
loop-rest-init c = walk_start

pub slice_bounds-read_record-end : goal.slice_bounds-read_record-end
slice_bounds-read_record-end c = sym (length-take-le _ _ (search rules))

pub returns-in_default : goal.returns-in_default
returns-in_default c =
    let size = c.record_size-size.ensures in
    c.loop-rest.invariant.more _ size _ _ (lines_refused _ size _ c.in_default.field-0 (ap block_answer (sym c.in_default.is) ∙ c.read_record.ensures))

pub loop-rest-smaller : goal.loop-rest-smaller
loop-rest-smaller c =
    let size = c.record_size-size in
    tail_less size.result c.loop-rest.rest.now (omega (arith, size.ensures)) (search rules)

pub loop-rest-preserved : goal.loop-rest-preserved
loop-rest-preserved c =
    walk_on c.loop-rest.invariant (search rules) (ap block_answer (sym c.in-Ok.is) ∙ c.read_record.ensures) c.put_block-behind.ensures c.put-next.ensures

pub returns : goal.returns
returns c =
    let size = c.record_size-size.ensures in
    c.loop-rest.invariant.more _ size _ _ (lines_none _ size _ (search rules))
