-- `range_text::put_range` meets its contract. Assumes nothing.
use mathlib.Core.Path.{sym, ap, ◌∙◌}
use borrow.Author.Rules.{rules}
use lib.Seq.{length-take-le}
use Rattle.address.proofs.AddressLaws.{is_address}
use Rattle.records.specs.Records.{blocks_writing_answer}
use Rattle.range_text.proofs.RangeTextLaws.{Written, range_wrote, range_refused}
use Rattle.range_text.proofs.put_range.Goals.{In-Ok}
use Rattle.range_text.proofs.put_range.Goals as goal

-- the records in the buffer are those of the range
written : (b : In-Ok) → Written b.args.first b.args.last b.in-Ok.bytes b.range_blocks.new.out
written b =
    range_wrote _ _ (is_address b.args.last b.well_formed.1.1.1.0) _ (search rules) _ _ (ap blocks_writing_answer (sym b.in-Ok.is) ∙ b.range_blocks.ensures.0) _ b.range_blocks.ensures.1

pub slice_bounds-records-end : goal.slice_bounds-records-end
slice_bounds-records-end c = (written (goal.at.slice_bounds-records-end c).In-Ok).fits

pub slice_bounds-put_lines-end : goal.slice_bounds-put_lines-end
slice_bounds-put_lines-end c = sym (length-take-le _ _ (written (goal.at.slice_bounds-put_lines-end c).In-Ok).fits)

pub returns-in-Ok : goal.returns-in-Ok
returns-in-Ok c =
    (written (goal.at.returns-in-Ok c).In-Ok).lines c.put_lines.ensures

pub returns-in-Err : goal.returns-in-Err
returns-in-Err c =
    rw (← range_refused _ _ (is_address c.args.last c.well_formed.1.1.1.0) _ (search rules) c.in-Err.e (ap blocks_writing_answer (sym c.in-Err.is) ∙ c.range_blocks.ensures.0)) c.put_refused.ensures
