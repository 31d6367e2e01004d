-- `sheet::put_rows` meets its contract. Assumes nothing.
use Rattle.sheet.proofs.PutLaws.{put_on, put_done, no_text, text_cons}
use Rattle.sheet.proofs.put_rows.Goals as goal

pub loop-row-preserved : goal.loop-row-preserved
loop-row-preserved c = put_on c.loop-row.invariant c.loop-row-test.true _ _ (text_cons _) c.put_line-next.ensures

pub returns : goal.returns
returns c = put_done c.loop-row.invariant c.loop-row-test.false no_text
