-- `sheet::put_family` meets its contract. Assumes nothing.
use Rattle.sheet.proofs.PutLaws.{put_on, put_done, no_family, family_text_cons}
use Rattle.sheet.proofs.put_family.Goals as goal

pub loop-place-preserved : goal.loop-place-preserved
loop-place-preserved c =
    let a = c.args in
    put_on c.loop-place.invariant c.loop-place-test.true 0 _ (family_text_cons a.rows.now a.family _) c.put_row-next.ensures

pub returns : goal.returns
returns c = put_done c.loop-place.invariant c.loop-place-test.false (no_family c.args.rows.now _)
