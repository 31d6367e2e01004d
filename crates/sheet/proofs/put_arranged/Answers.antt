-- `sheet::put_arranged` meets its contract. Assumes nothing.
use Rattle.sheet.proofs.CallLaws.{put_families}
use Rattle.sheet.proofs.put_arranged.Goals as goal

pub returns : goal.returns
returns c =
    let is = c.if-not-sorted.false in
    rw is (put_families c.requires.0 (c.requires.1 is) c.put_family-next.ensures c.put_family.ensures)
