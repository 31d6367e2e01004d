-- `nibharrow::nibharrow_join` meets its contract. Assumes nothing.
use Rattle.nibharrow.proofs.InterfaceLaws.{into_same}
use Rattle.nibharrow.proofs.nibharrow_join.Goals as goal

pub returns : goal.returns
returns c = into_same _ _ _ _ c.put_reading.ensures c.join.ensures
