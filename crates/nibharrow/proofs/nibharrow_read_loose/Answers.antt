-- `nibharrow::nibharrow_read_loose` meets its contract. Assumes nothing.
use Rattle.nibharrow.proofs.InterfaceLaws.{into_same}
use Rattle.nibharrow.proofs.nibharrow_read_loose.Goals as goal

pub returns : goal.returns
returns c = into_same _ _ _ _ c.put_reading.ensures c.read_loose.ensures
