-- `nibharrow::nibharrow_read_address` meets its contract. Assumes nothing.
use mathlib.Core.Path.{◌∙◌}
use Rattle.nibharrow.proofs.InterfaceLaws.{into_same, family_cut}
use Rattle.nibharrow.proofs.nibharrow_read_address.Goals as goal

pub returns : goal.returns
returns c =
    into_same _ _ _ _ c.put_reading.ensures (c.read_address.ensures ∙ family_cut _ _ _ c.as_byte.ensures)
