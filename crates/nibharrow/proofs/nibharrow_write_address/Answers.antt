-- `nibharrow::nibharrow_write_address` meets its contract. Assumes nothing.
use mathlib.Core.Path.{refl, ◌∙◌}
use Rattle.nibharrow.specs.Interface.{address_written}
use Rattle.nibharrow.proofs.InterfaceLaws.{both, wrote, reading_given, reading_refused}
use Rattle.nibharrow.proofs.nibharrow_write_address.Goals as goal

pub returns-in-Ok : goal.returns-in-Ok
unfolding address_written
returns-in-Ok c =
    wrote _ _ _ c.from.ensures c.write_address.ensures
    ∙ reading_given _ _ _ _ c.read_octets.ensures c.in-Ok.a c.in-Ok.is

pub returns-in-Err : goal.returns-in-Err
unfolding address_written
returns-in-Err c =
    both c.from-in-Err.ensures refl
    ∙ reading_refused _ _ _ _ c.read_octets.ensures c.in-Err.e c.in-Err.is
