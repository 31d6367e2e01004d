-- `nibharrow::put_reading` meets its contract. Assumes nothing.
use mathlib.Core.Path.{refl, ◌∙◌}
use Rattle.nibharrow.specs.Interface.{address_into}
use Rattle.nibharrow.proofs.InterfaceLaws.{both, wrote, reading_given, reading_refused}
use Rattle.nibharrow.proofs.put_reading.Goals as goal

pub returns-in-Ok : goal.returns-in-Ok
unfolding address_into
returns-in-Ok c =
    wrote _ _ _ c.from.ensures c.write_octets.ensures
    ∙ reading_given _ _ _ _ refl c.in-Ok.a c.in-Ok.is

pub returns-in-Err : goal.returns-in-Err
unfolding address_into
returns-in-Err c =
    both c.from-in-Err.ensures refl ∙ reading_refused _ _ _ _ refl c.in-Err.e c.in-Err.is
