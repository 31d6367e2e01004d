-- `nibharrow::nibharrow_write_network` meets its contract. Assumes nothing.
use mathlib.Core.Path.{refl, ◌∙◌}
use Rattle.nibharrow.specs.Interface.{network_written}
use Rattle.nibharrow.proofs.InterfaceLaws.{both, wrote, reading_given, reading_refused, size_cut}
use Rattle.nibharrow.proofs.nibharrow_write_network.Goals as goal

pub returns-in-Ok : goal.returns-in-Ok
unfolding network_written
returns-in-Ok c =
    wrote _ _ _ c.from.ensures c.write_network.ensures
    ∙ size_cut c.in-Ok.a _ _ _ c.as_byte.ensures
    ∙ reading_given _ _ _ _ c.read_octets.ensures c.in-Ok.a c.in-Ok.is

pub returns-in-Err : goal.returns-in-Err
unfolding network_written
returns-in-Err c =
    both c.from-in-Err.ensures refl
    ∙ reading_refused _ _ _ _ c.read_octets.ensures c.in-Err.e c.in-Err.is
