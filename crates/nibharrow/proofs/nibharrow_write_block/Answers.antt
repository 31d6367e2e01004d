-- `nibharrow::nibharrow_write_block` meets its contract. Assumes nothing.
use mathlib.Core.Path.{refl, ◌∙◌}
use Rattle.nibharrow.specs.Interface.{block_written}
use Rattle.nibharrow.proofs.InterfaceLaws.{both, wrote, reading_given, reading_refused, length_cut}
use Rattle.nibharrow.proofs.nibharrow_write_block.Goals as goal

pub returns-in-Ok : goal.returns-in-Ok
unfolding block_written
returns-in-Ok c =
    wrote _ _ _ c.from.ensures c.write_block.ensures
    ∙ length_cut c.in-Ok.a _ _ _ c.as_byte.ensures
    ∙ reading_given _ _ _ _ c.read_octets.ensures c.in-Ok.a c.in-Ok.is

pub returns-in-Err : goal.returns-in-Err
unfolding block_written
returns-in-Err c =
    both c.from-in-Err.ensures refl
    ∙ reading_refused _ _ _ _ c.read_octets.ensures c.in-Err.e c.in-Err.is
