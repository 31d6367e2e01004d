-- `nibharrow::nibharrow_range_blocks` meets its contract. Assumes nothing.
use mathlib.Core.Path.{refl, ◌∙◌}
use Rattle.nibharrow.specs.Interface.{range_into}
use Rattle.nibharrow.proofs.InterfaceLaws.{both, to_same, reading_given, reading_refused}
use Rattle.nibharrow.proofs.nibharrow_range_blocks.Goals as goal

pub returns-in-Ok : goal.returns-in-Ok
unfolding range_into
returns-in-Ok c =
    to_same _ _ _ _ _ c.put_range.ensures c.read_octets-in-Ok.ensures
    ∙ reading_given _ _ _ _ c.read_octets.ensures c.in-Ok.a c.in-Ok.is

pub returns-in-Err : goal.returns-in-Err
unfolding range_into
returns-in-Err c =
    both c.from.ensures refl
    ∙ reading_refused _ _ _ _ c.read_octets.ensures c.in-Err.e c.in-Err.is
