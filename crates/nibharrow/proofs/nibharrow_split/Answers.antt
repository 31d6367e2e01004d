-- `nibharrow::nibharrow_split` meets its contract. Assumes nothing.
use mathlib.Core.Path.{◌∙◌}
use Rattle.nibharrow.specs.Interface.{octets_split}
use Rattle.nibharrow.proofs.InterfaceLaws.{reading_given, reading_refused}
use Rattle.nibharrow.proofs.nibharrow_split.Goals as goal

pub returns-in-Ok : goal.returns-in-Ok
unfolding octets_split
returns-in-Ok c =
    c.from.ensures
    ∙ c.split.ensures
    ∙ reading_given _ _ _ _ c.read_octets.ensures c.in-Ok.a c.in-Ok.is

pub returns-in-Err : goal.returns-in-Err
unfolding octets_split
returns-in-Err c =
    c.from-in-Err.ensures
    ∙ reading_refused _ _ _ _ c.read_octets.ensures c.in-Err.e c.in-Err.is
