-- `nibharrow::put_range` meets its contract. Assumes nothing.
use mathlib.Core.Path.{refl, ◌∙◌}
use Rattle.nibharrow.specs.Interface.{range_to}
use Rattle.nibharrow.proofs.InterfaceLaws.{both, reading_given, reading_refused}
use Rattle.nibharrow.proofs.put_range.Goals as goal

pub returns-in-Ok : goal.returns-in-Ok
unfolding range_to
returns-in-Ok c =
    both (c.from.ensures ∙ c.range_blocks.ensures.0) c.range_blocks.ensures.1
    ∙ reading_given _ _ _ _ refl c.in-Ok.b c.in-Ok.is

pub returns-in-Err : goal.returns-in-Err
unfolding range_to
returns-in-Err c =
    both c.from-in-Err.ensures refl ∙ reading_refused _ _ _ _ refl c.in-Err.e c.in-Err.is
