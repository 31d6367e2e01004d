-- `nibharrow::nibharrow_respell` meets its contract. Assumes nothing.
use mathlib.Core.Path.{◌∙◌}
use Rattle.nibharrow.specs.Interface.{respell_into}
use Rattle.nibharrow.proofs.InterfaceLaws.{both}
use Rattle.nibharrow.proofs.nibharrow_respell.Goals as goal

pub returns : goal.returns
unfolding respell_into
returns c = both (c.from.ensures ∙ c.respell.ensures.0) c.respell.ensures.1
