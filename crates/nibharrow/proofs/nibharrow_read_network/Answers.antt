-- `nibharrow::nibharrow_read_network` meets its contract. Assumes nothing.
use mathlib.Core.Path.{◌∙◌}
use Rattle.nibharrow.specs.Interface.{network_into}
use Rattle.nibharrow.proofs.InterfaceLaws.{both}
use Rattle.nibharrow.proofs.nibharrow_read_network.Goals as goal

pub returns : goal.returns
unfolding network_into
returns c =
    both (c.from.ensures ∙ c.read_network.ensures.0) c.read_network.ensures.1
