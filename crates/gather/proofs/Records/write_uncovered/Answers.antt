-- `gather::Records::write_uncovered` meets its contract. Assumes nothing.
use mathlib.Core.Path.{refl, sym, ◌∙◌}
use Rattle.gather.proofs.OrderLaws.{order_rising}
use Rattle.gather.proofs.Records.write_uncovered.Goals as goal

pub write_gaps-requires : goal.write_gaps-requires
write_gaps-requires c =
    (c.requires.0, order_rising c.requires.0 _ refl (sym c.requires.1 ∙ c.if-rises.true))
