-- `gather::Records::gather_into` meets its contract. Assumes nothing.
use mathlib.Core.Path.{refl, sym, ◌∙◌}
use Rattle.gather.proofs.OrderLaws.{order_rising}
use Rattle.gather.proofs.Records.gather_into.Goals as goal

pub pass-requires : goal.pass-requires
pass-requires c =
    (c.requires.0, order_rising c.requires.0 _ refl (sym c.requires.1 ∙ c.if-rises.true), c.requires.2)
