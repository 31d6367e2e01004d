-- What the derived `==` and order of wide numbers say: they are those of the values. Assumes nothing.
use Rattle.std.proofs.Common.{◌≡◌, ◌==◌, ◌^◌, ◌<◌, nat_lt, leb, Some, arith}
use Rattle.std.proofs.lemmas.Grind.{common_steps}
use Rattle.std.specs.Ordering.{nat_cmp, partial_lt, partial_le}
use Rattle.wide.specs.declared.Wide.{Wide}
use Rattle.wide.specs.contracts.WidePartialEq.TheImpl as equality
use Rattle.wide.specs.contracts.WidePartialOrd.TheImpl as order
use Rattle.wide.specs.Value.{value}

module _ (v w : Wide) (k : v.lo < 2 ^ 64) (l : w.lo < 2 ^ 64) where
  pub equal_means : equality.ghosts.eq v w ≡ (value v == value w)
  equal_means = grind (arith, common_steps)

  pub order_means : order.ghosts.partial_cmp v w ≡ Some (nat_cmp (value v) (value w))
  order_means = grind (arith, common_steps)

  pub less_means : partial_lt order.ghosts.partial_cmp v w ≡ nat_lt (value v) (value w)
  less_means = grind (arith, common_steps)

  pub at_most_means : partial_le order.ghosts.partial_cmp v w ≡ leb (value v) (value w)
  at_most_means = grind (arith, common_steps)
