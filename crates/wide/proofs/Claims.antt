-- What is claimed of wide numbers. Assumes nothing.
use Rattle.std.proofs.Common.{◌≡◌, ◌==◌, ℕ, ◌/◌, ◌%◌, ◌^◌, ◌<◌, ◌≤◌, ◌↔◌, nat_lt, leb, Some, sym, ap, ◌∙◌}
use Rattle.std.specs.Ordering.{nat_cmp, partial_lt, partial_le}
use lib.Count.{count_trailing_zeros}
use lib.Pow.{high, low}
use Rattle.wide.specs.declared.Wide.{Wide}
use Rattle.wide.specs.contracts.WidePartialEq.TheImpl as equality
use Rattle.wide.specs.contracts.WidePartialOrd.TheImpl as order
use Rattle.wide.specs.Value.{value}
use Rattle.wide.proofs.Order as laws
use Rattle.wide.proofs.Trailing.{aligned_trailing}

-- A value fixes the halves, so that a contract about the value of a result fixes the result.
pub one_value : (v w : Wide) → v.lo < 2 ^ 64 → w.lo < 2 ^ 64 → value v ≡ value w → v ≡ w
one_value v w h k e =
    let hi : v.hi ≡ w.hi = sym (high v.hi 64 h) ∙ ap (λ (n : ℕ). n / 2 ^ 64) e ∙ high w.hi 64 k in
    let lo : v.lo ≡ w.lo = sym (low v.hi 64 h) ∙ ap (λ (n : ℕ). n % 2 ^ 64) e ∙ low w.hi 64 k in
    λ i. record { hi = hi i; lo = lo i }

-- The derived `==` and order are those of the values: what `v == w`, `v.partial_cmp(&w)`, `v < w` and `v <= w` answer.
module _ (v w : Wide) (k : v.lo < 2 ^ 64) (l : w.lo < 2 ^ 64) where
  pub equal_means : equality.ghosts.eq v w ≡ (value v == value w)
  equal_means = laws.equal_means v w k l

  pub order_means : order.ghosts.partial_cmp v w ≡ Some (nat_cmp (value v) (value w))
  order_means = laws.order_means v w k l

  pub less_means : partial_lt order.ghosts.partial_cmp v w ≡ nat_lt (value v) (value w)
  less_means = laws.less_means v w k l

  pub at_most_means : partial_le order.ghosts.partial_cmp v w ≡ leb (value v) (value w)
  at_most_means = laws.at_most_means v w k l

-- A number has k or more trailing zeros among its w lowest bits exactly if its k lowest bits are zero.
pub trailing_means : (w n k : ℕ) → k ≤ w → (n % 2 ^ k ≡ 0) ↔ (k ≤ count_trailing_zeros w n)
trailing_means = aligned_trailing
