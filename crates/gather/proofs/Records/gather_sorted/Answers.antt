-- `gather::Records::gather_sorted` meets its contract. Assumes nothing.
use Prim.Native.Nat.{◌≤◌}
use native.Mathlib.Omega.{arith}
use borrow.Author.Rules.{rules}
use lib.ListN.{length}
use lib.Seq.{length-take-le}
use Rattle.gather.proofs.OrderLaws.{order_sorted}
use Rattle.gather.proofs.Records.gather_sorted.Goals.{After-sort_indices}
use Rattle.gather.proofs.Records.gather_sorted.Goals as goal

long : (c : After-sort_indices) → c.args.self.count ≤ length c.sort_indices.new.order
long c = search rules

pub slice_bounds-pass-end : goal.slice_bounds-pass-end
slice_bounds-pass-end c = omega (arith, length-take-le (goal.at.slice_bounds-pass-end c).After-sort_indices.args.self.count c.sort_indices.new.order (long (goal.at.slice_bounds-pass-end c).After-sort_indices))

pub pass-requires : goal.pass-requires
pass-requires c =
    let s = (goal.at.pass-requires c).After-sort_indices in
    (s.requires.0, order_sorted s.requires.0 _ (long (goal.at.pass-requires c).After-sort_indices) c.sort_indices.ensures.0, s.requires.1)
