-- `gather::Records::write_sorted_gaps` meets its contract. Assumes nothing.
use Prim.Native.Nat.{◌≤◌}
use native.Mathlib.Omega.{arith}
use borrow.Author.Rules.{rules}
use lib.ListN.{length}
use lib.Seq.{length-take-le}
use Rattle.gather.proofs.OrderLaws.{order_sorted}
use Rattle.gather.proofs.Records.write_sorted_gaps.Goals.{After-sort_indices}
use Rattle.gather.proofs.Records.write_sorted_gaps.Goals as goal

long : (c : After-sort_indices) → c.args.self.count ≤ length c.sort_indices.new.order
long c = search rules

pub slice_bounds-write_gaps-end : goal.slice_bounds-write_gaps-end
slice_bounds-write_gaps-end c = omega (arith, length-take-le (goal.at.slice_bounds-write_gaps-end c).After-sort_indices.args.self.count c.sort_indices.new.order (long (goal.at.slice_bounds-write_gaps-end c).After-sort_indices))

pub write_gaps-requires : goal.write_gaps-requires
write_gaps-requires c =
    let s = (goal.at.write_gaps-requires c).After-sort_indices in
    (s.requires, order_sorted s.requires _ (long (goal.at.write_gaps-requires c).After-sort_indices) c.sort_indices.ensures.0)
