-- `gather::Records::sort_indices` meets its contract. Assumes nothing.
use Prim.Native.Nat.{◌≤◌}
use native.Mathlib.Omega.{arith}
use borrow.Author.Rules.{rules}
use lib.ListN.{length}
use lib.Seq.{length-take-le}
use Rattle.gather.proofs.OrderLaws.{sorted_order, sorted_length}
use Rattle.gather.proofs.Records.sort_indices.Goals.{After-load_keys}
use Rattle.gather.proofs.Records.sort_indices.Goals as goal

-- the keys have a place each
hi-long : (c : After-load_keys) → c.args.self.count ≤ length c.load_keys.new.hi
hi-long c = search rules

lo-long : (c : After-load_keys) → c.args.self.count ≤ length c.load_keys.new.lo
lo-long c = search rules

pub slice_bounds-sort_keys-end : goal.slice_bounds-sort_keys-end
slice_bounds-sort_keys-end c = omega (arith, length-take-le (goal.at.slice_bounds-sort_keys-end c).After-load_keys.args.self.count c.load_keys.new.hi (hi-long (goal.at.slice_bounds-sort_keys-end c).After-load_keys))

pub slice_bounds-sort_keys-end-2 : goal.slice_bounds-sort_keys-end-2
slice_bounds-sort_keys-end-2 c = omega (arith, length-take-le (goal.at.slice_bounds-sort_keys-end-2 c).After-load_keys.args.self.count c.load_keys.new.lo (lo-long (goal.at.slice_bounds-sort_keys-end-2 c).After-load_keys))

pub returns : goal.returns
returns c =
    let s = (goal.at.returns c).After-load_keys in
    let order = s.args.order.now in
    let sorts = c.sort_keys.ensures in
    let e = c.load_keys.ensures in (
      sorted_order s.requires.0 _ _ order _ _ (hi-long (goal.at.returns c).After-load_keys) (lo-long (goal.at.returns c).After-load_keys) e.0 s.requires.1 sorts,
      sorted_length s.requires.0 _ _ order _ _ (hi-long (goal.at.returns c).After-load_keys) (lo-long (goal.at.returns c).After-load_keys) e.0 s.requires.1 sorts,
    )
