-- `gather::put_gap` meets its contract. Assumes nothing.
use mathlib.Core.Path.{◌≡◌, ap}
use Prim.Native.Nat.{◌+◌, ◌*◌}
use native.Mathlib.Omega.{arith}
use lib.ListN.{length}
use Rattle.wide.specs.Value.{value}
use Rattle.cover.specs.Blocks.{range_blocks}
use Rattle.records.specs.Records.{records_of}
use Rattle.gather.specs.Inner.{width_of}
use Rattle.gather.proofs.GapLaws.{gap_put, gap_counted, counted_bytes}
use Rattle.gather.proofs.put_gap.Goals.{After-size}
use Rattle.gather.proofs.put_gap.Goals as goal

pub returns-then-write : goal.returns-then-write
returns-then-write c =
    gap_put c.args.write c.if-write.true c.requires.1.room c.put_range.ensures

bytes : (c : After-size) → let a = c.args in
    c.count_range.result * c.size.result ≡ length (records_of (width_of a.family) (range_blocks (width_of a.family) (value a.first) (value a.last)))
bytes c = rw c.size.ensures (counted_bytes c.requires.0.sized _ _ c.count_range.ensures)

pub overflow_mul-result : goal.overflow_mul-result
overflow_mul-result c = omega (arith, bytes (goal.at.overflow_mul-result c).After-size, c.requires.1.few)

pub overflow_add-result : goal.overflow_add-result
overflow_add-result c = omega (arith, bytes (goal.at.overflow_add-result c).After-size, c.requires.1.few)

pub returns : goal.returns
returns c =
    gap_counted c.args.write c.if-write.false c.args.out.now _ _ _ (ap (λ n. c.args.at + n) (bytes (goal.at.returns c).After-size))
