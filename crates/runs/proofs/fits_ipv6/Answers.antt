-- `runs::fits_ipv6` meets its contract. Assumes nothing.
use Rattle.std.proofs.Common.{◌^◌, ◌<◌, lit≤, rules}
use Rattle.wide.specs.Value.{value}
use Rattle.wide.proofs.Halves.{value_lt}
use Rattle.runs.proofs.RoomLaws.{most_fits, counted_few, counted_fits}
use Rattle.runs.proofs.fits_ipv6.Goals.{Start}
use Rattle.runs.proofs.fits_ipv6.Goals as goal

top : (s : Start) → value s.args.last < 2 ^ 128
top s = value_lt s.args.last (search rules) (search rules)

pub returns-then-room-ge4318 : goal.returns-then-room-ge4318
returns-then-room-ge4318 c = most_fits 128 _ _ (lit≤ tt) (top (goal.at.returns-then-room-ge4318 c).Start) _ c.if-room-ge4318.true

pub overflow_mul-result : goal.overflow_mul-result
overflow_mul-result c = let few = counted_few 128 _ _ (lit≤ tt) (top (goal.at.overflow_mul-result c).Start) _ c.count_ipv6.ensures in search rules

pub returns : goal.returns
returns c = counted_fits 128 _ _ _ _ c.count_ipv6.ensures
