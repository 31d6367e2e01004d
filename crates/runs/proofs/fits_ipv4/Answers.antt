-- `runs::fits_ipv4` meets its contract. Assumes nothing.
use Rattle.std.proofs.Common.{◌^◌, ◌<◌, arith, lit≤, rules}
use Rattle.runs.proofs.RoomLaws.{most_fits, counted_few, counted_fits}
use Rattle.runs.proofs.fits_ipv4.Goals.{Start}
use Rattle.runs.proofs.fits_ipv4.Goals as goal

top : (s : Start) → s.args.last < 2 ^ 32
top s = search rules

pub returns-then-room-ge310 : goal.returns-then-room-ge310
returns-then-room-ge310 c = most_fits 32 _ _ (lit≤ tt) (top (goal.at.returns-then-room-ge310 c).Start) _ c.if-room-ge310.true

pub overflow_mul-result : goal.overflow_mul-result
overflow_mul-result c = omega (arith, counted_few 32 _ _ (lit≤ tt) (top (goal.at.overflow_mul-result c).Start) _ c.count_ipv4.ensures)

pub returns : goal.returns
returns c = counted_fits 32 _ _ _ _ c.count_ipv4.ensures
