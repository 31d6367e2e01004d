-- `runs::count_ipv4` meets its contract. Assumes nothing.
use Rattle.std.proofs.Common.{rules}
use Rattle.runs.proofs.RoomLaws.{none_blocks}
use Rattle.runs.proofs.count_ipv4.Goals as goal

pub returns-then-last-first : goal.returns-then-last-first
returns-then-last-first c = none_blocks 32 _ _ c.if-last-first.true

pub returns : goal.returns
returns c = c.run_count.ensures 32 (search rules)
