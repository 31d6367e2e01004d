-- `runs::lane_size` meets its contract. Assumes nothing.
use Rattle.std.proofs.Common.{sym}
use Rattle.runs.proofs.RunLaws.{size_narrow, size_wide}
use Rattle.runs.proofs.lane_size.Goals as goal

pub returns-then-longest-eq32 : goal.returns-then-longest-eq32
returns-then-longest-eq32 c = λ hi. sym (size_narrow _ hi c.if-longest-eq32.true)

pub returns-else-longest-eq32 : goal.returns-else-longest-eq32
returns-else-longest-eq32 c = λ hi. sym (size_wide _ hi c.if-longest-eq32.false)
