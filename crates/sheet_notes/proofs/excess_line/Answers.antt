-- `sheet_notes::excess_line` meets its contract. Assumes nothing.
use Rattle.sheet_notes.proofs.LineLaws.{count_start, count_on, count_full, count_end}
use Rattle.sheet_notes.proofs.excess_line.Goals as goal

pub loop-i-init : goal.loop-i-init
loop-i-init c = count_start _

pub returns-then-i-ge65536 : goal.returns-then-i-ge65536
returns-then-i-ge65536 c = count_full c.loop-i.invariant c.if-i-ge65536.true

pub loop-i-preserved : goal.loop-i-preserved
loop-i-preserved c =
    count_on c.loop-i.invariant c.loop-i-test.true c.if-i-ge65536.false _ c.newline-line.ensures.0

pub returns : goal.returns
returns c = count_end c.loop-i.invariant c.loop-i-test.false
