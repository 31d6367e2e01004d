use Rattle.notation.proofs.SliceLaws.{to_end_less}
use Rattle.sheet.proofs.PassLaws.{count_start, count_on, count_last, count_done}
use Rattle.sheet.proofs.count_lines.Goals as goal

pub loop-rest-init : goal.loop-rest-init
loop-rest-init c = count_start _

pub returns-then-rest-newline : goal.returns-then-rest-newline
returns-then-rest-newline c =
    count_last c.loop-rest.invariant _ c.find-newline.ensures c.loop-rest-test.true c.if-rest-newline.true

pub loop-rest-smaller : goal.loop-rest-smaller
loop-rest-smaller c =
    to_end_less _ c.loop-rest.rest.now c.if-rest-newline.false

pub loop-rest-preserved : goal.loop-rest-preserved
loop-rest-preserved c =
    count_on c.loop-rest.invariant _ c.find-newline.ensures c.if-rest-newline.false

pub returns : goal.returns
returns c = count_done c.loop-rest.invariant c.loop-rest-test.false
