use Rattle.output.proofs.PlacingLaws.{puts_none}
use Rattle.output.proofs.put_if.Goals as goal

pub returns-then-wanted : goal.returns-then-wanted
returns-then-wanted c = rw c.if-wanted.true c.put.ensures

pub returns : goal.returns
returns c = rw c.if-wanted.false (puts_none _ _)
