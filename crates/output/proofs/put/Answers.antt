use Rattle.output.proofs.PlacingLaws.{puts_byte, puts_full}
use Rattle.output.proofs.put.Goals as goal

pub returns-then-text-at : goal.returns-then-text-at
returns-then-text-at c = puts_full _ _ _ c.if-text-at.true

pub returns : goal.returns
returns c = puts_byte _ _ _ c.if-text-at.false
