use Rattle.output.proofs.PlacingLaws.{puts_then, puts_none}
use Rattle.network.proofs.put_octet.Goals as goal

pub returns-then-wanted : goal.returns-then-wanted
returns-then-wanted c =
    rw c.if-wanted.true (puts_then c.put-next.ensures c.put_decimal.ensures)

pub returns : goal.returns
returns c = rw c.if-wanted.false (puts_none _ _)
