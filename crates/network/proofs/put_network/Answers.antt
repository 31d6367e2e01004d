-- `network::put_network` meets its contract. Assumes nothing.
use native.Mathlib.Omega.{arith}
use Rattle.output.proofs.PlacingLaws.{puts_then}
use Rattle.network.proofs.TextLaws.{text_put}
use Rattle.network.proofs.put_network.Goals as goal

pub returns : goal.returns
returns c =
    rw (← text_put c.args.v c.args.size (omega arith) c.requires c.clear-v.result c.clear-v.ensures)
    (puts_then c.put_decimal-a.ensures
    (puts_then c.put_octet-b.ensures
    (puts_then c.put_octet-c.ensures
    (puts_then c.put_octet-d.ensures
    (puts_then c.put-e.ensures c.put_decimal.ensures)))))
