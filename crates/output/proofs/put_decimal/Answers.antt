-- `output::put_decimal` meets its contract. Assumes nothing.
use native.Mathlib.Omega.{arith}
use Rattle.output.proofs.PlacingLaws.{puts_then}
use Rattle.output.proofs.WriteLaws.{decimal_written}
use Rattle.output.proofs.put_decimal.Goals as goal

pub returns : goal.returns
returns c =
    rw (← decimal_written c.args.n (omega arith)) (puts_then c.put_if-tens.ensures (puts_then c.put_if-ones.ensures c.put.ensures))
