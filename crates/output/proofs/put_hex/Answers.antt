-- `output::put_hex` meets its contract. Assumes nothing.
use native.Mathlib.Omega.{arith}
use lib.Dec.{lit<}
use Rattle.output.proofs.PlacingLaws.{puts_then}
use Rattle.output.proofs.WriteLaws.{numeral_written}
use Rattle.output.proofs.put_hex.Goals as goal

pub returns : goal.returns
returns c =
    rw (
      ← numeral_written 16 (lit< tt) 2 c.args.n (omega arith),
      ← c.digit_byte.ensures,
      ← c.digit_byte-2.ensures,
      ← c.digit_byte-3.ensures,
      ← c.digit_byte-4.ensures,
    ) (puts_then c.put_if-b.ensures (puts_then c.put_if-c.ensures (puts_then c.put_if-d.ensures c.put.ensures)))
