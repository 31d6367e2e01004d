-- `ipv4_text::put_dotted` meets its contract. Assumes nothing.
use native.Mathlib.Omega.{arith}
use lib.Dec.{lit<}
use Rattle.notation.specs.Pieces.{separated}
use Rattle.notation.proofs.DigitLaws.{four_digits}
use Rattle.output.proofs.PlacingLaws.{puts_then}
use Rattle.ipv4_text.specs.Dotted.{dotted_text}
use Rattle.ipv4_text.proofs.put_dotted.Goals as goal

pub returns : goal.returns
unfolding dotted_text separated
returns c =
    rw (four_digits 256 c.args.v (omega arith) (lit< tt))
    (puts_then c.put_decimal-a.ensures
    (puts_then c.put-b.ensures
    (puts_then c.put_decimal-c.ensures
    (puts_then c.put-d.ensures
    (puts_then c.put_decimal-e.ensures
    (puts_then c.put-f.ensures c.put_decimal.ensures))))))
