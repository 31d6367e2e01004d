use Rattle.digits.specs.Numerals.{numeral}
use Rattle.output.proofs.WriteLaws.{Left}
use Rattle.output.proofs.put_number.Given as goal

abbrev pub invariant-loop-place : goal.invariant-loop-place
invariant-loop-place l = Left 10 l.n (numeral 10 20 l.n) l.initial.text l.text l.at l.next l.place

abbrev pub decreases-loop-place : goal.decreases-loop-place
decreases-loop-place l = l.place
