use lib.ListN.{length}
use Rattle.range_text.proofs.RangeTextLaws.{Walk}
use Rattle.range_text.proofs.put_lines.Given as goal

abbrev pub invariant-loop-rest : goal.invariant-loop-rest
invariant-loop-rest l = Walk l.size l.records l.initial.out l.at l.rest l.out l.next

abbrev pub decreases-loop-rest : goal.decreases-loop-rest
decreases-loop-rest l = length l.rest
