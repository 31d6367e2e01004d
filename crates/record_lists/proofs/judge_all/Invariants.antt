-- `record_lists::judge_all` meets its contract. The records before i are judged, and rise or not. Assumes nothing.
use Rattle.wide.specs.Value.{value}
use Rattle.record_lists.proofs.ListLaws.{Judging}
use Rattle.record_lists.proofs.judge_all.Given as goal

abbrev pub invariant-loop-i : goal.invariant-loop-i
invariant-loop-i l = Judging l.size l.n l.records (value l.last) l.rises l.i
