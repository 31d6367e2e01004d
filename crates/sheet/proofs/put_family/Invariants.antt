use Rattle.sheet.proofs.PutLaws.{Putting, family_text}
use Rattle.sheet.proofs.put_family.Given as goal

abbrev pub invariant-loop-place : goal.invariant-loop-place
invariant-loop-place l = Putting (family_text l.rows l.family) l.order l.initial.text l.at l.text l.next l.place-index
