use Rattle.strict.proofs.tail_place.Goals as goal

pub returns-then-may : goal.returns-then-may
returns-then-may c = rw c.if-may.true c.parts_place.ensures
