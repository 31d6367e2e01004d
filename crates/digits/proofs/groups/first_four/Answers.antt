use Rattle.digits.proofs.groups.first_four.Goals as goal

pub returns : goal.returns
returns c = rw (← c.byte_at.ensures, ← c.byte_at-2.ensures, ← c.byte_at-3.ensures, ← c.byte_at-4.ensures) c.quad-2.ensures
