-- `record_lists::is_family` meets its contract. Assumes nothing.
use borrow.Author.Tests.{eq-eqb, ne_eqb}
use Rattle.record_lists.proofs.is_family.Goals as goal

pub returns-then-family-eq4 : goal.returns-then-family-eq4
returns-then-family-eq4 c = rw (eq-eqb _ 4 c.if-family-eq4.true)

pub returns : goal.returns
returns c = rw (ne_eqb _ 4 c.if-family-eq4.false)
