-- `gather::Records::address` meets its contract. Assumes nothing.
use mathlib.Core.Path.{sym, ap, ◌∙◌}
use native.Mathlib.Omega.{arith}
use Rattle.address.specs.Answers.{reading_answer}
use Rattle.gather.proofs.BlockLaws.{size_some, at_read, at_refused}
use Rattle.gather.proofs.Records.address.Goals as goal

pub overflow_sub-at : goal.overflow_sub-at
overflow_sub-at c = omega (arith, c.size-size.ensures, (size_some c.requires.sized).0)

pub slice_bounds-read_octets-count : goal.slice_bounds-read_octets-count
slice_bounds-read_octets-count c = omega (arith, c.size-size.ensures, (size_some c.requires.sized).0)

pub slice_bounds-read_octets-start : goal.slice_bounds-read_octets-start
slice_bounds-read_octets-start c = omega (arith, c.size-size.ensures, (size_some c.requires.sized).0)

pub returns-in-Ok : goal.returns-in-Ok
returns-in-Ok c =
    at_read c.requires c.in-Ok.address (let r = ap reading_answer (sym c.in-Ok.is) ∙ c.read_octets.ensures in (rw c.size-size.ensures at r)) _ c.number.ensures

pub returns-in-Err : goal.returns-in-Err
returns-in-Err c =
    absurd (at_refused c.requires c.in-Err.field-0 (let r = ap reading_answer (sym c.in-Err.is) ∙ c.read_octets.ensures in (rw c.size-size.ensures at r)))
