use lib.Seq.{length-take-le}
use mathlib.Core.Path.{sym}
use borrow.Author.Rules.{rules}
use Rattle.notation.proofs.SliceLaws.{to_end_less}
use Rattle.sheet_notes.proofs.LineLaws.{pass_start, pass_on, pass_bad, pass_last, pass_done}
use Rattle.sheet_notes.proofs.malformed_line.Goals as goal

pub loop-rest-init : goal.loop-rest-init
loop-rest-init c = pass_start _

pub returns-then-rest-end : goal.returns-then-rest-end
returns-then-rest-end c =
    pass_last c.loop-rest.invariant _ c.find-end.ensures c.if-rest-end.true

pub slice_bounds-read_line-end : goal.slice_bounds-read_line-end
slice_bounds-read_line-end c = sym (length-take-le _ _ (search rules))

pub returns-in_default : goal.returns-in_default
returns-in_default c =
    pass_bad c.loop-rest.invariant _ c.find-end.ensures c.if-rest-end.false c.read_line.ensures c.in_default.is

pub loop-rest-smaller : goal.loop-rest-smaller
loop-rest-smaller c =
    to_end_less _ c.loop-rest.rest.now c.if-rest-end.false

pub loop-rest-preserved : goal.loop-rest-preserved
loop-rest-preserved c =
    pass_on c.loop-rest.invariant _ c.find-end.ensures c.if-rest-end.false c.read_line.ensures c.in-Some.field-0 c.in-Some.is

pub returns : goal.returns
returns c = pass_done c.loop-rest.invariant c.loop-rest-test.false
