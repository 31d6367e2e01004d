-- `range_lines::put_told` meets its contract. Assumes nothing.
use native.Mathlib.Omega.{arith}
use Rattle.address.proofs.AnswerLaws.{number_pos}
use Rattle.output.proofs.PlacingLaws.{puts_none}
use Rattle.range_lines.proofs.NoteLaws.{unwanted_note, no_note, a_note}
use Rattle.range_lines.proofs.put_told.Goals as goal

pub returns-then-not-explain : goal.returns-then-not-explain
returns-then-not-explain c =
    let a = c.args in
    rw (unwanted_note a.name.now a.line _ c.if-not-explain.true) (puts_none _ _)

pub returns-in_default : goal.returns-in_default
returns-in_default c =
    let a = c.args in
    rw (c.in_default.is, no_note a.name.now a.line 0 a.explain (omega arith)) (puts_none _ _)

pub returns : goal.returns
returns c =
    let a = c.args in
    let n = c.from in
    rw (c.in-Some.is, ← n.ensures, a_note a.name.now a.line n.result c.if-not-explain.false (omega (arith, number_pos c.in-Some.why, n.ensures))) c.put_note.ensures
