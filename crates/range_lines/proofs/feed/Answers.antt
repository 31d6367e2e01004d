-- `range_lines::feed` meets its contract. The invariant: some lines are answered, and the rest of the piece still gives the others. Assumes nothing.
use mathlib.Core.Path.{sym, ◌∙◌}
use Prim.Native.Nat.{◌<◌}
use native.Mathlib.Omega.{arith}
use borrow.Author.Rules.{rules}
use lib.ListN.{length}
use lib.Seq.{length-take-le}
use Rattle.notation.proofs.SliceLaws.{to_end_less}
use Rattle.range_lines.proofs.UnderwayLaws.{underway_start, underway_end, underway_stop, underway_next, taken_fits}
use Rattle.range_lines.proofs.feed.Goals as goal

pub loop-end-init : goal.loop-end-init
loop-end-init c = let a = c.args in (underway_start a.explain a.name.now a.reader a.piece.now a.out.now a.notes.now, c.find-end.ensures)

pub overflow_sub-out : goal.overflow_sub-out
overflow_sub-out c = let u = c.loop-end.invariant.0 in omega (arith, u.used, u.same)

pub overflow_sub-notes : goal.overflow_sub-notes
overflow_sub-notes c = let u = c.loop-end.invariant.0 in omega (arith, u.noted, u.same_notes)

pub shape_of-out-then-not-has_room : goal.shape_of-out-then-not-has_room
shape_of-out-then-not-has_room c = c.loop-end.invariant.0.same

pub shape_of-notes-then-not-has_room : goal.shape_of-notes-then-not-has_room
shape_of-notes-then-not-has_room c = c.loop-end.invariant.0.same_notes

pub returns-then-not-has_room : goal.returns-then-not-has_room
returns-then-not-has_room c =
    let l = c.loop-end in
    underway_stop _ _ _ _ _ _ l.done l.rest.now l.out l.notes l.invariant.0 l.end l.invariant.1 c.loop-end-test.true (sym c.has_room.ensures ∙ c.if-not-has_room.true)

pub slice_bounds-answer_line-end : goal.slice_bounds-answer_line-end
slice_bounds-answer_line-end c = sym (length-take-le _ _ (omega (arith, c.loop-end-test.true)))

pub answer_line-done-requires : goal.answer_line-done-requires
answer_line-done-requires c =
    let l = c.loop-end in
    let m : length c.args.piece.now < 18446744073709551616 = search rules in
    taken_fits _ _ _ _ _ _ l.done l.rest.now l.out l.notes l.invariant.0 l.end l.invariant.1 c.loop-end-test.true m

pub overflow_add-rest : goal.overflow_add-rest
overflow_add-rest c = omega (arith, c.loop-end-test.true)

pub slice_bounds-rest-count : goal.slice_bounds-rest-count
slice_bounds-rest-count c = omega (arith, c.loop-end-test.true)

pub loop-end-smaller : goal.loop-end-smaller
loop-end-smaller c =
    let l = c.loop-end in
    to_end_less l.end l.rest.now c.loop-end-test.true

pub loop-end-preserved : goal.loop-end-preserved
loop-end-preserved c =
    let l = c.loop-end in (
      underway_next _ _ _ _ _ _ l.done l.rest.now l.out l.notes l.invariant.0 l.end l.invariant.1 c.loop-end-test.true (sym c.has_room.ensures ∙ c.if-not-has_room.false) _ c.answer_line-done.ensures,
      c.find-end-in-loop-end.ensures,
    )

pub shape_of-out : goal.shape_of-out
shape_of-out c = c.loop-end.invariant.0.same

pub shape_of-notes : goal.shape_of-notes
shape_of-notes c = c.loop-end.invariant.0.same_notes

pub returns : goal.returns
returns c =
    let l = c.loop-end in
    underway_end _ _ _ _ _ _ l.done l.rest.now l.out l.notes l.invariant.0 l.end l.invariant.1 c.loop-end-test.false _ c.begin_line.ensures
