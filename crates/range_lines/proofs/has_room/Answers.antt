-- `range_lines::has_room` meets its contract. Assumes nothing.
use native.Mathlib.Omega.{arith}
use borrow.Author.Tests.{le-leb, lt-leb}
use Rattle.range_lines.specs.Feeding.{has_room}
use Rattle.range_lines.proofs.has_room.Goals as goal

pub returns-then-not-explain : goal.returns-then-not-explain
unfolding has_room
returns-then-not-explain c =
    let a = c.args in
    rw (le-leb 11176 a.free c.if-free-ge11176.true, c.if-not-explain.true, le-leb 0 a.spare (omega arith))

pub returns-else-not-explain : goal.returns-else-not-explain
unfolding has_room
returns-else-not-explain c = rw (le-leb 11176 c.args.free c.if-free-ge11176.true, c.if-not-explain.false)

pub returns-else-free-ge11176 : goal.returns-else-free-ge11176
unfolding has_room
returns-else-free-ge11176 c = rw (lt-leb 11176 c.args.free c.if-free-ge11176.false)
