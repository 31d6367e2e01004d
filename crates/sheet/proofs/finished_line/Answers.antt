-- `sheet::finished_line` meets its contract. Assumes nothing.
use mathlib.Core.Path.{sym}
use borrow.Author.Tests.{lt-ltb, le-ltb}
use lib.ListN.{length}
use lib.Seq.{length-take-le}
use borrow.Author.Rules.{rules}
use Rattle.sheet.proofs.finished_line.Goals as goal

pub returns-then-rest-end : goal.returns-then-rest-end
returns-then-rest-end c =
    let a = c.args in
    rw (le-ltb a.end (length a.rest.now) c.if-rest-end.true)

pub slice_bounds-read_line-end : goal.slice_bounds-read_line-end
slice_bounds-read_line-end c = sym (length-take-le _ _ (search rules))

pub returns : goal.returns
returns c =
    let a = c.args in
    rw (lt-ltb a.end (length a.rest.now) c.if-rest-end.false) c.read_line.ensures
