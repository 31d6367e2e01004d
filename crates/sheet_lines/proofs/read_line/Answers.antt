-- `sheet_lines::read_line` meets its contract. Assumes nothing.
use mathlib.Core.Path.{sym}
use lib.Seq.{length-take-le}
use Rattle.sheet_lines.proofs.LineLaws.{line_none, line_one, line_two}
use borrow.Author.Rules.{rules}
use Rattle.sheet_lines.proofs.read_line.Goals as goal

pub returns-then-line-first : goal.returns-then-line-first
returns-then-line-first c =
    rw (line_none c.args.line.now _ c.find-first.ensures c.if-line-first.true)

pub returns-then-rest-second : goal.returns-then-rest-second
returns-then-rest-second c =
    rw (line_one c.args.line.now _ c.find-first.ensures c.if-line-first.false _ c.find-second.ensures c.if-rest-second.true)

pub slice_bounds-read_fields-end : goal.slice_bounds-read_fields-end
slice_bounds-read_fields-end c = sym (length-take-le _ _ (search rules))

pub slice_bounds-read_fields-end-2 : goal.slice_bounds-read_fields-end-2
slice_bounds-read_fields-end-2 c = sym (length-take-le _ _ (search rules))

pub returns : goal.returns
returns c =
    rw (line_two c.args.line.now _ c.find-first.ensures c.if-line-first.false _ c.find-second.ensures c.if-rest-second.false) c.read_fields.ensures
