-- `range_lines::put_line` meets its contract. Assumes nothing.
use mathlib.Core.Path.{◌≡◌, sym}
use native.Mathlib.Omega.{arith}
use borrow.Author.Rules.{rules}
use lib.ListN.{length}
use lib.Seq.{length-take-le}
use Rattle.range_lines.proofs.LineLaws.{none_held, line_full, line_held}
use Rattle.range_lines.proofs.put_line.Goals as goal

pub returns-then-pending-eq0 : goal.returns-then-pending-eq0
returns-then-pending-eq0 c =
    let p = c.args.pending in
    rw (none_held p.len p.bytes c.if-pending-eq0.true) c.put_answer.ensures

pub returns-then-len-gt130 : goal.returns-then-len-gt130
returns-then-len-gt130 c =
    let k = c.keep-whole in
    let e : length k.result.bytes ≡ 130 = search rules in
    rw (← line_full k.result.len k.result.bytes _ k.ensures e c.if-len-gt130.true) c.put_answer-then-len-gt130.ensures

pub slice_bounds-bytes-end : goal.slice_bounds-bytes-end
slice_bounds-bytes-end c =
    let e : length c.keep-whole.result.bytes ≡ 130 = search rules in
    omega (arith, c.if-len-gt130.false)

pub slice_bounds-put_answer-end-2 : goal.slice_bounds-put_answer-end-2
slice_bounds-put_answer-end-2 c =
    let e : length c.keep-whole.result.bytes ≡ 130 = search rules in
    sym (length-take-le _ _ (omega (arith, c.if-len-gt130.false)))

pub returns : goal.returns
returns c =
    let k = c.keep-whole in
    rw (← line_held k.result.len k.result.bytes _ k.ensures c.if-len-gt130.false) c.put_answer-2.ensures
