-- `range_lines::keep` meets its contract. The invariant: the first i bytes are kept. Assumes nothing.
use borrow.Author.Rules.{rules}
use Rattle.range_lines.proofs.KeepLaws.{keeps_start, keeps_more, keeps_full, keeps_end}
use Rattle.range_lines.proofs.keep.Goals as goal

pub loop-byte-init : goal.loop-byte-init
loop-byte-init c =
    let a = c.args in
    keeps_start a.more.now a.pending.bytes a.pending.len (search rules)

pub returns-then-len-ge130 : goal.returns-then-len-ge130
returns-then-len-ge130 c =
    let l = c.loop-byte in
    keeps_full _ _ l.bytes l.len l.byte-index l.invariant c.if-len-ge130.true

pub loop-byte-preserved : goal.loop-byte-preserved
loop-byte-preserved c =
    let l = c.loop-byte in
    keeps_more _ _ l.bytes l.len l.byte-index l.invariant c.loop-byte-test.true c.if-len-ge130.false

pub returns : goal.returns
returns c =
    let l = c.loop-byte in
    keeps_end _ _ l.bytes l.len l.byte-index l.invariant c.loop-byte-test.false
