-- `wide::Wide::saturating_sub` meets its contract. Assumes nothing.
use Rattle.std.proofs.Common.{◌^◌, ◌<◌, le_of_lt, arith}
use Rattle.wide.proofs.Halves.{high_less, sub_plain, sub_borrow, sub_none}
use Rattle.wide.proofs.Wide.saturating_sub.Goals as goal

pub returns-then-ah-bh : goal.returns-then-ah-bh
returns-then-ah-bh c =
    let a = c.args.self in
    let b = c.args.other in
    let l : a.lo < 2 ^ 64 = omega arith in
    omega (arith, high_less (2 ^ 64) a.hi a.lo b.hi b.lo c.if-ah-bh.true l)

pub returns-then-bl-al : goal.returns-then-bl-al
returns-then-bl-al c = sub_plain (2 ^ 64) _ _ _ _ c.if-ah-bh.false c.if-bl-al.true

pub returns-then-ah-bh-2 : goal.returns-then-ah-bh-2
returns-then-ah-bh-2 c = sub_none (2 ^ 64) _ _ _ _ c.if-ah-bh-2.true (le_of_lt c.if-bl-al.false)

pub returns : goal.returns
returns c = sub_borrow (2 ^ 64) _ _ _ _ (omega arith) c.if-bl-al.false (omega arith)
