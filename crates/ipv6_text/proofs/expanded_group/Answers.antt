-- `ipv6_text::expanded_group` meets its contract. Assumes nothing.
use native.Mathlib.Omega.{arith}
use Rattle.ipv6_text.proofs.PlaceLaws.{front_group, zero_group, back_group}
use borrow.Author.Rules.{rules}
use Rattle.ipv6_text.proofs.expanded_group.Goals as goal

pub returns-then-place-gap : goal.returns-then-place-gap
returns-then-place-gap c =
    let a = c.args in
    front_group a.count a.gap a.groups.now (search rules) (omega arith) (omega arith) a.place (omega arith)

pub returns-then-place-gap-2 : goal.returns-then-place-gap-2
returns-then-place-gap-2 c =
    let a = c.args in
    zero_group a.count a.gap a.groups.now (search rules) (omega arith) (omega arith) a.place (omega arith) (omega arith)

pub returns : goal.returns
returns c =
    let a = c.args in
    back_group a.count a.gap a.groups.now (search rules) (omega arith) (omega arith) a.place (omega arith) (omega arith)
