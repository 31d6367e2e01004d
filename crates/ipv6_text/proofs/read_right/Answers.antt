-- `ipv6_text::read_right` meets its contract. Assumes nothing.
use mathlib.Core.Path.{refl}
use mathlib.Core.Bool.{true}
use native.Mathlib.Omega.{arith}
use Rattle.ipv6_text.proofs.GroupLaws.{side_none}
use Rattle.ipv6_text.proofs.PlaceLaws.{none_more}
use Rattle.ipv6_text.proofs.SideLaws.{right_over, right_end}
use borrow.Author.Rules.{rules}
use Rattle.ipv6_text.proofs.read_right.Goals as goal

pub returns-then-text-eq0 : goal.returns-then-text-eq0
returns-then-text-eq0 c =
    let a = c.args in
    rw (side_none true a.text.now c.if-text-eq0.true) (none_more a.groups.now a.from (search rules) (omega arith))

pub returns-in_err-side : goal.returns-in_err-side
returns-in_err-side c = rw c.from_residual.ensures (right_end c.in_err-side.ensures c.if-text-eq0.false refl)

pub returns-in-Some : goal.returns-in-Some
returns-in-Some c = right_over c.in_ok-side.ensures c.if-text-eq0.false _ c.in-Some.is

pub returns-in-None : goal.returns-in-None
returns-in-None c = right_end c.in_ok-side.ensures c.if-text-eq0.false c.in-None.is
