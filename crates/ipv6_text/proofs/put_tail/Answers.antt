-- `ipv6_text::put_tail` meets its contract. Assumes nothing.
use Rattle.std.specs.Prelude.{Some}
use mathlib.Core.Path.{sym}
use Prim.Native.Nat.{◌/◌, ◌%◌}
use native.Mathlib.Omega.{arith}
use lib.ListN.{take}
use Rattle.notation.specs.Options.{joined}
use Rattle.ipv6_text.specs.EightGroups.{tail_of}
use Rattle.ipv6_text.proofs.GroupLaws.{two_digits}
use Rattle.ipv6_text.proofs.PlaceLaws.{holds_none, tail_over, two_held}
use borrow.Author.Rules.{rules}
use Rattle.ipv6_text.proofs.put_tail.Goals as goal

pub returns-then-n-gt6 : goal.returns-then-n-gt6
returns-then-n-gt6 c =
    let a = c.args in
    tail_over a.groups.now a.n (search rules) a.text.now (omega arith) (omega arith)

pub returns-in_err-v : goal.returns-in_err-v
unfolding tail_of
returns-in_err-v c =
    let a = c.args in
    let t = a.text.now in
    rw c.from_residual.ensures
    (holds_none a.groups.now 9 (joined (Some (take a.n a.groups.now)) (tail_of t)) (search rules) (omega arith) (rw (sym c.in_err-v.ensures)))

pub returns : goal.returns
unfolding tail_of
returns c =
    let a = c.args in
    let t = a.text.now in
    let x = c.in_ok-v.v in
    rw (sym c.in_ok-v.ensures, two_digits x (search rules))
    (two_held a.groups.now a.n (search rules) (x / 65536) (x % 65536) (omega arith))
