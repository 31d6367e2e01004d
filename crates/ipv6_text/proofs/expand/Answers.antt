-- `ipv6_text::expand` meets its contract. Assumes nothing.
use native.Mathlib.Omega.{arith}
use Rattle.ipv6_text.specs.Inner.{expanded}
use Rattle.ipv6_text.proofs.PlaceLaws.{expanded_length, eight_listed}
use borrow.Author.Rules.{rules}
use Rattle.ipv6_text.proofs.expand.Goals as goal

pub returns : goal.returns
returns c =
    let a = c.args in
    rw (
      c.expanded_group.ensures,
      c.expanded_group-2.ensures,
      c.expanded_group-3.ensures,
      c.expanded_group-4.ensures,
      c.expanded_group-5.ensures,
      c.expanded_group-6.ensures,
      c.expanded_group-7.ensures,
      c.expanded_group-8.ensures,
    ) (eight_listed (expanded a.count a.gap a.groups.now) (expanded_length a.count a.gap a.groups.now (search rules) (omega arith) (omega arith)))
