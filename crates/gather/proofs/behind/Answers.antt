-- `gather::behind` meets its contract. Assumes nothing.
use mathlib.Core.Path.{sym, ◌∙◌}
use borrow.Author.Tests.{ltb-true, ltb-false}
use native.Mathlib.Omega.{arith}
use Rattle.wide.proofs.Order.{less_means}
use Rattle.gather.proofs.PutLaws.{later, next_behind}
use Rattle.gather.proofs.behind.Goals as goal

pub returns-then-lt : goal.returns-then-lt
returns-then-lt c = later _ _ (ltb-true _ _ (sym (c.lt.ensures ∙ less_means c.args.last c.args.from (omega arith) (omega arith)) ∙ c.if-lt.true))

pub returns : goal.returns
returns c =
    next_behind _ _ _ _ _ c.saturating_add.ensures c.from.ensures (ltb-false _ _ (sym (c.lt.ensures ∙ less_means c.args.last c.args.from (omega arith) (omega arith)) ∙ c.if-lt.false)) c.requires
