-- `runs::count_ipv6` meets its contract. Assumes nothing.
use Rattle.std.proofs.Common.{sym, ◌∙◌, ltb-false, ltb-true, arith}
use Rattle.wide.proofs.Order.{less_means}
use Rattle.runs.proofs.RoomLaws.{none_blocks}
use Rattle.runs.proofs.count_ipv6.Goals as goal

pub returns-then-lt : goal.returns-then-lt
returns-then-lt c = none_blocks 128 _ _ (ltb-true _ _ (sym (c.lt.ensures ∙ less_means c.args.last c.args.first (omega arith) (omega arith)) ∙ c.if-lt.true))

pub count_runs-requires : goal.count_runs-requires
count_runs-requires c = ltb-false _ _ (sym (c.lt.ensures ∙ less_means c.args.last c.args.first (omega arith) (omega arith)) ∙ c.if-lt.false)

pub returns : goal.returns
returns c = c.count_runs.ensures
