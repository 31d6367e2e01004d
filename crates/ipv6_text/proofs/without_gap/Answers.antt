-- `ipv6_text::without_gap` meets its contract. Assumes nothing.
use Rattle.ipv6_text.proofs.PlaceLaws.{laid_whole, laid_none}
use Rattle.ipv6_text.proofs.without_gap.Goals as goal

pub returns-then-count-eq8 : goal.returns-then-count-eq8
returns-then-count-eq8 c = λ gs o h. laid_whole gs c.args.count o h c.if-count-eq8.true

pub returns : goal.returns
returns c = λ gs o h. laid_none gs c.args.count o h c.if-count-eq8.false
