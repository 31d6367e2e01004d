-- `sheet_main::asks` meets its contract. Assumes nothing.
use Rattle.sheet_main.proofs.RunLaws.{asked}
use Rattle.sheet_main.proofs.asks.Goals as goal

pub returns : goal.returns
returns c = asked _ c.args.options.now _ c.find.ensures
