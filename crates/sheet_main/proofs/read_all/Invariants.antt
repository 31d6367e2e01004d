-- `sheet_main::read_all`: the turns so far. Assumes nothing.
use Rattle.sheet_main.proofs.RunLaws.{Going}
use Rattle.sheet_main.proofs.read_all.Given as goal

abbrev pub invariant-loop-turns : goal.invariant-loop-turns
invariant-loop-turns g l = Going l.turns l.run l.input
