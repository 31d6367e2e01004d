-- `normal::build::put_groups` meets its contract. The loop's invariant: the first group and those so far are put. Assumes nothing.
use Prim.Native.Nat.{suc}
use lib.ListN.{take}
use Rattle.output.specs.Placing.{Puts}
use Rattle.normal.specs.Normal.{groups_text}
use Rattle.normal.proofs.build.put_groups.Given as goal

abbrev pub invariant-loop-group : goal.invariant-loop-group
invariant-loop-group l = Puts l.fn.text l.text l.at l.next (groups_text (take (suc l.group-index) l.groups))
