use lib.ListN.{take}
use Rattle.ipv6_text.proofs.SideLaws.{Progress}
use Rattle.ipv6_text.proofs.read_side.Given as goal

abbrev pub invariant-loop-n : goal.invariant-loop-n
invariant-loop-n l = Progress (take l.fn.from l.fn.groups) l.text l.groups l.rest l.n
