-- `Answerer::answer_arguments`: each input so far is counted. Assumes nothing.
use mathlib.Core.Path.{◌≡◌}
use Prim.Native.Nat.{◌+◌}
use Rattle.range_main.proofs.Answerer.answer_arguments.Given as goal

abbrev pub invariant-loop-i : goal.invariant-loop-i
invariant-loop-i g l = l.inputs + 3 ≡ l.i
