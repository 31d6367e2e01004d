-- `Answerer::answer_all`: the bytes that are not taken yet are bytes of the buffer, and each turn is counted. Assumes nothing.
use mathlib.Core.Path.{◌≡◌}
use lib.ListN.{length}
use Rattle.range_main.specs.Runs.{Within}
use Rattle.range_main.proofs.Answerer.answer_all.Given as goal

abbrev pub invariant-loop : goal.invariant-loop
invariant-loop g l = Within l.run × (l.turns ≡ l.counter) × (length l.input ≡ 65536)
