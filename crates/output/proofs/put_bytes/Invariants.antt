-- `output::put_bytes` meets its contract. The loop's invariant: the bytes so far are put. Assumes nothing.
use lib.ListN.{take}
use Rattle.output.specs.Placing.{Puts}
use Rattle.output.proofs.put_bytes.Given as goal

abbrev pub invariant-loop-byte : goal.invariant-loop-byte
invariant-loop-byte l = Puts l.initial.text l.text l.at l.next (take l.byte-index l.bytes)
