-- `range_lines::keep` meets its contract. The invariant: the first i bytes are kept. Assumes nothing.
use Prim.Native.Nat.{min}
use lib.ListN.{take}
use Rattle.range_lines.proofs.KeepLaws.{Keeps}
use Rattle.range_lines.proofs.keep.Given as goal

abbrev pub invariant-loop-byte : goal.invariant-loop-byte
invariant-loop-byte l = Keeps (take (min l.initial.len 130) l.initial.bytes) l.more l.bytes l.len l.byte-index
