-- `gather::Records::sweep` meets its contract. Assumes nothing.
use Prim.Native.Nat.{◌+◌, ◌*◌, ◌^◌}
use Rattle.gather.specs.Inner.{size_of}
use Rattle.gather.proofs.GapLaws.{Sweeping}
use Rattle.gather.proofs.Records.sweep.Given as goal

abbrev pub invariant-loop-j : goal.invariant-loop-j
invariant-loop-j l = Sweeping (size_of l.self.family) l.self.count l.write l.self.bytes.now l.order l.initial.out l.j (l.hi * 2 ^ 64 + l.lo) l.at l.out
