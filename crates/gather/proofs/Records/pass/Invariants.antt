-- `gather::Records::pass` meets its contract. The blocks before j are gathered. Assumes nothing.
use Rattle.gather.specs.Inner.{size_of}
use Rattle.gather.proofs.PassLaws.{Passing}
use Rattle.gather.proofs.Records.pass.Given as goal

abbrev pub invariant-loop-j : goal.invariant-loop-j
invariant-loop-j l = Passing (size_of l.self.family) l.self.count l.self.bytes.now l.order l.initial.out l.j l.run l.out
