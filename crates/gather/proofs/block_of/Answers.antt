-- `gather::block_of` meets its contract. Assumes nothing.
use mathlib.Core.Path.{ap}
use native.Mathlib.Omega.{arith}
use Rattle.gather.specs.Inner.{size_of}
use Rattle.gather.proofs.BlockLaws.{low_fits}
use Rattle.gather.proofs.PutLaws.{block_4, block_6}
use Rattle.gather.proofs.block_of.Goals as goal

pub overflow_cast-address : goal.overflow_cast-address
overflow_cast-address c = omega (arith, low_fits (ap size_of c.in-V4.is) c.args.first c.requires)

pub returns-in-V4 : goal.returns-in-V4
returns-in-V4 c = block_4 (ap size_of c.in-V4.is) c.args.first c.requires c.args.length

pub returns-in-V6 : goal.returns-in-V6
returns-in-V6 c = block_6 (ap size_of c.in-V6.is) c.args.first c.args.length
