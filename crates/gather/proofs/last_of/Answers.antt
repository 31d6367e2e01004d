-- `gather::last_of` meets its contract. Assumes nothing.
use mathlib.Core.Path.{ap}
use native.Mathlib.Omega.{arith}
use Rattle.gather.specs.Inner.{size_of}
use Rattle.gather.proofs.BlockLaws.{last_some, last_fits, last_4, block_last}
use Rattle.gather.proofs.last_of.Goals as goal

pub overflow_sub-result : goal.overflow_sub-result
overflow_sub-result c = omega (arith, c.requires.short, (ap size_of c.in-V4.is))

pub overflow_sub-result-in-V4 : goal.overflow_sub-result-in-V4
overflow_sub-result-in-V4 c = last_some (ap size_of c.in-V4.is) c.args.first c.args.length c.requires

pub overflow_add-result : goal.overflow_add-result
overflow_add-result c = omega (arith, last_fits (ap size_of c.in-V4.is) c.args.first c.args.length c.requires)

pub returns-in-V4 : goal.returns-in-V4
returns-in-V4 c = last_4 (ap size_of c.in-V4.is) c.args.first c.args.length c.requires

pub overflow_sub-length : goal.overflow_sub-length
overflow_sub-length c = omega (arith, c.requires.short, ap size_of c.in-V6.is)

pub returns-in-V6 : goal.returns-in-V6
returns-in-V6 c =
    block_last (ap size_of c.in-V6.is) _ c.requires _ _ c.ones.ensures c.saturating_add.ensures
