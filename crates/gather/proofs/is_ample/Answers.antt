-- `gather::is_ample` meets its contract. Assumes nothing.
use mathlib.Core.Path.{ap}
use native.Mathlib.Omega.{arith}
use Rattle.gather.specs.Inner.{size_of}
use Rattle.gather.proofs.GapLaws.{ample_4, ample_6}
use Rattle.gather.proofs.is_ample.Goals as goal

pub overflow_mul-result : goal.overflow_mul-result
overflow_mul-result c = omega (arith, c.requires)

pub overflow_add-result : goal.overflow_add-result
overflow_add-result c = omega (arith, c.requires)

pub overflow_mul-result-in-V4 : goal.overflow_mul-result-in-V4
overflow_mul-result-in-V4 c = omega (arith, c.requires)

pub returns-in-V4 : goal.returns-in-V4
returns-in-V4 c = ample_4 (ap size_of c.in-V4.is) c.args.n c.args.room

pub overflow_mul-result-in-V6 : goal.overflow_mul-result-in-V6
overflow_mul-result-in-V6 c = omega (arith, c.requires)

pub overflow_add-result-in-V6 : goal.overflow_add-result-in-V6
overflow_add-result-in-V6 c = omega (arith, c.requires)

pub returns-in-V6 : goal.returns-in-V6
returns-in-V6 c = ample_6 (ap size_of c.in-V6.is) c.args.n c.args.room

pub overflow_mul-result-in-V6-2 : goal.overflow_mul-result-in-V6-2
overflow_mul-result-in-V6-2 c = omega (arith, c.requires)
