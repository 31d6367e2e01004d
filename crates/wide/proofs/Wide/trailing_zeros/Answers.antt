-- `wide::Wide::trailing_zeros` meets its contract: the zeros are those of the lower half, or 64 and those of the upper. Assumes nothing.
use Rattle.std.proofs.Common.{◌^◌, ◌<◌, sym, add-zero, arith}
use lib.Count.{trailing_le}
use Rattle.wide.proofs.Trailing.{trailing_lower, trailing_upper}
use Rattle.wide.proofs.Wide.trailing_zeros.Goals as goal

pub overflow_add-result : goal.overflow_add-result
overflow_add-result c = omega (arith, trailing_le 64 c.args.self.hi)

pub returns-then-lo-eq0 : goal.returns-then-lo-eq0
returns-then-lo-eq0 c = rw (c.if-lo-eq0.true, add-zero) (sym (trailing_upper 64 64 c.args.self.hi))

pub returns-else-lo-eq0 : goal.returns-else-lo-eq0
returns-else-lo-eq0 c =
    let l : c.args.self.lo < 2 ^ 64 = omega arith in
    sym (trailing_lower 64 64 c.args.self.hi c.args.self.lo (omega arith) l)
