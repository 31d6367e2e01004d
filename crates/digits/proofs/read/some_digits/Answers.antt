-- `digits::read::some_digits` meets its contract. Assumes nothing.
use native.Mathlib.Omega.{arith}
use borrow.Author.Tests.{lt-ltb, le-ltb}
use Rattle.digits.proofs.read.some_digits.Goals as goal

pub returns-then-count-eq0 : goal.returns-then-count-eq0
returns-then-count-eq0 c = rw (le-ltb 0 c.args.count (omega arith))

pub returns : goal.returns
returns c = rw (lt-ltb 0 c.args.count (omega arith))
