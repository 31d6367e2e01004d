-- `digits::parts::at_most` meets its contract. Assumes nothing.
use native.Mathlib.Omega.{arith}
use borrow.Author.Tests.{lt-leb, le-leb}
use Rattle.digits.proofs.parts.at_most.Goals as goal

pub returns-then-most-value : goal.returns-then-most-value
returns-then-most-value c = rw (lt-leb c.args.value c.args.most (omega arith))

pub returns : goal.returns
returns c = rw (le-leb c.args.value c.args.most (omega arith))
