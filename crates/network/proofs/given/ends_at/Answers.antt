-- `network::given::ends_at` meets its contract. Assumes nothing.
use native.Mathlib.Omega.{arith}
use borrow.Author.Tests.{le-leb, lt-leb}
use lib.ListN.{length}
use Rattle.network.proofs.given.ends_at.Goals as goal

pub returns-then-text-at : goal.returns-then-text-at
returns-then-text-at c = let a = c.args in rw (le-leb (length a.text.now) a.at (omega arith))

pub returns : goal.returns
returns c = let a = c.args in rw (lt-leb (length a.text.now) a.at (omega arith))
