-- `network::class_size` meets its contract. Assumes nothing.
use native.Mathlib.Omega.{arith}
use borrow.Author.Tests.{le-leb, lt-leb}
use Rattle.network.specs.Network.{class_size}
use Rattle.network.proofs.class_size.Goals as goal

pub returns-in_default : goal.returns-in_default
unfolding class_size
returns-in_default c = let b = c.args.first in rw (lt-leb 240 b (omega arith), lt-leb 224 b (omega arith), lt-leb 192 b (omega arith), lt-leb 128 b (omega arith))

pub returns-in-128-to-191 : goal.returns-in-128-to-191
unfolding class_size
returns-in-128-to-191 c = let b = c.args.first in rw (lt-leb 240 b (omega arith), lt-leb 224 b (omega arith), lt-leb 192 b (omega arith), le-leb 128 b (omega arith))

pub returns-in-192-to-223 : goal.returns-in-192-to-223
unfolding class_size
returns-in-192-to-223 c = let b = c.args.first in rw (lt-leb 240 b (omega arith), lt-leb 224 b (omega arith), le-leb 192 b (omega arith))

pub returns-in-224-to-239 : goal.returns-in-224-to-239
unfolding class_size
returns-in-224-to-239 c = let b = c.args.first in rw (lt-leb 240 b (omega arith), le-leb 224 b (omega arith))

pub returns-in-240-to-255 : goal.returns-in-240-to-255
unfolding class_size
returns-in-240-to-255 c = let b = c.args.first in rw (le-leb 240 b (omega arith))
