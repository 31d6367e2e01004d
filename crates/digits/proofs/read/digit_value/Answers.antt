-- `digits::read::digit_value` meets its contract. Assumes nothing.
use native.Mathlib.Omega.{arith}
use borrow.Author.Rules.{rules}
use Rattle.digits.proofs.NumeralLaws.{digit_below, digit_above, digit_clear, digit_set}
use Rattle.digits.proofs.read.digit_value.Goals as goal

pub returns-then-c-lt48 : goal.returns-then-c-lt48
returns-then-c-lt48 c = digit_below c.args.c (omega arith)

pub returns-then-c-gt111 : goal.returns-then-c-gt111
returns-then-c-gt111 c = digit_above c.args.c (search rules) (omega arith)

pub returns-then-mask-c-lt1 : goal.returns-then-mask-c-lt1
returns-then-mask-c-lt1 c = digit_clear c.args.c (omega arith) (omega arith) c.if-mask-c-lt1.true

pub returns : goal.returns
returns c = digit_set c.args.c (omega arith) (omega arith) c.if-mask-c-lt1.false
