-- `digits::read::hex_marked` meets its contract. Assumes nothing.
use native.Mathlib.Omega.{arith}
use Rattle.digits.proofs.MarkLaws.{marked_short, is_mark, no_zero, no_letter}
use Rattle.digits.proofs.read.hex_marked.Goals as goal

pub returns-in-48 : goal.returns-in-48
returns-in-48 c = is_mark c.args.text.now c.in-48.len_at_least (omega arith) (λ n. omega arith)

pub returns-in_default : goal.returns-in_default
returns-in_default c = rw (marked_short c.args.text.now c.in_default.len_below)

pub returns-in_default-2 : goal.returns-in_default-2
returns-in_default-2 c = no_letter c.args.text.now c.in_default.len_at_least (grind arith) (grind arith)

pub returns-in_default-3 : goal.returns-in_default-3
returns-in_default-3 c = no_zero c.args.text.now c.in_default.len_at_least (omega arith)
