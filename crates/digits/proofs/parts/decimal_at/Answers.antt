-- `digits::parts::decimal_at` meets its contract. Assumes nothing.
use native.Mathlib.Omega.{arith}
use Rattle.digits.proofs.PartLaws.{decimal_end, decimal_digit, decimal_below, decimal_above}
use Rattle.digits.proofs.parts.decimal_at.Goals as goal

pub returns-then-text-at : goal.returns-then-text-at
returns-then-text-at c = let a = c.args in decimal_end a.text.now a.at (omega arith)

pub returns-in-48-to-57 : goal.returns-in-48-to-57
returns-in-48-to-57 c = let a = c.args in decimal_digit a.text.now a.at (omega arith) (omega arith) (omega arith)

pub returns-in_default : goal.returns-in_default
returns-in_default c = let a = c.args in decimal_below a.text.now a.at (omega arith) (omega arith)

pub returns-in_default-2 : goal.returns-in_default-2
returns-in_default-2 c = let a = c.args in decimal_above a.text.now a.at (omega arith) (omega arith)
