-- `loose::base` meets its contract. Assumes nothing.
use mathlib.Core.Path.{◌≡◌, sym, ◌∙◌}
use mathlib.Core.Bool.{false}
use native.Mathlib.Omega.{arith}
use Rattle.digits.specs.Numerals.{hex_marked}
use Rattle.loose.proofs.PartLaws.{base_hex, base_empty, base_zero, base_other}
use Rattle.loose.proofs.base.Goals.{Else-hex_marked}
use Rattle.loose.proofs.base.Goals as goal

pub returns-then-hex_marked : goal.returns-then-hex_marked
returns-then-hex_marked c = sym (base_hex c.args.text.now (sym c.hex_marked.ensures ∙ c.if-hex_marked.true))

unmarked : (c : Else-hex_marked) → hex_marked c.args.text.now ≡ false
unmarked c = sym c.hex_marked.ensures ∙ c.if-hex_marked.false

pub returns-in-48 : goal.returns-in-48
returns-in-48 c = sym (base_zero c.args.text.now (unmarked (goal.at.returns-in-48 c).Else-hex_marked) (omega arith) (omega arith))

pub returns-in_default : goal.returns-in_default
returns-in_default c = sym (base_empty c.args.text.now (omega arith))

pub returns-in_default-2 : goal.returns-in_default-2
returns-in_default-2 c = sym (base_other c.args.text.now (unmarked (goal.at.returns-in_default-2 c).Else-hex_marked) (omega arith) (omega arith))
