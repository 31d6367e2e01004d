-- `text::read_address` meets its contract. Assumes nothing.
use native.Mathlib.Omega.{arith}
use mathlib.Core.Path.{◌∙◌, sym}
use Rattle.text.proofs.StrictLaws.{strict_unknown, strict_long, strict_read}
use Rattle.text.proofs.read_address.Goals as goal

pub returns-then-not-is_family : goal.returns-then-not-is_family
returns-then-not-is_family c = strict_unknown _ _ (sym c.is_family.ensures ∙ c.if-not-is_family.true)

pub returns-then-text-gt64 : goal.returns-then-text-gt64
returns-then-text-gt64 c = strict_long _ _ (sym c.is_family.ensures ∙ c.if-not-is_family.false) (omega arith)

pub returns : goal.returns
returns c = rw (c.ok_or.ensures.value, c.read_strict.ensures) (strict_read _ _ (sym c.is_family.ensures ∙ c.if-not-is_family.false) (omega arith))
