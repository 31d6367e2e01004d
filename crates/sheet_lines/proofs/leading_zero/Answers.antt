-- `sheet_lines::leading_zero` meets its contract. Assumes nothing.
use mathlib.Core.Path.{sym}
use Rattle.digits.proofs.PartLaws.{lead_short, lead_first}
use Rattle.sheet_lines.proofs.leading_zero.Goals as goal

pub returns-then-text-lt2 : goal.returns-then-text-lt2
returns-then-text-lt2 c = sym (lead_short c.args.text.now c.if-text-lt2.true)

pub returns : goal.returns
returns c = sym (lead_first c.args.text.now c.if-text-lt2.false)
