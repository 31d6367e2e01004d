-- `text::read_strict` meets its contract. Assumes nothing.
use native.Mathlib.Omega.{arith}
use mathlib.Core.Path.{◌∙◌}
use Rattle.text.proofs.StrictLaws.{strict_4, strict_6, strict_0}
use Rattle.text.proofs.read_strict.Goals as goal

pub returns-in-4 : goal.returns-in-4
returns-in-4 c = c.read_ipv4.ensures ∙ strict_4 _ _ c.in-4.is

pub returns-in-6 : goal.returns-in-6
returns-in-6 c = c.read_ipv6.ensures ∙ strict_6 _ _ c.in-6.is

pub returns-in-Some : goal.returns-in-Some
returns-in-Some c = rw (← strict_0 c.args.family c.args.text.now (omega arith) (omega arith), ← c.in-Some.ensures)

pub returns-in-None : goal.returns-in-None
returns-in-None c = rw (← strict_0 c.args.family c.args.text.now (omega arith) (omega arith), ← c.in-None.ensures, c.read_ipv6-in-None.ensures)
