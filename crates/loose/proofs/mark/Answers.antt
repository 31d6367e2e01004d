-- `loose::mark` meets its contract. Assumes nothing.
use mathlib.Core.Path.{sym, ◌∙◌}
use Rattle.loose.proofs.PartLaws.{mark_hex, mark_none}
use Rattle.loose.proofs.mark.Goals as goal

pub returns-then-hex_marked : goal.returns-then-hex_marked
returns-then-hex_marked c = sym (mark_hex c.args.text.now (sym c.hex_marked.ensures ∙ c.if-hex_marked.true))

pub returns-else-hex_marked : goal.returns-else-hex_marked
returns-else-hex_marked c = sym (mark_none c.args.text.now (sym c.hex_marked.ensures ∙ c.if-hex_marked.false))
