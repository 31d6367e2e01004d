-- `strict::goes_on` meets its contract. Assumes nothing.
use mathlib.Core.Path.{◌∙◌}
use Rattle.strict.proofs.CodeLaws.{not_on, on_has}
use Rattle.strict.proofs.goes_on.Goals as goal

pub returns-then-n-eq0 : goal.returns-then-n-eq0
returns-then-n-eq0 c = let a = c.args in not_on a.byte a.n a.text.now c.if-n-eq0.true

pub returns : goal.returns
returns c = let a = c.args in c.has.ensures ∙ on_has a.byte a.n a.text.now c.if-n-eq0.false
