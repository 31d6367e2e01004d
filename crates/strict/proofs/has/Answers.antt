-- `strict::has` meets its contract. Assumes nothing.
use borrow.Author.Rules.{rules}
use Rattle.strict.proofs.CodeLaws.{has_none, has_byte}
use Rattle.strict.proofs.has.Goals as goal

pub returns-then-text-at : goal.returns-then-text-at
returns-then-text-at c = let a = c.args in has_none a.byte a.text.now a.at c.if-text-at.true

pub returns : goal.returns
returns c = let a = c.args in has_byte a.byte a.text.now a.at (search rules)
