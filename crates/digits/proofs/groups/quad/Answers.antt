-- `digits::groups::quad` meets its contract. Assumes nothing.
use Rattle.digits.proofs.ByteLaws.{quad_bytes}
use borrow.Author.Rules.{rules}
use Rattle.digits.proofs.groups.quad.Goals as goal

pub returns : goal.returns
returns c = quad_bytes c.args.a c.args.b c.args.c c.args.d (search rules) (search rules) (search rules) (search rules)
