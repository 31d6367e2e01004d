-- `range_lines::holds_bytes` meets its contract. Assumes nothing.
use borrow.Author.Rules.{rules}
use Rattle.range_lines.proofs.LineLaws.{held}
use Rattle.range_lines.proofs.holds_bytes.Goals as goal

pub returns : goal.returns
returns c = let p = c.args.pending in held p.len p.bytes (search rules)
