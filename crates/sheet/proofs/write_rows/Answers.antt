-- `sheet::write_rows` meets its contract. Assumes nothing.
use Rattle.sheet.proofs.CallLaws.{text_whole}
use borrow.Author.Rules.{rules}
use Rattle.sheet.proofs.write_rows.Goals as goal

pub returns : goal.returns
returns c =
    rw (← text_whole c.args.sorted _ c.requires.0 c.requires.1 (search rules) c.put_arranged-end.ensures) c.store.ensures
