-- `sheet_lines::put_line` meets its contract. Assumes nothing.
use Rattle.output.proofs.PlacingLaws.{puts_then}
use Rattle.sheet_lines.proofs.TextLaws.{line_bytes}
use Rattle.sheet_lines.proofs.put_line.Goals as goal

pub returns : goal.returns
returns c =
    rw (line_bytes c.args.entry)
    (puts_then c.put_address-a.ensures
    (puts_then c.put-b.ensures
    (puts_then c.put_digits-c.ensures
    (puts_then c.put-d.ensures
    (puts_then c.put_digits-e.ensures c.put.ensures)))))
