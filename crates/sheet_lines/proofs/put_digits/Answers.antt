-- `sheet_lines::put_digits` meets its contract: one place after the other. Assumes nothing.
use native.Mathlib.Omega.{arith}
use Rattle.output.proofs.PlacingLaws.{puts_then, puts_length}
use Rattle.sheet_lines.proofs.TextLaws.{digits_are}
use Rattle.sheet_lines.proofs.put_digits.Goals as goal

pub returns : goal.returns
returns c =
    rw (← digits_are c.args.n (omega arith))
    (puts_then c.put_place-a.ensures
    (puts_then c.put_place-b.ensures
    (puts_then c.put_place-c.ensures
    (puts_then c.put_place-d.ensures
    (puts_then c.put_place-e.ensures
    (puts_then c.put_place-f.ensures
    (puts_then c.put_place-g.ensures
    (puts_then c.put_place-h.ensures
    (puts_then c.put_place-i.ensures
    c.put.ensures)))))))))

pub shape_of-text : goal.shape_of-text
shape_of-text c = puts_length (returns c)
