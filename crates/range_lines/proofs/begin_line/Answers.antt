-- `range_lines::begin_line` meets its contract. Assumes nothing.
use mathlib.Core.Path.{refl}
use Rattle.range_lines.proofs.begin_line.Goals as goal

pub returns : goal.returns
returns c =
    let done = c.args.done in
    let e = c.keep.ensures in
    record { place = λ i. record { begun = e i; line = done.reader.line }; taken = refl; answers = refl; told = refl; refused = refl }
