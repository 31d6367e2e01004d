-- `range_text::put_refused` meets its contract. Assumes nothing.
use mathlib.Core.Path.{refl}
use Rattle.output.proofs.PlacingLaws.{puts_then}
use Rattle.range_text.specs.RangeText.{refused_by}
use Rattle.range_text.proofs.put_refused.Goals as goal

pub returns : goal.returns
unfolding refused_by
returns c =
    record { puts = puts_then c.put_bytes-digits.ensures (puts_then (rw c.from.ensures at c.put_decimal-end.ensures) c.put.ensures); tells = refl }
