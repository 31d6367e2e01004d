-- `range_lines::feed` meets its contract. The invariant: some lines are answered, and the rest of the piece still gives the others. Assumes nothing.
use mathlib.Core.Path.{◌≡◌}
use lib.ListN.{length}
use Rattle.notation.specs.Pieces.{index_of}
use Rattle.range_lines.proofs.UnderwayLaws.{Underway}
use Rattle.range_lines.proofs.feed.Given as goal

abbrev pub invariant-loop-end : goal.invariant-loop-end
invariant-loop-end l = Underway l.explain l.name l.initial.done.reader l.piece l.initial.out l.initial.notes l.done l.rest l.out l.notes × (l.end ≡ index_of 10 l.rest)

abbrev pub decreases-loop-end : goal.decreases-loop-end
decreases-loop-end l = length l.rest
