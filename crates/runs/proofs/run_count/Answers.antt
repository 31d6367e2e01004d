-- `runs::run_count` meets its contract. Assumes nothing.
use Rattle.std.proofs.Common.{◌≤◌, sym, le_refl, arith}
use lib.Count.{ones, ones-le}
use Rattle.runs.proofs.PartLaws.{parts_count}
use Rattle.runs.proofs.run_count.Goals.{After-cut-parts}
use Rattle.runs.proofs.run_count.Goals as goal

-- neither part has more than 64 bits
few : (c : After-cut-parts) → (ones c.cut-parts.result.rise ≤ 64) × (ones c.cut-parts.result.fall ≤ 64)
few c = (ones-le 64 _ (omega arith), ones-le 64 _ (omega arith))

pub overflow_add-result : goal.overflow_add-result
overflow_add-result c = omega (arith, (few (goal.at.overflow_add-result c).After-cut-parts).0, (few (goal.at.overflow_add-result c).After-cut-parts).1)

pub overflow_cast-result : goal.overflow_cast-result
overflow_cast-result c = omega (arith, (few (goal.at.overflow_cast-result c).After-cut-parts).0, (few (goal.at.overflow_cast-result c).After-cut-parts).1)

pub returns : goal.returns
returns c = λ W top. sym (parts_count W _ top _ _ _ _ (le_refl _) c.cut-parts.ensures)
