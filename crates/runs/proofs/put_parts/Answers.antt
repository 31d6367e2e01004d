-- `runs::put_parts` meets its contract. Assumes nothing.
use Rattle.std.proofs.Common.{◌+◌, ◌-◌, arith}
use Rattle.output.proofs.PlacingLaws.{puts_length}
use Rattle.runs.specs.Runs.{lane_of, Walk}
use Rattle.runs.proofs.RunLaws.{fits_small, walk_fits}
use Rattle.runs.proofs.put_parts.Goals.{After-put_rising-next}
use Rattle.runs.proofs.put_parts.Goals as goal

pub put_rising-next-requires : goal.put_rising-next-requires
put_rising-next-requires c = let r = c.requires in record { last = _; fall = _; fits = r.0; parts = r.1 }

-- what the rising part leaves
walk : (p : After-put_rising-next) → let a = p.args in
    Walk (lane_of a.longest a.hi) a.first (a.first + a.rise + a.fall - 1) a.out.now a.at p.put_rising-next.new.out p.put_rising-next.result (a.first + a.rise) 0 a.fall
walk p = let r = p.requires in p.put_rising-next.ensures _ _ r.0 r.1

pub overflow_add-first : goal.overflow_add-first
overflow_add-first c = let r = (goal.at.overflow_add-first c).After-put_rising-next.requires in omega (arith, r.1.all, r.1.some, fits_small r.0)

pub put_falling-requires : goal.put_falling-requires
put_falling-requires c = (walk_fits (walk (goal.at.put_falling-requires c).After-put_rising-next) (goal.at.put_falling-requires c).After-put_rising-next.requires.0 (omega arith), (walk (goal.at.put_falling-requires c).After-put_rising-next).parts)

pub returns : goal.returns
returns c = (walk (goal.at.returns c).After-put_rising-next).rest _ _ c.put_falling.ensures

pub shape_of-out : goal.shape_of-out
shape_of-out c = puts_length (returns c)
