use Rattle.strict.proofs.+parts_place.Given as goal

-- `strict::parts_place` meets its contract. The measure: the parts that are left. Assumes nothing.

abbrev pub decreases-parts_place : goal.decreases-parts_place
decreases-parts_place l = l.more
