use Rattle.strict.proofs.+behind_place.Given as goal

-- `strict::behind_place` meets its contract. The measure: the groups that have room. Assumes nothing.

abbrev pub decreases-behind_place : goal.decreases-behind_place
decreases-behind_place l = l.room
