use Rattle.strict.proofs.+groups_place.Given as goal

-- `strict::groups_place` meets its contract. The measure: the groups that are to come. Assumes nothing.

abbrev pub decreases-groups_place : goal.decreases-groups_place
decreases-groups_place l = l.more
