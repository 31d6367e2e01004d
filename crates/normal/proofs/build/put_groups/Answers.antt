use native.Mathlib.Omega.{arith}
use Rattle.output.proofs.PlacingLaws.{puts_none, puts_then}
use Rattle.normal.proofs.GroupsTextLaws.{no_group, first_group, next_group, all_groups}
use Rattle.normal.proofs.build.put_groups.Goals as goal

pub returns-in_default : goal.returns-in_default
returns-in_default c = rw (no_group _ c.in_default.len_below) (puts_none _ _)

pub loop-group-init : goal.loop-group-init
loop-group-init c = rw (← first_group c.args.groups.now c.in-len1-up.len_at_least) c.put_hex-next.ensures

pub loop-group-preserved : goal.loop-group-preserved
loop-group-preserved c =
    rw (← next_group c.args.groups.now c.loop-group.group-index c.in-len1-up.len_at_least c.loop-group-test.true)
    (puts_then c.loop-group.invariant (puts_then c.put-next.ensures c.put_hex-next-in-loop-group.ensures))

pub returns : goal.returns
returns c = rw (all_groups c.args.groups.now c.loop-group.group-index c.in-len1-up.len_at_least (omega arith)) at c.loop-group.invariant
