-- `normal::build::put_eight` meets its contract. Assumes nothing.
use borrow.Author.Rules.{rules}
use Rattle.output.proofs.PlacingLaws.{puts_then}
use Rattle.normal.proofs.GroupsTextLaws.{no_run, around_run}
use Rattle.normal.proofs.build.put_eight.Goals.{Start}
use Rattle.normal.proofs.build.put_eight.Goals as goal

pub returns-then-length-lt2 : goal.returns-then-length-lt2
returns-then-length-lt2 c =
    rw (← no_run c.args.groups c.longest_run-run.ensures c.if-length-lt2.true) c.put_groups.ensures

pub returns : goal.returns
returns c =
    rw (← around_run c.args.groups c.longest_run-run.ensures (search rules) c.if-length-lt2.false)
    (puts_then c.put_groups-a.ensures (puts_then c.put-b.ensures (puts_then c.put-c.ensures c.put_groups-2.ensures)))
