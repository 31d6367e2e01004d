-- `runs::put_ipv4` meets its contract. Assumes nothing.
use Rattle.std.proofs.Common.{◌≡◌, ◌+◌, ◌-◌, ◌≤◌, leb, length, sym, ap, ◌∙◌, rules}
use Rattle.cover.specs.Blocks.{range_blocks}
use Rattle.output.proofs.PlacingLaws.{all_put, puts_length}
use Rattle.records.specs.Records.{records_of}
use Rattle.runs.proofs.LaneLaws.{narrow_records}
use Rattle.runs.proofs.RoomLaws.{none_put, room_short, room_whole}
use Rattle.runs.proofs.put_ipv4.Goals.{After-fits_ipv4, Else-not-fits_ipv4}
use Rattle.runs.proofs.put_ipv4.Goals as goal

pub returns-then-last-first : goal.returns-then-last-first
returns-then-last-first c = none_put 32 _ _ c.if-last-first.true _ _

-- the test of the room
tested : (f : After-fits_ipv4) → let a = f.args in f.fits_ipv4.result ≡ leb (length (records_of 32 (range_blocks 32 a.first a.last))) (length a.out.now - a.at)
tested f = f.fits_ipv4.ensures ∙ ap (leb _) f.room_from.ensures

pub returns-then-not-fits_ipv4 : goal.returns-then-not-fits_ipv4
returns-then-not-fits_ipv4 c = room_short 32 _ _ _ _ (sym (tested (goal.at.returns-then-not-fits_ipv4 c).After-fits_ipv4) ∙ c.if-not-fits_ipv4.true)

room : (e : Else-not-fits_ipv4) → let a = e.args in a.at + length (records_of 32 (range_blocks 32 a.first a.last)) ≤ length a.out.now
room e = let a = e.args in room_whole 32 a.first a.last a.out.now a.at e.if-last-first.false (sym (e.fits_ipv4.ensures ∙ ap (leb _) e.room_from.ensures) ∙ e.if-not-fits_ipv4.false)

pub put_run-requires : goal.put_run-requires
put_run-requires c =
    record { rises = search rules; short = search rules; below = search rules; room = rw (narrow_records (goal.at.put_run-requires c).After-fits_ipv4.args.first (goal.at.put_run-requires c).After-fits_ipv4.args.last) (room (goal.at.put_run-requires c).Else-not-fits_ipv4) }

pub shape_of-out : goal.shape_of-out
shape_of-out c = puts_length c.put_run.ensures

pub returns : goal.returns
returns c =
    let a = (goal.at.returns c).After-fits_ipv4.args in
    all_put (rw (← narrow_records a.first a.last) c.put_run.ensures) (room (goal.at.returns c).Else-not-fits_ipv4)
