-- `runs::put_ipv6` meets its contract. Assumes nothing.
use Rattle.std.proofs.Common.{◌≡◌, ◌+◌, ◌-◌, ◌≤◌, leb, length, sym, ap, ◌∙◌, ltb-false, ltb-true, arith}
use Rattle.wide.specs.Value.{value}
use Rattle.cover.specs.Blocks.{range_blocks}
use Rattle.output.proofs.PlacingLaws.{all_put, puts_length}
use Rattle.records.specs.Records.{records_of}
use Rattle.wide.proofs.Order.{less_means}
use Rattle.runs.proofs.RoomLaws.{none_put, room_short, room_whole}
use Rattle.runs.proofs.put_ipv6.Goals.{After-fits_ipv6, Else-not-fits_ipv6}
use Rattle.runs.proofs.put_ipv6.Goals as goal

pub returns-then-lt : goal.returns-then-lt
returns-then-lt c = none_put 128 _ _ (ltb-true _ _ (sym (c.lt.ensures ∙ less_means c.args.last c.args.first (omega arith) (omega arith)) ∙ c.if-lt.true)) _ _

-- the test of the room
tested : (f : After-fits_ipv6) → let a = f.args in f.fits_ipv6.result ≡ leb (length (records_of 128 (range_blocks 128 (value a.first) (value a.last)))) (length a.out.now - a.at)
tested f = f.fits_ipv6.ensures ∙ ap (leb _) f.room_from.ensures

pub returns-then-not-fits_ipv6 : goal.returns-then-not-fits_ipv6
returns-then-not-fits_ipv6 c = room_short 128 _ _ _ _ (sym (tested (goal.at.returns-then-not-fits_ipv6 c).After-fits_ipv6) ∙ c.if-not-fits_ipv6.true)

rises : (f : After-fits_ipv6) → value f.args.first ≤ value f.args.last
rises f = ltb-false _ _ (sym (f.lt.ensures ∙ less_means f.args.last f.args.first (omega arith) (omega arith)) ∙ f.if-lt.false)

room : (e : Else-not-fits_ipv6) → let a = e.args in a.at + length (records_of 128 (range_blocks 128 (value a.first) (value a.last))) ≤ length a.out.now
room e = let a = e.args in room_whole 128 (value a.first) (value a.last) a.out.now a.at (ltb-false _ _ (sym (e.lt.ensures ∙ less_means e.args.last e.args.first (omega arith) (omega arith)) ∙ e.if-lt.false)) (sym (e.fits_ipv6.ensures ∙ ap (leb _) e.room_from.ensures) ∙ e.if-not-fits_ipv6.false)

pub put_runs-requires : goal.put_runs-requires
put_runs-requires c = (rises (goal.at.put_runs-requires c).After-fits_ipv6, room (goal.at.put_runs-requires c).Else-not-fits_ipv6)

pub shape_of-out : goal.shape_of-out
shape_of-out c = puts_length c.put_runs.ensures

pub returns : goal.returns
returns c = all_put c.put_runs.ensures (room (goal.at.returns c).Else-not-fits_ipv6)
