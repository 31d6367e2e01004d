-- `runs::put_one` meets its contract. Assumes nothing.
use Rattle.std.proofs.Common.{sym, ◌∙◌, arith}
use Rattle.records.proofs.RecordLaws.{fill_whole}
use Rattle.runs.specs.Runs.{lane_of}
use Rattle.runs.proofs.RunLaws.{puts_same, rest_room, lane_length}
use Rattle.runs.proofs.put_one.Goals as goal

pub overflow_add-result : goal.overflow_add-result
overflow_add-result c = let size = c.lane_size.ensures c.args.hi in omega (arith, c.requires.2)

pub returns : goal.returns
returns c =
    let a = c.args in
    let size = c.lane_size.ensures a.hi in
    let room = rest_room a.out.now a.at _ _ c.lane_block.ensures.1 c.requires.2 in
    puts_same c.lane_block.ensures.0 (lane_length (lane_of a.longest a.hi) a.start a.bits ∙ sym size) (rw size c.requires.2)
    (c.fill_record.ensures ∙ fill_whole c.lane_block.result _ room)
