-- `gather::put_run` meets its contract. Assumes nothing.
use mathlib.Core.Path.{sym, ◌∙◌}
use native.Mathlib.Omega.{arith}
use Rattle.output.proofs.PlacingLaws.{all_room}
use Rattle.records.proofs.RecordLaws.{fill_whole}
use Rattle.runs.proofs.RunLaws.{puts_same, rest_room}
use Rattle.record_lists.proofs.ListLaws.{size_back}
use Rattle.gather.specs.Inner.{size_of}
use Rattle.gather.proofs.PutLaws.{alone_records, alone_length, alone_room}
use Rattle.gather.proofs.put_run.Goals as goal

pub block_of-requires : goal.block_of-requires
block_of-requires c = omega (arith, c.requires.0.range.rises, c.requires.0.range.below)

pub overflow_add-result : goal.overflow_add-result
overflow_add-result c =
    omega (arith, alone_room c.requires.0 c.if-run.true c.args.out.now c.requires.1)

pub returns-then-run : goal.returns-then-run
returns-then-run c =
    let a = c.args in
    let size = size_back (size_of a.family) c.requires.0.range.sized in
    let room = alone_room c.requires.0 c.if-run.true c.args.out.now c.requires.1 in
    rw c.size.ensures (puts_same (c.block_of.ensures.0 ∙ sym (alone_records c.requires.0 c.if-run.true)) (alone_length c.requires.0 c.if-run.true) room
    (c.fill_record.ensures ∙ fill_whole c.block_of.result _ (rest_room a.out.now a.run.at _ _ c.block_of.ensures.1 (omega (arith, size, room)))))

pub returns : goal.returns
returns c = all_room c.put_range.ensures c.requires.1
