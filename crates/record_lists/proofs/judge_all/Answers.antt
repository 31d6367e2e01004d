-- `record_lists::judge_all` meets its contract. Assumes nothing.
use Prim.Native.Nat.{◌+◌, ◌*◌, ◌≤◌, ◌<◌}
use native.Mathlib.Omega.{arith}
use Rattle.notation.proofs.OptionLaws.{passed_on}
use Rattle.wide.specs.Value.{value}
use Rattle.record_lists.proofs.ListLaws.{judging_start, judging_next, judging_bad, judging_end, next_room, one_size, list_small, part_front}
use Rattle.record_lists.proofs.judge_all.Goals.{In-loop-i}
use Rattle.record_lists.proofs.judge_all.Goals as goal

pub loop-i-init : goal.loop-i-init
loop-i-init c = let a = c.args in judging_start a.size a.n a.records.now (value c.from-last.result) c.from-last.ensures

-- the next record lies in the list
inside : (c : In-loop-i) → c.loop-i.i < c.args.n
inside c = omega (arith, c.loop-i-test.true)

room : (c : In-loop-i) → c.loop-i.i * c.args.size + c.args.size ≤ 8704
room c =
    let s = c in
    let r = next_room s.requires.0 s.requires.1 c.loop-i.invariant (inside c) in
    omega (arith, r, s.requires.1, list_small s.args.size s.args.n s.requires.0 s.requires.2)

pub overflow_mul-at : goal.overflow_mul-at
overflow_mul-at c = omega (arith, room (goal.at.overflow_mul-at c).In-loop-i)

pub overflow_add-at : goal.overflow_add-at
overflow_add-at c = omega (arith, room (goal.at.overflow_add-at c).In-loop-i)

pub slice_bounds-judge_one-end : goal.slice_bounds-judge_one-end
slice_bounds-judge_one-end c = let s = (goal.at.slice_bounds-judge_one-end c).In-loop-i in next_room s.requires.0 s.requires.1 c.loop-i.invariant (inside (goal.at.slice_bounds-judge_one-end c).In-loop-i)

pub judge_one-requires : goal.judge_one-requires
judge_one-requires c =
    let s = (goal.at.judge_one-requires c).In-loop-i in
    one_size s.requires.0 s.requires.1 c.loop-i.invariant (inside (goal.at.judge_one-requires c).In-loop-i) _ (part_front s.args.size (c.loop-i.i * s.args.size) s.args.records.now)

pub returns-in_err-next : goal.returns-in_err-next
returns-in_err-next c =
    let s = (goal.at.returns-in_err-next c).In-loop-i in
    rw (passed_on c.from_residual.ensures.1)
    (judging_bad s.requires.0 s.requires.1 c.loop-i.invariant (inside (goal.at.returns-in_err-next c).In-loop-i) _ (part_front s.args.size (c.loop-i.i * s.args.size) s.args.records.now)
    c.in_err-next.field-0.0 c.in_err-next.ensures)

pub loop-i-preserved : goal.loop-i-preserved
loop-i-preserved c =
    let s = (goal.at.loop-i-preserved c).In-loop-i in
    let good = c.in_ok-next.ensures in
    judging_next s.requires.0 s.requires.1 c.loop-i.invariant (inside (goal.at.loop-i-preserved c).In-loop-i) _ (part_front s.args.size (c.loop-i.i * s.args.size) s.args.records.now)
    good.0 _ good.1 _ c.still_rises-rises.ensures

pub returns : goal.returns
returns c = judging_end c.requires.0 c.requires.1 c.loop-i.invariant (omega (arith, c.loop-i-test.false))
