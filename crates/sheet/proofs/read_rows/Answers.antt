-- `sheet::read_rows` meets its contract. Assumes nothing.
use Prim.Native.Nat.{◌+◌, ◌<◌}
use native.Mathlib.Omega.{arith}
use lib.ListN.{length}
use Rattle.notation.proofs.SliceLaws.{to_end_shorter}
use Rattle.sheet_lines.proofs.EntryLaws.{no_line_says}
use Rattle.sheet.proofs.PassLaws.{finished_says, read_many, read_bad, read_on, read_done}
use Rattle.sheet.proofs.read_rows.Goals as goal

pub returns-then-n-ge1024 : goal.returns-then-n-ge1024
returns-then-n-ge1024 c = read_many c.loop-rest.invariant.0 c.loop-rest-test.true c.if-n-ge1024.true

pub returns-in_err-rows : goal.returns-in_err-rows
returns-in_err-rows c =
    rw c.from_residual.ensures (read_bad c.loop-rest.invariant.0 _ c.find-end.ensures c.loop-rest-test.true (no_line_says _ c.in_err-rows.ensures))

pub loop-rest-preserved : goal.loop-rest-preserved
loop-rest-preserved c =
    let l = c.loop-rest in
    let is = finished_says l.rest.now c.find-end.result _ c.in_ok-rows.ensures in
    let row : l.n < length l.rows = omega (arith, l.auto.rows, c.requires, c.if-n-ge1024.false) in (
      read_on l.invariant.0 _ c.find-end.ensures is.0 _ is.1 c.if-n-ge1024.false row,
      to_end_shorter (c.find-end.result + 1) _ l.rest.now l.invariant.1,
    )

pub returns : goal.returns
returns c = read_done c.loop-rest.invariant.0 c.loop-rest-test.false
