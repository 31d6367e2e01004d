-- `loose::leading_loose` meets its contract. Assumes nothing.
use Rattle.std.specs.Prelude.{Some, None}
use Prim.Native.Nat.{◌≤◌}
use native.Mathlib.Omega.{arith}
use lib.ListN.{length}
use Rattle.loose.proofs.PartLaws.{mark_le, found_is, found_short}
use Rattle.loose.proofs.leading_loose.Goals.{After-mark-skip}
use Rattle.loose.proofs.leading_loose.Goals as goal

-- the mark lies in the text
inside : (c : After-mark-skip) → c.mark-skip.result ≤ length c.args.text.now
inside c = let k = c.mark-skip.ensures in omega (arith, mark_le c.args.text.now)

pub slice_bounds-leading_number-count : goal.slice_bounds-leading_number-count
slice_bounds-leading_number-count c = inside (goal.at.slice_bounds-leading_number-count c).After-mark-skip

pub slice_bounds-leading_number-start : goal.slice_bounds-leading_number-start
slice_bounds-leading_number-start c = inside (goal.at.slice_bounds-leading_number-start c).After-mark-skip

pub returns-in_err-value : goal.returns-in_err-value
returns-in_err-value c =
    rw c.from_residual.ensures ((found_is c.args.text.now c.mark-skip.result c.base.result None c.mark-skip.ensures c.base.ensures c.in_err-value.ensures))

pub overflow_add-result : goal.overflow_add-result
overflow_add-result c =
    let t = c.args.text.now in
    let k = inside (goal.at.overflow_add-result c).After-mark-skip in
    omega (arith, found_short t c.mark-skip.result c.base.result 4294967295 c.in_ok-value.value c.in_ok-value.count c.in_ok-value.ensures)

pub returns : goal.returns
returns c =
    found_is c.args.text.now c.mark-skip.result c.base.result (Some (c.in_ok-value.value, c.in_ok-value.count))
    c.mark-skip.ensures
    c.base.ensures
    c.in_ok-value.ensures
