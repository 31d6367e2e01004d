-- `sheet::sort_rows` meets its contract. Assumes nothing.
use mathlib.Core.Path.{◌≡◌, subst}
use Prim.Native.Nat.{◌<◌}
use native.Mathlib.Omega.{arith}
use lib.ListN.{length, length-set}
use Rattle.sheet.proofs.CallLaws.{Keyed, keyed_on, order_sorted}
use Rattle.sheet.proofs.sort_rows.Goals as goal

pub loop-i-preserved : goal.loop-i-preserved
loop-i-preserved c =
    let v = c.loop-i.invariant in
    let h : c.loop-i.i < length c.loop-i.hi = omega (arith, c.loop-i-test.true, c.requires.0, v.1) in
    let l : c.loop-i.i < length c.loop-i.lo = omega (arith, c.loop-i-test.true, c.requires.0, v.2) in
    (keyed_on _ _ _ _ v.0 h l _ _ c.number-number.ensures, simp length-set v.1, simp length-set v.2)

pub returns : goal.returns
returns c =
    let v = c.loop-i.invariant in
    let end : c.loop-i.i ≡ length c.args.rows.now = omega (arith, c.loop-i-test.false, c.loop-i.auto.i-end) in
    let keyed = subst (Keyed c.loop-i.hi c.loop-i.lo c.args.rows.now) end v.0 in
    order_sorted _ _ _ c.requires.0 v.1 v.2 keyed c.requires.1 c.sort_keys.ensures
