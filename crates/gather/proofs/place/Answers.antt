-- `gather::place` meets its contract. Assumes nothing.
use mathlib.Core.Logic.{inl, inr}
use Prim.Native.Nat.{◌<◌}
use native.Mathlib.Omega.{arith}
use borrow.Author.Tests.{eq-eqb, ne_eqb}
use lib.ListN.{length}
use Rattle.gather.proofs.place.Goals.{Else-order-eq0}
use Rattle.gather.proofs.place.Goals as goal

pub returns-then-order-eq0 : goal.returns-then-order-eq0
returns-then-order-eq0 c = rw (eq-eqb _ 0 c.if-order-eq0.true)

inside : (c : Else-order-eq0) → c.args.j < length c.args.order.now
inside c = elim c.requires.1 [ inl e ↦ absurd (c.if-order-eq0.false e) | inr h ↦ h ]

pub offset_bounds-order-j : goal.offset_bounds-order-j
offset_bounds-order-j c = omega (arith, c.requires.0)

pub bounds-order-j : goal.bounds-order-j
bounds-order-j c = inside (goal.at.bounds-order-j c).Else-order-eq0

pub overflow_cast-result : goal.overflow_cast-result
overflow_cast-result c = omega (arith, c.type_inv.order c.args.j)

pub returns : goal.returns
returns c = rw (ne_eqb _ 0 c.if-order-eq0.false)
