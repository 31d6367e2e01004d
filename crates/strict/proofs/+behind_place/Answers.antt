use mathlib.Core.Path.{sym, ap, ◌∙◌}
use Prim.Native.Nat.{◌+◌, ◌-◌}
use native.Mathlib.Omega.{arith}
use Rattle.std.specs.Prelude.{max}
use Rattle.place.specs.Place.{behind_place}
use Rattle.strict.proofs.CodeLaws.{on_inside, behind_none, behind_one, behind_stop, behind_go, behind_within, rest_within}
use Rattle.strict.proofs.+behind_place.Goals as goal

pub returns-then-room-eq0 : goal.returns-then-room-eq0
returns-then-room-eq0 t c = let a = c.args in behind_none a.room a.text.now c.if-room-eq0.true

pub returns-then-room-eq1 : goal.returns-then-room-eq1
returns-then-room-eq1 t c = let a = c.args in behind_one a.text.now _ c.group_front-n.ensures a.room c.if-room-eq1.true

pub returns-then-not-goes_on : goal.returns-then-not-goes_on
returns-then-not-goes_on t c =
    let a = c.args in
    c.max.ensures
    ∙ behind_stop a.text.now _ c.group_front-n.ensures _ c.parts_place-dotted.ensures a.room (omega (arith, c.if-room-eq0.false, c.if-room-eq1.false))
    (sym c.goes_on.ensures ∙ c.if-not-goes_on.true)

pub overflow_add-n-3 : goal.overflow_add-n-3
overflow_add-n-3 t c =
    let a = c.args in
    let inside = on_inside 58 c.group_front-n.result a.text.now (sym c.goes_on.ensures ∙ c.if-not-goes_on.false) in
    omega (arith, inside.1, c.behind_place.ensures, rest_within (behind_place (a.room - 1)) (behind_within (a.room - 1)) (c.group_front-n.result + 1) a.text.now)

pub returns : goal.returns
returns t c =
    let a = c.args in
    c.max-2.ensures
    ∙ ap (λ r. max c.parts_place-dotted.result (c.group_front-n.result + 1 + r)) c.behind_place.ensures
    ∙ behind_go a.text.now _ c.group_front-n.ensures _ c.parts_place-dotted.ensures a.room (omega (arith, c.if-room-eq0.false, c.if-room-eq1.false))
    (sym c.goes_on.ensures ∙ c.if-not-goes_on.false)
