use mathlib.Core.Path.{sym, ap, ◌∙◌}
use Prim.Native.Nat.{◌+◌, ◌-◌}
use native.Mathlib.Omega.{arith}
use Rattle.place.specs.Place.{parts_place}
use Rattle.strict.proofs.CodeLaws.{on_inside, parts_last, parts_stop, parts_go, parts_within, rest_within}
use Rattle.strict.proofs.+parts_place.Goals as goal

pub returns-then-more-eq0 : goal.returns-then-more-eq0
returns-then-more-eq0 t c = let a = c.args in parts_last a.text.now _ c.part_front-n.ensures a.more c.if-more-eq0.true

pub returns-then-not-goes_on : goal.returns-then-not-goes_on
returns-then-not-goes_on t c =
    let a = c.args in
    parts_stop a.text.now _ c.part_front-n.ensures a.more c.if-more-eq0.false (sym c.goes_on.ensures ∙ c.if-not-goes_on.true)

pub overflow_add-result-2 : goal.overflow_add-result-2
overflow_add-result-2 t c =
    let a = c.args in
    let inside = on_inside 46 c.part_front-n.result a.text.now (sym c.goes_on.ensures ∙ c.if-not-goes_on.false) in
    omega (arith, inside.1, c.parts_place.ensures, rest_within (parts_place (a.more - 1)) (parts_within (a.more - 1)) (c.part_front-n.result + 1) a.text.now)

pub returns : goal.returns
returns t c =
    let a = c.args in
    ap (λ r. c.part_front-n.result + 1 + r) c.parts_place.ensures
    ∙ parts_go a.text.now _ c.part_front-n.ensures a.more c.if-more-eq0.false (sym c.goes_on.ensures ∙ c.if-not-goes_on.false)
