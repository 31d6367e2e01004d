use mathlib.Core.Path.{ap₂, ◌∙◌}
use native.Mathlib.Omega.{arith}
use Rattle.std.specs.Prelude.{max}
use Rattle.strict.proofs.CodeLaws.{depth_either, place_4, place_6, place_0}
use Rattle.strict.proofs.+fault_place.Goals as goal

pub returns-then-family-eq4 : goal.returns-then-family-eq4
returns-then-family-eq4 t c = let a = c.args in c.parts_place.ensures ∙ place_4 a.text.now a.family c.if-family-eq4.true

pub returns-then-family-eq6 : goal.returns-then-family-eq6
returns-then-family-eq6 t c = let a = c.args in c.eight_place.ensures ∙ place_6 a.text.now a.family c.if-family-eq6.true

-- either family asks for one at a time
pub fault_place-requires : goal.fault_place-requires
fault_place-requires t c = (omega (arith, depth_either c.args.family c.if-family-eq4.false c.if-family-eq6.false), tt)

pub fault_place-requires-2 : goal.fault_place-requires-2
fault_place-requires-2 t c = (omega (arith, depth_either c.args.family c.if-family-eq4.false c.if-family-eq6.false), tt)

pub returns : goal.returns
returns t c =
    let a = c.args in
    c.max.ensures
    ∙ ap₂ max c.fault_place.ensures c.fault_place-2.ensures
    ∙ place_0 a.text.now a.family c.if-family-eq4.false c.if-family-eq6.false
