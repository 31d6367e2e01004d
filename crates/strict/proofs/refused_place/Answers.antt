use mathlib.Core.Path.{refl, ap}
use native.Mathlib.Omega.{arith}
use Rattle.address.specs.Answers.{refusal_number}
use Rattle.address.specs.declared.Refusal.TheVariants.{Malformed}
use Rattle.address.proofs.Claims.{one_number}
use Rattle.place.proofs.Claims.{place_most}
use Rattle.strict.proofs.ReadingLaws.{other_place, place_2}
use Rattle.strict.proofs.refused_place.Goals as goal

pub overflow_cast-result : goal.overflow_cast-result
overflow_cast-result c =
    let a = c.args in
    omega (arith, place_most a.family a.text.now, c.fault_place.ensures)

pub returns-in-Malformed : goal.returns-in-Malformed
returns-in-Malformed c = let a = c.args in place_2 a.family a.text.now a.why _ refl (ap refusal_number c.in-Malformed.is) _ c.fault_place.ensures

pub returns-in_default : goal.returns-in_default
returns-in_default c =
    let a = c.args in
    other_place a.family a.text.now a.why (refusal_number a.why) refl (λ two. c.in_default.not-Malformed (one_number a.why Malformed two))
