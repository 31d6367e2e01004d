-- `strict::gap_place` meets its contract. Assumes nothing.
use mathlib.Core.Path.{◌≡◌, sym, ap, ◌∙◌}
use mathlib.Core.Bool.{true}
use Prim.Native.Nat.{◌+◌, ◌<◌}
use native.Mathlib.Omega.{arith}
use lib.ListN.{length}
use Rattle.place.specs.Place.{begins, behind_place}
use Rattle.strict.proofs.CodeLaws.{begins_some, byte_none, byte_some, behind_within, rest_within}
use Rattle.strict.proofs.gap_place.Goals.{Else-not-has}
use Rattle.strict.proofs.gap_place.Goals as goal

-- where there is a second colon, there is a byte
colon : (c : Else-not-has) → begins 58 c.args.text.now ≡ true
colon c = sym c.has.ensures ∙ c.if-not-has.false

some_byte : (c : Else-not-has) → 0 < length c.args.text.now
some_byte c = begins_some 58 c.args.text.now (colon c)

pub returns-then-not-has : goal.returns-then-not-has
returns-then-not-has c =
    let a = c.args in
    byte_none 58 (behind_place a.room) a.text.now (sym c.has.ensures ∙ c.if-not-has.true)

pub slice_bounds-behind_place-count : goal.slice_bounds-behind_place-count
slice_bounds-behind_place-count c = omega (arith, some_byte (goal.at.slice_bounds-behind_place-count c).Else-not-has)

pub slice_bounds-behind_place-start : goal.slice_bounds-behind_place-start
slice_bounds-behind_place-start c = omega (arith, some_byte (goal.at.slice_bounds-behind_place-start c).Else-not-has)

pub overflow_add-result : goal.overflow_add-result
overflow_add-result c =
    let a = c.args in
    omega (arith, some_byte (goal.at.overflow_add-result c).Else-not-has, c.behind_place.ensures, rest_within (behind_place a.room) (behind_within a.room) 1 a.text.now)

pub returns : goal.returns
returns c =
    let a = c.args in
    ap (λ r. 1 + r) c.behind_place.ensures ∙ byte_some 58 (behind_place a.room) a.text.now (colon (goal.at.returns c).Else-not-has)
