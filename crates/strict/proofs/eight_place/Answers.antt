-- `strict::eight_place` meets its contract. Assumes nothing.
use mathlib.Core.Path.{◌≡◌, sym, ap₂, ◌∙◌}
use mathlib.Core.Bool.{true}
use Prim.Native.Nat.{◌+◌, ◌<◌, max}
use native.Mathlib.Omega.{arith}
use lib.ListN.{length}
use Rattle.place.specs.Place.{byte_then, begins, behind_place}
use Rattle.strict.proofs.CodeLaws.{begins_some, eight_groups, eight_gap, gap_within, rest_within}
use Rattle.strict.proofs.eight_place.Goals.{Else-not-has}
use Rattle.strict.proofs.eight_place.Goals as goal

-- where there is a colon, there is a byte
colon : (c : Else-not-has) → begins 58 c.args.text.now ≡ true
colon c = sym c.has.ensures ∙ c.if-not-has.false

some_byte : (c : Else-not-has) → 0 < length c.args.text.now
some_byte c = begins_some 58 c.args.text.now (colon c)

pub returns-then-not-has : goal.returns-then-not-has
returns-then-not-has c =
    c.groups_place-groups.ensures ∙ eight_groups c.args.text.now (sym c.has.ensures ∙ c.if-not-has.true)

pub slice_bounds-gap_place-count : goal.slice_bounds-gap_place-count
slice_bounds-gap_place-count c = omega (arith, some_byte (goal.at.slice_bounds-gap_place-count c).Else-not-has)

pub slice_bounds-gap_place-start : goal.slice_bounds-gap_place-start
slice_bounds-gap_place-start c = omega (arith, some_byte (goal.at.slice_bounds-gap_place-start c).Else-not-has)

pub overflow_add-gap_place : goal.overflow_add-gap_place
overflow_add-gap_place c =
    let t = c.args.text.now in
    omega (arith, some_byte (goal.at.overflow_add-gap_place c).Else-not-has, c.gap_place.ensures, rest_within (byte_then 58 (behind_place 7)) (gap_within 7) 1 t)

pub returns : goal.returns
returns c =
    c.max.ensures
    ∙ ap₂ (λ a b. max (1 + a) b) c.gap_place.ensures c.groups_place-groups.ensures
    ∙ eight_gap c.args.text.now (colon (goal.at.returns c).Else-not-has)
