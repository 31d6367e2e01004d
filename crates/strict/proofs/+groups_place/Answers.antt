use mathlib.Core.Path.{sym, ap, ◌∙◌}
use Prim.Native.Nat.{◌+◌, ◌-◌}
use native.Mathlib.Omega.{arith}
use Rattle.std.specs.Prelude.{max}
use Rattle.strict.proofs.CodeLaws.{on_inside, groups_last, groups_stop, groups_go, after_colon, after_is, after_within, rest_within}
use Rattle.strict.proofs.+groups_place.Goals as goal

pub returns-then-more-eq0 : goal.returns-then-more-eq0
returns-then-more-eq0 t c = let a = c.args in groups_last a.text.now _ c.group_front-n.ensures a.more c.if-more-eq0.true

pub returns-then-not-goes_on : goal.returns-then-not-goes_on
returns-then-not-goes_on t c =
    let a = c.args in
    c.max.ensures
    ∙ groups_stop a.text.now _ c.group_front-n.ensures a.more _ c.if-more-eq0.false c.tail_place-dotted.ensures (sym c.goes_on.ensures ∙ c.if-not-goes_on.true)

-- what the second colon and the groups behind the first give
pub overflow_add-n-2 : goal.overflow_add-n-2
overflow_add-n-2 t c =
    let a = c.args in
    let inside = on_inside 58 c.group_front-n.result a.text.now (sym c.goes_on.ensures ∙ c.if-not-goes_on.false) in
    let after = after_is (a.more - 1) _ c.gap_place.result c.groups_place.result c.max-behind.result c.max-behind.ensures c.gap_place.ensures c.groups_place.ensures in
    omega (arith, inside.1, after, rest_within (after_colon (a.more - 1)) (after_within (a.more - 1)) (c.group_front-n.result + 1) a.text.now)

pub returns : goal.returns
returns t c =
    let a = c.args in
    c.max-2.ensures
    ∙ ap (λ r. max c.tail_place-dotted.result (c.group_front-n.result + 1 + r)) (after_is (a.more - 1) _ c.gap_place.result c.groups_place.result c.max-behind.result c.max-behind.ensures c.gap_place.ensures c.groups_place.ensures)
    ∙ groups_go a.text.now _ c.group_front-n.ensures a.more _ c.if-more-eq0.false c.tail_place-dotted.ensures (sym c.goes_on.ensures ∙ c.if-not-goes_on.false)
