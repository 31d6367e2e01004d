-- `ipv6_text::read_eight` meets its contract. Assumes nothing.
use mathlib.Core.Path.{sym, ap, ◌∙◌}
use Rattle.std.specs.Prelude.{Some}
use Rattle.ipv6_text.proofs.PlaceLaws.{layout_full}
use Rattle.ipv6_text.proofs.read_eight.Goals as goal

pub returns-in_err-layout : goal.returns-in_err-layout
returns-in_err-layout c = rw c.from_residual.ensures c.in_err-layout.ensures.groups

pub returns-then-count-eq8 : goal.returns-then-count-eq8
returns-then-count-eq8 c = sym (layout_full _ _ _ c.in_ok-layout.ensures c.if-count-eq8.true)

pub expand-requires : goal.expand-requires
expand-requires c = let l = c.in_ok-layout.ensures in (l.places, l.order.0, l.order.1)

pub returns : goal.returns
returns c = ap Some c.expand.ensures ∙ c.in_ok-layout.ensures.groups
