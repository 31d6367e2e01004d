-- `classes::join` meets its contract. Assumes nothing.
use mathlib.Core.Path.{◌∙◌}
use native.Mathlib.Omega.{arith}
use Rattle.classes.specs.Classes.{class_a, class_b, class_c}
use Rattle.classes.proofs.ClassLaws.{network_a, network_b, network_c, network_ab, network_bc, network_above, join_none, join_class}
use Rattle.classes.proofs.join.Goals as goal

pub returns-in-0-to-127 : goal.returns-in-0-to-127
returns-in-0-to-127 c =
    let a = c.args in
    c.host_address.ensures ∙ join_class a.network a.host class_a (network_a a.network (omega arith))

pub returns-in-32768-to-49151 : goal.returns-in-32768-to-49151
returns-in-32768-to-49151 c =
    let a = c.args in
    c.host_address-in-32768-to-49151.ensures ∙ join_class a.network a.host class_b (network_b a.network (omega arith) (omega arith))

pub returns-in-12582912-to-14680063 : goal.returns-in-12582912-to-14680063
returns-in-12582912-to-14680063 c =
    let a = c.args in
    c.host_address-in-12582912-to-14680063.ensures ∙ join_class a.network a.host class_c (network_c a.network (omega arith) (omega arith))

pub returns-in_default : goal.returns-in_default
returns-in_default c =
    let a = c.args in
    join_none a.network a.host (network_ab a.network (omega arith) (omega arith))

pub returns-in_default-2 : goal.returns-in_default-2
returns-in_default-2 c =
    let a = c.args in
    join_none a.network a.host (network_bc a.network (omega arith) (omega arith))

pub returns-in_default-3 : goal.returns-in_default-3
returns-in_default-3 c =
    let a = c.args in
    join_none a.network a.host (network_above a.network (omega arith))
