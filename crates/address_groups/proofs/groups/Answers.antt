-- `address_groups::groups` meets its contract: four digits of each half. Assumes nothing.
use mathlib.Core.Path.{sym, ap₂, ◌∙◌}
use mathlib.Core.List.{◌++◌}
use Prim.Native.Nat.{◌<◌, ◌^◌}
use native.Mathlib.Omega.{arith}
use lib.Dec.{lit<}
use Rattle.notation.proofs.DigitLaws.{digits_split, four_digits}
use Rattle.address_groups.specs.Groups.{groups_of}
use Rattle.address_groups.proofs.groups.Goals as goal

pub returns : goal.returns
unfolding groups_of
returns c =
    let h = c.args.hi in
    let l = c.args.lo in
    let hs : h < 2 ^ 64 = omega arith in
    let ls : l < 2 ^ 64 = omega arith in
    sym (digits_split 65536 (lit< tt) 4 4 h l ls ∙ ap₂ ◌++◌ (four_digits 65536 h hs (lit< tt)) (four_digits 65536 l ls (lit< tt)))
