-- `address_groups::from_groups` meets its contract. Assumes nothing.
use mathlib.Core.Path.{◌≡◌, sym, ap, ap₂, ◌∙◌}
use native.Mathlib.Omega.{arith}
use borrow.Author.Rules.{rules}
use lib.ListN.{length, drop, length-drop}
use lib.Seq.{take_all}
use Rattle.notation.specs.BigEndian.{number_of}
use Rattle.notation.proofs.DigitLaws.{take_four, four_number}
use Rattle.address.specs.declared.Address.TheVariants.{V6}
use Rattle.address_groups.specs.Groups.{groups_address}
use Rattle.address_groups.proofs.from_groups.Goals as goal

pub returns : goal.returns
unfolding groups_address
returns c =
    let gs = c.args.groups in
    let e : length gs ≡ 8 = search rules in
    let low = take_four gs 0 (omega arith) in
    let high = sym (take_all 4 (drop 4 gs) (omega (arith, length-drop 4 gs))) ∙ take_four gs 4 (omega arith) in
    ap₂ V6
    (c.half.ensures ∙ sym (ap (number_of 65536) low ∙ four_number 65536 _ _ _ _))
    (c.half-2.ensures ∙ sym (ap (number_of 65536) high ∙ four_number 65536 _ _ _ _))
