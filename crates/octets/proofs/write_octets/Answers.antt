-- `octets::write_octets` meets its contract. Assumes nothing.
use mathlib.Core.Path.{◌≡◌, sym, ap, ◌∙◌}
use mathlib.Core.List.{◌++◌}
use Prim.Native.Nat.{◌/◌, ◌^◌, ◌<◌}
use native.Mathlib.Omega.{arith}
use lib.ListN.{length, drop}
use Rattle.notation.specs.BigEndian.{digits_of}
use Rattle.notation.proofs.DigitLaws.{digits_length}
use Rattle.address.specs.declared.Address.{Address}
use Rattle.address.specs.declared.Address.TheVariants.{V4, V6}
use Rattle.address.specs.Addresses.{width}
use Rattle.address.proofs.AnswerLaws.{write_short, write_fits}
use Rattle.octets.specs.Octets.{octets}
use Rattle.octets.proofs.OctetLaws.{octets_4, octets_6, octets_length, leaves_fit, leaves_behind}
use Rattle.octets.proofs.write_octets.Goals as goal

-- how many octets an address of a known kind has
count : (a k : Address) → a ≡ k → length (octets a) ≡ width k / 8
count a k e = octets_length a ∙ ap (λ b. width b / 8) e

pub returns-then-out-lt4 : goal.returns-then-out-lt4
returns-then-out-lt4 c =
    let l = count c.args.address (V4 _) c.in-V4.is in
    write_short _ _ 4 l c.if-out-lt4.true

pub returns-then-out-lt16 : goal.returns-then-out-lt16
returns-then-out-lt16 c =
    let l = count c.args.address (V6 _ _) c.in-V6.is in
    write_short _ _ 16 l c.if-out-lt16.true

pub returns-else-out-lt4 : goal.returns-else-out-lt4
returns-else-out-lt4 c =
    let e = c.in-V4.is in
    let l = count c.args.address (V4 _) e in
    let put = leaves_fit (digits_of 256 4 _) c.args.out.now _ 4 (digits_length 256 4 _) c.if-out-lt4.false c.put_four.ensures in
    write_fits _ _ 4 l c.if-out-lt4.false _ (put ∙ ap (λ bs. bs ++ drop 4 c.args.out.now) (sym (ap octets e ∙ octets_4 _)))

pub returns-else-out-lt16 : goal.returns-else-out-lt16
returns-else-out-lt16 c =
    let old = c.args.out.now in
    let hi = c.in-V6.hi in
    let lo = c.in-V6.lo in
    let small : lo < 2 ^ 64 = omega (arith, c) in
    let l = count c.args.address (V6 hi lo) c.in-V6.is in
    let one = c.put_eight in
    let two = c.put_eight-in-V6 in
    write_fits _ _ 16 l c.if-out-lt16.false _
    (
    leaves_behind 8 8 old one.new.out two.new.out (digits_of 256 8 hi) (digits_of 256 8 lo) (digits_length 256 8 hi) (digits_length 256 8 lo) c.if-out-lt16.false one.ensures two.ensures
    ∙ ap (λ bs. bs ++ drop 16 old) (sym (ap octets c.in-V6.is ∙ octets_6 hi lo small))
    )
