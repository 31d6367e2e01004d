-- `octets::put_eight` meets its contract. Assumes nothing.
use mathlib.Core.Path.{sym, ap, ◌∙◌}
use mathlib.Core.List.{◌++◌}
use Prim.Native.Nat.{◌/◌, ◌%◌}
use native.Mathlib.Nat.{mod-lt, div-add-mod'}
use lib.Dec.{lit<}
use lib.ListN.{drop}
use Rattle.notation.specs.BigEndian.{digits_of}
use Rattle.notation.proofs.DigitLaws.{digits_split, digits_length}
use Rattle.address.proofs.AnswerLaws.{write_short, write_fits}
use Rattle.octets.proofs.OctetLaws.{leaves_behind}
use Rattle.octets.proofs.put_eight.Goals as goal

pub returns-then-out-lt8 : goal.returns-then-out-lt8
returns-then-out-lt8 c = (write_short (digits_of 256 8 c.args.v) _ 8 (digits_length 256 8 _) c.if-out-lt8.true).1

pub returns : goal.returns
returns c =
    let two = c.put_four-2 in
    let v = c.args.v in
    let hi = v / 4294967296 in
    let lo = v % 4294967296 in
    let old = c.args.out.now in
    let digits = digits_split 256 (lit< tt) 4 4 hi lo (mod-lt v (lit< tt)) in
    (write_fits (digits_of 256 8 v) old 8 (digits_length 256 8 v) c.if-out-lt8.false _
    (
    leaves_behind 4 4 old c.put_four.new.out two.new.out (digits_of 256 4 hi) (digits_of 256 4 lo) (digits_length 256 4 hi) (digits_length 256 4 lo) c.if-out-lt8.false c.put_four.ensures two.ensures
    ∙ ap (λ l. l ++ drop 8 old) (sym digits ∙ ap (digits_of 256 8) (div-add-mod' v 4294967296))
    )).1
