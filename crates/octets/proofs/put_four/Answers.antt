-- `octets::put_four` meets its contract. Assumes nothing.
use mathlib.Core.Path.{sym, ap, ◌∙◌}
use mathlib.Core.List.{[], ◌∷◌, ◌++◌}
use Prim.Native.Nat.{◌/◌, ◌%◌, ◌^◌, ◌<◌}
use native.Mathlib.Omega.{arith}
use lib.Dec.{lit<}
use lib.ListN.{drop, length-set}
use lib.Seq.{sets-eq}
use Rattle.notation.specs.BigEndian.{digits_of}
use Rattle.notation.proofs.DigitLaws.{four_digits, digits_length}
use Rattle.address.proofs.AnswerLaws.{write_short, write_fits}
use Rattle.octets.proofs.put_four.Goals as goal

pub returns-then-out-lt4 : goal.returns-then-out-lt4
returns-then-out-lt4 c = (write_short (digits_of 256 4 c.args.v) _ 4 (digits_length 256 4 _) c.if-out-lt4.true).1

pub bounds-out-1 : goal.bounds-out-1
bounds-out-1 c = simp length-set (omega arith)

pub bounds-out-2 : goal.bounds-out-2
bounds-out-2 c = simp length-set (omega arith)

pub returns : goal.returns
returns c =
    let v = c.args.v in
    let old = c.args.out.now in
    let small : v < 2 ^ 32 = omega arith in
    (write_fits (digits_of 256 4 v) old 4 (digits_length 256 4 v) c.if-out-lt4.false _
    (sets-eq (v / 16777216 ∷ v / 65536 % 256 ∷ v / 256 % 256 ∷ v % 256 ∷ []) old 0 (omega (arith, c.if-out-lt4.false)) ∙ ap (λ l. l ++ drop 4 old) (sym (four_digits 256 v small (lit< tt))))).1
