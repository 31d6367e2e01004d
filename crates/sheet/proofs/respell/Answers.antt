-- `sheet::respell` meets its contract. Assumes nothing.
use mathlib.Core.Path.{◌≡◌, sym, ◌∙◌}
use mathlib.Core.Bool.{true, false}
use Prim.Native.Nat.{ℕ}
use Rattle.address.specs.declared.Refusal.TheVariants.{TextTooLong}
use Rattle.sheet_answers.proofs.RefusalLaws.{too_long, refused_by_lem}
use Rattle.sheet.proofs.CallLaws.{call_refused, call_few, call_valid, call_writes}
use native.Mathlib.Omega.{arith}
use lib.Seq.{length-take-le}
use Rattle.sheet.proofs.respell.Goals.{then-sorted, else-sorted}
use borrow.Author.Rules.{rules}
use Rattle.sheet.proofs.respell.Goals as goal

pub returns-then-sheet-gt65536 : goal.returns-then-sheet-gt65536
returns-then-sheet-gt65536 c =
    let a = c.args in
    refused_by_lem a.sorted a.sheet.now _ TextTooLong (too_long a.sheet.now c.if-sheet-gt65536.true)

pub returns-in_default : goal.returns-in_default
returns-in_default c =
    let a = c.args in
    rw c.fault.ensures (call_refused a.sheet.now _ c.if-sheet-gt65536.false _ c.read_rows.ensures c.in_default.is a.sorted _)

pub write_rows-requires : goal.write_rows-requires
write_rows-requires c =
    let a = c.args in
    let n = c.in-Some.n in
    let few = call_few a.sheet.now _ c.if-sheet-gt65536.false _ c.read_rows.ensures _ c.in-Some.is in
    let valid = call_valid a.sheet.now _ c.if-sheet-gt65536.false _ c.read_rows.ensures _ c.in-Some.is in
    let size = length-take-le n c.read_rows.new.rows (omega (arith, few, c.read_rows.auto.rows)) in (
      omega (arith, few, size),
      valid,
      λ is. elim c.if-sorted.branch [
        | then-sorted w ↦ rw w.order-is (rw size at w.sort_rows.ensures)
        | else-sorted w ↦ let no : true ≡ false = sym is ∙ w.if-sorted.false in let z : ◌≡◌ {A = ℕ} 0 1 = cc in absurd (omega arith)
      ],
    )

pub returns : goal.returns
returns c =
    let a = c.args in
    let e = call_writes a.sheet.now _ c.if-sheet-gt65536.false _ c.read_rows.ensures _ c.in-Some.is (search rules) a.sorted _ in
    (c.write_rows.ensures.0 ∙ e.0, c.write_rows.ensures.1 ∙ e.1)
