use mathlib.Core.Path.{◌≡◌, ap, ◌∙◌}
use mathlib.Core.Bool.{cond}
use Rattle.std.specs.Prelude.{Some, None}
use lib.Dec.{ltb}
use lib.ListN.{length}
use Prim.Native.Nat.{◌+◌}
use native.Mathlib.Omega.{arith}
use borrow.Author.Rules.{rules}
use Rattle.digits.proofs.LeadingLaws.{scan_start, scan_more, number_stop, number_large, stop_byte, stop_end, product_fits}
use Rattle.digits.proofs.read.leading_number.Goals as goal

pub loop-i-init : goal.loop-i-init
loop-i-init c = (scan_start _ _, search rules)

pub returns-then-base-digit : goal.returns-then-base-digit
returns-then-base-digit c =
    let a = c.args in
    c.some_digits.ensures
    ∙ number_stop a.base a.text.now a.most c.loop-i.value c.loop-i.i c.loop-i.invariant.0 (omega arith) (stop_byte a.base a.text.now c.loop-i.i (omega arith) (omega arith))

pub overflow_mul-value : goal.overflow_mul-value
overflow_mul-value c =
    omega (arith, product_fits {n = c.loop-i.value} {b = c.args.base} (omega arith) (omega arith))

pub overflow_add-value : goal.overflow_add-value
overflow_add-value c =
    omega (arith, product_fits {n = c.loop-i.value} {b = c.args.base} (omega arith) (omega arith))

pub returns-then-most-value : goal.returns-then-most-value
returns-then-most-value c =
    let a = c.args in
    let s = scan_more a.base a.text.now c.loop-i.value c.loop-i.i c.loop-i.invariant.0 (omega arith) (omega arith) in
    number_large a.base a.text.now a.most _ (c.loop-i.i + 1) s (omega arith) (omega arith) (omega arith)

pub loop-i-preserved : goal.loop-i-preserved
loop-i-preserved c =
    let a = c.args in
    (rw c.digit_value-digit.ensures (scan_more a.base a.text.now c.loop-i.value c.loop-i.i c.loop-i.invariant.0 (omega arith) (omega arith)), omega arith)

pub returns : goal.returns
returns c =
    let a = c.args in
    let end : length a.text.now ≡ c.loop-i.i = omega arith in
    c.some_digits-2.ensures ∙ ap (λ n. cond (ltb 0 n) (Some (c.loop-i.value, n)) None) end
    ∙ number_stop a.base a.text.now a.most c.loop-i.value c.loop-i.i c.loop-i.invariant.0 (omega arith) (stop_end a.base a.text.now c.loop-i.i (omega arith))
