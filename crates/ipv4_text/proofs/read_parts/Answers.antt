-- `ipv4_text::read_parts` meets its contract. The invariant: the text says what its rest says after the parts that were read.
-- Assumes nothing.
use Rattle.std.specs.Prelude.{Some}
use mathlib.Core.Path.{◌≡◌, ◌∙◌}
use Prim.Native.Nat.{◌+◌, ◌≤◌}
use native.Mathlib.Nat.{pow-suc}
use native.Mathlib.Numerals.{add-one}
use native.Mathlib.Omega.{arith}
use lib.Arith.{digits_lt}
use Rattle.notation.proofs.SliceLaws.{to_end_shorter}
use Rattle.digits.specs.Numerals.{part_of, leading}
use Rattle.ipv4_text.proofs.DottedLaws.{parts_start, parts_nothing, parts_over, parts_other, parts_more, parts_end, part_small, room}
use Rattle.ipv4_text.proofs.read_parts.Goals.{In_ok-part}
use Rattle.ipv4_text.proofs.read_parts.Goals as goal

pub loop-n-init : goal.loop-n-init
loop-n-init c = (omega arith, omega arith, parts_start c.args.text.now)

pub returns-in_err-part : goal.returns-in_err-part
returns-in_err-part c =
    let l = c.loop-n in
    rw (c.from_residual.ensures, l.invariant.2, parts_nothing l.n l.value l.rest.now c.in_err-part.ensures)

-- the part that was found
read : (c : In_ok-part) → Some (c.in_ok-part.part, c.in_ok-part.end) ≡ leading 10 (part_of 255) c.loop-n.rest.now
read c = c.in_ok-part.ensures

small : (c : In_ok-part) → c.in_ok-part.part ≤ 255
small c = part_small c.loop-n.rest.now c.in_ok-part.part c.in_ok-part.end (read c)

pub overflow_mul-value : goal.overflow_mul-value
overflow_mul-value c =
    let l = c.loop-n in
    omega (arith, room l.n l.value (omega arith) l.invariant.1)

pub overflow_add-value : goal.overflow_add-value
overflow_add-value c =
    let l = c.loop-n in
    omega (arith, room l.n l.value (omega arith) l.invariant.1, small (goal.at.overflow_add-value c).In_ok-part)

pub returns-then-rest-end : goal.returns-then-rest-end
returns-then-rest-end c =
    let l = c.loop-n in
    rw (l.invariant.2, parts_end l.n l.value l.rest.now c.in_ok-part.part c.in_ok-part.end (read (goal.at.returns-then-rest-end c).In_ok-part) (omega arith) (omega arith))

pub returns-then-rest-end-ne46 : goal.returns-then-rest-end-ne46
returns-then-rest-end-ne46 c =
    let l = c.loop-n in
    rw (l.invariant.2, parts_other l.n l.value l.rest.now c.in_ok-part.part c.in_ok-part.end (read (goal.at.returns-then-rest-end-ne46 c).In_ok-part) (omega arith) c.if-rest-end-ne46.true)

pub loop-n-preserved : goal.loop-n-preserved
loop-n-preserved c =
    let l = c.loop-n in
    let e = c.in_ok-part.end in (
      to_end_shorter (e + 1) _ l.rest.now l.invariant.0,
      rw (add-one l.n, pow-suc 256 l.n) (digits_lt l.invariant.1 (omega (arith, small (goal.at.loop-n-preserved c).In_ok-part))),
      l.invariant.2 ∙ parts_more l.n l.value l.rest.now c.in_ok-part.part e (read (goal.at.loop-n-preserved c).In_ok-part) (omega arith) c.if-rest-end-ne46.false,
    )

pub returns : goal.returns
returns c =
    let l = c.loop-n in
    rw (l.invariant.2, parts_over l.n l.value l.rest.now (omega arith))
