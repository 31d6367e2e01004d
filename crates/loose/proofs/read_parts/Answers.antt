-- `loose::read_parts` meets its contract. The invariant: the text says what its rest says after the parts that were read.
-- Assumes nothing.
use Rattle.std.specs.Prelude.{Some}
use mathlib.Core.Path.{◌≡◌}
use Prim.Native.Nat.{ℕ, ◌+◌, ◌-◌, ◌^◌, ◌<◌}
use native.Mathlib.Nat.{pow-suc}
use native.Mathlib.Numerals.{add-one}
use native.Mathlib.Omega.{arith}
use lib.Arith.{digits_lt}
use Rattle.notation.specs.Pieces.{split_on}
use Rattle.notation.proofs.SliceLaws.{to_end_shorter}
use Rattle.ipv4_text.proofs.DottedLaws.{room}
use Rattle.loose.specs.Inner.{leading_loose}
use Rattle.loose.proofs.LooseLaws.{loose_start, loose_nothing, loose_other, loose_end, loose_more, loose_large, loose_over}
use Rattle.loose.proofs.read_parts.Goals.{In_ok-part, In-loop-n}
use Rattle.loose.proofs.read_parts.Goals as goal

pub loop-n-init : goal.loop-n-init
loop-n-init c = (omega arith, omega arith, loose_start c.args.text.now)

-- how many octets are left
abbrev left : (c : In-loop-n) → ℕ
left c = 4 - c.loop-n.n

some_left : (c : In-loop-n) → 0 < left c
some_left c = omega arith

pub returns-in_err-part : goal.returns-in_err-part
returns-in_err-part c =
    let l = c.loop-n in
    rw (c.from_residual.ensures, l.invariant.2, loose_nothing (4 - l.n) l.value l.rest.now (omega arith) c.in_err-part.ensures)

-- the part that was found
read : (c : In_ok-part) → Some (c.in_ok-part.part, c.in_ok-part.end) ≡ leading_loose c.loop-n.rest.now
read c = c.in_ok-part.ensures

pub last_part-requires : goal.last_part-requires
last_part-requires c =
    let l = c.loop-n in
    let taken : 4 - (4 - l.n) ≡ l.n = omega arith in
    (omega arith, rw taken l.invariant.1)

pub returns-then-rest-end : goal.returns-then-rest-end
returns-then-rest-end c =
    let l = c.loop-n in
    rw (c.last_part.ensures, l.invariant.2, loose_end (4 - l.n) l.value (some_left (goal.at.returns-then-rest-end c).In-loop-n) l.rest.now c.in_ok-part.part c.in_ok-part.end (read (goal.at.returns-then-rest-end c).In_ok-part) c.if-rest-end.true)

pub returns-then-rest-end-ne46 : goal.returns-then-rest-end-ne46
returns-then-rest-end-ne46 c =
    let l = c.loop-n in
    rw (l.invariant.2, loose_other (4 - l.n) l.value l.rest.now c.in_ok-part.part c.in_ok-part.end (read (goal.at.returns-then-rest-end-ne46 c).In_ok-part) (omega arith) c.if-rest-end.false c.if-rest-end-ne46.true)

pub returns-then-part-gt255 : goal.returns-then-part-gt255
returns-then-part-gt255 c =
    let l = c.loop-n in
    rw (l.invariant.2, loose_large (4 - l.n) l.value (some_left (goal.at.returns-then-part-gt255 c).In-loop-n) l.rest.now c.in_ok-part.part c.in_ok-part.end (read (goal.at.returns-then-part-gt255 c).In_ok-part) c.if-rest-end.false c.if-rest-end-ne46.false c.if-part-gt255.true)

-- before the last part less than 24 bits are taken
few : (c : In-loop-n) → c.loop-n.value < 2 ^ 24
few c = let l = c.loop-n in room l.n l.value (omega arith) l.invariant.1

pub overflow_mul-value : goal.overflow_mul-value
overflow_mul-value c = omega (arith, few (goal.at.overflow_mul-value c).In-loop-n)

pub overflow_add-value : goal.overflow_add-value
overflow_add-value c = omega (arith, few (goal.at.overflow_add-value c).In-loop-n, c.if-part-gt255.false)

pub loop-n-preserved : goal.loop-n-preserved
loop-n-preserved c =
    let l = c.loop-n in
    let e = c.in_ok-part.end in
    let next : 4 - (l.n + 1) ≡ 4 - l.n - 1 = omega arith in (
      to_end_shorter (e + 1) _ l.rest.now l.invariant.0,
      rw (add-one l.n, pow-suc 256 l.n) (digits_lt l.invariant.1 (omega (arith, c.if-part-gt255.false))),
      rw (next, l.invariant.2, loose_more (4 - l.n) l.value (some_left (goal.at.loop-n-preserved c).In-loop-n) l.rest.now c.in_ok-part.part e (read (goal.at.loop-n-preserved c).In_ok-part) c.if-rest-end.false c.if-rest-end-ne46.false c.if-part-gt255.false),
    )

pub returns : goal.returns
returns c =
    let l = c.loop-n in
    let none_left : 4 - l.n ≡ 0 = omega arith in
    rw (l.invariant.2, none_left, loose_over l.value (split_on 46 l.rest.now))
