-- `ipv6_text::read_groups` meets its contract. Assumes nothing.
use mathlib.Core.Path.{◌≡◌, refl, sym, subst, ◌∙◌}
use mathlib.Core.Bool.{true}
use mathlib.Core.List.{[]}
use Prim.Native.Nat.{◌≤◌}
use native.Mathlib.Omega.{arith}
use Rattle.std.specs.Prelude.{Some, None}
use lib.ListN.{length, take}
use lib.Seq.{length-take-le}
use Rattle.notation.specs.Options.{joined}
use Rattle.notation.proofs.SliceLaws.{tail}
use Rattle.ipv6_text.specs.Inner.{first_side, LaidOut}
use Rattle.ipv6_text.specs.EightGroups.{side_of}
use Rattle.ipv6_text.proofs.GapLaws.{gap_two}
use Rattle.ipv6_text.proofs.PlaceLaws.{laid_none, laid_over}
use Rattle.ipv6_text.proofs.SideLaws.{next_some, gap_start, left_gap, left_end}
use Rattle.ipv6_text.proofs.read_groups.Goals.{In-Some}
use Rattle.ipv6_text.proofs.read_groups.Goals as goal

-- a text that begins with `::`
pub slice_bounds-read_right-count : goal.slice_bounds-read_right-count
slice_bounds-read_right-count c = (gap_start c.args.text.now (sym c.starts_with_gap.ensures ∙ c.if-starts_with_gap.true)).0

pub slice_bounds-read_right-start : goal.slice_bounds-read_right-start
slice_bounds-read_right-start c = omega (arith, (gap_start c.args.text.now (sym c.starts_with_gap.ensures ∙ c.if-starts_with_gap.true)).0)

pub returns-in_err-count : goal.returns-in_err-count
returns-in_err-count c =
    let gs = c.read_right.new.groups in
    let t = c.args.text.now in
    let g = gap_start t (sym c.starts_with_gap.ensures ∙ c.if-starts_with_gap.true) in
    rw c.from_residual.ensures (subst (LaidOut gs None) g.1 (laid_over gs [] 9 0 refl (side_of true (tail 2 t)) c.in_err-count.ensures (omega arith)))

pub returns-then-starts_with_gap : goal.returns-then-starts_with_gap
returns-then-starts_with_gap c =
    let gs = c.read_right.new.groups in
    let t = c.args.text.now in
    let g = gap_start t (sym c.starts_with_gap.ensures ∙ c.if-starts_with_gap.true) in
    subst (LaidOut gs c.with_gap.result) g.1 (c.with_gap.ensures gs [] (side_of true (tail 2 t)) refl c.in_ok-count.ensures)

-- no groups, or too many
pub returns-in_err-left : goal.returns-in_err-left
returns-in_err-left c =
    let gs = c.read_side.new.groups in
    let t = c.args.text.now in
    let r = c.in_err-left.ensures in
    rw c.from_residual-in_err-left.ensures
    (subst (LaidOut gs None) (left_end r (sym c.starts_with_gap.ensures ∙ c.if-starts_with_gap.false) refl) (laid_none gs 9 (joined (Some []) (first_side t)) r.counted (omega arith)))

-- no `::`
pub returns-in_default : goal.returns-in_default
returns-in_default c =
    let gs = c.read_side.new.groups in
    let t = c.args.text.now in
    let r = c.in_ok-left.ensures in
    subst (LaidOut gs c.without_gap.result) (left_end r (sym c.starts_with_gap.ensures ∙ c.if-starts_with_gap.false) c.in_default.is)
    (c.without_gap.ensures gs (joined (Some []) (first_side t)) r.counted)

-- where a `::` was found
next_le : (c : In-Some) → c.in-Some.next ≤ length c.args.text.now
next_le c =
    let m = next_some c.in_ok-left.ensures c.in-Some.next c.in-Some.is in
    omega (arith, m.2, gap_two c.args.text.now m.1)

count_le : (c : In-Some) → c.in_ok-left.left.count ≤ 8
count_le c = (next_some c.in_ok-left.ensures c.in-Some.next c.in-Some.is).0

long : (c : In-Some) → length (take c.in_ok-left.left.count c.read_side.new.groups) ≡ c.in_ok-left.left.count
long c = length-take-le c.in_ok-left.left.count c.read_side.new.groups (omega (arith, count_le c, c.in_ok-left.ensures.counted.places))

pub slice_bounds-read_right-count-2 : goal.slice_bounds-read_right-count-2
slice_bounds-read_right-count-2 c = next_le (goal.at.slice_bounds-read_right-count-2 c).In-Some

pub slice_bounds-read_right-start-2 : goal.slice_bounds-read_right-start-2
slice_bounds-read_right-start-2 c = omega (arith, next_le (goal.at.slice_bounds-read_right-start-2 c).In-Some)

pub read_right-requires-2 : goal.read_right-requires-2
read_right-requires-2 c = (c.in_ok-left.ensures.counted.places, count_le (goal.at.read_right-requires-2 c).In-Some)

pub returns-in_err-count-2 : goal.returns-in_err-count-2
returns-in_err-count-2 c =
    let gs = c.read_right-2.new.groups in
    let n = c.in_ok-left.left.count in
    let t = c.args.text.now in
    let g = sym c.starts_with_gap.ensures ∙ c.if-starts_with_gap.false in
    rw c.from_residual-in_err-count-2.ensures
    (subst (LaidOut gs None) (left_gap c.in_ok-left.ensures g c.in-Some.next c.in-Some.is)
    (laid_over gs (take n c.read_side.new.groups) 9 n (long (goal.at.returns-in_err-count-2 c).In-Some) (side_of true (tail c.in-Some.next t)) c.in_err-count-2.ensures (omega arith)))

pub returns : goal.returns
returns c =
    let gs = c.read_right-2.new.groups in
    let t = c.args.text.now in
    let g = sym c.starts_with_gap.ensures ∙ c.if-starts_with_gap.false in
    subst (LaidOut gs c.with_gap-2.result) (left_gap c.in_ok-left.ensures g c.in-Some.next c.in-Some.is)
    (c.with_gap-2.ensures gs (take c.in_ok-left.left.count c.read_side.new.groups) (side_of true (tail c.in-Some.next t)) (long (goal.at.returns c).In-Some) c.in_ok-count-2.ensures)
