-- `ipv6_text::read_side` meets its contract. The invariant: the groups that were put and those of the rest are the groups of the text.
-- Assumes nothing.
use Rattle.std.specs.Prelude.{Some}
use mathlib.Core.Path.{◌≡◌, sym, ap, ◌∙◌}
use mathlib.Core.Bool.{true, false}
use mathlib.Core.List.{List}
use Prim.Native.Nat.{ℕ, ◌+◌, ◌≤◌, ◌<◌}
use native.Mathlib.Omega.{arith}
use borrow.Author.Rules.{rules}
use mir.Syntax.{w16}
use mir.Val.{Fits}
use lib.ListN.{length, drop}
use Rattle.notation.proofs.SliceLaws.{tail, to_end, to_end_shorter}
use Rattle.digits.specs.Numerals.{group_of, leading}
use Rattle.ipv6_text.specs.Inner.{colon_first}
use Rattle.ipv6_text.proofs.GroupLaws.{group_small}
use Rattle.ipv6_text.proofs.GapLaws.{first_nothing, first_other, first_last, first_gap, first_more, colon_some}
use Rattle.ipv6_text.proofs.SideLaws.{read_start, read_tail, read_last, read_gap, read_more, read_full}
use Rattle.ipv6_text.proofs.read_side.Goals.{In-Some}
use Rattle.ipv6_text.proofs.read_side.Goals as goal

pub loop-n-init : goal.loop-n-init
loop-n-init c = read_start c.args.groups.now c.args.text.now c.args.from (search rules) (omega arith)

pub returns-in_default : goal.returns-in_default
returns-in_default c =
    let l = c.loop-n in
    read_tail l.invariant c.put_tail.new.groups c.in_ok-count.count (first_nothing l.rest.now c.in_default.ensures) c.in_ok-count.ensures

pub returns-in_err-count : goal.returns-in_err-count
returns-in_err-count c =
    let l = c.loop-n in
    rw c.from_residual.ensures (read_tail l.invariant c.put_tail.new.groups 9 (first_nothing l.rest.now c.in_default.ensures) c.in_err-count.ensures)

-- a group that was found, and what is left behind it and its colon
abbrev rest : (c : In-Some) → List ℕ
rest c = c.loop-n.rest.now

abbrev group : (c : In-Some) → ℕ
group c = c.in-Some.x

abbrev end : (c : In-Some) → ℕ
end c = c.in-Some.end

read : (c : In-Some) → Some (group c, end c) ≡ leading 16 group_of (rest c)
read c = c.in-Some.ensures

small : (c : In-Some) → Fits w16 (group c)
small c = omega (arith, group_small (rest c) (group c) (end c) (read c))

abbrev behind : (c : In-Some) → List ℕ
behind c = tail (end c + 1) (rest c)

behind-short : (c : In-Some) → length (behind c) ≤ length c.args.text.now
behind-short c = to_end_shorter (end c + 1) _ (rest c) c.loop-n.invariant.short

pub overflow_cast-groups : goal.overflow_cast-groups
overflow_cast-groups c = small (goal.at.overflow_cast-groups c).In-Some

pub returns-then-rest-end : goal.returns-then-rest-end
returns-then-rest-end c =
    let f = first_last (rest (goal.at.returns-then-rest-end c).In-Some) (group (goal.at.returns-then-rest-end c).In-Some) (end (goal.at.returns-then-rest-end c).In-Some) (read (goal.at.returns-then-rest-end c).In-Some) c.if-rest-end.true in
    read_last c.loop-n.invariant (group (goal.at.returns-then-rest-end c).In-Some) (omega arith) f.0 f.1

pub returns-then-rest-end-ne58 : goal.returns-then-rest-end-ne58
returns-then-rest-end-ne58 c =
    read_tail c.loop-n.invariant c.put_tail-then-rest-end-ne58.new.groups c.in_ok-count-2.count
    (first_other (rest (goal.at.returns-then-rest-end-ne58 c).In-Some) (group (goal.at.returns-then-rest-end-ne58 c).In-Some) (end (goal.at.returns-then-rest-end-ne58 c).In-Some) (read (goal.at.returns-then-rest-end-ne58 c).In-Some) (omega arith) c.if-rest-end-ne58.true) c.in_ok-count-2.ensures

pub returns-in_err-count-2 : goal.returns-in_err-count-2
returns-in_err-count-2 c =
    rw c.from_residual-in_err-count-2.ensures
    (read_tail c.loop-n.invariant c.put_tail-then-rest-end-ne58.new.groups 9
    (first_other (rest (goal.at.returns-in_err-count-2 c).In-Some) (group (goal.at.returns-in_err-count-2 c).In-Some) (end (goal.at.returns-in_err-count-2 c).In-Some) (read (goal.at.returns-in_err-count-2 c).In-Some) (omega arith) c.if-rest-end-ne58.true) c.in_err-count-2.ensures)

pub overflow_cast-groups-in-loop-n : goal.overflow_cast-groups-in-loop-n
overflow_cast-groups-in-loop-n c = small (goal.at.overflow_cast-groups-in-loop-n c).In-Some

pub overflow_sub-next : goal.overflow_sub-next
overflow_sub-next c = behind-short (goal.at.overflow_sub-next c).In-Some

pub overflow_add-next : goal.overflow_add-next
overflow_add-next c =
    omega (arith, colon_some (behind (goal.at.overflow_add-next c).In-Some) (sym c.starts_with_colon.ensures ∙ c.if-starts_with_colon.true), behind-short (goal.at.overflow_add-next c).In-Some)

pub returns-then-starts_with_colon : goal.returns-then-starts_with_colon
returns-then-starts_with_colon c =
    let inside : end (goal.at.returns-then-starts_with_colon c).In-Some < length (rest (goal.at.returns-then-starts_with_colon c).In-Some) = omega arith in
    let colon : colon_first (drop (end (goal.at.returns-then-starts_with_colon c).In-Some + 1) (rest (goal.at.returns-then-starts_with_colon c).In-Some)) ≡ true = ap colon_first (sym (to_end (end (goal.at.returns-then-starts_with_colon c).In-Some + 1) (rest (goal.at.returns-then-starts_with_colon c).In-Some))) ∙ sym c.starts_with_colon.ensures ∙ c.if-starts_with_colon.true in
    let f = first_gap (rest (goal.at.returns-then-starts_with_colon c).In-Some) (group (goal.at.returns-then-starts_with_colon c).In-Some) (end (goal.at.returns-then-starts_with_colon c).In-Some) (read (goal.at.returns-then-starts_with_colon c).In-Some) inside c.if-rest-end-ne58.false colon in
    read_gap c.loop-n.invariant (group (goal.at.returns-then-starts_with_colon c).In-Some) (omega arith) (end (goal.at.returns-then-starts_with_colon c).In-Some) f.0 f.1 inside

pub loop-n-preserved : goal.loop-n-preserved
loop-n-preserved c =
    let inside : end (goal.at.loop-n-preserved c).In-Some < length (rest (goal.at.loop-n-preserved c).In-Some) = omega arith in
    let other : colon_first (drop (end (goal.at.loop-n-preserved c).In-Some + 1) (rest (goal.at.loop-n-preserved c).In-Some)) ≡ false = ap colon_first (sym (to_end (end (goal.at.loop-n-preserved c).In-Some + 1) (rest (goal.at.loop-n-preserved c).In-Some))) ∙ sym c.starts_with_colon.ensures ∙ c.if-starts_with_colon.false in
    read_more c.loop-n.invariant (group (goal.at.loop-n-preserved c).In-Some) (omega arith) (end (goal.at.loop-n-preserved c).In-Some) inside (first_more (rest (goal.at.loop-n-preserved c).In-Some) (group (goal.at.loop-n-preserved c).In-Some) (end (goal.at.loop-n-preserved c).In-Some) (read (goal.at.loop-n-preserved c).In-Some) inside c.if-rest-end-ne58.false other)

pub returns : goal.returns
returns c = read_full c.loop-n.invariant (omega arith)
