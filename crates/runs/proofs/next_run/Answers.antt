-- `runs::next_run` meets its contract. Assumes nothing.
use Rattle.std.proofs.Common.{◌≡◌, ℕ, ◌+◌, ◌*◌, ◌^◌, ◌<◌, ◌≤◌, refl, ap, arith, rules}
use Rattle.runs.proofs.LaneLaws.{high_rises, low_rises, first_half, first_up, first_over, first_into, run_first, over_short}
use Rattle.runs.proofs.next_run.Goals.{Start, Then-bh-ah}
use Rattle.runs.proofs.next_run.Goals as goal

-- the halves
al : (c : Start) → c.args.first.lo < 2 ^ 64
al c = search rules

bl : (c : Start) → c.args.last.lo < 2 ^ 64
bl c = search rules

bh : (c : Start) → c.args.last.hi < 2 ^ 64
bh c = search rules

rises : (t : Then-bh-ah) → t.args.first.lo ≤ t.args.last.lo
rises t = low_rises (2 ^ 64) _ _ _ _ t.if-bh-ah.true t.requires.0

pub overflow_sub-bl : goal.overflow_sub-bl
overflow_sub-bl c = rises (goal.at.overflow_sub-bl c).Then-bh-ah

pub returns-then-bl-al-ge-MOST : goal.returns-then-bl-al-ge-MOST
returns-then-bl-al-ge-MOST c =
    let up = high_rises (2 ^ 64) _ _ _ _ c.requires.0 (bl (goal.at.returns-then-bl-al-ge-MOST c).Start) in
    let low : c.args.first.lo ≤ 0 = omega (arith, c.if-bl-al-ge-MOST.true, bl (goal.at.returns-then-bl-al-ge-MOST c).Start) in
    run_first c.upper_run.ensures _ (omega (arith, c.if-bl-al-ge-MOST.true, bl (goal.at.returns-then-bl-al-ge-MOST c).Start)) (first_over _ _ _ _ (al (goal.at.returns-then-bl-al-ge-MOST c).Start) (bl (goal.at.returns-then-bl-al-ge-MOST c).Start) (bh (goal.at.returns-then-bl-al-ge-MOST c).Start) low up (omega (arith, c.if-bl-al-ge-MOST.true)) (omega (arith, c.if-bh-ah.true)))

pub returns-then-bh-ah : goal.returns-then-bh-ah
returns-then-bh-ah c =
    let up = high_rises (2 ^ 64) _ _ _ _ c.requires.0 (bl (goal.at.returns-then-bh-ah c).Start) in
    let same : c.args.first.hi ≡ c.args.last.hi = omega (arith, c.if-bh-ah.true) in
    run_first c.lower_run.ensures _ (ap (λ (n : ℕ). n * 2 ^ 64 + c.args.last.lo) same) (first_half _ _ _ _ (al (goal.at.returns-then-bh-ah c).Start) (bl (goal.at.returns-then-bh-ah c).Start) (bh (goal.at.returns-then-bh-ah c).Start) c.requires.0 c.if-bh-ah.true c.if-bl-al-ge-MOST.false)

pub returns-then-al-gt0 : goal.returns-then-al-gt0
returns-then-al-gt0 c =
    run_first c.lower_run-then-al-gt0.ensures _ refl (first_up _ _ _ _ (al (goal.at.returns-then-al-gt0 c).Start) (bl (goal.at.returns-then-al-gt0 c).Start) (bh (goal.at.returns-then-al-gt0 c).Start) c.if-bh-ah.false c.if-al-gt0.true)

pub returns-then-bl-ge-MOST : goal.returns-then-bl-ge-MOST
returns-then-bl-ge-MOST c =
    let zero' = c.if-al-gt0.false in
    let less = over_short _ _ _ _ zero' c.if-bl-ge-MOST.true (bl (goal.at.returns-then-bl-ge-MOST c).Start) (bh (goal.at.returns-then-bl-ge-MOST c).Start) c.requires.1 in
    run_first c.upper_run-then-bl-ge-MOST.ensures _ (omega (arith, c.if-bl-ge-MOST.true, bl (goal.at.returns-then-bl-ge-MOST c).Start)) (first_over _ _ _ _ (al (goal.at.returns-then-bl-ge-MOST c).Start) (bl (goal.at.returns-then-bl-ge-MOST c).Start) (bh (goal.at.returns-then-bl-ge-MOST c).Start) zero' (omega (arith, c.if-bh-ah.false)) c.if-bl-ge-MOST.true less)

pub overflow_sub-bh : goal.overflow_sub-bh
overflow_sub-bh c = omega (arith, c.if-bh-ah.false)

pub returns : goal.returns
returns c =
    run_first c.upper_run-2.ensures _ refl (first_into _ _ _ _ (al (goal.at.returns c).Start) (bl (goal.at.returns c).Start) (bh (goal.at.returns c).Start) c.if-al-gt0.false c.if-bh-ah.false c.if-bl-ge-MOST.false)
