-- `wide::Wide::ends_in_zeros` meets its contract: beyond the trailing zeros only 0 has further zero bits. Assumes nothing.
use Rattle.std.proofs.Common.{◌≡◌, ◌%◌, ◌^◌, ◌<◌, eqb, sym, ◌∙◌, arith}
use Rattle.wide.specs.Value.{value}
use Rattle.wide.proofs.Trailing.{zeros_within, zeros_beyond}
use Rattle.wide.proofs.Halves.{low_same, high_other, value_lt}
use Rattle.wide.proofs.Wide.ends_in_zeros.Goals.{Else-k-trailing_zeros}
use Rattle.wide.proofs.Wide.ends_in_zeros.Goals as goal

pub returns-then-k-trailing_zeros : goal.returns-then-k-trailing_zeros
returns-then-k-trailing_zeros c =
    let a = c.args in
    sym (zeros_within 128 (value a.self) a.k (rw (← c.trailing_zeros.ensures) c.if-k-trailing_zeros.true))

-- behind the first test
beyond : (c : Else-k-trailing_zeros) → eqb (value c.args.self % 2 ^ c.args.k) 0 ≡ eqb (value c.args.self) 0
beyond c =
    let w = c.args.self in
    let h : w.hi < 2 ^ 64 = omega arith in
    let l : w.lo < 2 ^ 64 = omega arith in
    zeros_beyond 128 (value w) c.args.k (value_lt w h l) (rw (← c.trailing_zeros.ensures) c.if-k-trailing_zeros.false)

pub returns-then-hi-eq0 : goal.returns-then-hi-eq0
returns-then-hi-eq0 c =
    let w = c.args.self in
    low_same (2 ^ 64) w.hi w.lo 0 0 c.if-hi-eq0.true ∙ sym (beyond (goal.at.returns-then-hi-eq0 c).Else-k-trailing_zeros)

pub returns-else-hi-eq0 : goal.returns-else-hi-eq0
returns-else-hi-eq0 c =
    let w = c.args.self in
    let l : w.lo < 2 ^ 64 = omega arith in
    sym (beyond (goal.at.returns-else-hi-eq0 c).Else-k-trailing_zeros ∙ high_other (2 ^ 64) w.hi w.lo 0 0 l (omega arith) c.if-hi-eq0.false)
