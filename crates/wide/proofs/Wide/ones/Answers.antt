-- `wide::Wide::ones` meets its contract: no half is one_shifted by 64 or more. Assumes nothing.
use Rattle.std.proofs.Common.{◌≡◌, ◌+◌, ◌-◌, min, sym, arith, pow_pos}
use lib.Pow.{ones_split}
use Rattle.wide.proofs.Halves.{one_shifted}
use Rattle.wide.proofs.Wide.ones.Goals as goal

pub overflow_sub-result : goal.overflow_sub-result
overflow_sub-result c = rw (one_shifted c.args.k c.if-k-lt64.true) (pow_pos c.args.k)

pub returns-then-k-lt64 : goal.returns-then-k-lt64
returns-then-k-lt64 c =
    let k = c.args.k in
    let m : min k 128 ≡ k = omega arith in
    rw (one_shifted k c.if-k-lt64.true, m) (omega arith)

pub overflow_sub-result-then-k-lt128-2 : goal.overflow_sub-result-then-k-lt128-2
overflow_sub-result-then-k-lt128-2 c = let k = c.args.k in rw (one_shifted (k - 64) (omega arith)) (pow_pos (k - 64))

pub returns-then-k-lt128 : goal.returns-then-k-lt128
returns-then-k-lt128 c =
    let k = c.args.k in
    let m : min k 128 ≡ k - 64 + 64 = omega arith in
    rw (one_shifted (k - 64) (omega arith), m) (sym (ones_split (k - 64) 64))

pub returns : goal.returns
returns c = let m : min c.args.k 128 ≡ 128 = omega arith in rw m
