-- `gather::Records::write_gaps` meets its contract. Assumes nothing.
use mathlib.Core.Path.{sym, ◌∙◌}
use mathlib.Core.Bool.{false≢true}
use Prim.Native.Nat.{◌≤◌}
use native.Mathlib.Omega.{arith}
use borrow.Author.Tests.{leb-true}
use lib.ListN.{length}
use Rattle.gather.specs.Inner.{size_of, most_uncovered}
use Rattle.gather.proofs.BlockLaws.{is_size, size_some}
use Rattle.gather.proofs.GapLaws.{gaps_short, gaps_fit, gaps_written, ample_fits, ample_written}
use Rattle.gather.proofs.Records.write_gaps.Goals.{After-is_ample, After-sweep-bytes-2, Start, Then-is_ample}
use Rattle.gather.proofs.Records.write_gaps.Goals as goal

pub is_ample-requires : goal.is_ample-requires
is_ample-requires c = c.requires.0.few

-- there is room for any list
ample : (c : Then-is_ample) → let a = c.args in most_uncovered (size_of a.self.family) a.self.count ≤ length a.out.now
ample c = leb-true _ _ (sym c.is_ample.ensures ∙ c.if-is_ample.true)

pub sweep-bytes-requires : goal.sweep-bytes-requires
sweep-bytes-requires c = let s = (goal.at.sweep-bytes-requires c).After-is_ample in (s.requires.0, s.requires.1, λ e. ample_fits s.requires.0 _ (ample (goal.at.sweep-bytes-requires c).Then-is_ample))

pub nonzero_div-result : goal.nonzero_div-result
nonzero_div-result c = omega (arith, c.size.ensures, (size_some (is_size (goal.at.nonzero_div-result c).Start.args.self.family)).0)

pub returns-then-is_ample : goal.returns-then-is_ample
returns-then-is_ample c =
    rw c.size.ensures (ample_written (goal.at.returns-then-is_ample c).After-is_ample.requires.0 _ _ _ (ample (goal.at.returns-then-is_ample c).Then-is_ample) c.sweep-bytes.ensures)

-- there may be none: the bytes are counted
pub sweep-bytes-requires-2 : goal.sweep-bytes-requires-2
sweep-bytes-requires-2 c = let s = (goal.at.sweep-bytes-requires-2 c).After-is_ample in (s.requires.0, s.requires.1, λ t. absurd (false≢true t))

pub returns-then-out-bytes : goal.returns-then-out-bytes
returns-then-out-bytes c = gaps_short (goal.at.returns-then-out-bytes c).After-sweep-bytes-2.requires.0.sized _ _ _ _ c.sweep-bytes-2.ensures c.if-out-bytes.true

pub sweep-requires : goal.sweep-requires
sweep-requires c =
    let s = (goal.at.sweep-requires c).After-sweep-bytes-2 in
    (s.requires.0, s.requires.1, λ t. gaps_fit s.requires.0.sized _ _ _ _ c.sweep-bytes-2.ensures c.if-out-bytes.false)

pub nonzero_div-result-2 : goal.nonzero_div-result-2
nonzero_div-result-2 c = omega (arith, c.size-2.ensures, (size_some (is_size (goal.at.nonzero_div-result-2 c).Start.args.self.family)).0)

pub returns : goal.returns
returns c =
    rw c.size-2.ensures (gaps_written (goal.at.returns c).After-sweep-bytes-2.requires.0.sized _ _ _ _ c.sweep-bytes-2.ensures c.if-out-bytes.false _ _ c.sweep.ensures)
