-- `gather::put_range` meets its contract. Assumes nothing.
use mathlib.Core.Path.{ap, refl}
use Prim.Native.Nat.{◌^◌, ◌<◌}
use native.Mathlib.Omega.{arith}
use Rattle.wide.specs.Value.{value}
use Rattle.gather.specs.Inner.{size_of, width_of}
use Rattle.gather.proofs.BlockLaws.{low_value, low_fits}
use Rattle.gather.proofs.PutLaws.{range_same}
use Rattle.gather.proofs.put_range.Goals.{Start}
use Rattle.gather.proofs.put_range.Goals as goal

below : (s : Start) → value s.args.first < 2 ^ width_of s.args.family
below s = omega (arith, s.requires.rises, s.requires.below)

pub overflow_cast-first : goal.overflow_cast-first
overflow_cast-first c = omega (arith, low_fits (ap size_of c.in-V4.is) c.args.first (below (goal.at.overflow_cast-first c).Start))

pub overflow_cast-last : goal.overflow_cast-last
overflow_cast-last c = omega (arith, low_fits (ap size_of c.in-V4.is) c.args.last c.requires.below)

pub returns-in-V4 : goal.returns-in-V4
returns-in-V4 c =
    let five = ap size_of c.in-V4.is in
    range_same (size_of c.args.family) 32 _ _ _ _ (omega (arith, five)) (low_value five c.args.first (below (goal.at.returns-in-V4 c).Start)) (low_value five c.args.last c.requires.below) c.put_ipv4.ensures

pub returns-in-V6 : goal.returns-in-V6
returns-in-V6 c =
    range_same (size_of c.args.family) 128 _ _ _ _ (omega (arith, ap size_of c.in-V6.is)) refl refl c.put_ipv6.ensures
