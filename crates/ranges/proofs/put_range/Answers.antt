-- `ranges::put_range` meets its contract. Assumes nothing.
use mathlib.Core.Path.{◌≡◌, sym, ◌∙◌}
use Prim.Native.Nat.{◌^◌, ◌<◌}
use native.Mathlib.Omega.{arith}
use Rattle.address.specs.Addresses.{family, number}
use Rattle.address.proofs.AddressLaws.{is_address}
use Rattle.ranges.proofs.RangeLaws.{width_4, width_6, low_half, put_records}
use Rattle.ranges.proofs.put_range.Goals.{After-family, Then-family-eq4}
use Rattle.ranges.proofs.put_range.Goals as goal

-- both are IPv4 addresses
four : (t : Then-family-eq4) → family t.args.first ≡ 4
four t = sym t.family.ensures ∙ t.if-family-eq4.true

low_first : (t : Then-family-eq4) → let lo = t.number-a.result.lo in (lo < 2 ^ 32) × (lo ≡ number t.args.first)
low_first t = let s = t in low_half s.args.first (is_address s.args.first s.well_formed.0) (four t) _ _ t.number-a.ensures

low_last : (t : Then-family-eq4) → let lo = t.number-b.result.lo in (lo < 2 ^ 32) × (lo ≡ number t.args.last)
low_last t = let s = t in low_half s.args.last (is_address s.args.last s.well_formed.1.0) (sym s.requires ∙ four t) _ _ t.number-b.ensures

pub overflow_cast-a : goal.overflow_cast-a
overflow_cast-a c = omega (arith, (low_first (goal.at.overflow_cast-a c).Then-family-eq4).0)

pub overflow_cast-b : goal.overflow_cast-b
overflow_cast-b c = omega (arith, (low_last (goal.at.overflow_cast-b c).Then-family-eq4).0)

pub returns-then-family-eq4 : goal.returns-then-family-eq4
returns-then-family-eq4 c =
    let s = (goal.at.returns-then-family-eq4 c).After-family in
    put_records s.args.first s.args.last 32 _ _ (width_4 s.args.first (four (goal.at.returns-then-family-eq4 c).Then-family-eq4)) (low_first (goal.at.returns-then-family-eq4 c).Then-family-eq4).1 (low_last (goal.at.returns-then-family-eq4 c).Then-family-eq4).1 c.put_ipv4.ensures

pub returns : goal.returns
returns c =
    let s = (goal.at.returns c).After-family in
    put_records s.args.first s.args.last 128 _ _ (width_6 s.args.first λ q. c.if-family-eq4.false (c.family.ensures ∙ q)) c.number-a.ensures c.number-b.ensures c.put_ipv6.ensures
