-- `ranges::range_blocks` meets its contract. Assumes nothing.
use mathlib.Core.Path.{◌≡◌, sym, ◌∙◌}
use Prim.Native.Nat.{◌≤◌}
use borrow.Author.Tests.{ltb-true, ltb-false}
use lib.Dec.{ltb}
use Rattle.address.specs.Addresses.{family, number}
use Rattle.address.proofs.AddressLaws.{is_address, less_means}
use Rattle.ranges.proofs.RangeLaws.{range_apart, range_falling, wrote_none, wrote_all, width_4, width_6}
use Rattle.ranges.proofs.range_blocks.Goals.{After-lt, Else-lt}
use Rattle.ranges.proofs.range_blocks.Goals as goal

-- at the test of the numbers: the families and what the test told
families : (d : After-lt) → family d.args.first ≡ family d.args.last
families d =
    sym d.family.ensures ∙ d.if-family.false ∙ d.family-2.ensures

tested : (d : After-lt) → d.lt.result ≡ ltb (number d.args.last) (number d.args.first)
tested d =
    let a = d.args in
    d.lt.ensures ∙ less_means a.last a.first (is_address a.last d.well_formed.1.0) (is_address a.first d.well_formed.0) (sym (families d))

rises : (e : Else-lt) → number e.args.first ≤ number e.args.last
rises e = ltb-false _ _ (sym (tested (goal.at.Else-lt e).After-lt) ∙ e.if-lt.false)

pub returns-then-family : goal.returns-then-family
returns-then-family c =
    range_apart _ _ _ (λ e. c.if-family.true (c.family.ensures ∙ e ∙ sym c.family-2.ensures))

pub returns-then-lt : goal.returns-then-lt
returns-then-lt c = range_falling _ _ _ (families (goal.at.returns-then-lt c).After-lt) (ltb-true _ _ (sym (tested (goal.at.returns-then-lt c).After-lt) ∙ c.if-lt.true))

pub put_range-bytes-requires : goal.put_range-bytes-requires
put_range-bytes-requires c = families (goal.at.put_range-bytes-requires c).After-lt

pub returns-then-bytes-eq0 : goal.returns-then-bytes-eq0
returns-then-bytes-eq0 c =
    wrote_none _ _ (families (goal.at.returns-then-bytes-eq0 c).After-lt) (rises (goal.at.returns-then-bytes-eq0 c).Else-lt) c.put_range-bytes.ensures c.if-bytes-eq0.true

pub returns-then-family-eq4 : goal.returns-then-family-eq4
returns-then-family-eq4 c =
    wrote_all _ _ (families (goal.at.returns-then-family-eq4 c).After-lt) (rises (goal.at.returns-then-family-eq4 c).Else-lt) c.put_range-bytes.ensures 32 (width_4 (goal.at.returns-then-family-eq4 c).After-lt.args.first (sym c.family-3.ensures ∙ c.if-family-eq4.true)) c.if-bytes-eq0.false

pub returns : goal.returns
returns c =
    wrote_all _ _ (families (goal.at.returns c).After-lt) (rises (goal.at.returns c).Else-lt) c.put_range-bytes.ensures 128 (width_6 (goal.at.returns c).After-lt.args.first λ q. c.if-family-eq4.false (c.family-3.ensures ∙ q)) c.if-bytes-eq0.false
