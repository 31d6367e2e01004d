-- `gather::Records::span` meets its contract. Assumes nothing.
use mathlib.Core.Path.{◌≡◌, sym, ap, subst, ◌∙◌}
use Prim.Native.Nat.{◌+◌, ◌-◌, ◌*◌}
use native.Mathlib.Omega.{arith}
use lib.ListN.{get_or}
use Rattle.cover.specs.Blocks.{Block, IsBlock, after}
use Rattle.gather.specs.Inner.{width_of, numbers, record_at}
use Rattle.gather.proofs.BlockLaws.{size_some, at_inside, at_block}
use Rattle.gather.proofs.Records.span.Goals.{After-address-first}
use Rattle.gather.proofs.Records.span.Goals as goal

-- the block that is read
same : (c : After-address-first) → let a = c.args in
    numbers c.address-first.result (get_or a.self.bytes.now (a.i * c.size-size.result + (c.size-size.result - 1)) 0) ≡ record_at (width_of a.self.family) a.self.bytes.now a.i
same c = rw c.size-size.ensures (at_block c.requires.0 _ c.address-first.ensures)

pub overflow_sub-length : goal.overflow_sub-length
overflow_sub-length c = omega (arith, c.size-size.ensures, (size_some c.requires.0.sized).0)

pub bounds-self-i : goal.bounds-self-i
bounds-self-i c = rw c.size-size.ensures (at_inside c.requires.0)

pub last_of-last-requires : goal.last_of-last-requires
last_of-last-requires c =
    subst (IsBlock (width_of c.args.self.family)) (sym (same (goal.at.last_of-last-requires c).After-address-first)) c.requires.1

pub returns : goal.returns
returns c =
    let W = width_of c.args.self.family in
    let e = same (goal.at.returns c).After-address-first in
    record { first = c.address-first.ensures; last = c.last_of-last.ensures ∙ ap (λ b. after W b - 1) e; length = ap (λ (b : Block). b.length) e }
