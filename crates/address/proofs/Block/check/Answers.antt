-- `address::Block::check` meets its contract. Assumes nothing.
use mathlib.Core.Path.{◌≡◌, sym, ap₂, ◌∙◌}
use Prim.Native.Nat.{ℕ, ◌-◌, ◌%◌, ◌≤◌, ◌^◌}
use lib.Dec.{eqb}
use Rattle.address.specs.Addresses.{width, number}
use Rattle.address.proofs.BlockLaws.{refusal_length, refusal_bits, refusal_neither}
use Rattle.address.proofs.Block.check.Goals.{After-ends_in_zeros}
use Rattle.address.proofs.Block.check.Goals as goal

-- at the test of the bits
short : (d : After-ends_in_zeros) → d.args.self.length ≤ width d.args.self.address
short d = rw (← d.width-width.ensures) d.if-width-length.false

tested : (d : After-ends_in_zeros)
    → d.ends_in_zeros.result ≡ eqb (number d.args.self.address % 2 ^ (width d.args.self.address - d.args.self.length)) 0
tested d =
    d.ends_in_zeros.ensures
    ∙ ap₂ (λ (n w : ℕ). eqb (n % 2 ^ (w - d.args.self.length)) 0) d.number.ensures d.width-width.ensures

pub returns-then-width-length : goal.returns-then-width-length
returns-then-width-length c =
    sym (refusal_length c.args.self (rw (← c.width-width.ensures) c.if-width-length.true))

pub returns-then-ends_in_zeros : goal.returns-then-ends_in_zeros
returns-then-ends_in_zeros c =
    sym (refusal_neither c.args.self (short (goal.at.returns-then-ends_in_zeros c).After-ends_in_zeros) (sym (tested (goal.at.returns-then-ends_in_zeros c).After-ends_in_zeros) ∙ c.if-ends_in_zeros.true))

pub returns : goal.returns
returns c =
    sym (refusal_bits c.args.self (short (goal.at.returns c).After-ends_in_zeros) (sym (tested (goal.at.returns c).After-ends_in_zeros) ∙ c.if-ends_in_zeros.false))
