-- `network::write_network` meets its contract. Assumes nothing.
use mathlib.Core.Path.{◌≡◌, refl, sym, ap, ◌∙◌}
use mathlib.Core.List.{List}
use Prim.Native.Nat.{ℕ}
use native.Mathlib.Omega.{arith}
use lib.ListN.{length, take}
use Rattle.address.specs.declared.Address.TheVariants.{V4}
use Rattle.address.specs.declared.Refusal.TheVariants.{LengthTooLarge, WrongFamily}
use Rattle.address.proofs.AnswerLaws.{write_none, write_other}
use Rattle.output.proofs.PlacingLaws.{puts_whole}
use Rattle.network.specs.NetworkText.{network_text}
use Rattle.network.proofs.TextLaws.{text_most, no_reason, write_6, write_large}
use Rattle.network.proofs.write_network.Goals.{After-put_network-n}
use Rattle.network.proofs.write_network.Goals as goal

pub returns-in_default : goal.returns-in_default
returns-in_default c =
    rw c.in_default.is (write_other _ _ _ WrongFamily (write_6 c.in_default.field-0 c.in_default.field-1 c.args.size))

pub returns-then-size-gt32 : goal.returns-then-size-gt32
returns-then-size-gt32 c =
    rw c.in-V4.is (write_other _ _ _ LengthTooLarge (write_large c.in-V4.v c.args.size c.if-size-gt32.true))

abbrev text : After-put_network-n → List ℕ
text c = network_text c.in-V4.v c.args.size

-- the text has room in the array
whole : (c : After-put_network-n) → (c.put_network-n.result ≡ length (text c)) × (take c.put_network-n.result c.put_network-n.new.text ≡ text c)
whole c =
    puts_whole c.put_network-n.ensures (omega (arith, text_most c.in-V4.v _ c.if-size-gt32.false))

pub slice_bounds-store-end : goal.slice_bounds-store-end
slice_bounds-store-end c = let w = whole (goal.at.slice_bounds-store-end c).After-put_network-n in w.0 ∙ ap length (sym w.1)

pub returns : goal.returns
returns c =
    rw (c.in-V4.is, ← (whole (goal.at.returns c).After-put_network-n).1) (write_none _ _ _ ((no_reason (V4 c.in-V4.v) c.args.size).1 (refl, c.if-size-gt32.false)) c.store.ensures)
