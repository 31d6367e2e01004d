-- `normal::write_address` meets its contract. Assumes nothing.
use mathlib.Core.Path.{◌≡◌, sym, ap, ◌∙◌}
use native.Mathlib.Omega.{arith}
use lib.ListN.{length, take}
use Rattle.output.proofs.PlacingLaws.{puts_whole}
use Rattle.normal.specs.Normal.{normal_text}
use Rattle.normal.proofs.BoundLaws.{text_most}
use Rattle.normal.proofs.write_address.Goals.{After-put_address-n}
use Rattle.normal.proofs.write_address.Goals as goal

-- the text has room in the array
whole : (c : After-put_address-n)
    → (c.put_address-n.result ≡ length (normal_text c.args.address))
    × (take c.put_address-n.result c.put_address-n.new.text ≡ normal_text c.args.address)
whole c = puts_whole c.put_address-n.ensures (omega (arith, text_most c.args.address))

pub slice_bounds-store-end : goal.slice_bounds-store-end
slice_bounds-store-end c = let w = whole (goal.at.slice_bounds-store-end c).After-put_address-n in w.0 ∙ ap length (sym w.1)

pub returns : goal.returns
returns c =
    rw (← (whole (goal.at.returns c).After-put_address-n).1) c.store.ensures
