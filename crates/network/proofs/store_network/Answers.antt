-- `network::store_network` meets its contract. Assumes nothing.
use mathlib.Core.Path.{◌≡◌, refl, sym, ap, ap₂, ◌∙◌}
use Prim.Native.Nat.{max}
use native.Mathlib.Omega.{arith}
use borrow.Author.Rules.{rules}
use lib.ListN.{length, take}
use lib.Seq.{length-take-le}
use Rattle.notation.specs.BigEndian.{digits_of}
use Rattle.notation.proofs.OptionLaws.{passed_on}
use Rattle.notation.proofs.DigitLaws.{digits_length}
use Rattle.address.specs.Answers.{writing_answer}
use Rattle.network.specs.NetworkText.{size_bytes}
use Rattle.network.proofs.NetworkLaws.{octets_stored, octets_front, store_wrote, store_refused}
use Rattle.network.proofs.store_network.Goals.{After-max-n}
use Rattle.network.proofs.store_network.Goals as goal

-- the first octets of the number
front : (c : After-max-n)
    → take c.max-n.result c.put_four.new.out
    ≡ take (max c.args.count (size_bytes c.args.size)) (digits_of 256 4 c.args.value)
front c = ap₂ (λ n xs. take n xs) c.max-n.ensures (octets_stored _ _ _ refl c.put_four.ensures)

-- as many as are wanted
long : (c : After-max-n)
    → length (take c.max-n.result c.put_four.new.out)
    ≡ max c.args.count (size_bytes c.args.size)
long c = ap length (front c) ∙ octets_front _ _ (let p = c.requires in omega arith)

pub slice_bounds-store-end : goal.slice_bounds-store-end
slice_bounds-store-end c =
    let four = octets_stored _ _ _ refl c.put_four.ensures in
    sym (length-take-le _ _ (rw four (rw (digits_length 256 4 _) (search rules))))

pub returns : goal.returns
returns c =
    rw (← front (goal.at.returns c).After-max-n) (store_wrote _ _ _ _ (long (goal.at.returns c).After-max-n) _ (sym (ap writing_answer c.in_ok-written.was) ∙ c.store.ensures.0), c.store.ensures.1)

pub returns-in_err-written : goal.returns-in_err-written
returns-in_err-written c =
    rw (passed_on c.from_residual.ensures.1, ← front (goal.at.returns-in_err-written c).After-max-n)
    (store_refused _ _ _ _ (long (goal.at.returns-in_err-written c).After-max-n) c.in_err-written.field-0.0 (sym (ap writing_answer c.in_err-written.was) ∙ c.store.ensures.0), c.store.ensures.1)
