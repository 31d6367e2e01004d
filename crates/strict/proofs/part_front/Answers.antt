-- `strict::part_front` meets its contract. The invariant: no longer beginning is a part. Assumes nothing.
use mathlib.Core.Path.{◌≡◌, sym, ap, ◌∙◌}
use Prim.Native.Nat.{min}
use native.Mathlib.Omega.{arith}
use borrow.Author.Rules.{rules}
use lib.ListN.{length}
use lib.Seq.{length-take-le}
use Rattle.place.specs.Place.{part_up_to}
use Rattle.strict.proofs.CodeLaws.{up_to_yes, up_to_no}
use Rattle.strict.proofs.part_front.Goals as goal

pub loop-n-init : goal.loop-n-init
loop-n-init c =
    let t = c.args.text.now in
    let e : c.min-n.result ≡ min 3 (length t) = omega arith in
    (omega arith, ap (λ n. part_up_to n t) (sym e))

pub slice_bounds-is_part-end : goal.slice_bounds-is_part-end
slice_bounds-is_part-end c = sym (length-take-le _ _ (search rules))

pub returns-then-is_part : goal.returns-then-is_part
returns-then-is_part c =
    let t = c.args.text.now in
    sym (c.loop-n.invariant.1 ∙ up_to_yes c.loop-n.n t (omega arith) (sym c.is_part.ensures ∙ c.if-is_part.true))

pub loop-n-preserved : goal.loop-n-preserved
loop-n-preserved c =
    let t = c.args.text.now in
    (omega arith, c.loop-n.invariant.1 ∙ up_to_no c.loop-n.n t (omega arith) (sym c.is_part.ensures ∙ c.if-is_part.false))

pub returns : goal.returns
unfolding part_up_to
returns c =
    let t = c.args.text.now in
    let e : c.loop-n.n ≡ 0 = omega arith in
    sym (c.loop-n.invariant.1 ∙ ap (λ n. part_up_to n t) e)
