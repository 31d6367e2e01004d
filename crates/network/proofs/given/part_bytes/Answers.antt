-- `network::given::part_bytes` meets its contract. Assumes nothing.
use Rattle.std.specs.Prelude.{Some}
use mathlib.Core.Path.{◌≡◌, sym, ap, ◌∙◌}
use native.Mathlib.Omega.{arith}
use borrow.Author.Rules.{rules}
use lib.ListN.{take}
use lib.Seq.{length-take-le}
use Rattle.notation.specs.Pieces.{index_of}
use Rattle.notation.proofs.PieceLaws.{index_le}
use Rattle.ipv4_text.specs.Dotted.{parts_of, as_parts}
use Rattle.network.specs.GivenBytes.{before_slash, as_given}
use Rattle.network.proofs.GivenLaws.{parts_nothing, parts_count, parts_number}
use Rattle.network.proofs.given.part_bytes.Goals.{After-find-slash, In_ok-value}
use Rattle.network.proofs.given.part_bytes.Goals as goal

pub slice_bounds-read_parts-end : goal.slice_bounds-read_parts-end
slice_bounds-read_parts-end c = sym (length-take-le _ _ (omega (arith, c.find-slash.ensures, index_le 47 c.args.text.now)))

-- what is read of the piece before the slash is read of the text
placed : (f : After-find-slash) → let t = f.args.text.now in
    (as_given (parts_of (take f.find-slash.result t)) f.find-slash.result ≡ as_given (parts_of (before_slash t)) (index_of 47 t))
placed f = let t = f.args.text.now in ap (λ k. as_given (parts_of (take k t)) k) f.find-slash.ensures

pub returns-in_err-value : goal.returns-in_err-value
returns-in_err-value c =
    rw c.from_residual.ensures (parts_nothing _ _ c.in_err-value.ensures ∙ placed (goal.at.returns-in_err-value c).After-find-slash)

-- the parts before the slash
said : (c : In_ok-value) → (Some (c.in_ok-value.value, c.in_ok-value.count) ≡ as_parts (parts_of (take c.find-slash.result c.args.text.now)))
said c = c.in_ok-value.ensures

pub overflow_mul-result : goal.overflow_mul-result
overflow_mul-result c = let few = parts_count _ 0 _ _ (said (goal.at.overflow_mul-result c).In_ok-value) in search rules

pub overflow_sub-result : goal.overflow_sub-result
overflow_sub-result c = omega (arith, parts_count _ 0 _ _ (said (goal.at.overflow_sub-result c).In_ok-value))

pub overflow_shl-result : goal.overflow_shl-result
overflow_shl-result c = omega (arith, parts_count _ 0 _ _ (said (goal.at.overflow_shl-result c).In_ok-value))

pub returns : goal.returns
returns c = parts_number _ _ _ _ (said (goal.at.returns c).In_ok-value) ∙ placed (goal.at.returns c).After-find-slash
