-- `network::given::read_given` meets its contract. Assumes nothing.
use Rattle.std.specs.Prelude.{Some}
use mathlib.Core.Path.{◌≡◌, sym, ap, ◌∙◌}
use mathlib.Core.Bool.{true}
use borrow.Author.Rules.{rules}
use mathlib.Core.List.{List}
use Prim.Native.Nat.{ℕ}
use lib.ListN.{drop}
use Rattle.notation.specs.Pieces.{index_of}
use Rattle.notation.proofs.SliceLaws.{tail, to_end}
use Rattle.digits.specs.Numerals.{hex_marked}
use Rattle.digits.proofs.MarkLaws.{marked_long}
use Rattle.network.specs.GivenBytes.{hex_bytes, before_slash, as_given}
use Rattle.network.proofs.GivenLaws.{hex_not_given, slash_within, hex_is_given, given_parts}
use Rattle.network.proofs.given.read_given.Goals.{Else-not-hex_marked, In_ok-value}
use Rattle.network.proofs.given.read_given.Goals as goal

pub returns-then-not-hex_marked : goal.returns-then-not-hex_marked
returns-then-not-hex_marked c =
    let t = c.args.text.now in
    c.part_bytes.ensures ∙ ap (λ o. as_given o (index_of 47 t)) (sym (given_parts t (sym c.hex_marked.ensures ∙ c.if-not-hex_marked.true)))

-- the text has the two bytes of the mark
marked : (c : Else-not-hex_marked) → hex_marked c.args.text.now ≡ true
marked c = sym c.hex_marked.ensures ∙ c.if-not-hex_marked.false

pub slice_bounds-hex_bytes-count : goal.slice_bounds-hex_bytes-count
slice_bounds-hex_bytes-count c = marked_long _ (marked (goal.at.slice_bounds-hex_bytes-count c).Else-not-hex_marked)

pub slice_bounds-hex_bytes-start : goal.slice_bounds-hex_bytes-start
slice_bounds-hex_bytes-start c = let two = marked_long _ (marked (goal.at.slice_bounds-hex_bytes-start c).Else-not-hex_marked) in search rules

-- the bytes behind the mark
behind : (t : List ℕ) → (as_given (hex_bytes (before_slash (tail 2 t))) (index_of 47 (tail 2 t)) ≡ as_given (hex_bytes (before_slash (drop 2 t))) (index_of 47 (drop 2 t)))
behind t = ap (λ u. as_given (hex_bytes (before_slash u)) (index_of 47 u)) (to_end 2 t)

pub returns-in_err-value : goal.returns-in_err-value
returns-in_err-value c =
    rw c.from_residual.ensures (hex_not_given _ (marked (goal.at.returns-in_err-value c).Else-not-hex_marked) (c.in_err-value.ensures ∙ behind c.args.text.now))

said : (c : In_ok-value) → let t = c.args.text.now in
    (Some (c.in_ok-value.value, c.in_ok-value.count, c.in_ok-value.slash) ≡ as_given (hex_bytes (before_slash (drop 2 t))) (index_of 47 (drop 2 t)))
said c = c.in_ok-value.ensures ∙ behind c.args.text.now

pub overflow_add-result : goal.overflow_add-result
overflow_add-result c = let less = slash_within _ (marked (goal.at.overflow_add-result c).Else-not-hex_marked) _ _ _ (said (goal.at.overflow_add-result c).In_ok-value) in search rules

pub returns : goal.returns
returns c = hex_is_given _ (marked (goal.at.returns c).Else-not-hex_marked) _ _ _ (said (goal.at.returns c).In_ok-value)
