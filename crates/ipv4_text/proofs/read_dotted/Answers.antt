-- `ipv4_text::read_dotted` meets its contract. Assumes nothing.
use Rattle.std.specs.Prelude.{Some}
use mathlib.Core.Path.{◌≡◌, sym, ◌∙◌}
use mathlib.Core.List.{List}
use Prim.Native.Nat.{ℕ}
use native.Mathlib.Omega.{arith}
use borrow.Author.Tests.{eq-eqb, ne_eqb}
use lib.ListN.{length}
use Rattle.notation.specs.BigEndian.{number_of}
use Rattle.ipv4_text.specs.Dotted.{parts_of}
use Rattle.ipv4_text.proofs.DottedLaws.{numbers_says, not_parts_says, parts_are, dotted_parts, dotted_none}
use Rattle.ipv4_text.proofs.read_dotted.Goals.{In_ok-value}
use Rattle.ipv4_text.proofs.read_dotted.Goals as goal

pub returns-in_err-value : goal.returns-in_err-value
returns-in_err-value c =
    let t = c.args.text.now in
    rw c.from_residual.ensures (sym (dotted_none t (not_parts_says (parts_of t) c.in_err-value.ensures)))

-- the parts that were read
said : (c : In_ok-value) → (xs : List ℕ) × (parts_of c.args.text.now ≡ Some xs) × (c.in_ok-value.value ≡ number_of 256 xs) × (c.in_ok-value.count ≡ length xs)
said c = numbers_says (parts_of _) _ _ c.in_ok-value.ensures

pub returns-then-count-lt4 : goal.returns-then-count-lt4
returns-then-count-lt4 c =
    let s = said (goal.at.returns-then-count-lt4 c).In_ok-value in
    let few = s.3 in
    sym (dotted_parts _ s.0 s.1 ∙ rw (ne_eqb (length s.0) 4 (omega arith)))

pub returns : goal.returns
returns c =
    let s = said (goal.at.returns c).In_ok-value in
    let many = s.3 in
    rw s.2 (sym (dotted_parts _ s.0 s.1 ∙ rw (eq-eqb (length s.0) 4 (omega (arith, (parts_are _ s.0 s.1).octets.most)))))
