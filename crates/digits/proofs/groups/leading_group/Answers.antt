-- `digits::groups::leading_group` meets its contract. Assumes nothing.
use mathlib.Core.Path.{◌≡◌, refl, ap, ◌∙◌}
use mathlib.Core.List.{List, map}
use Prim.Native.Nat.{ℕ, ◌/◌, ◌<◌}
use native.Mathlib.Omega.{arith}
use lib.Count.{count_trailing_zeros}
use lib.ListN.{get_or}
use Rattle.notation.specs.BigEndian.{number_of}
use Rattle.digits.specs.Numerals.{digit_of, digit_count}
use Rattle.digits.specs.Bytes.{bytes_of, first_four, flag_of, nibble_of}
use Rattle.digits.proofs.ByteLaws.{count_is}
use Rattle.digits.proofs.HexLaws.{no_group, some_group, fifth_digit, four_digits}
use borrow.Author.Rules.{rules}
use Rattle.digits.proofs.groups.leading_group.Goals.{After-flags}
use Rattle.digits.proofs.groups.leading_group.Goals as goal

-- the text, its bytes, and how many of the first four are digits before the first that is none
abbrev text : After-flags → List ℕ
text c = c.args.text.now

bytes : (c : After-flags) (i : ℕ) → get_or (text c) i 0 < 256
bytes c i = omega (arith, c.shared_slice_known-1.given i)

abbrev count : After-flags → ℕ
count c = count_trailing_zeros 32 c.flags.result / 8

counted : (c : After-flags) → count c ≡ digit_count 16 (first_four (text c))
counted c = count_is c.flags.result (search rules) (get_or (text c) 0 0) (get_or (text c) 1 0) (get_or (text c) 2 0) (get_or (text c) 3 0) (c.flags.ensures ∙ ap (map flag_of) c.first_four-w.ensures)

-- the number that they write
written : (c : After-flags) {x : ℕ} → x ≡ number_of 16 (map nibble_of (bytes_of c.first_four-w.result)) → x ≡ number_of 16 (map nibble_of (first_four (text c)))
written c e = e ∙ ap (λ bs. number_of 16 (map nibble_of bs)) c.first_four-w.ensures

pub returns-then-digit_value-lt16 : goal.returns-then-digit_value-lt16
returns-then-digit_value-lt16 c =
    fifth_digit (text (goal.at.returns-then-digit_value-lt16 c).After-flags) (bytes (goal.at.returns-then-digit_value-lt16 c).After-flags) (count (goal.at.returns-then-digit_value-lt16 c).After-flags) _ (counted (goal.at.returns-then-digit_value-lt16 c).After-flags) refl c.if-count-gt3.true
    (omega (arith, c.if-digit_value-lt16.true, c.digit_value.ensures, ap digit_of c.byte_at.ensures))

pub returns-then-count-gt3 : goal.returns-then-count-gt3
returns-then-count-gt3 c =
    four_digits (text (goal.at.returns-then-count-gt3 c).After-flags) (bytes (goal.at.returns-then-count-gt3 c).After-flags) (count (goal.at.returns-then-count-gt3 c).After-flags) c.packed.result (counted (goal.at.returns-then-count-gt3 c).After-flags) (written (goal.at.returns-then-count-gt3 c).After-flags c.packed.ensures) c.if-count-gt3.true
    (omega (arith, c.if-digit_value-lt16.false, c.digit_value.ensures, ap digit_of c.byte_at.ensures))

pub returns-then-count-eq0 : goal.returns-then-count-eq0
returns-then-count-eq0 c =
    no_group (text (goal.at.returns-then-count-eq0 c).After-flags) (bytes (goal.at.returns-then-count-eq0 c).After-flags) (count (goal.at.returns-then-count-eq0 c).After-flags) _ (counted (goal.at.returns-then-count-eq0 c).After-flags) refl c.if-count-eq0.true

pub returns : goal.returns
returns c =
    some_group (text (goal.at.returns c).After-flags) (bytes (goal.at.returns c).After-flags) (count (goal.at.returns c).After-flags) c.packed-2.result (counted (goal.at.returns c).After-flags) (written (goal.at.returns c).After-flags c.packed-2.ensures) c.if-count-eq0.false c.if-count-gt3.false
