-- One part of a loose text: what the form has is what is read. Assumes nothing.
use Rattle.std.specs.Prelude.{Some}
use mathlib.Core.Path.{◌≡◌, refl, sym, ap, subst, ◌∙◌}
use mathlib.Core.Bool.{Bool, true, false, cond, ◌&&◌, ◌||◌}
use mathlib.Core.List.{List, [], ◌∷◌}
use Prim.Native.Nat.{ℕ, ◌≤◌, ◌<◌}
use native.Mathlib.Omega.{arith}
use borrow.Author.Tests.{ne_eqb, eqb-true, eqb-false}
use lib.Dec.{eqb}
use lib.ListN.{length, drop}
use Rattle.notation.specs.BigEndian.{number_of}
use Rattle.notation.proofs.OptionLaws.{impossible}
use Rattle.digits.specs.Numerals.{digit_of, all_digits, text_number, hex_marked}
use Rattle.digits.proofs.NumeralLaws.{Digits, read_digits}
use Rattle.loose.specs.Loose.{loose_part}
use Rattle.grammar.specs.Rfc3986.{DIGIT}
use Rattle.grammar.specs.LooseForm.{OCTDIG, x30-37, LoosePart, after_lower_0x, after_upper_0x, after_0, else_decimal, only_0}
use Rattle.grammar.proofs.DigitStringLaws.{byte, digit_value, is_digit, bounds, all_cons, Same, same_10, same_16, digits_all, digits_read, reads_digits}

-- ---- octal digits

octal_value : {c d : ℕ} → OCTDIG c d → (digit_of c ≡ d) × (d < 8)
octal_value (x30-37 {c} h l) = ((digit_value (byte c h (omega arith))).0, omega arith)

small_octal : {c d : ℕ} → DIGIT c d → d < 8 → OCTDIG c d
small_octal {c} {d} h l = let b = bounds h in subst (OCTDIG c) (sym b.2) (x30-37 b.0 (omega arith))

pub same_8 : Same 8 OCTDIG
same_8 = record { value = octal_value; is = λ c h. small_octal (is_digit c (omega arith)) h }

-- ---- parts

-- octal digits do not begin with `x` or `X`
octal_unmarked : (t : List ℕ) → Digits 8 t → hex_marked (48 ∷ t) ≡ false
unfolding hex_marked
octal_unmarked [] d = refl
octal_unmarked (c ∷ t) d =
    let b = bounds (is_digit c (let a = all_cons 8 c t d.all in omega arith)) in
    rw (ne_eqb c 120 (omega arith), ne_eqb c 88 (omega arith))

decimal_unmarked : (c : ℕ) (t : List ℕ) → 49 ≤ c → hex_marked (c ∷ t) ≡ false
unfolding hex_marked
decimal_unmarked c [] h = refl
decimal_unmarked c (d ∷ t) h = rw (ne_eqb c 48 (omega arith))

zero_number : (t : List ℕ) → 0 < length t → text_number 8 (48 ∷ t) ≡ text_number 8 t
unfolding text_number all_digits digit_of number_of
zero_number [] h = absurd (omega arith)
zero_number (c ∷ t) h = refl

zero_alone : text_number 8 (48 ∷ []) ≡ Some 0
unfolding text_number all_digits digit_of
zero_alone = refl

pub part_reads : {p : List ℕ} {n : ℕ} → LoosePart p n → loose_part p ≡ Some n
unfolding loose_part
part_reads (after_lower_0x g) = digits_read same_16 g
part_reads (after_upper_0x g) = digits_read same_16 g
part_reads (after_0 {t} g) = let d = digits_all same_8 g in rw (octal_unmarked t d) (zero_number t d.any ∙ digits_read same_8 g)
part_reads (else_decimal {c} {t} l g) = rw (decimal_unmarked c t l, ne_eqb c 48 (omega arith)) (digits_read same_10 g)
part_reads only_0 = zero_alone

-- digits that do not begin with `0`
reads_decimal : (c : ℕ) (t : List ℕ) (n : ℕ) → eqb c 48 ≡ false → text_number 10 (c ∷ t) ≡ Some n → LoosePart (c ∷ t) n
reads_decimal c t n z e =
    let a = all_cons 10 c t (read_digits 10 (c ∷ t) n e).all in
    let b = bounds (is_digit c a.0) in
    let other = eqb-false c 48 z in
    else_decimal {c = c} (omega arith) (reads_digits same_10 (c ∷ t) n e)

pub reads_part : (p : List ℕ) (n : ℕ) → loose_part p ≡ Some n → LoosePart p n
unfolding loose_part
reads_part [] n e = impossible e
reads_part (c ∷ []) n e = go (eqb c 48) refl e
  where
    go : (p : Bool) → eqb c 48 ≡ p → text_number (cond p 8 10) (c ∷ []) ≡ Some n → LoosePart (c ∷ []) n
    go true q k =
        let same = eqb-true c 48 q in
        let none_else : 0 ≡ n = let z = zero_alone in let f : text_number 8 (48 ∷ []) ≡ Some n = ap (λ (b : ℕ). text_number 8 (b ∷ [])) (sym same) ∙ k in cc in
        rw same (subst (LoosePart (48 ∷ [])) none_else only_0)
    go false q k = reads_decimal c [] n q k
reads_part (c ∷ d ∷ t) n e = go (eqb c 48) refl (eqb d 120) refl (eqb d 88) refl e
  where
    go : (p : Bool) → eqb c 48 ≡ p → (q : Bool) → eqb d 120 ≡ q → (r : Bool) → eqb d 88 ≡ r
        → text_number (cond (p && (q || r)) 16 (cond p 8 10)) (drop (cond (p && (q || r)) 2 0) (c ∷ d ∷ t)) ≡ Some n → LoosePart (c ∷ d ∷ t) n
    go true f true g r h k = rw (eqb-true c 48 f, eqb-true d 120 g) (after_lower_0x (reads_digits same_16 t n k))
    go true f false g true h k = rw (eqb-true c 48 f, eqb-true d 88 h) (after_upper_0x (reads_digits same_16 t n k))
    go true f false g false h k =
        let same = eqb-true c 48 f in
        rw same (after_0 (reads_digits same_8 (d ∷ t) n (sym (zero_number (d ∷ t) (omega arith)) ∙ ap (λ (b : ℕ). text_number 8 (b ∷ d ∷ t)) (sym same) ∙ k)))
    go false f q g r h k = reads_decimal c (d ∷ t) n f k
