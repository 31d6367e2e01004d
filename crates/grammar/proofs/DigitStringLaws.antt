-- Digits and strings of digits: what the rules have is what is read. Assumes nothing.
use Rattle.std.specs.Prelude.{Some}
use mathlib.Core.Path.{◌≡◌, refl, sym, ap, ap₂, subst, ◌∙◌}
use mathlib.Core.Bool.{Bool, true, false, cond, and-eq-true_iff}
use mathlib.Core.List.{List, [], ◌∷◌, ◌++◌, map, append_assoc, append-nil}
use mathlib.Core.Logic.{◌⊎◌, inl, inr, ⊎_elim}
use Prim.Native.Nat.{ℕ, suc, ◌+◌, ◌-◌, ◌*◌, ◌≤◌, ◌<◌}
use native.Mathlib.Nat.{zero-mul}
use native.Mathlib.Omega.{arith}
use borrow.Author.Tests.{le-leb, lt-leb, lt-ltb, ltb-true}
use lib.Dec.{ltb}
use lib.ListN.{length, length-append, replicate}
use Rattle.notation.specs.BigEndian.{number_from, number_of}
use Rattle.notation.specs.Ascii.{within}
use Rattle.notation.proofs.AsciiLaws.{within_exactly}
use Rattle.notation.proofs.DigitLaws.{from_append}
use Rattle.digits.specs.Numerals.{digit_of, all_digits, text_number}
use Rattle.digits.proofs.NumeralLaws.{Digits, read_number, read_digits}
use Rattle.grammar.specs.Rfc3986.{DIGIT, x30-39, HEXDIG, digit, A-F, a_f, DigitString, one, and_one}

-- ---- digits

pub digit_value : {c d : ℕ} → DIGIT c d → (digit_of c ≡ d) × (d < 10)
unfolding digit_of
digit_value (x30-39 {c} h l) = (rw (le-leb 48 c h, le-leb c 57 l), omega arith)

-- a byte is a digit of the grammar, or it is read as none
kind : (c : ℕ) → HEXDIG c (digit_of c) ⊎ (digit_of c ≡ 16)
unfolding digit_of
kind c = go (within 48 57 c) refl (within 65 70 c) refl (within 97 102 c) refl
  where
    go : (p : Bool) → within 48 57 c ≡ p → (q : Bool) → within 65 70 c ≡ q → (r : Bool) → within 97 102 c ≡ r
        → HEXDIG c (cond p (c - 48) (cond q (c - 55) (cond r (c - 87) 16))) ⊎ (cond p (c - 48) (cond q (c - 55) (cond r (c - 87) 16)) ≡ 16)
    go true e q f r g = inl (digit (x30-39 ((within_exactly 48 57 c).0 e).0 ((within_exactly 48 57 c).0 e).1))
    go false e true f r g = let w = (within_exactly 65 70 c).0 f in inl (subst (HEXDIG c) (omega arith) (A-F w.0 w.1))
    go false e false f true g = let w = (within_exactly 97 102 c).0 g in inl (subst (HEXDIG c) (omega arith) (a_f w.0 w.1))
    go false e false f false g = inr refl

pub hex_value : {c d : ℕ} → HEXDIG c d → (digit_of c ≡ d) × (d < 16)
unfolding digit_of
hex_value (digit h) = let v = digit_value h in (v.0, omega arith)
hex_value (A-F {c} h l) = (rw (lt-leb c 57 (omega arith), le-leb 48 c (omega arith), le-leb 65 c h, le-leb c 70 l) (omega arith), omega arith)
hex_value (a_f {c} h l) =
    (rw (lt-leb c 57 (omega arith), le-leb 48 c (omega arith), lt-leb c 70 (omega arith), le-leb 65 c (omega arith), le-leb 97 c h, le-leb c 102 l) (omega arith), omega arith)

-- a byte that is read as a hex digit is one, and so for a decimal digit
pub is_hex : (c : ℕ) → digit_of c < 16 → HEXDIG c (digit_of c)
is_hex c h = ⊎_elim (λ d. d) (λ e. absurd (omega arith)) (kind c)

hex_digit : {c d : ℕ} → HEXDIG c d → d < 10 → DIGIT c d
hex_digit (digit h) l = h
hex_digit (A-F h k) l = absurd (omega arith)
hex_digit (a_f h k) l = absurd (omega arith)

pub is_digit : (c : ℕ) → digit_of c < 10 → DIGIT c (digit_of c)
is_digit c h = hex_digit (is_hex c (omega arith)) h

-- the byte of a digit
pub byte : (c : ℕ) → 48 ≤ c → c ≤ 57 → DIGIT c (c - 48)
byte c h l = x30-39 h l

-- the bytes of digits
pub bounds : {c d : ℕ} → DIGIT c d → (48 ≤ c) × (c ≤ 57) × (d ≡ c - 48)
bounds (x30-39 h l) = (h, l, refl)

pub all_cons : (base c : ℕ) (t : List ℕ) → all_digits base (c ∷ t) ≡ true → (digit_of c < base) × (all_digits base t ≡ true)
unfolding all_digits
all_cons base c t e = let w = (and-eq-true_iff (ltb (digit_of c) base) (all_digits base t)).0 e in (ltb-true (digit_of c) base w.0, w.1)

-- ---- digits of a base

-- the digits of the form are the digits that are read
pub record Same (base : ℕ) (D : ℕ → ℕ → Type 0) : Type 0 where
  pub value : {c d : ℕ} → D c d → (digit_of c ≡ d) × (d < base)
  pub is : (c : ℕ) → digit_of c < base → D c (digit_of c)

pub same_16 : Same 16 HEXDIG
same_16 = record { value = hex_value; is = is_hex }

pub same_10 : Same 10 DIGIT
same_10 = record { value = digit_value; is = is_digit }

all_append : (base : ℕ) (s t : List ℕ) → all_digits base s ≡ true → all_digits base t ≡ true → all_digits base (s ++ t) ≡ true
unfolding all_digits
all_append base [] t h k = k
all_append base (c ∷ s) t h k = let a = all_cons base c s h in rw (lt-ltb (digit_of c) base a.0) (all_append base s t a.1 k)

map_append : (f : ℕ → ℕ) (s t : List ℕ) → map f (s ++ t) ≡ map f s ++ map f t
map_append f [] t = refl
map_append f (c ∷ s) t = ap (λ r. f c ∷ r) (map_append f s t)

module _ {base : ℕ} {D : ℕ → ℕ → Type 0} (same : Same base D) where
  -- one digit
  single_all : {c d : ℕ} → D c d → all_digits base (c ∷ []) ≡ true
  unfolding all_digits
  single_all {c} {d} h = let v = same.value h in rw (v.0, lt-ltb d base v.1)

  pub digits_all : {t : List ℕ} {n : ℕ} → DigitString base D t n → Digits base t
  digits_all (one h) = record { all = single_all h; any = omega arith }
  digits_all (and_one {t} {n} {c} {d} g h) =
      let r = digits_all g in
      record { all = all_append base t (c ∷ []) r.all (single_all h); any = omega (arith, length-append t (c ∷ [])) }

  pub digits_value : {t : List ℕ} {n : ℕ} → DigitString base D t n → number_of base (map digit_of t) ≡ n
  unfolding number_of
  digits_value (one {c} {d} h) = omega (arith, (same.value h).0, zero-mul base)
  digits_value (and_one {t} {n} {c} {d} g h) =
      ap (number_of base) (map_append digit_of t (c ∷ []))
      ∙ from_append base 0 (map digit_of t) (digit_of c ∷ [])
      ∙ ap₂ (λ (x y : ℕ). x * base + y) (digits_value g) (same.value h).0

  pub digits_read : {t : List ℕ} {n : ℕ} → DigitString base D t n → text_number base t ≡ Some n
  digits_read {t} {n} g = read_number base t (digits_all g) ∙ ap Some (digits_value g)

  -- more digits behind some
  digits_more : (s t : List ℕ) (n : ℕ) → DigitString base D s n → all_digits base t ≡ true → DigitString base D (s ++ t) (number_from base n (map digit_of t))
  unfolding number_from
  digits_more s [] n g e = subst (λ u. DigitString base D u n) (sym (append-nil s)) g
  digits_more s (c ∷ t) n g e =
      let a = all_cons base c t e in
      subst (λ u. DigitString base D u (number_from base (n * base + digit_of c) (map digit_of t))) (append_assoc s (c ∷ []) t)
      (digits_more (s ++ c ∷ []) t (n * base + digit_of c) (and_one g (same.is c a.0)) a.1)

  all_digits_lem : (t : List ℕ) → Digits base t → DigitString base D t (number_of base (map digit_of t))
  unfolding number_of
  all_digits_lem [] d = absurd (omega (arith, d.any))
  all_digits_lem (c ∷ t) d =
      let a = all_cons base c t d.all in
      let z : digit_of c ≡ 0 * base + digit_of c = omega (arith, zero-mul base) in
      subst (λ (n : ℕ). DigitString base D (c ∷ t) (number_from base n (map digit_of t))) z (digits_more (c ∷ []) t (digit_of c) (one (same.is c a.0)) a.1)

  pub reads_digits : (t : List ℕ) (n : ℕ) → text_number base t ≡ Some n → DigitString base D t n
  reads_digits t n e =
      let d = read_digits base t n e in
      let is : number_of base (map digit_of t) ≡ n = let r = read_number base t d in cc in
      subst (DigitString base D t) is (all_digits_lem t d)

  -- a zero before the digits
  pub zero_before : D 48 0 → {t : List ℕ} {n : ℕ} → DigitString base D t n → DigitString base D (48 ∷ t) n
  zero_before z (one {c} {d} h) = subst (DigitString base D (48 ∷ c ∷ [])) (omega (arith, zero-mul base)) (and_one (one z) h)
  zero_before z (and_one g h) = and_one (zero_before z g) h

  pub zeros_before : D 48 0 → (k : ℕ) {t : List ℕ} {n : ℕ} → DigitString base D t n → DigitString base D (replicate k 48 ++ t) n
  zeros_before z ℕ.zero g = g
  zeros_before z (suc k) g = zero_before z (zeros_before z k g)

-- ---- one to three decimal digits

pub data Short : List ℕ → ℕ → Type 0 where
  one_digit : {c z : ℕ} → DIGIT c z → Short (c ∷ []) z
  two_digits : {b c y z : ℕ} → DIGIT b y → DIGIT c z → Short (b ∷ c ∷ []) (10 * y + z)
  three_digits : {a b c x y z : ℕ} → DIGIT a x → DIGIT b y → DIGIT c z → Short (a ∷ b ∷ c ∷ []) (100 * x + 10 * y + z)

all_short : (t : List ℕ) (n : ℕ) → Digits 10 t → length t ≤ 3 → number_of 10 (map digit_of t) ≡ n → Short t n
unfolding number_of
all_short [] n d l e = absurd (omega (arith, d.any))
all_short (c ∷ []) n d l e = let u = all_cons 10 c [] d.all in subst (Short (c ∷ [])) (omega arith) (one_digit (is_digit c u.0))
all_short (b ∷ c ∷ []) n d l e =
    let u = all_cons 10 b (c ∷ []) d.all in
    let v = all_cons 10 c [] u.1 in
    subst (Short (b ∷ c ∷ [])) (omega arith) (two_digits (is_digit b u.0) (is_digit c v.0))
all_short (a ∷ b ∷ c ∷ []) n d l e =
    let u = all_cons 10 a (b ∷ c ∷ []) d.all in
    let v = all_cons 10 b (c ∷ []) u.1 in
    let w = all_cons 10 c [] v.1 in
    subst (Short (a ∷ b ∷ c ∷ [])) (omega arith) (three_digits (is_digit a u.0) (is_digit b v.0) (is_digit c w.0))
all_short (a ∷ b ∷ c ∷ d ∷ t) n g l e = absurd (omega arith)

pub short : {t : List ℕ} {n : ℕ} → DigitString 10 DIGIT t n → length t ≤ 3 → Short t n
short {t} {n} g l = all_short t n (digits_all same_10 g) l (digits_value same_10 g)
