-- Decimal parts at the start of a text, and a leading zero by its first two bytes. Assumes nothing.
use Rattle.std.specs.Prelude.{Some, None}
use mathlib.Core.Path.{◌≡◌, refl, sym, ap, subst, ◌∙◌}
use mathlib.Core.Bool.{Bool, true, false, cond, ◌||◌, or-true}
use mathlib.Core.List.{List, [], ◌∷◌}
use Prim.Native.Nat.{ℕ, suc, ◌+◌, ◌-◌, ◌*◌, ◌≤◌, ◌<◌}
use native.Mathlib.Nat.{add-zero}
use native.Mathlib.Decide.{dec_le}
use native.Mathlib.Omega.{arith}
use borrow.Author.Tests.{lt-ltb, le-ltb, lt-leb, le-leb, eq-eqb, ne_eqb, ltb-true}
use lib.Dec.{ltb, leb, eqb}
use lib.ListN.{length, take, drop, get_or, length-take, length-drop, drop_of_length-le}
use lib.Seq.{drop-cons, get_or-drop, get_or-take, length-take-le}
use Rattle.notation.specs.Ascii.{within}
use Rattle.notation.proofs.AsciiLaws.{within_exactly}
use Rattle.digits.specs.Numerals.{digit_of, text_number, at_most, leading_zero, part_of, digit_count, as_leading, leading}
use Rattle.digits.specs.Decimals.{decimal_of}
use Rattle.digits.proofs.LeadingLaws.{Scan, scan_start, scan_more, scan_stop, lead_number, lead_empty, count_le}

-- ---- decimal digits

digit_inside : (c : ℕ) → within 48 57 c ≡ true → digit_of c ≡ c - 48
unfolding digit_of
digit_inside c e = rw e

-- letters, and bytes that are no digits, count ten or more
digit_outside : (c : ℕ) → within 48 57 c ≡ false → 10 ≤ digit_of c
unfolding digit_of
digit_outside c e = rw e (upper (within 65 70 c) refl)
  where
    lower : (b : Bool) → within 97 102 c ≡ b → 10 ≤ cond b (c - 87) 16
    lower true e = omega (arith, ((within_exactly 97 102 c).0 e).0)
    lower false e = omega arith

    upper : (b : Bool) → within 65 70 c ≡ b → 10 ≤ cond b (c - 55) (cond (within 97 102 c) (c - 87) 16)
    upper true e = omega (arith, ((within_exactly 65 70 c).0 e).0)
    upper false e = lower (within 97 102 c) refl

pub digit_zero : (c : ℕ) → digit_of c < 1 → c ≡ 48
digit_zero c h = go (within 48 57 c) refl
  where
    go : (b : Bool) → within 48 57 c ≡ b → c ≡ 48
    go true e = omega (arith, digit_inside c e, ((within_exactly 48 57 c).0 e).0)
    go false e = absurd (omega (arith, digit_outside c e))

decimal_yes : (c : ℕ) (t : List ℕ) → within 48 57 c ≡ true → c ≤ 57 → decimal_of (c ∷ t) ≡ c - 48
unfolding decimal_of
decimal_yes c t e h = let d = digit_inside c e in let less : digit_of c < 10 = omega (arith, d) in rw (lt-ltb (digit_of c) 10 less) d

decimal_no : (c : ℕ) (t : List ℕ) → within 48 57 c ≡ false → decimal_of (c ∷ t) ≡ 32
unfolding decimal_of
decimal_no c t e = rw (le-ltb (digit_of c) 10 (digit_outside c e))

module _ (t : List ℕ) (i : ℕ) where
  pub decimal_end : length t ≤ i → 32 ≡ decimal_of (drop i t)
  unfolding decimal_of
  decimal_end h = rw (drop_of_length-le t h)

  pub decimal_digit : i < length t → 48 ≤ get_or t i 0 → get_or t i 0 ≤ 57 → get_or t i 0 - 48 ≡ decimal_of (drop i t)
  decimal_digit h a b = rw (drop-cons t i 0) (sym (decimal_yes (get_or t i 0) (drop (suc i) t) (rw (le-leb 48 (get_or t i 0) a, le-leb (get_or t i 0) 57 b)) b))

  pub decimal_below : i < length t → get_or t i 0 < 48 → 32 ≡ decimal_of (drop i t)
  decimal_below h a = rw (drop-cons t i 0) (sym (decimal_no (get_or t i 0) (drop (suc i) t) (rw (lt-leb 48 (get_or t i 0) a))))

  pub decimal_above : i < length t → 57 < get_or t i 0 → 32 ≡ decimal_of (drop i t)
  decimal_above h a =
      let over : within 48 57 (get_or t i 0) ≡ false = rw (le-leb 48 (get_or t i 0) (omega arith), lt-leb (get_or t i 0) 57 a) in
      rw (drop-cons t i 0) (sym (decimal_no (get_or t i 0) (drop (suc i) t) over))

-- what a text that begins with a digit begins with
starts : (t : List ℕ) → decimal_of t ≤ 9 → (0 < length t) × (digit_of (get_or t 0 0) ≡ decimal_of t) × (digit_of (get_or t 0 0) < 10)
unfolding decimal_of
starts [] h = absurd (omega arith)
starts (c ∷ t) h = go (ltb (digit_of c) 10) refl h
  where
    go : (b : Bool) → ltb (digit_of c) 10 ≡ b → cond b (digit_of c) 32 ≤ 9 → (0 < suc (length t)) × (digit_of c ≡ cond b (digit_of c) 32) × (digit_of c < 10)
    go true e h = (omega arith, refl, ltb-true (digit_of c) 10 e)
    go false e h = absurd (omega arith)

not_zero : (t : List ℕ) → 1 ≤ decimal_of t → get_or t 0 0 ≡ 48 → ⊥
unfolding decimal_of digit_of
not_zero [] h e = omega arith
not_zero (c ∷ t) h e = omega (arith, ap (λ x. decimal_of (x ∷ t)) e)

no_start : (t : List ℕ) → 9 < decimal_of t → digit_count 10 t ≡ 0
unfolding decimal_of digit_count
no_start [] h = refl
no_start (c ∷ t) h = go (ltb (digit_of c) 10) refl h
  where
    go : (b : Bool) → ltb (digit_of c) 10 ≡ b → 9 < cond b (digit_of c) 32 → cond b (suc (digit_count 10 t)) 0 ≡ 0
    go true e h = absurd (omega (arith, ltb-true (digit_of c) 10 e))
    go false e h = refl

-- ---- decimal parts

-- a leading zero, by the first two bytes
pub lead_short : (t : List ℕ) → length t < 2 → leading_zero t ≡ false
unfolding leading_zero
lead_short [] h = refl
lead_short (c ∷ []) h = refl
lead_short (c ∷ d ∷ t) h = absurd (omega arith)

pub lead_first : (t : List ℕ) → 2 ≤ length t → leading_zero t ≡ eqb (get_or t 0 0) 48
unfolding leading_zero
lead_first [] h = absurd (omega arith)
lead_first (c ∷ []) h = absurd (omega arith)
lead_first (c ∷ d ∷ t) h = refl

zero_long : (n : ℕ) (t : List ℕ) → 2 ≤ n → n ≤ length t → leading_zero (take n t) ≡ eqb (get_or t 0 0) 48
zero_long n t h l = lead_first (take n t) (omega (arith, length-take-le n t l)) ∙ ap (λ (c : ℕ). eqb c 48) (get_or-take n t 0 0 (omega arith))

zero_short : (n : ℕ) (t : List ℕ) → n ≤ 1 → leading_zero (take n t) ≡ false
zero_short n t h = lead_short (take n t) (omega (arith, length-take n t))

module _ (t : List ℕ) where
  pub decimal_more : (v i : ℕ) → Scan 10 t v i → decimal_of (drop i t) ≤ 9 → Scan 10 t (v * 10 + decimal_of (drop i t)) (i + 1)
  decimal_more v i s h =
      let st = starts (drop i t) h in
      let at : get_or (drop i t) 0 0 ≡ get_or t i 0 = get_or-drop i t 0 0 ∙ ap (λ k. get_or t k 0) (add-zero i) in
      let long : i < length t = omega (arith, st.0, length-drop i t) in
      subst (λ d. Scan 10 t (v * 10 + d) (i + 1)) (ap digit_of (sym at) ∙ st.1) (scan_more 10 t v i s long (omega (arith, st.2, ap digit_of at)))

  pub decimal_first : decimal_of t ≤ 9 → Scan 10 t (decimal_of t) 1
  decimal_first h = let e : 0 * 10 + decimal_of t ≡ decimal_of t = omega arith in subst (λ v. Scan 10 t v 1) e (decimal_more 0 0 (scan_start 10 t) h)

  pub decimal_count : (v i : ℕ) → Scan 10 t v i → i ≤ digit_count 10 t
  decimal_count v i s = omega (arith, s.count)

  no_zero : (v i : ℕ) → Scan 10 t v i → 1 ≤ i → (2 ≤ i → 1 ≤ decimal_of t) → digit_count 10 t ≡ i → leading_zero (take (digit_count 10 t) t) ≡ false
  no_zero v i s p first e = elim (dec_le i 1) [
    | yes h ↦ zero_short (digit_count 10 t) t (omega (arith, e))
    | no n ↦
        zero_long (digit_count 10 t) t (omega (arith, e)) (count_le 10 t) ∙ ne_eqb (get_or t 0 0) 48 (not_zero t (first (omega arith)))
  ]

  module _ (most : ℕ) where
    pub part_none : 9 < decimal_of t → None ≡ leading 10 (part_of most) t
    unfolding part_of
    part_none h = lead_empty 10 t (part_of most) refl (no_start t h)

    refused : leading_zero (take (digit_count 10 t) t) || ltb 3 (length (take (digit_count 10 t) t)) ≡ true → None ≡ leading 10 (part_of most) t
    unfolding leading part_of
    refused e = sym (rw e)

    pub part_number : (v i : ℕ) → Scan 10 t v i → 9 < decimal_of (drop i t) → 1 ≤ i → i ≤ 3 → (2 ≤ i → 1 ≤ decimal_of t) → as_leading (at_most most (Some v)) i ≡ leading 10 (part_of most) t
    unfolding leading part_of
    part_number v i s z p q first =
        let st = scan_stop 10 t v i s (no_start (drop i t) z) in
        let long = length-take-le (digit_count 10 t) t (count_le 10 t) in
        let number : text_number 10 (take (digit_count 10 t) t) ≡ Some v = lead_number 10 t (omega (arith, st.0)) ∙ ap Some st.1 in
        let allowed : (leading_zero (take (digit_count 10 t) t) || ltb 3 (length (take (digit_count 10 t) t))) ≡ false = rw (no_zero v i s p first st.0, le-ltb 3 (length (take (digit_count 10 t) t)) (omega (arith, long, st.0))) in
        sym (rw (allowed, number, st.0))

    -- one, two and three digits, as the code reads them
    module _ (a : ℕ) (ea : a ≡ decimal_of t) (la : a ≤ 9) where
      one : Scan 10 t a 1
      one = subst (λ v. Scan 10 t v 1) (sym ea) (decimal_first (omega (arith, ea)))

      pub part_one : 9 < decimal_of (drop 1 t) → as_leading (at_most most (Some a)) 1 ≡ leading 10 (part_of most) t
      part_one z = part_number a 1 one z (omega arith) (omega arith) (λ h. absurd (omega arith))

      module _ (b : ℕ) (eb : b ≡ decimal_of (drop 1 t)) (lb : b ≤ 9) where
        two : Scan 10 t (a * 10 + b) 2
        two = subst (λ d. Scan 10 t (a * 10 + d) 2) (sym eb) (decimal_more a 1 one (omega (arith, eb)))

        pub part_zero : a < 1 → None ≡ leading 10 (part_of most) t
        part_zero z =
            let st = starts t (omega (arith, ea)) in
            refused (rw (zero_long (digit_count 10 t) t (decimal_count (a * 10 + b) 2 two) (count_le 10 t), eq-eqb (get_or t 0 0) 48 (digit_zero (get_or t 0 0) (omega (arith, st.1, ea)))))

        module _ (pos : 1 ≤ a) where
          part_two : 9 < decimal_of (drop 2 t) → as_leading (at_most most (Some (a * 10 + b))) 2 ≡ leading 10 (part_of most) t
          part_two z = part_number (a * 10 + b) 2 two z (omega arith) (omega arith) (λ h. omega (arith, ea))

          module _ (c : ℕ) (ec : c ≡ decimal_of (drop 2 t)) (lc : c ≤ 9) where
            three : Scan 10 t ((a * 10 + b) * 10 + c) 3
            three = subst (λ d. Scan 10 t ((a * 10 + b) * 10 + d) 3) (sym ec) (decimal_more (a * 10 + b) 2 two (omega (arith, ec)))

            part_three : 9 < decimal_of (drop 3 t) → as_leading (at_most most (Some ((a * 10 + b) * 10 + c))) 3 ≡ leading 10 (part_of most) t
            part_three z = part_number ((a * 10 + b) * 10 + c) 3 three z (omega arith) (omega arith) (λ h. omega (arith, ea))

            part_long : decimal_of (drop 3 t) ≤ 9 → None ≡ leading 10 (part_of most) t
            part_long l =
                let more = decimal_count _ 4 (decimal_more ((a * 10 + b) * 10 + c) 3 three l) in
                let long = lt-ltb 3 (length (take (digit_count 10 t) t)) (omega (arith, more, length-take-le (digit_count 10 t) t (count_le 10 t))) in
                refused (ap (λ b. leading_zero (take (digit_count 10 t) t) || b) long ∙ or-true (leading_zero (take (digit_count 10 t) t)))

          -- two or three of them, and the digit behind
          module _ (c : ℕ) (ec : c ≡ decimal_of (drop 2 t)) (n : ℕ) (en : n ≡ cond (leb c 9) 3 2) where
            pub part_four : decimal_of (drop n t) ≤ 9 → None ≡ leading 10 (part_of most) t
            part_four h = elim (dec_le c 9) [
              | yes l ↦ let e : n ≡ 3 = rw (le-leb c 9 l) at en in part_long c ec l (subst (λ k. decimal_of (drop k t) ≤ 9) e h)
              | no f ↦ let e : n ≡ 2 = rw (lt-leb c 9 (omega arith)) at en in absurd (omega (arith, ec, ap (λ k. decimal_of (drop k t)) e))
            ]

            pub part_more : 9 < decimal_of (drop n t) → as_leading (at_most most (Some (cond (leb c 9) ((a * 10 + b) * 10 + c) (a * 10 + b)))) n ≡ leading 10 (part_of most) t
            part_more h = elim (dec_le c 9) [
              | yes l ↦ let e : n ≡ 3 = rw (le-leb c 9 l) at en in rw (le-leb c 9 l, e) (part_three c ec l (subst (λ k. 9 < decimal_of (drop k t)) e h))
              | no f ↦ let e : n ≡ 2 = rw (lt-leb c 9 (omega arith)) at en in rw (lt-leb c 9 (omega arith), e) (part_two (subst (λ k. 9 < decimal_of (drop k t)) e h))
            ]
