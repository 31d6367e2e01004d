-- Groups among the digits that a text begins with. Assumes nothing.
use Rattle.std.specs.Prelude.{Some, None}
use mathlib.Core.Path.{◌≡◌, refl, sym, ap, subst, ◌∙◌}
use mathlib.Core.Bool.{Bool, true, false, cond}
use mathlib.Core.List.{List, map}
use Prim.Native.Nat.{ℕ, suc, ◌+◌, ◌-◌, ◌*◌, ◌/◌, ◌^◌, ◌≤◌, ◌<◌}
use native.Mathlib.Decide.{dec_lt}
use native.Mathlib.Omega.{arith}
use borrow.Author.Tests.{lt-ltb, le-ltb, ltb-true, ltb-false}
use lib.Dec.{ltb}
use lib.ListN.{length, take, drop, get_or, get_or-eq_default}
use lib.Seq.{length-take-le}
use Rattle.notation.specs.BigEndian.{number_of}
use Rattle.digits.specs.Numerals.{digit_of, text_number, group_of, digit_count, leading}
use Rattle.digits.specs.Bytes.{first_four, nibble_of}
use Rattle.digits.proofs.LeadingLaws.{Scan, scan_start, scan_more, scan_stop, stop_byte, stop_end, lead_number, lead_empty, count_le}
use Rattle.digits.proofs.ByteLaws.{nibble_lt, nibble_digit}

module _ (t : List ℕ) where
  -- the value of the byte at an index
  abbrev at : ℕ → ℕ
  at i = digit_of (get_or t i 0)

  -- ---- one digit after the other

  inside : (i : ℕ) → at i < 16 → i < length t
  unfolding digit_of
  inside i h = elim (dec_lt i (length t)) [
    | yes l ↦ l
    | no n ↦
        let over : length t ≤ i = omega arith in
        absurd (omega (arith, ap digit_of (get_or-eq_default t 0 over)))
  ]

  stop : (i : ℕ) → 16 ≤ at i → digit_count 16 (drop i t) ≡ 0
  stop i h = elim (dec_lt i (length t)) [ yes l ↦ stop_byte 16 t i l h | no n ↦ stop_end 16 t i (omega arith) ]

  more : {v i : ℕ} → Scan 16 t v i → at i < 16 → Scan 16 t (v * 16 + at i) (i + 1)
  more {v} {i} s h = scan_more 16 t v i s (inside i h) h

  -- ---- groups

  group_none : 16 ≤ at 0 → None ≡ leading 16 group_of t
  unfolding group_of
  group_none h = lead_empty 16 t group_of refl (stop 0 h)

  group_is : (v i : ℕ) → Scan 16 t v i → 16 ≤ at i → 1 ≤ i → i ≤ 4 → Some (v, i) ≡ leading 16 group_of t
  unfolding leading group_of
  group_is v i s z p q =
      let st = scan_stop 16 t v i s (stop i z) in
      let long = length-take-le (digit_count 16 t) t (count_le 16 t) in
      let number : text_number 16 (take (digit_count 16 t) t) ≡ Some v = lead_number 16 t (omega (arith, st.0)) ∙ ap Some st.1 in
      sym (rw (le-ltb 4 (length (take (digit_count 16 t) t)) (omega (arith, long, st.0)), number, st.0))

  group_long : (v : ℕ) → Scan 16 t v 4 → at 4 < 16 → None ≡ leading 16 group_of t
  unfolding leading group_of
  group_long v s h =
      let five = more s h in
      let long = length-take-le (digit_count 16 t) t (count_le 16 t) in
      sym (rw (lt-ltb 4 (length (take (digit_count 16 t) t)) (omega (arith, five.count, long))))

  -- ---- as the code reads them

  -- the first n bytes are digits, which write v; one of the first four that follows is none
  record Found (n v : ℕ) : Type 0 where
    few : n ≤ 4
    scan : Scan 16 t v n
    next : n < 4 → 16 ≤ at n

  module _ (byte : (i : ℕ) → get_or t i 0 < 256) (n x : ℕ) (count : n ≡ digit_count 16 (first_four t)) (value : x ≡ number_of 16 (map nibble_of (first_four t))) where
    abbrev nib : ℕ → ℕ
    nib i = nibble_of (get_or t i 0)

    nib_lt : (i : ℕ) → nib i < 16
    nib_lt i = nibble_lt (get_or t i 0)

    nib_is : (i : ℕ) → at i < 16 → nib i ≡ at i
    nib_is i h = nibble_digit (get_or t i 0) (byte i) h

    written : x ≡ ((nib 0 * 16 + nib 1) * 16 + nib 2) * 16 + nib 3
    unfolding number_of
    written = value ∙ omega arith

    -- the number that is left of all four
    found : Found n (x / 2 ^ (16 - 4 * n))
    unfolding digit_count
    found = go (ltb (at 0) 16) (ltb (at 1) 16) (ltb (at 2) 16) (ltb (at 3) 16) refl refl refl refl count
      where
        so : (k v : ℕ) → n ≡ k → Found k v → x / 2 ^ (16 - 4 * k) ≡ v → Found n (x / 2 ^ (16 - 4 * n))
        so k v e f q = rw (e, q) f

        go : (f g h i : Bool) → ltb (at 0) 16 ≡ f → ltb (at 1) 16 ≡ g → ltb (at 2) 16 ≡ h → ltb (at 3) 16 ≡ i
            → n ≡ cond f (suc (cond g (suc (cond h (suc (cond i 1 0)) 0)) 0)) 0 → Found n (x / 2 ^ (16 - 4 * n))
        go false g h i p q r s e =
            so 0 0 e (record { few = omega arith; scan = scan_start 16 t; next = λ l. ltb-false (at 0) 16 p }) (omega (arith, written, nib_lt 0, nib_lt 1, nib_lt 2, nib_lt 3))
        go true false h i p q r s e =
            let a = ltb-true (at 0) 16 p in
            so 1 (0 * 16 + at 0) e (record { few = omega arith; scan = more (scan_start 16 t) a; next = λ l. ltb-false (at 1) 16 q })
            (omega (arith, written, nib_lt 1, nib_lt 2, nib_lt 3, nib_is 0 a))
        go true true false i p q r s e =
            let a = ltb-true (at 0) 16 p in
            let b = ltb-true (at 1) 16 q in
            so 2 ((0 * 16 + at 0) * 16 + at 1) e (record { few = omega arith; scan = more (more (scan_start 16 t) a) b; next = λ l. ltb-false (at 2) 16 r })
            (omega (arith, written, nib_lt 2, nib_lt 3, nib_is 0 a, nib_is 1 b))
        go true true true false p q r s e =
            let a = ltb-true (at 0) 16 p in
            let b = ltb-true (at 1) 16 q in
            let c = ltb-true (at 2) 16 r in
            so 3 (((0 * 16 + at 0) * 16 + at 1) * 16 + at 2) e (record { few = omega arith; scan = more (more (more (scan_start 16 t) a) b) c; next = λ l. ltb-false (at 3) 16 s })
            (omega (arith, written, nib_lt 3, nib_is 0 a, nib_is 1 b, nib_is 2 c))
        go true true true true p q r s e =
            let a = ltb-true (at 0) 16 p in
            let b = ltb-true (at 1) 16 q in
            let c = ltb-true (at 2) 16 r in
            let d = ltb-true (at 3) 16 s in
            so 4 ((((0 * 16 + at 0) * 16 + at 1) * 16 + at 2) * 16 + at 3) e
            (record { few = omega arith; scan = more (more (more (more (scan_start 16 t) a) b) c) d; next = λ l. absurd (omega arith) })
            (omega (arith, written, nib_is 0 a, nib_is 1 b, nib_is 2 c, nib_is 3 d))

    pub no_group : n ≡ 0 → None ≡ leading 16 group_of t
    no_group z = let h : 16 ≤ at n = found.next (omega arith) in group_none (rw z at h)

    pub some_group : (n ≡ 0 → ⊥) → n ≤ 3 → Some (x / 2 ^ (16 - 4 * n), n) ≡ leading 16 group_of t
    some_group z l = group_is (x / 2 ^ (16 - 4 * n)) n found.scan (found.next (omega arith)) (omega arith) found.few

    module _ (full : 3 < n) where
      four : Scan 16 t x 4
      four =
          let e : n ≡ 4 = omega (arith, found.few) in
          let v : x / 2 ^ (16 - 4 * 4) ≡ x = omega arith in
          subst (λ v. Scan 16 t v 4) v (rw e at found.scan)

      pub fifth_digit : at 4 < 16 → None ≡ leading 16 group_of t
      fifth_digit h = group_long x four h

      pub four_digits : 16 ≤ at 4 → Some (x, 4) ≡ leading 16 group_of t
      four_digits h = group_is x 4 four h (omega arith) (omega arith)
