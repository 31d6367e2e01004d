-- The bytes that a text gives before the slash, and the number that they write with zeros behind them. Assumes nothing.
use Rattle.std.specs.Prelude.{Option, Some, None}
use mathlib.Core.Path.{◌≡◌, refl, sym, ap, ap₂, subst, ◌∙◌}
use mathlib.Core.Bool.{Bool, true, false, cond, ◌&&◌, ◌||◌, and-eq-true_iff}
use mathlib.Core.List.{List, [], ◌∷◌, ◌++◌, map}
use Prim.Native.Nat.{ℕ, zero, suc, ◌+◌, ◌-◌, ◌*◌, ◌/◌, ◌%◌, ◌^◌, ◌≤◌, ◌<◌}
use native.Mathlib.Nat.{add-zero, pow-le-pow_right}
use native.Mathlib.Decide.{dec_le}
use native.Mathlib.Omega.{arith}
use borrow.Author.Tests.{le-leb, lt-leb, leb-true, eqb-true, eqb-false}
use lib.Dec.{leb, eqb, lit≤}
use lib.ListN.{length, take, drop, get_or, replicate, length-append, length-replicate, length-map}
use lib.Pow.{shl_exact}
use lib.Seq.{length-take-le}
use Rattle.notation.specs.BigEndian.{AllBelow, number_from, number_of}
use Rattle.notation.specs.Pieces.{index_of}
use Rattle.notation.specs.Ascii.{within}
use Rattle.notation.proofs.OptionLaws.{impossible, same_value}
use Rattle.notation.proofs.DigitLaws.{number_append, number_lt, bits_power, zeros_number}
use Rattle.notation.proofs.PieceLaws.{index_le}
use Rattle.digits.specs.Numerals.{digit_of, all_digits, text_number, bounded_number, hex_marked, leading}
use Rattle.digits.proofs.NumeralLaws.{Digits, read_number, read_digits, number_bound, digit_values}
use Rattle.digits.proofs.FirstPieceLaws.{ReadsDigits, at_most_says, bounded_reads, piece_nothing, piece_last, piece_more, piece_other}
use Rattle.ipv4_text.specs.Dotted.{parts_of, as_parts}
use Rattle.ipv4_text.proofs.DottedLaws.{Octets, numbers_says, not_parts_says, parts_are}
use Rattle.network.specs.GivenBytes.{half_bytes, hex_bytes, given_of, zero_filled, before_slash, as_given}

-- what an answer says of the definition
pub bytes_says : (o : Option (List ℕ)) (at v n k : ℕ) → Some (v, n, k) ≡ as_given o at → (bs : List ℕ) × (o ≡ Some bs) × (v ≡ number_of 256 (zero_filled 4 bs)) × (n ≡ length bs) × (k ≡ at)
bytes_says None at v n k e = impossible (sym e)
bytes_says (Some bs) at v n k e = let p = same_value e in (bs, refl, ap (λ (q : ℕ × ℕ × ℕ). q.0) p, ap (λ (q : ℕ × ℕ × ℕ). q.1) p, ap (λ (q : ℕ × ℕ × ℕ). q.2) p)

pub not_given_says : (o : Option (List ℕ)) (at : ℕ) → None ≡ as_given o at → o ≡ None
not_given_says None at e = refl
not_given_says (Some bs) at e = impossible e

-- ---- digits with zeros behind them, as a shift

-- digits of b bits each: no bit is lost
shifted : (b w k m : ℕ) (ds : List ℕ) → AllBelow (2 ^ b) ds → k ≡ b * m → b * length ds + k ≡ w
    → number_of (2 ^ b) ds * 2 ^ k % 2 ^ w ≡ number_of (2 ^ b) (ds ++ replicate m 0)
shifted b w k m ds small e f =
    let less : number_of (2 ^ b) ds < 2 ^ (b * length ds) = rw (← bits_power b (length ds)) (number_lt (2 ^ b) ds small) in
    let zeros = zeros_number (2 ^ b) m in
    shl_exact (b * length ds) k w less (omega arith)
    ∙ ap (λ (x : ℕ). number_of (2 ^ b) ds * 2 ^ x) e
    ∙ ap (λ (x : ℕ). number_of (2 ^ b) ds * x) (sym (bits_power b m))
    ∙ sym (number_append (2 ^ b) ds (replicate m 0) ∙ omega (arith, ap (λ (x : ℕ). number_of (2 ^ b) ds * (2 ^ b) ^ x) (length-replicate {A = ℕ} m 0)))

-- ---- half bytes

halves_length : (ds : List ℕ) → length (half_bytes ds) ≡ (length ds + 1) / 2
unfolding half_bytes
halves_length [] = refl
halves_length (d ∷ []) = refl
halves_length (d ∷ e ∷ ds) = omega (arith, halves_length ds)

halves_below : (ds : List ℕ) → AllBelow 16 ds → AllBelow 256 (half_bytes ds)
unfolding half_bytes
halves_below [] h = tt
halves_below (d ∷ []) h = (omega (arith, h.0), tt)
halves_below (d ∷ e ∷ ds) h = (omega (arith, h.0, h.1.0), halves_below ds h.1.1)

-- zeros behind the digits are zeros behind the bytes
halves_zeros : (k j : ℕ) → k ≡ j + j → half_bytes (replicate k 0) ≡ replicate j 0
unfolding half_bytes
halves_zeros zero zero e = refl
halves_zeros zero (suc j) e = absurd (omega arith)
halves_zeros (suc zero) j e = absurd (omega arith)
halves_zeros (suc (suc k)) zero e = absurd (omega arith)
halves_zeros (suc (suc k)) (suc j) e = ap (λ l. 0 ∷ l) (halves_zeros k j (omega arith))

halves_filled : (k j : ℕ) (ds : List ℕ) → length ds + k ≡ 2 * (length (half_bytes ds) + j) → half_bytes (ds ++ replicate k 0) ≡ half_bytes ds ++ replicate j 0
unfolding half_bytes
halves_filled k j [] e = halves_zeros k j (omega arith)
halves_filled zero j (d ∷ []) e = absurd (omega arith)
halves_filled (suc k) j (d ∷ []) e = rw (add-zero (d * 16)) (ap (λ l. (d * 16) ∷ l) (halves_zeros k j (omega arith)))
halves_filled k j (d ∷ e ∷ ds) f = ap (λ l. (d * 16 + e) ∷ l) (halves_filled k j ds (omega arith))

halves_number : (v : ℕ) (ds : List ℕ) → length ds % 2 ≡ 0 → number_from 256 v (half_bytes ds) ≡ number_from 16 v ds
unfolding half_bytes number_from
halves_number v [] e = refl
halves_number v (d ∷ []) e = let z : ◌≡◌ {A = ℕ} 1 0 = e in absurd (omega arith)
halves_number v (d ∷ e ∷ ds) f =
    let step : v * 256 + (d * 16 + e) ≡ (v * 16 + d) * 16 + e = omega arith in
    halves_number (v * 256 + (d * 16 + e)) ds (omega arith) ∙ ap (λ (x : ℕ). number_from 16 x ds) step

-- the number of one to eight hex digits, shifted, is that of the bytes
halves_shifted : (ds : List ℕ) → AllBelow 16 ds → length ds ≤ 8 → number_of 16 ds * 2 ^ (32 - 4 * length ds) % 2 ^ 32 ≡ number_of 256 (zero_filled 4 (half_bytes ds))
unfolding zero_filled number_of
halves_shifted ds small h =
    let k = 8 - length ds in
    let bytes = halves_length ds in
    shifted 4 32 (32 - 4 * length ds) k ds small (omega arith) (omega arith)
    ∙ sym (halves_number 0 (ds ++ replicate k 0) (omega (arith, length-append ds (replicate k 0), length-replicate {A = ℕ} k 0)))
    ∙ ap (number_of 256) (halves_filled k (4 - length (half_bytes ds)) ds (omega arith))

-- ---- hex digits

module _ (t : List ℕ) where
  abbrev hex_test : Bool
  hex_test = within 1 8 (length t) && all_digits 16 t

  hex_tested : hex_test ≡ true → Digits 16 t × (length t ≤ 8)
  hex_tested e =
      let both = (and-eq-true_iff (within 1 8 (length t)) (all_digits 16 t)).0 e in
      let range = (and-eq-true_iff (leb 1 (length t)) (leb (length t) 8)).0 both.0 in
      (record { all = both.1; any = leb-true 1 (length t) range.0 }, leb-true (length t) 8 range.1)

  hex_else : (Digits 16 t → length t ≤ 8 → ⊥) → hex_bytes t ≡ None
  unfolding hex_bytes
  hex_else n = go hex_test refl
    where
      go : (b : Bool) → hex_test ≡ b → cond b (Some (half_bytes (map digit_of t))) None ≡ None
      go true e = let d = hex_tested e in absurd (n d.0 d.1)
      go false e = refl

  hex_given : (bs : List ℕ) → hex_bytes t ≡ Some bs → Octets bs
  unfolding hex_bytes
  hex_given bs = go hex_test refl
    where
      go : (b : Bool) → hex_test ≡ b → cond b (Some (half_bytes (map digit_of t))) None ≡ Some bs → Octets bs
      go true e k =
          let d = hex_tested e in
          let long = halves_length (map digit_of t) in
          let same : half_bytes (map digit_of t) ≡ bs = cc in
          subst Octets same
          (record {
            any = omega (arith, length-map t digit_of, d.0.any);
            most = omega (arith, length-map t digit_of, d.1);
            small = halves_below (map digit_of t) (digit_values 16 t d.0.all);
          })
      go false e k = impossible k

  -- eight digits write no more than 32 bits
  hex_none : bounded_number 16 4294967295 t ≡ None → hex_bytes t ≡ None
  hex_none e = hex_else clash
    where
      clash : Digits 16 t → length t ≤ 8 → ⊥
      clash d h =
          let n = number_of 16 (map digit_of t) in
          let r = read_number 16 t d in
          let most : 16 ^ length t ≤ 16 ^ 8 = pow-le-pow_right (omega arith) h in
          let read : bounded_number 16 4294967295 t ≡ Some n = rw (r, le-leb n 4294967295 (omega (arith, number_bound 16 t n r))) in
          let z : ◌≡◌ {A = ℕ} 0 1 = cc in
          omega arith

  hex_some : (v at : ℕ) → text_number 16 t ≡ Some v → length t ≤ 8 → Some (v * 2 ^ (32 - 4 * length t) % 2 ^ 32, (length t + 1) / 2, at) ≡ as_given (hex_bytes t) at
  unfolding hex_bytes
  hex_some v at e h =
      let d = read_digits 16 t v e in
      let ds = map digit_of t in
      let long = length-map t digit_of in
      let is : number_of 16 ds ≡ v = let r = read_number 16 t d in cc in
      let value = halves_shifted ds (digit_values 16 t d.all) (omega arith) in
      rw (le-leb 1 (length t) d.any, le-leb (length t) 8 h, d.all, halves_length ds, ← value, is, long)

-- as the code reads them: a number of 32 bits
abbrev hex_number : List ℕ → Option ℕ
hex_number = bounded_number 16 4294967295

hex_reads : ReadsDigits 16 hex_number
hex_reads = bounded_reads 16 4294967295

-- the digits before the slash, which is no digit
module _ (t : List ℕ) where
  slash_none : 16 ≤ digit_of 47
  unfolding digit_of
  slash_none = lit≤ tt

  pub hex_nothing : None ≡ leading 16 hex_number t → None ≡ as_given (hex_bytes (before_slash t)) (index_of 47 t)
  hex_nothing h = sym (ap (λ o. as_given o (index_of 47 t)) (hex_none (before_slash t) (piece_nothing 16 47 slash_none hex_number hex_reads t h)))

  module _ (v n : ℕ) (h : Some (v, n) ≡ leading 16 hex_number t) where
    pub hex_short : (leb (length t) n || eqb (get_or t n 0) 47) ≡ false → None ≡ as_given (hex_bytes (before_slash t)) (index_of 47 t)
    hex_short e = elim (dec_le (length t) n) [
      | yes l ↦ let no : true ≡ false = rw (le-leb (length t) n l) at e in let z : ◌≡◌ {A = ℕ} 0 1 = cc in absurd (omega arith)
      | no l ↦
          let other = eqb-false (get_or t n 0) 47 (rw (lt-leb (length t) n (omega arith)) at e) in
          sym (ap (λ o. as_given o (index_of 47 t)) (hex_none (before_slash t) (piece_other 16 47 slash_none hex_number hex_reads t v n h (omega arith) other)))
    ]

    -- all that is before the slash are digits
    module _ (e : (leb (length t) n || eqb (get_or t n 0) 47) ≡ true) where
      piece : (hex_number (before_slash t) ≡ Some v) × (index_of 47 t ≡ n)
      piece = elim (dec_le (length t) n) [
        | yes l ↦ piece_last 16 47 slash_none hex_number hex_reads t v n h l
        | no l ↦ piece_more 16 47 slash_none hex_number hex_reads t v n h (omega arith) (eqb-true (get_or t n 0) 47 (rw (lt-leb (length t) n (omega arith)) at e))
      ]

      whole : text_number 16 (before_slash t) ≡ Some v
      whole = (at_most_says 4294967295 v (text_number 16 (before_slash t)) piece.0).0

      long : length (before_slash t) ≡ n
      long = length-take-le (index_of 47 t) t (index_le 47 t) ∙ piece.1

      pub hex_any : 1 ≤ n
      hex_any = omega (arith, long, (read_digits 16 (before_slash t) v whole).any)

      pub hex_long : 8 < n → None ≡ as_given (hex_bytes (before_slash t)) (index_of 47 t)
      hex_long k = sym (ap (λ o. as_given o (index_of 47 t)) (hex_else (before_slash t) (λ d m. omega (arith, long))))

      pub hex_number_lem : n ≤ 8 → Some (v * 2 ^ (32 - 4 * n) % 2 ^ 32, (n + 1) / 2, n) ≡ as_given (hex_bytes (before_slash t)) (index_of 47 t)
      hex_number_lem k =
          ap₂ (λ (m i : ℕ). Some (v * 2 ^ (32 - 4 * m) % 2 ^ 32, (m + 1) / 2, i)) (sym long) (sym piece.1)
          ∙ hex_some (before_slash t) v (index_of 47 t) whole (omega (arith, long))

-- ---- decimal parts

module _ (t : List ℕ) (at : ℕ) where
  pub parts_nothing : None ≡ as_parts (parts_of t) → None ≡ as_given (parts_of t) at
  parts_nothing h = sym (ap (λ o. as_given o at) (not_parts_says (parts_of t) h))

  parts_some : (xs : List ℕ) → parts_of t ≡ Some xs → Some (number_of 256 xs * 2 ^ (32 - 8 * length xs) % 2 ^ 32, length xs, at) ≡ as_given (parts_of t) at
  unfolding zero_filled
  parts_some xs e =
      let o = (parts_are t xs e).octets in
      let most = o.most in
      rw e (ap (λ (v : ℕ). Some (v, length xs, at)) (shifted 8 32 (32 - 8 * length xs) (4 - length xs) xs o.small (omega arith) (omega arith)))

  module _ (v n : ℕ) (h : Some (v, n) ≡ as_parts (parts_of t)) where
    pub parts_count : (1 ≤ n) × (n ≤ 4)
    parts_count =
        let s = numbers_says (parts_of t) v n h in
        let o = (parts_are t s.0 s.1).octets in
        (omega (arith, s.3, o.any), omega (arith, s.3, o.most))

    pub parts_number : Some (v * 2 ^ (32 - 8 * n) % 2 ^ 32, n, at) ≡ as_given (parts_of t) at
    parts_number = let s = numbers_says (parts_of t) v n h in ap₂ (λ (x k : ℕ). Some (x * 2 ^ (32 - 8 * k) % 2 ^ 32, k, at)) s.2 s.3 ∙ parts_some s.0 s.1

-- ---- either of them

-- the mark is before the slash
marked_before : (t : List ℕ) → hex_marked (before_slash t) ≡ hex_marked t
unfolding hex_marked index_of
marked_before [] = refl
marked_before (c ∷ []) = elim (eqb c 47) as (λ b. hex_marked (take (cond b 0 1) (c ∷ [])) ≡ false) [ true ↦ refl | false ↦ refl ]
marked_before (c ∷ d ∷ t) = go (eqb c 47) (eqb d 47) refl refl
  where
    go : (p q : Bool) → eqb c 47 ≡ p → eqb d 47 ≡ q → hex_marked (take (cond p 0 (suc (cond q 0 (suc (index_of 47 t))))) (c ∷ d ∷ t)) ≡ (eqb c 48 && (eqb d 120 || eqb d 88))
    go true q e f = let is = eqb-true c 47 e in rw is
    go false true e f = let is = eqb-true d 47 f in rw is (elim (eqb c 48) as (λ b. false ≡ (b && false)) [ true ↦ refl | false ↦ refl ])
    go false false e f = refl

-- and the slash behind it
marked_slash : (t : List ℕ) → hex_marked t ≡ true → (index_of 47 t ≡ suc (suc (index_of 47 (drop 2 t)))) × (drop 2 (before_slash t) ≡ before_slash (drop 2 t))
unfolding hex_marked index_of
marked_slash [] e = let z : ◌≡◌ {A = ℕ} 0 1 = cc in absurd (omega arith)
marked_slash (c ∷ []) e = let z : ◌≡◌ {A = ℕ} 0 1 = cc in absurd (omega arith)
marked_slash (c ∷ d ∷ t) e = go (eqb c 47) (eqb d 47) refl refl
  where
    mark : (eqb c 48 ≡ true) × ((eqb d 120 || eqb d 88) ≡ true)
    mark = (and-eq-true_iff (eqb c 48) (eqb d 120 || eqb d 88)).0 e

    go : (p q : Bool) → eqb c 47 ≡ p → eqb d 47 ≡ q
        → (cond p 0 (suc (cond q 0 (suc (index_of 47 t)))) ≡ suc (suc (index_of 47 t)))
        × (drop 2 (take (cond p 0 (suc (cond q 0 (suc (index_of 47 t))))) (c ∷ d ∷ t)) ≡ take (index_of 47 t) t)
    go true q f g = absurd (omega (arith, eqb-true c 47 f, eqb-true c 48 mark.0))
    go false true f g = let no : false ≡ true = rw (eqb-true d 47 g) at mark.1 in let z : ◌≡◌ {A = ℕ} 0 1 = cc in absurd (omega arith)
    go false false f g = (refl, refl)

module _ (t : List ℕ) where
  module _ (m : hex_marked t ≡ true) where
    given_hex : given_of (before_slash t) ≡ hex_bytes (before_slash (drop 2 t))
    unfolding given_of
    given_hex = rw (marked_before t, m) (ap hex_bytes (marked_slash t m).1)

    pub hex_not_given : None ≡ as_given (hex_bytes (before_slash (drop 2 t))) (index_of 47 (drop 2 t)) → None ≡ as_given (given_of (before_slash t)) (index_of 47 t)
    hex_not_given h = sym (ap (λ o. as_given o (index_of 47 t)) (given_hex ∙ not_given_says (hex_bytes (before_slash (drop 2 t))) (index_of 47 (drop 2 t)) h))

    module _ (v n k : ℕ) (h : Some (v, n, k) ≡ as_given (hex_bytes (before_slash (drop 2 t))) (index_of 47 (drop 2 t))) where
      says : (bs : List ℕ) × (hex_bytes (before_slash (drop 2 t)) ≡ Some bs) × (v ≡ number_of 256 (zero_filled 4 bs)) × (n ≡ length bs) × (k ≡ index_of 47 (drop 2 t))
      says = bytes_says (hex_bytes (before_slash (drop 2 t))) (index_of 47 (drop 2 t)) v n k h

      slash : k + 2 ≡ index_of 47 t
      slash = omega (arith, says.4, (marked_slash t m).0)

      pub slash_within : k + 2 ≤ length t
      slash_within = omega (arith, slash, index_le 47 t)

      pub hex_is_given : Some (v, n, k + 2) ≡ as_given (given_of (before_slash t)) (index_of 47 t)
      hex_is_given = (λ i. Some (says.2 i, says.3 i, slash i)) ∙ sym (ap (λ o. as_given o (index_of 47 t)) (given_hex ∙ says.1))

  pub given_parts : hex_marked t ≡ false → given_of (before_slash t) ≡ parts_of (before_slash t)
  unfolding given_of
  given_parts h = rw (marked_before t, h)

pub given_octets : (t bs : List ℕ) → given_of t ≡ Some bs → Octets bs
unfolding given_of
given_octets t bs = go (hex_marked t)
  where
    go : (b : Bool) → cond b (hex_bytes (drop 2 t)) (parts_of t) ≡ Some bs → Octets bs
    go true e = hex_given (drop 2 t) bs e
    go false e = (parts_are t bs e).octets
