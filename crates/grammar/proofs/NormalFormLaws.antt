-- Normal text: what the form has is what is written, and it is the only one. Assumes nothing.
use Rattle.std.specs.Prelude.{Some}
use mathlib.Core.Path.{◌≡◌, refl, sym, ap, ap₂, subst, ◌∙◌}
use mathlib.Core.Bool.{false}
use mathlib.Core.List.{List, [], ◌∷◌, ◌++◌, map}
use Prim.Native.Nat.{ℕ, ◌+◌, ◌-◌, ◌≤◌, ◌<◌}
use native.Mathlib.Decide.{dec_le, dec_lt, ℕ_discrete}
use native.Mathlib.Omega.{arith}
use borrow.Author.Tests.{le-leb, lt-leb, ne_eqb, eqb-false}
use lib.Dec.{lit<, lit≤}
use lib.ListN.{length, take, drop, replicate, length-replicate, length-drop, take-append-drop}
use lib.Seq.{length-take-le, take-append_seam, drop-append-add, drop_at, drop-drop}
use Rattle.notation.specs.BigEndian.{AllBelow}
use Rattle.notation.specs.Pieces.{separated}
use Rattle.notation.proofs.DigitLaws.{digits_length, digits_below, below_take, below_drop, below_append, zeros_below}
use Rattle.notation.proofs.OptionLaws.{same_value}
use Rattle.address.specs.declared.Address.{Address}
use Rattle.address.specs.declared.Address.TheVariants.{V4, V6}
use Rattle.address.specs.Addresses.{IsAddress, number}
use Rattle.address_groups.specs.Groups.{groups_of, groups_address}
use Rattle.address_groups.proofs.Claims.{halves_of_groups, groups_of_halves}
use Rattle.digits.specs.Numerals.{digit_of, all_digits, leading_zero, numeral, hex, lower, group_of}
use Rattle.digits.proofs.NumeralLaws.{hex_group, group_digits, numeral_leading, numeral_lower}
use Rattle.digits.proofs.OneSpellingLaws.{numeral_spelling}
use Rattle.zero_runs.specs.Runs.{ZeroRun, LeftmostLongest, longest_run, first_run}
use Rattle.zero_runs.proofs.RunLaws.{run_is}
use Rattle.normal.specs.Normal.{groups_text, shortened, normal_groups, normal_text}
use Rattle.normal.proofs.Claims.{shortens, stays}
use Rattle.normal.proofs.ReadBackLaws.{text_read}
use Rattle.grammar.specs.Rfc3986.{h16, 1*4HEXDIG}
use Rattle.grammar.specs.StrictForm.{IPv4Text, StrictForm, four}
use Rattle.grammar.specs.NormalForm.{NoCapital, no_byte, and_byte, NormalH16, no_leading_0, only_0, NormalH16s, no_group, one_group, and_more, NormalEight, whole, shortened_run, NormalForm, of_ipv4, of_ipv6}
use Rattle.grammar.proofs.DigitStringLaws.{same_16, digits_all, digits_value}
use Rattle.grammar.proofs.NumberLaws.{h16_reads, reads_h16}
use Rattle.grammar.proofs.StrictFormLaws.{text_spelling, EightList, eight, eight_list, eight_address, reads_4}

-- ---- a group

capital_lower : {t : List ℕ} → NoCapital t → map lower t ≡ t
unfolding lower
capital_lower no_byte = refl
capital_lower (and_byte {c} {t} n r) = ap₂ (λ (d : ℕ) u. d ∷ u) (stays_low c n) (capital_lower r)
  where
    stays_low : (c : ℕ) → (65 ≤ c → c ≤ 90 → ⊥) → lower c ≡ c
    stays_low c n = elim (dec_le 65 c) [
      | yes h ↦ elim (dec_le c 90) [ yes k ↦ absurd (n h k) | no k ↦ rw (le-leb 65 c h, lt-leb c 90 (omega arith)) ]
      | no h ↦ rw (lt-leb 65 c (omega arith))
    ]

first_not_0 : (c : ℕ) (t : List ℕ) → (c ≡ 48 → ⊥) → leading_zero (c ∷ t) ≡ false
unfolding leading_zero
first_not_0 c [] n = refl
first_not_0 c (d ∷ t) n = ne_eqb c 48 n

h16_spelling : {t : List ℕ} {x : ℕ} → h16 t x → leading_zero t ≡ false → map lower t ≡ t → hex x ≡ t
h16_spelling (1*4HEXDIG {t} {x} g l) z low = ap hex (sym (digits_value same_16 g)) ∙ numeral_spelling 16 4 (lit≤ tt) (lit< tt) t (digits_all same_16 g) l z low

group_spelling : {t : List ℕ} {x : ℕ} → NormalH16 t x → hex x ≡ t
unfolding numeral
group_spelling (no_leading_0 {c} {t} n low g) = h16_spelling g (first_not_0 c t n) (capital_lower low)
group_spelling only_0 = refl

group_below : {t : List ℕ} {x : ℕ} → NormalH16 t x → x < 65536
group_below (no_leading_0 {c} {t} {x} n low g) = (group_digits (c ∷ t) x (h16_reads g)).1
group_below only_0 = omega arith

-- and what is written is such a group
lower_capital : (t : List ℕ) → map lower t ≡ t → NoCapital t
unfolding lower
lower_capital [] e = no_byte
lower_capital (c ∷ t) e = and_byte (λ h k. low c h k (heads e)) (lower_capital t (tails e))
  where
    heads : {a b : ℕ} {s u : List ℕ} → a ∷ s ≡ b ∷ u → a ≡ b
    heads e = cc

    tails : {a b : ℕ} {s u : List ℕ} → a ∷ s ≡ b ∷ u → s ≡ u
    tails e = cc

    low : (c : ℕ) → 65 ≤ c → c ≤ 90 → lower c ≡ c → ⊥
    low c h k e = let up : lower c ≡ c + 32 = rw (le-leb 65 c h, le-leb c 90 k) in omega arith

zero_group : group_of (48 ∷ []) ≡ Some 0
unfolding group_of all_digits digit_of
zero_group = refl

normal_of : (t : List ℕ) (x : ℕ) → h16 t x → leading_zero t ≡ false → NoCapital t → NormalH16 t x
unfolding leading_zero
normal_of [] x g z low = absurd (omega (arith, (group_digits [] x (h16_reads g)).0.any))
normal_of (c ∷ []) x g z low = elim (ℕ_discrete c 48) [
  | yes e ↦
      let read : group_of (48 ∷ []) ≡ Some x = ap (λ (b : ℕ). group_of (b ∷ [])) (sym e) ∙ h16_reads g in
      let none_else : 0 ≡ x = same_value (sym zero_group ∙ read) in
      subst (λ t. NormalH16 t x) (ap (λ (b : ℕ). b ∷ []) (sym e)) (subst (NormalH16 (48 ∷ [])) none_else only_0)
  | no n ↦ no_leading_0 n low g
]
normal_of (c ∷ d ∷ t) x g z low = no_leading_0 (eqb-false c 48 z) low g

hex_normal : (x : ℕ) → x < 65536 → NormalH16 (hex x) x
hex_normal x h =
    normal_of (hex x) x (reads_h16 (hex x) x (hex_group x h)) (numeral_leading 16 4 x (lit≤ tt) (lit< tt) (lit≤ tt))
    (lower_capital (hex x) (numeral_lower 16 4 x (lit≤ tt) (lit< tt) (lit≤ tt)))

-- ---- groups with colons

groups_spelling : {t gs : List ℕ} → NormalH16s t gs → groups_text gs ≡ t
unfolding groups_text separated
groups_spelling no_group = refl
groups_spelling (one_group g) = group_spelling g
groups_spelling (and_more {t} {u} {x} {y} {ys} g r) = ap₂ (λ a b. a ++ 58 ∷ b) (group_spelling g) (groups_spelling r)

groups_below : {t gs : List ℕ} → NormalH16s t gs → AllBelow 65536 gs
groups_below no_group = tt
groups_below (one_group g) = (group_below g, tt)
groups_below (and_more g r) = (group_below g, groups_below r)

hex_groups : (gs : List ℕ) → AllBelow 65536 gs → NormalH16s (groups_text gs) gs
unfolding groups_text separated
hex_groups [] l = no_group
hex_groups (x ∷ []) l = one_group (hex_normal x l.0)
hex_groups (x ∷ y ∷ gs) l = and_more (hex_normal x l.0) (hex_groups (y ∷ gs) l.1)

-- ---- the run that is shortened

-- the groups before a run, the zeros, and the groups behind
run_parts : (gs : List ℕ) (s n : ℕ) → ZeroRun gs s n → take s gs ++ (replicate n 0 ++ drop (s + n) gs) ≡ gs
run_parts gs s n r = rw (← r.zeros, ← drop-drop n s gs, take-append-drop n (drop s gs), take-append-drop s gs)

-- the text around the zeros
around_text : (ws xs : List ℕ) (n : ℕ) → shortened (length ws) n (ws ++ (replicate n 0 ++ xs)) ≡ groups_text ws ++ (58 ∷ 58 ∷ groups_text xs)
unfolding shortened
around_text ws xs n =
    let behind : drop (length ws + n) (ws ++ (replicate n 0 ++ xs)) ≡ xs = drop-append-add ws (replicate n 0 ++ xs) n ∙ drop_at (replicate n 0) xs n (length-replicate n 0) in
    rw (take-append_seam ws (replicate n 0 ++ xs), behind)

-- ---- the eight groups

pub form_written : {t gs : List ℕ} → NormalEight t gs → normal_groups gs ≡ t
form_written (whole {t} {gs} g l few) =
    let m = run_is gs in
    stays gs (first_run (longest_run gs) gs) (longest_run gs) m (omega (arith, few (first_run (longest_run gs) gs) (longest_run gs) m.run)) ∙ groups_spelling g
form_written (shortened_run {s} {t} {ws} {xs} {n} g h two l m) =
    shortens (ws ++ (replicate n 0 ++ xs)) (length ws) n m two ∙ around_text ws xs n ∙ ap₂ (λ a b. a ++ (58 ∷ 58 ∷ b)) (groups_spelling g) (groups_spelling h)

form_below : {t gs : List ℕ} → NormalEight t gs → AllBelow 65536 gs
form_below (whole g l few) = groups_below g
form_below (shortened_run {ws = ws} {xs = xs} {n = n} g h two l m) =
    below_append 65536 ws (replicate n 0 ++ xs) (groups_below g) (below_append 65536 (replicate n 0) xs (zeros_below 65536 n (lit< tt)) (groups_below h))

module _ (gs : List ℕ) (long : length gs ≡ 8) (small : AllBelow 65536 gs) where
  all_written : longest_run gs < 2 → NormalEight (normal_groups gs) gs
  all_written few =
      let m = run_is gs in
      subst (λ t. NormalEight t gs) (sym (stays gs (first_run (longest_run gs) gs) (longest_run gs) m few))
      (whole (hex_groups gs small) long (λ s n r. omega (arith, m.longest s n r)))

  run_shortened : (s n : ℕ) → LeftmostLongest gs s n → 2 ≤ n → NormalEight (normal_groups gs) gs
  unfolding shortened
  run_shortened s n m two =
      let ws = take s gs in
      let xs = drop (s + n) gs in
      let inside = m.run.inside in
      let lw : length ws ≡ s = length-take-le s gs (omega arith) in
      let lx : length xs ≡ 8 - (s + n) = omega (arith, length-drop (s + n) gs) in
      let back : ws ++ (replicate n 0 ++ xs) ≡ gs = run_parts gs s n m.run in
      let most : LeftmostLongest (ws ++ (replicate n 0 ++ xs)) (length ws) n = rw (back, lw) m in
      let form : NormalEight (shortened s n gs) (ws ++ (replicate n 0 ++ xs)) =
      shortened_run {n = n} (hex_groups ws (below_take 65536 s gs small)) (hex_groups xs (below_drop 65536 (s + n) gs small)) two (omega arith) most in
      subst (λ t. NormalEight t gs) (sym (shortens gs s n m two)) (subst (NormalEight (shortened s n gs)) back form)

  pub written_form : NormalEight (normal_groups gs) gs
  written_form = elim (dec_lt (longest_run gs) 2) [
    | yes h ↦ all_written h
    | no h ↦ run_shortened (first_run (longest_run gs) gs) (longest_run gs) (run_is gs) (omega arith)
  ]

-- ---- the address

pub normal_written : {t : List ℕ} {a : Address} → NormalForm t a → normal_text a ≡ t
unfolding normal_text
normal_written (of_ipv4 h) = text_spelling h
normal_written (of_ipv6 {t} {a} {b} {c} {d} {e} {f} {g} {h} n) =
    let gs : List ℕ = a ∷ b ∷ c ∷ d ∷ e ∷ f ∷ g ∷ h ∷ [] in
    ap normal_groups (groups_of_halves gs _ _ refl (form_below n) (eight_address a b c d e f g h)) ∙ form_written n

eight_normal : {t : List ℕ} (gs : List ℕ) → length gs ≡ 8 → NormalEight t gs → NormalForm t (groups_address gs)
eight_normal {t} gs l = go (eight_list gs l)
  where
    go : {gs : List ℕ} → EightList gs → NormalEight t gs → NormalForm t (groups_address gs)
    go (eight a b c d e f g h) n = subst (NormalForm t) (sym (eight_address a b c d e f g h)) (of_ipv6 n)

pub written_normal : (a : Address) → IsAddress a → NormalForm (normal_text a) a
unfolding normal_text groups_of
written_normal (V4 v) h = of_ipv4 (ipv4 (reads_4 (normal_text (V4 v)) (V4 v) (text_read (V4 v) h).1))
  where
    ipv4 : {t : List ℕ} {a : Address} → StrictForm 4 t a → IPv4Text t a
    ipv4 (four i) = i
written_normal (V6 hi lo) h =
    let gs = groups_of hi lo in
    let long = digits_length 65536 8 (number (V6 hi lo)) in
    subst (NormalForm (normal_text (V6 hi lo))) (halves_of_groups hi lo h.0 h.1) (eight_normal gs long (written_form gs long (digits_below 65536 (lit< tt) 8 (number (V6 hi lo)))))
