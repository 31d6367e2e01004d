-- Sorted by number alone, the IPv4 entries and behind them the IPv6 entries are sorted by address. Assumes nothing.
use mathlib.Core.Path.{◌≡◌, refl, sym, ap, ap₂, ◌∙◌}
use mathlib.Core.Bool.{Bool, true, false, cond}
use mathlib.Core.List.{List, [], ◌∷◌, ◌++◌, append-nil}
use Prim.Native.Nat.{ℕ, ◌+◌, ◌-◌, ◌≤◌, ◌<◌}
use native.Mathlib.Decide.{dec_lt}
use native.Mathlib.Omega.{arith}
use borrow.Author.Tests.{eqb-true, eqb-false}
use lib.Dec.{eqb}
use Rattle.address.specs.declared.Address.{Address}
use Rattle.address.specs.declared.Address.TheVariants.{V4, V6}
use Rattle.address.specs.Addresses.{family, number, IsAddress}
use Rattle.stable_sort.specs.Stable.{From, Rising, with_key, sort_by}
use Rattle.stable_sort.proofs.StableLaws.{from_less, from_zero, from_append, with_yes, with_no, with_append, sort_is, rising_only}
use Rattle.sheet_lines.specs.declared.Entry.{Entry}
use Rattle.sheet_answers.specs.Sheets.{place, entry_place, sorted, AllEntries}
use Rattle.sheet_answers.proofs.ArrangedLaws.{perm_all}
use Rattle.sheet.specs.Inner.{entry_number, of_family}

abbrev entry_family : Entry → ℕ
entry_family e = family e.address

-- ---- the place of an address

place_4 : (a : Address) → family a ≡ 4 → place a ≡ 0 + number a
place_4 (V4 v) e = omega arith
place_4 (V6 hi lo) e = absurd (omega arith)

place_6 : (a : Address) → family a ≡ 6 → place a ≡ 4294967296 + number a
place_6 (V4 v) e = absurd (omega arith)
place_6 (V6 hi lo) e = refl

low_4 : (a : Address) → IsAddress a → family a ≡ 4 → place a ≤ 4294967296
low_4 (V4 v) h e = omega arith
low_4 (V6 hi lo) h e = absurd (omega arith)

low_only : (k : ℕ) → k < 4294967296 → (a : Address) → IsAddress a → place a ≡ k → family a ≡ 4
low_only k l (V4 v) h e = refl
low_only k l (V6 hi lo) h e = absurd (omega arith)

high_only : (k : ℕ) → 4294967296 ≤ k → (a : Address) → IsAddress a → place a ≡ k → family a ≡ 6
high_only k l (V4 v) h e = absurd (omega arith)
high_only k l (V6 hi lo) h e = refl

-- ---- one family

module _ (f shift : ℕ) (law : (a : Address) → family a ≡ f → place a ≡ shift + number a) where
  family_from : (k : ℕ) (es : List Entry) → From entry_number k es → From entry_place (shift + k) (of_family f es)
  unfolding with_key
  family_from k [] h = tt
  family_from k (e ∷ es) h = go (eqb (family e.address) f) refl (family_from k es h.1)
    where
      go : (b : Bool) → eqb (family e.address) f ≡ b → From entry_place (shift + k) (of_family f es) → From entry_place (shift + k) (cond b (e ∷ of_family f es) (of_family f es))
      go true q r = let g = h.0 in (omega (arith, law e.address (eqb-true (family e.address) f q)), r)
      go false q r = r

  family_rising : (es : List Entry) → Rising entry_number es → Rising entry_place (of_family f es)
  unfolding with_key
  family_rising [] h = tt
  family_rising (e ∷ es) h = go (eqb (family e.address) f) refl (family_rising es h.1)
    where
      go : (b : Bool) → eqb (family e.address) f ≡ b → Rising entry_place (of_family f es) → Rising entry_place (cond b (e ∷ of_family f es) (of_family f es))
      go true q r =
          let is = law e.address (eqb-true (family e.address) f q) in
          (from_less entry_place (entry_place e) (shift + entry_number e) (of_family f es) (omega arith) (family_from (entry_number e) es h.0), r)
      go false q r = r

  -- those of one place are those of one number
  family_with : (k : ℕ) (es : List Entry) → with_key entry_place (shift + k) (of_family f es) ≡ of_family f (with_key entry_number k es)
  unfolding with_key
  family_with k [] = refl
  family_with k (e ∷ es) = go (eqb (family e.address) f) (eqb (entry_number e) k) refl refl (family_with k es)
    where
      go : (b c : Bool) → eqb (family e.address) f ≡ b → eqb (entry_number e) k ≡ c → with_key entry_place (shift + k) (of_family f es) ≡ of_family f (with_key entry_number k es)
          → with_key entry_place (shift + k) (cond b (e ∷ of_family f es) (of_family f es)) ≡ of_family f (cond c (e ∷ with_key entry_number k es) (with_key entry_number k es))
      go true true p q ih =
          let is = law e.address (eqb-true (family e.address) f p) in
          with_yes entry_place (shift + k) e (of_family f es) (omega (arith, eqb-true (entry_number e) k q))
          ∙ ap (λ l. e ∷ l) ih
          ∙ sym (with_yes entry_family f e (with_key entry_number k es) (eqb-true (family e.address) f p))
      go true false p q ih =
          let is = law e.address (eqb-true (family e.address) f p) in
          with_no entry_place (shift + k) e (of_family f es) (λ z. eqb-false (entry_number e) k q (omega arith)) ∙ ih
      go false true p q ih = ih ∙ sym (with_no entry_family f e (with_key entry_number k es) (eqb-false (family e.address) f p))
      go false false p q ih = ih

-- ---- those of one place, among all and in one family

module _ (f k : ℕ) where
  all_of : ((a : Address) → IsAddress a → place a ≡ k → family a ≡ f) → (es : List Entry) → AllEntries es → with_key entry_place k (of_family f es) ≡ with_key entry_place k es
  unfolding with_key
  all_of only [] h = refl
  all_of only (e ∷ es) h = go (eqb (family e.address) f) (eqb (entry_place e) k) refl refl (all_of only es h.1)
    where
      go : (b c : Bool) → eqb (family e.address) f ≡ b → eqb (entry_place e) k ≡ c → with_key entry_place k (of_family f es) ≡ with_key entry_place k es
          → with_key entry_place k (cond b (e ∷ of_family f es) (of_family f es)) ≡ cond c (e ∷ with_key entry_place k es) (with_key entry_place k es)
      go true true p q ih = with_yes entry_place k e (of_family f es) (eqb-true (entry_place e) k q) ∙ ap (λ l. e ∷ l) ih
      go true false p q ih = with_no entry_place k e (of_family f es) (eqb-false (entry_place e) k q) ∙ ih
      go false true p q ih = absurd (eqb-false (family e.address) f p (only e.address h.0.address (eqb-true (entry_place e) k q)))
      go false false p q ih = ih

  none_of : ((a : Address) → IsAddress a → place a ≡ k → ¬ (family a ≡ f)) → (es : List Entry) → AllEntries es → with_key entry_place k (of_family f es) ≡ []
  unfolding with_key
  none_of other [] h = refl
  none_of other (e ∷ es) h = go (eqb (family e.address) f) refl (none_of other es h.1)
    where
      go : (b : Bool) → eqb (family e.address) f ≡ b → with_key entry_place k (of_family f es) ≡ [] → with_key entry_place k (cond b (e ∷ of_family f es) (of_family f es)) ≡ []
      go true p ih =
          with_no entry_place k e (of_family f es) (λ z. other e.address h.0.address z (eqb-true (family e.address) f p)) ∙ ih
      go false p ih = ih

-- ---- both families

abbrev pub by_family : List Entry → List Entry
by_family es = of_family 4 es ++ of_family 6 es

glue : (es zs : List Entry) → AllEntries es → Rising entry_place (of_family 4 es) → From entry_place 4294967296 zs → Rising entry_place zs → Rising entry_place (of_family 4 es ++ zs)
unfolding with_key
glue [] zs a r f g = g
glue (e ∷ es) zs a r f g = go (eqb (family e.address) 4) refl r (λ h. glue es zs a.1 h f g)
  where
    go : (b : Bool) → eqb (family e.address) 4 ≡ b → Rising entry_place (cond b (e ∷ of_family 4 es) (of_family 4 es)) → (Rising entry_place (of_family 4 es) → Rising entry_place (of_family 4 es ++ zs))
        → Rising entry_place (cond b (e ∷ of_family 4 es) (of_family 4 es) ++ zs)
    go true q h ih =
        let low = low_4 e.address a.0.address (eqb-true (family e.address) 4 q) in
        (from_append entry_place (entry_place e) (of_family 4 es) zs h.0 (from_less entry_place (entry_place e) 4294967296 zs low f), ih h.1)
    go false q h ih = ih h

module _ (es ys : List Entry) (valid : AllEntries es) (valid-too : AllEntries ys) (rises : Rising entry_number ys) (old : (k : ℕ) → with_key entry_number k ys ≡ with_key entry_number k es) where
  families_rising : Rising entry_place (by_family ys)
  families_rising =
      let from : From entry_place 4294967296 (of_family 6 ys) = family_from 6 4294967296 place_6 0 ys (from_zero entry_number ys) in
      glue ys (of_family 6 ys) valid-too (family_rising 4 0 place_4 ys rises) from (family_rising 6 4294967296 place_6 ys rises)

  family_same : (f shift : ℕ) (law : (a : Address) → family a ≡ f → place a ≡ shift + number a) (k : ℕ)
      → with_key entry_place (shift + k) (of_family f ys) ≡ with_key entry_place (shift + k) (of_family f es)
  family_same f shift law k = family_with f shift law k ys ∙ ap (of_family f) (old k) ∙ sym (family_with f shift law k es)

  families_with : (k : ℕ) → with_key entry_place k (by_family ys) ≡ with_key entry_place k es
  families_with k = elim (dec_lt k 4294967296) [
    | yes l ↦
        let here : 0 + k ≡ k = omega arith in
        let four : with_key entry_place k (of_family 4 ys) ≡ with_key entry_place k es =
        ap (λ (n : ℕ). with_key entry_place n (of_family 4 ys)) (sym here) ∙ family_same 4 0 place_4 k ∙ ap (λ (n : ℕ). with_key entry_place n (of_family 4 es)) here ∙ all_of 4 k (low_only k l) es valid in
        let six : with_key entry_place k (of_family 6 ys) ≡ [] = none_of 6 k (λ a h e z. omega (arith, low_only k l a h e)) ys valid-too in
        with_append entry_place k (of_family 4 ys) (of_family 6 ys) ∙ ap₂ ◌++◌ four six ∙ append-nil (with_key entry_place k es)
    | no n ↦
        let high : 4294967296 ≤ k = omega arith in
        let here : 4294967296 + (k - 4294967296) ≡ k = omega arith in
        let four : with_key entry_place k (of_family 4 ys) ≡ [] = none_of 4 k (λ a h e z. omega (arith, high_only k high a h e)) ys valid-too in
        let six : with_key entry_place k (of_family 6 ys) ≡ with_key entry_place k es =
        ap (λ (m : ℕ). with_key entry_place m (of_family 6 ys)) (sym here) ∙ family_same 6 4294967296 place_6 (k - 4294967296) ∙ ap (λ (m : ℕ). with_key entry_place m (of_family 6 es)) here
        ∙ all_of 6 k (high_only k high) es valid in
        with_append entry_place k (of_family 4 ys) (of_family 6 ys) ∙ ap₂ ◌++◌ four six
  ]

  families_sorted : by_family ys ≡ sort_by entry_place es
  families_sorted =
      let s = sort_is entry_place es in
      rising_only entry_place (by_family ys) (sort_by entry_place es) families_rising s.rising (λ k. families_with k ∙ sym (s.old_order k))

-- Sort by number, and then take the IPv4 entries and behind them the IPv6 entries.
pub sorted_families : (es : List Entry) → AllEntries es → by_family (sort_by entry_number es) ≡ sorted es
unfolding sorted
sorted_families es h =
    let s = sort_is entry_number es in
    families_sorted es (sort_by entry_number es) h (perm_all s.each_once h) s.rising s.old_order
