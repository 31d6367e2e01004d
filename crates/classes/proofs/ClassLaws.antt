-- The class of an address and of a network number, by the bounds that the code tests, and the answers. Assumes nothing.
use Rattle.std.specs.Prelude.{Some, None}
use mathlib.Core.Path.{◌≡◌, refl, ◌∙◌}
use mathlib.Core.Bool.{Bool, true, false, ◌&&◌}
use mathlib.Core.List.{List, [], ◌∷◌}
use Prim.Native.Nat.{ℕ, ◌+◌, ◌*◌, ◌/◌, ◌%◌, ◌≤◌, ◌<◌}
use native.Mathlib.Omega.{arith}
use borrow.Author.Tests.{eq-eqb, ne_eqb, le-leb, lt-leb}
use lib.Dec.{leb, ltb}
use Rattle.address.specs.declared.Address.TheVariants.{V4, V6}
use Rattle.address.specs.declared.Refusal.TheVariants.{NoClass, WrongFamily}
use Rattle.address.specs.Answers.{precedence, answer, gives, refuses, refusal, no_address}
use Rattle.classes.specs.Classes.{Class, class_a, class_b, class_c, table, row_of, begins, lies_in, class_of, network_class, hosts, split_answer, join_answer}

module _ (test : Class → Bool) (c : Class) (cs : List Class) where
  row_yes : test c ≡ true → row_of test (c ∷ cs) ≡ Some c
  unfolding row_of
  row_yes e = rw (e, row_of)

  row_no : test c ≡ false → row_of test (c ∷ cs) ≡ row_of test cs
  unfolding row_of
  row_no e = rw (e, row_of)

-- the row that the first, the second or the third test picks, or none
module _ (test : Class → Bool) where
  first : test class_a ≡ true → row_of test table ≡ Some class_a
  first = row_yes test class_a (class_b ∷ class_c ∷ [])

  second : test class_a ≡ false → test class_b ≡ true → row_of test table ≡ Some class_b
  second a b = row_no test class_a (class_b ∷ class_c ∷ []) a ∙ row_yes test class_b (class_c ∷ []) b

  third : test class_a ≡ false → test class_b ≡ false → test class_c ≡ true → row_of test table ≡ Some class_c
  third a b c = row_no test class_a (class_b ∷ class_c ∷ []) a ∙ row_no test class_b (class_c ∷ []) b ∙ row_yes test class_c [] c

  no_row : test class_a ≡ false → test class_b ≡ false → test class_c ≡ false → row_of test table ≡ None
  unfolding row_of
  no_row a b c = row_no test class_a (class_b ∷ class_c ∷ []) a ∙ row_no test class_b (class_c ∷ []) b ∙ row_no test class_c [] c

-- ---- addresses

module _ (v : ℕ) where
  pub class_a_lem : v < 2147483648 → class_of v ≡ Some class_a
  unfolding class_of
  class_a_lem h = first (begins v) (eq-eqb (v / 2147483648) 0 (omega arith))

  pub class_b_lem : 2147483648 ≤ v → v < 3221225472 → class_of v ≡ Some class_b
  unfolding class_of
  class_b_lem l h = second (begins v) (ne_eqb (v / 2147483648) 0 (omega arith)) (eq-eqb (v / 1073741824) 2 (omega arith))

  pub class_c_lem : 3221225472 ≤ v → v < 3758096384 → class_of v ≡ Some class_c
  unfolding class_of
  class_c_lem l h = third (begins v) (ne_eqb (v / 2147483648) 0 (omega arith)) (ne_eqb (v / 1073741824) 2 (omega arith)) (eq-eqb (v / 536870912) 6 (omega arith))

  pub class_none : 3758096384 ≤ v → class_of v ≡ None
  unfolding class_of
  class_none l = no_row (begins v) (ne_eqb (v / 2147483648) 0 (omega arith)) (ne_eqb (v / 1073741824) 2 (omega arith)) (ne_eqb (v / 536870912) 6 (omega arith))

  pub split_class : (c : Class) → class_of v ≡ Some c → gives (v / hosts c, v % hosts c) ≡ split_answer (V4 v)
  unfolding split_answer
  split_class c e = rw e

  pub split_none : class_of v ≡ None → refuses (0, 0) NoClass ≡ split_answer (V4 v)
  unfolding split_answer
  split_none e = rw e

pub split_6 : (hi lo : ℕ) → refuses (0, 0) WrongFamily ≡ split_answer (V6 hi lo)
unfolding split_answer
split_6 hi lo = refl

-- ---- network numbers

module _ (n : ℕ) where
  inside : (a b : ℕ) → a ≤ n → n ≤ b → (leb a n && leb n b) ≡ true
  inside a b l h = rw (le-leb a n l, le-leb n b h)

  below : (a b : ℕ) → n < a → (leb a n && leb n b) ≡ false
  below a b h = rw (lt-leb a n h)

  above : (a b : ℕ) → b < n → (leb a n && leb n b) ≡ false
  above a b h = go (leb a n)
    where
      go : (x : Bool) → (x && leb n b) ≡ false
      go true = lt-leb n b h
      go false = refl

  pub network_a : n ≤ 127 → network_class n ≡ Some class_a
  unfolding network_class
  network_a h = first (lies_in n) (inside 0 127 (omega arith) h)

  pub network_b : 32768 ≤ n → n ≤ 49151 → network_class n ≡ Some class_b
  unfolding network_class
  network_b l h = second (lies_in n) (above 0 127 (omega arith)) (inside 32768 49151 l h)

  pub network_c : 12582912 ≤ n → n ≤ 14680063 → network_class n ≡ Some class_c
  unfolding network_class
  network_c l h = third (lies_in n) (above 0 127 (omega arith)) (above 32768 49151 (omega arith)) (inside 12582912 14680063 l h)

  pub network_ab : 127 < n → n < 32768 → network_class n ≡ None
  unfolding network_class
  network_ab l h = no_row (lies_in n) (above 0 127 l) (below 32768 49151 h) (below 12582912 14680063 (omega arith))

  pub network_bc : 49151 < n → n < 12582912 → network_class n ≡ None
  unfolding network_class
  network_bc l h = no_row (lies_in n) (above 0 127 (omega arith)) (above 32768 49151 l) (below 12582912 14680063 h)

  pub network_above : 14680063 < n → network_class n ≡ None
  unfolding network_class
  network_above l = no_row (lies_in n) (above 0 127 (omega arith)) (above 32768 49151 (omega arith)) (above 12582912 14680063 l)

  module _ (h : ℕ) where
    pub join_none : network_class n ≡ None → refuses no_address NoClass ≡ join_answer n h
    unfolding join_answer
    join_none e = rw e

    pub join_class : (c : Class) → network_class n ≡ Some c → answer no_address (refusal precedence ((7, ltb c.host_most h) ∷ [])) (V4 (n * hosts c + h)) ≡ join_answer n h
    unfolding join_answer
    join_class c e = rw e
