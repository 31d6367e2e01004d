-- Putting a list in the order of its keys: it is done by insertion, and there is one way to do it. Assumes nothing.
use mathlib.Core.Path.{◌≡◌, refl, sym, ap, ap₂, ◌∙◌}
use mathlib.Core.Bool.{Bool, true, false, cond}
use mathlib.Core.List.Permᴰ
use mathlib.Core.List.{List, [], ◌∷◌, ◌++◌, map, Permᴰ}
use Prim.Native.Nat.{ℕ, zero, suc, ◌≤◌, ◌<◌}
use native.Mathlib.Decide.{dec_le, ℕ_discrete}
use native.Mathlib.Omega.{arith}
use borrow.Author.Tests.{le-leb, lt-leb, eq-eqb, ne_eqb, eqb-true, eqb-false}
use lib.Dec.{eqb}
use lib.ListN.{length, get_or}
use Rattle.stable_sort.specs.Stable.{From, Rising, with_key, StableSort, insert_by, sort_by}

-- a list in another order is as long
pub perm_length : {A : Type 0} {xs ys : List A} → Permᴰ xs ys → length xs ≡ length ys
perm_length Permᴰ.nil = refl
perm_length (Permᴰ.cons e p) = ap suc (perm_length p)
perm_length (Permᴰ.swap e g) = refl
perm_length (Permᴰ.trans p q) = perm_length p ∙ perm_length q

module _ {A : Type 0} (key : A → ℕ) where
  -- ---- keys from a number on

  pub from_less : (j k : ℕ) (xs : List A) → j ≤ k → From key k xs → From key j xs
  from_less j k [] h f = tt
  from_less j k (x ∷ xs) h f = let g = f.0 in (omega arith, from_less j k xs h f.1)

  pub from_zero : (xs : List A) → From key 0 xs
  from_zero [] = tt
  from_zero (x ∷ xs) = (omega arith, from_zero xs)

  pub from_append : (k : ℕ) (xs ys : List A) → From key k xs → From key k ys → From key k (xs ++ ys)
  from_append k [] ys f g = g
  from_append k (x ∷ xs) ys f g = (f.0, from_append k xs ys f.1 g)

  -- where no key is below k, none is a number below k
  pub none_with : (k : ℕ) (xs : List A) → From key k xs → (j : ℕ) → j < k → with_key key j xs ≡ []
  unfolding with_key
  none_with k [] f j h = refl
  none_with k (x ∷ xs) f j h = let g = f.0 in rw (ne_eqb (key x) j (omega arith)) (none_with k xs f.1 j h)

  module _ (k : ℕ) (x : A) (xs : List A) where
    pub with_yes : key x ≡ k → with_key key k (x ∷ xs) ≡ x ∷ with_key key k xs
    unfolding with_key
    with_yes e = rw (eq-eqb (key x) k e)

    pub with_no : ¬ (key x ≡ k) → with_key key k (x ∷ xs) ≡ with_key key k xs
    unfolding with_key
    with_no n = rw (ne_eqb (key x) k n)

  pub with_tail : (k : ℕ) (x : A) (xs ys : List A) → with_key key k xs ≡ with_key key k ys → with_key key k (x ∷ xs) ≡ with_key key k (x ∷ ys)
  unfolding with_key
  with_tail k x xs ys e = ap (λ w. cond (eqb (key x) k) (x ∷ w) w) e

  pub with_append : (k : ℕ) (xs ys : List A) → with_key key k (xs ++ ys) ≡ with_key key k xs ++ with_key key k ys
  unfolding with_key
  with_append k [] ys = refl
  with_append k (x ∷ xs) ys = go (eqb (key x) k) (with_append k xs ys)
    where
      go : (b : Bool) → with_key key k (xs ++ ys) ≡ with_key key k xs ++ with_key key k ys
          → cond b (x ∷ with_key key k (xs ++ ys)) (with_key key k (xs ++ ys)) ≡ cond b (x ∷ with_key key k xs) (with_key key k xs) ++ with_key key k ys
      go true ih = ap (λ l. x ∷ l) ih
      go false ih = ih

  -- ---- rising, place by place

  from_at : (k : ℕ) (xs : List A) → From key k xs → (d : A) (p : ℕ) → p < length xs → k ≤ key (get_or xs p d)
  from_at k [] f d p h = absurd (omega arith)
  from_at k (x ∷ xs) f d zero h = f.0
  from_at k (x ∷ xs) f d (suc p) h = from_at k xs f.1 d p (omega arith)

  pub rising_at : (xs : List A) → Rising key xs → (d : A) (p q : ℕ) → p < q → q < length xs → key (get_or xs p d) ≤ key (get_or xs q d)
  rising_at [] r d p q l h = absurd (omega arith)
  rising_at (x ∷ xs) r d p zero l h = absurd (omega arith)
  rising_at (x ∷ xs) r d zero (suc q) l h = from_at (key x) xs r.0 d q (omega arith)
  rising_at (x ∷ xs) r d (suc p) (suc q) l h = rising_at xs r.1 d p q (omega arith) (omega arith)

  from_of : (k : ℕ) (xs : List A) (d : A) → ((p : ℕ) → p < length xs → k ≤ key (get_or xs p d)) → From key k xs
  from_of k [] d f = tt
  from_of k (x ∷ xs) d f = (f 0 (omega arith), from_of k xs d (λ p h. f (suc p) (omega arith)))

  pub rising_of : (xs : List A) (d : A) → ((p q : ℕ) → p < q → q < length xs → key (get_or xs p d) ≤ key (get_or xs q d)) → Rising key xs
  rising_of [] d f = tt
  rising_of (x ∷ xs) d f = (from_of (key x) xs d (λ q h. f 0 (suc q) (omega arith) (omega arith)), rising_of xs d (λ p q l h. f (suc p) (suc q) (omega arith) (omega arith)))

  -- ---- insertion

  insert_none : (x : A) → insert_by key x [] ≡ x ∷ []
  unfolding insert_by
  insert_none x = refl

  module _ (x y : A) (ys : List A) where
    insert_here : key x ≤ key y → insert_by key x (y ∷ ys) ≡ x ∷ y ∷ ys
    unfolding insert_by
    insert_here h = rw (le-leb (key x) (key y) h)

    insert_on : key y < key x → insert_by key x (y ∷ ys) ≡ y ∷ insert_by key x ys
    unfolding insert_by
    insert_on h = rw (lt-leb (key x) (key y) h)

  insert_perm : (x : A) (ys : List A) → Permᴰ (x ∷ ys) (insert_by key x ys)
  insert_perm x [] = rw (insert_none x) (Permᴰ.refl (x ∷ []))
  insert_perm x (y ∷ ys) = elim (dec_le (key x) (key y)) [
    | yes h ↦ rw (insert_here x y ys h) (Permᴰ.refl (x ∷ y ∷ ys))
    | no n ↦ rw (insert_on x y ys (omega arith)) (Permᴰ.trans (Permᴰ.swap refl refl) (Permᴰ.cons refl (insert_perm x ys)))
  ]

  insert_from : (k : ℕ) (x : A) (ys : List A) → k ≤ key x → From key k ys → From key k (insert_by key x ys)
  insert_from k x [] h f = rw (insert_none x) (h, tt)
  insert_from k x (y ∷ ys) h f = elim (dec_le (key x) (key y)) [
    | yes g ↦ rw (insert_here x y ys g) (h, f)
    | no n ↦ rw (insert_on x y ys (omega arith)) (f.0, insert_from k x ys h f.1)
  ]

  insert_rising : (x : A) (ys : List A) → Rising key ys → Rising key (insert_by key x ys)
  insert_rising x [] r = rw (insert_none x) (tt, tt)
  insert_rising x (y ∷ ys) r = elim (dec_le (key x) (key y)) [
    | yes h ↦ rw (insert_here x y ys h) ((h, from_less (key x) (key y) ys h r.0), r)
    | no n ↦ rw (insert_on x y ys (omega arith)) (insert_from (key y) x ys (omega arith) r.0, insert_rising x ys r.1)
  ]

  -- an element passes only those of other keys
  insert_with : (k : ℕ) (x : A) (ys : List A) → with_key key k (insert_by key x ys) ≡ with_key key k (x ∷ ys)
  insert_with k x [] = ap (with_key key k) (insert_none x)
  insert_with k x (y ∷ ys) = elim (dec_le (key x) (key y)) [
    | yes h ↦ ap (with_key key k) (insert_here x y ys h)
    | no n ↦ ap (with_key key k) (insert_on x y ys (omega arith)) ∙ passed (omega arith) (insert_with k x ys)
  ]
    where
      passed : key y < key x → with_key key k (insert_by key x ys) ≡ with_key key k (x ∷ ys) → with_key key k (y ∷ insert_by key x ys) ≡ with_key key k (x ∷ y ∷ ys)
      passed h ih = elim (ℕ_discrete (key y) k) [
        | yes e ↦
            let other : ¬ (key x ≡ k) = λ z. omega (arith, h, e, z) in
            with_yes k y (insert_by key x ys) e
            ∙ ap (λ w. y ∷ w) (ih ∙ with_no k x ys other)
            ∙ sym (with_no k x (y ∷ ys) other ∙ with_yes k y ys e)
        | no m ↦ with_no k y (insert_by key x ys) m ∙ ih ∙ sym (with_tail k x (y ∷ ys) ys (with_no k y ys m))
      ]

  -- ---- sorting

  pub sort_is : (xs : List A) → StableSort key xs (sort_by key xs)
  unfolding sort_by with_key
  sort_is [] = record { each_once = Permᴰ.nil; rising = tt; old_order = λ k. refl }
  sort_is (x ∷ xs) =
      let s = sort_is xs in
      record {
        each_once = Permᴰ.trans (Permᴰ.cons refl s.each_once) (insert_perm x (sort_by key xs));
        rising = insert_rising x (sort_by key xs) s.rising;
        old_order = λ k. insert_with k x (sort_by key xs) ∙ with_tail k x (sort_by key xs) xs (s.old_order k);
      }

  -- ---- one way alone

  -- of two lists with the same elements of each key, one that rises begins with a key no higher than the other's first
  low_first : (x y : A) (xs ys : List A) → Rising key (y ∷ ys) → ((k : ℕ) → with_key key k (x ∷ xs) ≡ with_key key k (y ∷ ys)) → key y ≤ key x
  low_first x y xs ys r e = elim (dec_le (key y) (key x)) [
    | yes h ↦ h
    | no n ↦
        let clash : x ∷ with_key key (key x) xs ≡ [] =
        sym (with_yes (key x) x xs refl) ∙ e (key x) ∙ none_with (key y) (y ∷ ys) (omega arith, r.0) (key x) (omega arith) in
        let z : ◌≡◌ {A = ℕ} 0 1 = cc in
        absurd (omega arith)
  ]

  pub rising_only : (xs ys : List A) → Rising key xs → Rising key ys → ((k : ℕ) → with_key key k xs ≡ with_key key k ys) → xs ≡ ys
  unfolding with_key
  rising_only [] [] r s e = refl
  rising_only [] (y ∷ ys) r s e =
      let clash : [] ≡ y ∷ with_key key (key y) ys = e (key y) ∙ with_yes (key y) y ys refl in
      let z : ◌≡◌ {A = ℕ} 0 1 = cc in
      absurd (omega arith)
  rising_only (x ∷ xs) [] r s e =
      let clash : x ∷ with_key key (key x) xs ≡ [] = sym (with_yes (key x) x xs refl) ∙ e (key x) in
      let z : ◌≡◌ {A = ℕ} 0 1 = cc in
      absurd (omega arith)
  rising_only (x ∷ xs) (y ∷ ys) r s e =
      let same : key y ≡ key x = omega (arith, low_first x y xs ys s e, low_first y x ys xs r (λ k. sym (e k))) in
      let firsts : x ∷ with_key key (key x) xs ≡ y ∷ with_key key (key x) ys = sym (with_yes (key x) x xs refl) ∙ e (key x) ∙ with_yes (key x) y ys same in
      let first : x ≡ y = cc in
      let rest : with_key key (key x) xs ≡ with_key key (key x) ys = cc in
      ap₂ ◌∷◌ first (rising_only xs ys r.1 s.1 (λ k. others k same rest (eqb (key x) k) (eqb (key y) k) refl refl (e k)))
    where
      others : (k : ℕ) → key y ≡ key x → with_key key (key x) xs ≡ with_key key (key x) ys → (a b : Bool) → eqb (key x) k ≡ a → eqb (key y) k ≡ b
          → cond a (x ∷ with_key key k xs) (with_key key k xs) ≡ cond b (y ∷ with_key key k ys) (with_key key k ys) → with_key key k xs ≡ with_key key k ys
      others k h g true b p q l = rw (← eqb-true (key x) k p) g
      others k h g false true p q l = absurd (eqb-false (key x) k p (omega (arith, eqb-true (key y) k q)))
      others k h g false false p q l = l

  module _ (xs ys : List A) (s : StableSort key xs ys) where
    pub sort_only : ys ≡ sort_by key xs
    sort_only = let t = sort_is xs in rising_only ys (sort_by key xs) s.rising t.rising (λ k. s.old_order k ∙ sym (t.old_order k))

  -- a list that rises is sorted already
  pub sort_rising : (xs : List A) → Rising key xs → sort_by key xs ≡ xs
  sort_rising xs r = sym (sort_only xs xs (record { each_once = Permᴰ.refl xs; rising = r; old_order = λ k. refl }))

  pub sort_twice : (xs : List A) → sort_by key (sort_by key xs) ≡ sort_by key xs
  sort_twice xs = sort_rising (sort_by key xs) (sort_is xs).rising

  pub suffices : (xs ys : List A) → Rising key ys → ((k : ℕ) → with_key key k ys ≡ with_key key k xs) → StableSort key xs ys
  suffices xs ys r e =
      let s = sort_is xs in
      let same : ys ≡ sort_by key xs = rising_only ys (sort_by key xs) r s.rising (λ k. e k ∙ sym (s.old_order k)) in
      rw same s

-- ---- elements made of others, with the same keys

module _ {A B : Type 0} (key : A → ℕ) (other : B → ℕ) (f : A → B) (same : (x : A) → other (f x) ≡ key x) where
  insert_map : (x : A) (ys : List A) → insert_by other (f x) (map f ys) ≡ map f (insert_by key x ys)
  insert_map x [] = insert_none other (f x) ∙ ap (map f) (sym (insert_none key x))
  insert_map x (y ∷ ys) = elim (dec_le (key x) (key y)) [
    | yes h ↦ insert_here other (f x) (f y) (map f ys) (omega (arith, same x, same y)) ∙ ap (map f) (sym (insert_here key x y ys h))
    | no n ↦
        insert_on other (f x) (f y) (map f ys) (omega (arith, same x, same y))
        ∙ ap (λ l. f y ∷ l) (insert_map x ys)
        ∙ ap (map f) (sym (insert_on key x y ys (omega arith)))
  ]

  pub sort_map : (xs : List A) → sort_by other (map f xs) ≡ map f (sort_by key xs)
  unfolding sort_by
  sort_map [] = refl
  sort_map (x ∷ xs) = ap (insert_by other (f x)) (sort_map xs) ∙ insert_map x (sort_by key xs)
