-- The indices of a list in the order of its keys, equal keys by their indices: what stands at them is the list sorted. Assumes nothing.
use mathlib.Core.Path.{◌≡◌, refl, sym, ap, ◌∙◌}
use mathlib.Core.Logic.{◌⊎◌, inl, inr}
use mathlib.Core.Bool.{Bool, true, false, cond}
use mathlib.Core.List.{List, [], ◌∷◌, ◌++◌, map, map-append}
use Prim.Native.Nat.{ℕ, zero, suc, ◌≤◌, ◌<◌}
use native.Mathlib.Decide.{dec_lt}
use native.Mathlib.Omega.{arith}
use borrow.Author.Tests.{ne_eqb, eqb-true, eqb-false}
use lib.Dec.{eqb}
use lib.ListN.{length, get_or, take, length-append, get_or-append}
use lib.Seq.{take-suc, take-length, get_or-append_seam}
use Rattle.stable_sort.specs.Stable.{From, Rising, with_key, sort_by}
use Rattle.stable_sort.specs.Indices.{up_to, Once, InOrder}
use Rattle.stable_sort.proofs.StableLaws.{with_yes, with_no, sort_is, rising_only}

-- ---- a list of indices, by the index alone

abbrev self : ℕ → ℕ
self x = x

-- an index that stands nowhere, and one that stands at one place alone
absent : (j : ℕ) (l : List ℕ) → ((p : ℕ) → p < length l → ¬ (get_or l p 0 ≡ j)) → with_key self j l ≡ []
unfolding with_key
absent j [] h = refl
absent j (x ∷ l) h = rw (ne_eqb x j (h 0 (omega arith))) (absent j l (λ p q. h (suc p) (omega arith)))

single : (j : ℕ) (l : List ℕ) (p : ℕ) → p < length l → get_or l p 0 ≡ j → ((q : ℕ) → q < length l → get_or l q 0 ≡ j → q ≡ p) → with_key self j l ≡ j ∷ []
single j [] p h e o = absurd (omega arith)
single j (x ∷ l) zero h e o =
    with_yes self j x l e ∙ rw (e, absent j l (λ q r z. let s = o (suc q) (omega arith) z in omega arith))
single j (x ∷ l) (suc p) h e o =
    with_no self j x l (λ z. let s = o 0 (omega arith) z in omega arith)
    ∙ single j l p (omega arith) e (λ q r z. let s = o (suc q) (omega arith) z in omega arith)

once_with : (n : ℕ) (l : List ℕ) → Once n l → (j : ℕ) → (j < n → with_key self j l ≡ j ∷ []) × (n ≤ j → with_key self j l ≡ [])
once_with n l o j =
    let s = o.size in (
      λ h. let e = o.each j h in single j l e.0 (let b = e.1 in omega arith) e.2 (λ q r z. o.once q e.0 (omega arith) e.1 (z ∙ sym e.2)),
      λ h. absent j l (λ p r z. let i = o.inside p (omega arith) in omega arith),
    )

once_same : (n : ℕ) (k l : List ℕ) → Once n k → Once n l → (j : ℕ) → with_key self j k ≡ with_key self j l
once_same n k l o q j = elim (dec_lt j n) [
  | yes h ↦ (once_with n k o j).0 h ∙ sym ((once_with n l q j).0 h)
  | no h ↦ let g : n ≤ j = omega arith in (once_with n k o j).1 g ∙ sym ((once_with n l q j).1 g)
]

-- ---- the indices in their own order

pub up_to_size : (n : ℕ) → length (up_to n) ≡ n
unfolding up_to
up_to_size zero = refl
up_to_size (suc n) = omega (arith, length-append (up_to n) (n ∷ []), up_to_size n)

pub up_to_at : (n p : ℕ) → p < n → get_or (up_to n) p 0 ≡ p
unfolding up_to
up_to_at zero p h = absurd (omega arith)
up_to_at (suc n) p h = elim (dec_lt p n) [
  | yes l ↦ get_or-append (up_to n) (n ∷ []) 0 p (omega (arith, up_to_size n)) ∙ up_to_at n p l
  | no m ↦
      let here : p ≡ length (up_to n) = omega (arith, up_to_size n) in
      ap (λ (k : ℕ). get_or (up_to n ++ n ∷ []) k 0) here ∙ get_or-append_seam (up_to n) n [] 0 ∙ omega (arith, up_to_size n)
]

up_to_once : (n : ℕ) → Once n (up_to n)
up_to_once n =
    record {
      size = up_to_size n;
      inside = λ p h. let e = up_to_at n p h in omega arith;
      each = λ x h. (x, h, up_to_at n x h);
      once = λ p q g h e. sym (up_to_at n p g) ∙ e ∙ up_to_at n q h;
    }

-- ---- those of one key among them

module _ (g : ℕ → ℕ) (k : ℕ) where
  both_with : (j : ℕ) (l : List ℕ) → with_key self j (with_key g k l) ≡ cond (eqb (g j) k) (with_key self j l) []
  unfolding with_key
  both_with j [] = go (eqb (g j) k)
    where
      go : (b : Bool) → ◌≡◌ {A = List ℕ} [] (cond b [] [])
      go true = refl
      go false = refl
  both_with j (x ∷ l) = go (eqb (g x) k) (eqb x j) refl refl (both_with j l)
    where
      go : (b c : Bool) → eqb (g x) k ≡ b → eqb x j ≡ c → with_key self j (with_key g k l) ≡ cond (eqb (g j) k) (with_key self j l) []
          → with_key self j (cond b (x ∷ with_key g k l) (with_key g k l)) ≡ cond (eqb (g j) k) (cond c (x ∷ with_key self j l) (with_key self j l)) []
      go true true p q ih =
          let here : eqb (g j) k ≡ true = ap (λ (i : ℕ). eqb (g i) k) (sym (eqb-true x j q)) ∙ p in
          let rest : with_key self j (with_key g k l) ≡ with_key self j l = ih ∙ ap (λ b. cond b (with_key self j l) []) here in
          with_yes self j x (with_key g k l) (eqb-true x j q) ∙ ap (λ r. x ∷ r) rest ∙ sym (ap (λ b. cond b (x ∷ with_key self j l) []) here)
      go true false p q ih = with_no self j x (with_key g k l) (eqb-false x j q) ∙ ih
      go false true p q ih =
          let here : eqb (g j) k ≡ false = ap (λ (i : ℕ). eqb (g i) k) (sym (eqb-true x j q)) ∙ p in
          ih ∙ ap (λ b. cond b (with_key self j l) []) here ∙ sym (ap (λ b. cond b (x ∷ with_key self j l) []) here)
      go false false p q ih = ih

  from_with : (m : ℕ) (l : List ℕ) → ((q : ℕ) → q < length l → g (get_or l q 0) ≡ k → m ≤ get_or l q 0) → From self m (with_key g k l)
  unfolding with_key
  from_with m [] h = tt
  from_with m (x ∷ l) h = go (eqb (g x) k) refl (from_with m l (λ q r e. h (suc q) (omega arith) e))
    where
      go : (b : Bool) → eqb (g x) k ≡ b → From self m (with_key g k l) → From self m (cond b (x ∷ with_key g k l) (with_key g k l))
      go true e f = (h 0 (omega arith) (eqb-true (g x) k e), f)
      go false e f = f

  rising_with : (l : List ℕ) → ((p q : ℕ) → p < q → q < length l → g (get_or l p 0) ≡ k → g (get_or l q 0) ≡ k → get_or l p 0 ≤ get_or l q 0) → Rising self (with_key g k l)
  unfolding with_key
  rising_with [] h = tt
  rising_with (x ∷ l) h = go (eqb (g x) k) refl (rising_with l (λ p q r s d e. h (suc p) (suc q) (omega arith) (omega arith) d e))
    where
      go : (b : Bool) → eqb (g x) k ≡ b → Rising self (with_key g k l) → Rising self (cond b (x ∷ with_key g k l) (with_key g k l))
      go true e f = (from_with x l (λ q r d. h 0 (suc q) (omega arith) (omega arith) (eqb-true (g x) k e) d), f)
      go false e f = f

-- ---- what stands at the indices

module _ {A : Type 0} (key : A → ℕ) (d : A) where
  first_at : (xs : List A) (k : ℕ) → k ≤ length xs → map (λ (x : ℕ). get_or xs x d) (up_to k) ≡ take k xs
  unfolding up_to
  first_at xs zero h = refl
  first_at xs (suc k) h =
      map-append (λ (x : ℕ). get_or xs x d) (up_to k) (k ∷ [])
      ∙ ap (λ l. l ++ get_or xs k d ∷ []) (first_at xs k (omega arith))
      ∙ sym (take-suc xs k d (omega arith))

  -- what stands at the indices as they come is the list
  pub all_at : (xs : List A) → map (λ (x : ℕ). get_or xs x d) (up_to (length xs)) ≡ xs
  all_at xs = first_at xs (length xs) (omega arith) ∙ take-length xs

  module _ (f : ℕ → A) where
    with_map : (k : ℕ) (l : List ℕ) → with_key key k (map f l) ≡ map f (with_key (λ (x : ℕ). key (f x)) k l)
    unfolding with_key
    with_map k [] = refl
    with_map k (x ∷ l) = go (eqb (key (f x)) k) (with_map k l)
      where
        go : (b : Bool) → with_key key k (map f l) ≡ map f (with_key (λ (x : ℕ). key (f x)) k l)
            → cond b (f x ∷ with_key key k (map f l)) (with_key key k (map f l)) ≡ map f (cond b (x ∷ with_key (λ (x : ℕ). key (f x)) k l) (with_key (λ (x : ℕ). key (f x)) k l))
        go true ih = ap (λ r. f x ∷ r) ih
        go false ih = ih

    from_map : (m : ℕ) (l : List ℕ) → ((q : ℕ) → q < length l → m ≤ key (f (get_or l q 0))) → From key m (map f l)
    from_map m [] h = tt
    from_map m (x ∷ l) h = (h 0 (omega arith), from_map m l (λ q r. h (suc q) (omega arith)))

    rising_map : (l : List ℕ) → ((p q : ℕ) → p < q → q < length l → key (f (get_or l p 0)) ≤ key (f (get_or l q 0))) → Rising key (map f l)
    rising_map [] h = tt
    rising_map (x ∷ l) h =
        (from_map (key (f x)) l (λ q r. h 0 (suc q) (omega arith) (omega arith)), rising_map l (λ p q r s. h (suc p) (suc q) (omega arith) (omega arith)))

  module _ (xs : List A) (l : List ℕ) (o : InOrder (λ (x : ℕ). key (get_or xs x d)) (length xs) l) where
    at : ℕ → A
    at x = get_or xs x d

    g : ℕ → ℕ
    unfolding at
    g x = key (at x)

    order_rising : Rising key (map at l)
    unfolding at g
    order_rising = rising_map at l (λ p q r s. weak p q (o.rising p q r (let e = o.places.size in omega arith)))
      where
        weak : (p q : ℕ) → (g (get_or l p 0) < g (get_or l q 0)) ⊎ ((g (get_or l p 0) ≡ g (get_or l q 0)) × (get_or l p 0 < get_or l q 0)) → g (get_or l p 0) ≤ g (get_or l q 0)
        weak p q (inl h) = omega arith
        weak p q (inr h) = omega (arith, h.0)

    order_same : (k : ℕ) → with_key g k l ≡ with_key g k (up_to (length xs))
    unfolding at g
    order_same k =
        rising_only self (with_key g k l) (with_key g k (up_to (length xs)))
        (rising_with g k l (λ p q r s d e. strict p q d e (o.rising p q r (let z = o.places.size in omega arith))))
        (rising_with g k (up_to (length xs)) (λ p q r s d e. let z = up_to_size (length xs) in omega (arith, up_to_at (length xs) p (omega arith), up_to_at (length xs) q (omega arith))))
        (λ j. both_with g k j l ∙ ap (λ r. cond (eqb (g j) k) r []) (once_same (length xs) l (up_to (length xs)) o.places (up_to_once (length xs)) j) ∙ sym (both_with g k j (up_to (length xs))))
      where
        strict : (p q : ℕ) → g (get_or l p 0) ≡ k → g (get_or l q 0) ≡ k
            → (g (get_or l p 0) < g (get_or l q 0)) ⊎ ((g (get_or l p 0) ≡ g (get_or l q 0)) × (get_or l p 0 < get_or l q 0)) → get_or l p 0 ≤ get_or l q 0
        strict p q d e (inl h) = absurd (omega arith)
        strict p q d e (inr h) = omega (arith, h.1)

    pub order_sorts : map (λ (x : ℕ). get_or xs x d) l ≡ sort_by key xs
    unfolding at g
    order_sorts =
        let s = sort_is key xs in
        rising_only key (map at l) (sort_by key xs) order_rising s.rising
        (λ k.
        with_map at k l
        ∙ ap (map at) (order_same k)
        ∙ sym (with_map at k (up_to (length xs)))
        ∙ ap (with_key key k) (all_at xs)
        ∙ sym (s.old_order k))
