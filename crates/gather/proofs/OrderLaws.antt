-- The records in the order of their addresses. Assumes nothing.
use mathlib.Core.Path.{◌≡◌, sym, ap, ap₂, ◌∙◌}
use mathlib.Core.Logic.{◌⊎◌, inl, inr}
use mathlib.Core.Bool.{Bool, true, and-eq-true_iff}
use mathlib.Core.List.{List, [], ◌∷◌}
use Prim.Native.Nat.{ℕ, zero, suc, ◌+◌, ◌*◌, ◌^◌, ◌≤◌, ◌<◌}
use native.Mathlib.Decide.{ℕ_discrete}
use native.Mathlib.Omega.{arith}
use borrow.Author.Tests.{ne_eqb, eq-eqb, leb-true}
use lib.Dec.{leb}
use lib.ListN.{length, get_or, set, take}
use lib.Seq.{get_or-set_same, get_or-set_other, get_or-take, length-take-le}
use Rattle.wide.specs.declared.Wide.{Wide}
use Rattle.wide.specs.Value.{value}
use Rattle.cover.specs.Blocks.{Block}
use Rattle.lists.specs.Lists.{Among}
use Rattle.lists.proofs.Passes.{rising_at}
use Rattle.records.specs.Records.{read_records}
use Rattle.record_lists.specs.RecordLists.{is_rising}
use Rattle.record_lists.specs.Inner.{size_width}
use Rattle.record_lists.proofs.GoodLaws.{reads_length}
use Rattle.sort.specs.Order.{key, Sorted, Sorting}
use Rattle.sort.proofs.Claims.{keys_rise, room_true}
use Rattle.gather.specs.Inner.{outside, record_at, Listed, place_of, picks, ordered, InOrder, Loaded, OrderedBy}
use Rattle.gather.proofs.PassLaws.{reads_at, picks_length, picks_at}

-- a list that passes the test rises
rises_at : (bs : List Block) → is_rising bs ≡ true → (i : ℕ) → suc i < length bs → (get_or bs i outside).address ≤ (get_or bs (suc i) outside).address
unfolding is_rising
rises_at [] r i h = absurd (omega arith)
rises_at (b ∷ []) r i h = absurd (omega arith)
rises_at (b ∷ c ∷ bs) r zero h = leb-true b.address c.address ((and-eq-true_iff (leb b.address c.address) (is_rising (c ∷ bs))).0 r).0
rises_at (b ∷ c ∷ bs) r (suc i) h = rises_at (c ∷ bs) ((and-eq-true_iff (leb b.address c.address) (is_rising (c ∷ bs))).0 r).1 i (omega arith)

-- ---- the keys, one after the other

pub loaded_none : (W : ℕ) (bytes hi lo : List ℕ) → Loaded W 0 bytes hi lo
loaded_none W bytes hi lo x h = absurd (omega arith)

pub loaded_next : (W i : ℕ) (bytes hi lo : List ℕ) → Loaded W i bytes hi lo → i < length hi → i < length lo → (a : Wide) → value a ≡ (record_at W bytes i).address
    → Loaded W (i + 1) bytes (set hi i a.hi) (set lo i a.lo)
loaded_next W i bytes hi lo L h k a e x l = elim (ℕ_discrete x i) [
  | yes p ↦ rw p (ap₂ (λ (m n : ℕ). m * 2 ^ 64 + n) (get_or-set_same hi i a.hi 0 h) (get_or-set_same lo i a.lo 0 k) ∙ e)
  | no n ↦ ap₂ (λ (m n : ℕ). m * 2 ^ 64 + n) (get_or-set_other hi i x a.hi 0 n) (get_or-set_other lo i x a.lo 0 n) ∙ L x (omega arith)
]

-- ---- sorted

module _ {size n : ℕ} {bytes : List ℕ} (L : Listed size n bytes) (hi lo before now : List ℕ) (answer : Bool) where
  abbrev W : ℕ
  W = size_width size

  module _ (h : n ≤ length hi) (k : n ≤ length lo) (load : Loaded W n bytes hi lo) (room : n ≤ length before) (s : Sorting (take n hi) (take n lo) before answer now) where
    many : length (take n hi) ≡ n
    many = length-take-le n hi h

    done : Sorted (take n hi) (take n lo) before now
    done = s.done (room_true answer s (record {
      paired = length-take-le n lo k ∙ sym many;
      few = omega (arith, many, L.few);
      placed = omega (arith, many);
    }))

    key_is : (x : ℕ) → x < n → key (take n hi) (take n lo) x ≡ (record_at W bytes x).address
    unfolding key
    key_is x l = ap₂ (λ (m p : ℕ). m * 2 ^ 64 + p) (get_or-take n hi x 0 l) (get_or-take n lo x 0 l) ∙ load x l

    inside : (p : ℕ) → p < n → get_or now p 0 < n
    inside p l = omega (arith, done.order.inside p (omega (arith, many)), many)

    pub sorted_order : OrderedBy W n bytes now
    sorted_order = record {
      inside = inside;
      each = λ x l. let (p, q, e) = done.order.each x (omega (arith, many)) in (p, omega (arith, many), e);
      rising = λ p l.
          let up = keys_rise (take n hi) (take n lo) (length (take n hi)) done.order p (suc p) (omega arith) (omega (arith, many)) in
          omega (arith, up, key_is (get_or now p 0) (inside p (omega arith)), key_is (get_or now (suc p) 0) (inside (suc p) l));
    }

    pub sorted_length : length now ≡ length before
    sorted_length = done.size

-- ---- in order

module _ {size n : ℕ} {bytes : List ℕ} (L : Listed size n bytes) where
  abbrev U : ℕ
  U = size_width size

  abbrev ps : List Block
  ps = read_records U n bytes

  module _ (xs : List ℕ) where
    abbrev g : ℕ → Block
    g = ordered U bytes xs

    -- an order of each index once, by rising addresses
    module _ (inside : (j : ℕ) → j < n → place_of xs j < n) (each : (x : ℕ) → x < n → (p : ℕ) × (p < n) × (place_of xs p ≡ x))
        (rising : (j : ℕ) → suc j < n → (g j).address ≤ (g (suc j)).address) where
      whole : length ps ≡ n
      whole = reads_length U n bytes

      as_many : length (picks g 0 n) ≡ n
      as_many = picks_length g 0 n

      pick : (i : ℕ) → i < n → get_or (picks g 0 n) i outside ≡ g i
      pick i h = picks_at g 0 n i h ∙ ap g (let e : 0 + i ≡ i = omega arith in e)

      forth : Among outside ps (picks g 0 n)
      forth i h =
          let l : i < n = omega (arith, whole) in
          let (p, q, e) = each i l in
          (p, omega (arith, as_many), reads_at U n bytes i l ∙ sym (pick p q ∙ ap (record_at U bytes) e))

      back : Among outside (picks g 0 n) ps
      back i h =
          let l : i < n = omega (arith, as_many) in
          (place_of xs i, omega (arith, whole, inside i l), pick i l ∙ sym (reads_at U n bytes (place_of xs i) (inside i l)))

      pub in_order : ((j : ℕ) → j < n → (length xs ≡ 0) ⊎ (j < length xs)) → InOrder U n bytes xs
      in_order has = record {
        places = λ j h. (omega (arith, L.few), has j h);
        inside = inside;
        members = (forth, back);
        rising = rising_at outside (picks g 0 n) (λ i h.
            let l : suc i < n = omega (arith, as_many) in
            omega (arith, ap (λ (b : Block). b.address) (pick i (omega arith)), ap (λ (b : Block). b.address) (pick (suc i) l), rising i l));
      }

  -- the sorted order
  pub order_sorted : (order : List ℕ) → n ≤ length order → OrderedBy U n bytes order → InOrder U n bytes (take n order)
  order_sorted order h o = elim (ℕ_discrete n 0) [
    | yes z ↦ in_order (take n order) (λ j l. absurd (omega arith)) (λ x l. absurd (omega arith)) (λ j l. absurd (omega arith)) (λ j l. absurd (omega arith))
    | no z ↦ in_order (take n order) (λ j l. rw (at z j l) (o.inside j l)) (λ x l. let (p, q, e) = o.each x l in (p, q, at z p q ∙ e))
        (λ j l. rw (at z j (omega arith), at z (suc j) l) (o.rising j l)) (λ j l. inr (omega (arith, all)))
  ]
    where
      all : length (take n order) ≡ n
      all = length-take-le n order h

      at : ¬ (n ≡ 0) → (j : ℕ) → j < n → place_of (take n order) j ≡ get_or order j 0
      at z j l = rw (ne_eqb (length (take n order)) 0 (λ e. z (sym all ∙ e))) (get_or-take n order j 0 l)

  -- the records as they are, where they rise
  pub order_rising : (xs : List ℕ) → length xs ≡ 0 → is_rising ps ≡ true → InOrder U n bytes xs
  order_rising xs e r = in_order xs (λ j l. rw (as_is j) l) (λ x l. (x, l, as_is x)) (λ j l. rw (as_is j, as_is (suc j)) (up j l)) (λ j l. inl e)
    where
      as_is : (j : ℕ) → place_of xs j ≡ j
      as_is j = rw (eq-eqb (length xs) 0 e)

      up : (j : ℕ) → suc j < n → (record_at U bytes j).address ≤ (record_at U bytes (suc j)).address
      up j l =
          let far = rises_at ps r j (omega (arith, reads_length U n bytes)) in
          omega (arith, far, ap (λ (b : Block). b.address) (reads_at U n bytes j (omega arith)), ap (λ (b : Block). b.address) (reads_at U n bytes (suc j) l))
