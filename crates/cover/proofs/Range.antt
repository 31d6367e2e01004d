-- The blocks of a range: how they are taken one after the other, and that they are the fewest. Assumes nothing.
use mathlib.Core.Path.{◌≡◌, refl, sym, ap, ◌∙◌, subst}
use mathlib.Core.Logic.{◌⊎◌, inl, inr}
use mathlib.Core.Bool.{true, and-eq-true_iff}
use mathlib.Core.List.{List, [], ◌∷◌}
use Prim.Native.Nat.{ℕ, zero, suc, ◌+◌, ◌-◌, ◌%◌, ◌^◌, ◌≤◌, ◌<◌}
use native.Mathlib.Nat.{le_refl}
use native.Mathlib.Decide.{dec_le}
use native.Mathlib.Omega.{arith}
use borrow.Author.Tests.{leb-true, eqb-true, le-leb, lt-leb, eq-eqb}
use lib.Dec.{leb, eqb}
use lib.Pow.{pow_pos, pow_mono}
use Rattle.wide.proofs.Aligned.{Aligned, aligned_mono, aligned_nothing}
use Rattle.cover.specs.Blocks.{Block, IsBlock, Fewest, Range, may_start, largest, blocks_from, range_blocks, Next, Greedy, done, next, size, after}
use Rattle.cover.proofs.Greatest.{greatest_le, greatest_passes, greatest_max}
use Rattle.cover.proofs.Interval.{covers_to_within, covers_last}
use Rattle.cover.proofs.Greedy.{greedy_lower, greedy_fewest}

-- ---- the largest block from a on

-- what the test `may_start` tells
pub record MayStart (a last k : ℕ) : Type 0 where
  pub aligned : Aligned k a
  pub room : a + 2 ^ k ≤ suc last

may_to : (a last k : ℕ) → may_start a last k ≡ true → MayStart a last k
may_to a last k e =
    let both = (and-eq-true_iff (eqb (a % 2 ^ k) 0) (leb (a + 2 ^ k) (suc last))).0 e in
    record { aligned = eqb-true (a % 2 ^ k) 0 both.0; room = leb-true (a + 2 ^ k) (suc last) both.1 }

to_may : (a last k : ℕ) → MayStart a last k → may_start a last k ≡ true
to_may a last k h =
    (and-eq-true_iff (eqb (a % 2 ^ k) 0) (leb (a + 2 ^ k) (suc last))).1
    (eq-eqb (a % 2 ^ k) 0 h.aligned, le-leb (a + 2 ^ k) (suc last) h.room)

pub may_smaller : {a last k : ℕ} (j : ℕ) → j ≤ k → MayStart a last k → MayStart a last j
may_smaller {a} {last} {k} j l h = record { aligned = aligned_mono a l h.aligned; room = omega (arith, h.room, pow_mono l) }

pub may_one : {a last : ℕ} → a ≤ last → MayStart a last 0
may_one {a} l = record { aligned = aligned_nothing a; room = omega arith }

pub largest_le : (W a last : ℕ) → largest W a last ≤ W
unfolding largest
largest_le W a last = greatest_le (may_start a last) W

pub largest_may : (W a last : ℕ) → a ≤ last → MayStart a last (largest W a last)
unfolding largest
largest_may W a last l = may_to a last (largest W a last) (greatest_passes (may_start a last) W (to_may a last 0 (may_one l)))

pub largest_max : (W a last k : ℕ) → k ≤ W → MayStart a last k → k ≤ largest W a last
unfolding largest
largest_max W a last k l h = greatest_max (may_start a last) W k l (to_may a last k h)

-- an exponent that may start is the largest if it is W, or the next may not
pub largest_is : (W a last k : ℕ) → k ≤ W → MayStart a last k → (k ≡ W) ⊎ (¬ MayStart a last (suc k)) → largest W a last ≡ k
largest_is W a last k l h top =
    let up = largest_max W a last k l h in
    let f = largest_may W a last (omega (arith, pow_pos k)) in
    elim top [
      | inl e ↦ omega (arith, largest_le W a last)
      | inr n ↦ let down : ¬ (k < largest W a last) = λ m. n (may_smaller (suc k) m f) in omega arith
    ]

-- ---- block after block

-- the block of 2 ^ k addresses from a on
abbrev pub block_at : ℕ → ℕ → ℕ → Block
block_at W a k = record { address = a; length = W - k }

pub size_block_at : (W a k : ℕ) → k ≤ W → size W (block_at W a k) ≡ 2 ^ k
size_block_at W a k l = let e : W - (W - k) ≡ k = omega arith in ap (λ (j : ℕ). 2 ^ j) e

module _ (W last : ℕ) where
  from_done : (n a : ℕ) → last < a → blocks_from W last n a ≡ []
  unfolding blocks_from
  from_done zero a h = refl
  from_done (suc n) a h = rw (lt-leb a last h, blocks_from)

  from_step : (n a : ℕ) → a ≤ last → blocks_from W last (suc n) a ≡ block_at W a (largest W a last) ∷ blocks_from W last n (a + 2 ^ largest W a last)
  unfolding blocks_from
  from_step n a h = rw (le-leb a last h, blocks_from)

  -- more than enough is as good as enough
  from_enough : (n m a : ℕ) → last < a + n → last < a + m → blocks_from W last n a ≡ blocks_from W last m a
  from_enough zero m a h l = from_done zero a (omega arith) ∙ sym (from_done m a (omega arith))
  from_enough (suc n) zero a h l = from_done (suc n) a (omega arith) ∙ sym (from_done zero a (omega arith))
  from_enough (suc n) (suc m) a h l =
      let k = largest W a last in
      let p = pow_pos k in
      let ih : last < a + 2 ^ k + n → last < a + 2 ^ k + m → blocks_from W last n (a + 2 ^ k) ≡ blocks_from W last m (a + 2 ^ k) = from_enough n m (a + 2 ^ k) in
      elim (dec_le a last) [
        | yes d ↦ from_step n a d ∙ ap (λ r. block_at W a k ∷ r) (ih (omega arith) (omega arith)) ∙ sym (from_step m a d)
        | no d ↦ from_done (suc n) a (omega arith) ∙ sym (from_done (suc m) a (omega arith))
      ]

  pub range_done : (a : ℕ) → last < a → range_blocks W a last ≡ []
  unfolding range_blocks
  range_done a h = from_done (suc last - a) a h

  pub range_largest : (a : ℕ) → a ≤ last → range_blocks W a last ≡ block_at W a (largest W a last) ∷ range_blocks W (a + 2 ^ largest W a last) last
  unfolding range_blocks
  range_largest a h =
      let k = largest W a last in
      let p = pow_pos k in
      from_enough (suc last - a) (suc (last - a)) a (omega arith) (omega arith)
      ∙ from_step (last - a) a h
      ∙ ap (λ r. block_at W a k ∷ r) (from_enough (last - a) (suc last - (a + 2 ^ k)) (a + 2 ^ k) (omega arith) (omega arith))

  -- the first block of the range from a on has 2 ^ k addresses, and the others are those of the range behind it
  pub range_step : (a k : ℕ) → k ≤ W → MayStart a last k → (k ≡ W) ⊎ (¬ MayStart a last (suc k))
      → range_blocks W a last ≡ block_at W a k ∷ range_blocks W (a + 2 ^ k) last
  range_step a k l h top =
      subst (λ j. range_blocks W a last ≡ block_at W a j ∷ range_blocks W (a + 2 ^ j) last) (largest_is W a last k l h top)
      (range_largest a (omega (arith, h.room, pow_pos k)))

  -- induction along the blocks of a range
  pub range_ind : (P : ℕ → List Block → Type 0) → ((a : ℕ) → last < a → P a [])
      → ((a : ℕ) (bs : List Block) → a ≤ last → P (a + 2 ^ largest W a last) bs → P a (block_at W a (largest W a last) ∷ bs))
      → (a : ℕ) → P a (range_blocks W a last)
  unfolding range_blocks
  range_ind P none step a = go (suc last - a) a (omega arith)
    where
      go : (n a : ℕ) → last < a + n → P a (blocks_from W last n a)
      go zero a h = none a (omega arith)
      go (suc n) a h =
          let k = largest W a last in
          let p = pow_pos k in
          let ih : last < a + 2 ^ k + n → P (a + 2 ^ k) (blocks_from W last n (a + 2 ^ k)) = go n (a + 2 ^ k) in
          elim (dec_le a last) [
            | yes l ↦ rw (from_step n a l) (step a (blocks_from W last n (a + 2 ^ k)) l (ih (omega arith)))
            | no m ↦ rw (from_done (suc n) a (omega arith)) (none a (omega arith))
          ]

-- ---- the fewest

-- the largest block from a on is the next block of the range
next_largest : (W first last a : ℕ) → last < 2 ^ W → first ≤ a → a ≤ last → Next W (Range first last) a (block_at W a (largest W a last))
next_largest W first last a top low high = record {
  block = block;
  above = le_refl a;
  lowest = λ x h l s. omega arith;
  inside = λ x c. let w = covers_to_within block c in (omega (arith, w.low), omega (arith, w.high, f.room, sizes));
  largest = λ c C e s. bound c C e (s (after W c - 1) (covers_last C));
}
  where
    k : ℕ
    k = largest W a last

    f : MayStart a last k
    f = largest_may W a last high

    k_le_w : k ≤ W
    k_le_w = largest_le W a last

    sizes : size W (block_at W a k) ≡ 2 ^ k
    sizes = size_block_at W a k k_le_w

    block : IsBlock W (block_at W a k)
    block = record { short = omega arith; below = omega arith; aligned = rw sizes f.aligned }

    bound : (c : Block) → IsBlock W c → c.address ≡ a → Range first last (after W c - 1) → W - k ≤ c.length
    bound c C e s =
        let j = W - c.length in
        let p = pow_pos j in
        let fit : MayStart a last j = record { aligned = subst (Aligned j) e C.aligned; room = omega arith } in
        omega (arith, largest_max W a last j (omega arith) fit)

pub range_greedy : (W first last : ℕ) → last < 2 ^ W → Greedy W (Range first last) 0 (range_blocks W first last)
range_greedy W first last top =
    greedy_lower (omega arith) (λ x l h s. omega arith)
    (range_ind W last P (λ a h l. done (λ x k t s. omega arith)) step first (le_refl first))
  where
    P : ℕ → List Block → Type 0
    P a bs = first ≤ a → Greedy W (Range first last) a bs

    step : (a : ℕ) (bs : List Block) → a ≤ last → P (a + 2 ^ largest W a last) bs → P a (block_at W a (largest W a last) ∷ bs)
    step a bs h ih l =
        let k = largest W a last in
        next {bs = bs} (next_largest W first last a top l h) (rw (size_block_at W a k (largest_le W a last)) (ih (omega arith)))

-- THEOREM: the blocks of a range are the fewest.
pub range_fewest : (W first last : ℕ) → last < 2 ^ W → Fewest W (Range first last) (range_blocks W first last)
range_fewest W first last top = greedy_fewest (range_greedy W first last top)
