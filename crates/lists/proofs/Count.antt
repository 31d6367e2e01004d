-- How many blocks the list of what is not covered has: one block more in the given list adds at most W - 1. Assumes nothing.
use mathlib.Core.Path.{◌≡◌, ap}
use mathlib.Core.Logic.{◌⊎◌, inl, inr, ◌↔◌}
use mathlib.Core.List.{List, [], ◌∷◌}
use Prim.Native.Nat.{ℕ, zero, suc, ◌+◌, ◌-◌, ◌*◌, ◌^◌, ◌≤◌, ◌<◌}
use native.Mathlib.Nat.{suc-mul}
use native.Mathlib.Decide.{dec_le, dec_lt}
use native.Mathlib.Omega.{arith}
use lib.ListN as L
use lib.Pow.{pow_pos, pow-lt}
use Rattle.wide.proofs.Aligned.{Aligned, aligned_gap, aligned_mono, aligned_next}
use Rattle.cover.specs.Blocks.{Block, IsBlock, Covers, CoversAt, CoveredBy, AllBlocks, Exactly, Fewest, after}
use Rattle.cover.proofs.Interval.{size_pos, after_le, covers_to_within, within_to_covers, covers_first, covers_last, nested_or_apart}
use Rattle.cover.proofs.Range.{block_at, size_block_at}
use Rattle.lists.specs.Lists.{gathered_blocks, uncovered_blocks}
use Rattle.lists.proofs.Plain.{plain_gathered, plain_uncovered, plain_length, plain_uncovered_nothing}

-- ---- at most n blocks of a set, in any order

record AtMost (W n : ℕ) (S : ℕ → Type 0) : Type 0 where
  list : List Block
  blocks : AllBlocks W list
  few : L.length list ≤ n
  exactly : (x : ℕ) → S x ↔ CoveredBy W list x

module _ {W : ℕ} where
  at_most_none : {S : ℕ → Type 0} {n : ℕ} → ((x : ℕ) → ¬ S x) → AtMost W n S
  at_most_none h = record { list = []; blocks = tt; few = omega arith; exactly = λ x. (λ s. absurd (h x s), λ c. absurd c.1) }

  -- one block before those of another set
  at_most_cons : {S T : ℕ → Type 0} {m n : ℕ} {b : Block} → suc n ≤ m → IsBlock W b → ((x : ℕ) → T x ↔ Covers W b x ⊎ S x) → AtMost W n S → AtMost W m T
  at_most_cons {S} {T} {b = b} l B h a = record { list = b ∷ a.list; blocks = (B, a.blocks); few = omega (arith, a.few); exactly = λ x. (to x, back x) }
    where
      to : (x : ℕ) → T x → CoveredBy W (b ∷ a.list) x
      to x t = elim ((h x).0 t) [ inl c ↦ (0, c) | inr s ↦ let (i, c) = (a.exactly x).0 s in (suc i, c) ]

      back : (x : ℕ) → CoveredBy W (b ∷ a.list) x → T x
      back x (zero, c) = (h x).1 (inl c)
      back x (suc i, c) = (h x).1 (inr ((a.exactly x).1 (i, c)))

  at_most_change : {S T : ℕ → Type 0} {m n : ℕ} → n ≤ m → ((x : ℕ) → T x ↔ S x) → AtMost W n S → AtMost W m T
  at_most_change l h a = record {
    list = a.list;
    blocks = a.blocks;
    few = omega (arith, a.few);
    exactly = λ x. (λ t. (a.exactly x).0 ((h x).0 t), λ c. (h x).1 ((a.exactly x).1 c));
  }

  at_most_own : (bs : List Block) → AllBlocks W bs → AtMost W (L.length bs) (CoveredBy W bs)
  at_most_own bs B = record { list = bs; blocks = B; few = omega arith; exactly = λ x. (λ c. c, λ c. c) }

-- ---- a block taken out of a larger one: what is left are halves of blocks, one of each size between the two

-- x is one of the 2 ^ m addresses from C on, and none of the 2 ^ k from c on
record Left (C m c k x : ℕ) : Type 0 where
  low : C ≤ x
  high : x < C + 2 ^ m
  out : (x < c) ⊎ (c + 2 ^ k ≤ x)

half_covers : {W a m x : ℕ} → m ≤ W → IsBlock W (block_at W a m) → Covers W (block_at W a m) x ↔ ((a ≤ x) × (x < a + 2 ^ m))
half_covers {W} {a} {m} l B =
    let s = size_block_at W a m l in
    (λ c. let w = covers_to_within B c in (w.low, omega (arith, w.high)), λ h. within_to_covers B (record { low = h.0; high = omega (arith, h.1) }))

module _ {W n : ℕ} {R : ℕ → Type 0} (rest : AtMost W n R) where
  -- the blocks of what is left, before those of R
  abbrev More : ℕ → ℕ → ℕ → ℕ → Type 0
  More C m c k = AtMost W (m + n) (λ x. Left C m c k x ⊎ R x)

  -- nothing is left
  left_none : (C m c k : ℕ) → k ≡ m → C ≤ c → c + 2 ^ k ≤ C + 2 ^ m → More C m c k
  left_none C m c k e low high =
      let p = ap (λ (j : ℕ). 2 ^ j) e in
      let none : (x : ℕ) → ¬ Left C m c k x = λ x l. elim l.out [ inl h ↦ omega (arith, l.low) | inr h ↦ omega (arith, l.high) ] in
      at_most_change (omega arith) (λ x. (λ t. elim t [ inl l ↦ absurd (none x l) | inr r ↦ r ], inr)) rest

  -- the half from a on, and what is left of the half from d on
  left_half : (C m c k a d : ℕ) → m ≤ W → IsBlock W (block_at W a m)
      → ((x : ℕ) → Left C (suc m) c k x ↔ (((a ≤ x) × (x < a + 2 ^ m)) ⊎ Left d m c k x)) → More d m c k → More C (suc m) c k
  left_half C m c k a d l B h more =
      at_most_cons (omega arith) B (λ x. (
        λ t. elim t [ inl q ↦ elim ((h x).0 q) [ inl i ↦ inl ((half_covers l B).1 i) | inr p ↦ inr (inl p) ] | inr r ↦ inr (inr r) ],
        λ t. elim t [ inl v ↦ inl ((h x).1 (inl ((half_covers l B).0 v))) | inr s ↦ elim s [ inl p ↦ inl ((h x).1 (inr p)) | inr r ↦ inr r ] ],
      )) more

  module _ (m k C c : ℕ) (w : suc m ≤ W) (lower : Aligned m C) (top : C + 2 ^ suc m ≤ 2 ^ W) where
    half_block : (a : ℕ) → Aligned m a → a < 2 ^ W → IsBlock W (block_at W a m)
    half_block a h l = record { below = l; short = omega arith; aligned = rw (size_block_at W a m (omega arith)) h }

    -- the smaller block is in the lower half
    left_lower : c + 2 ^ k ≤ C + 2 ^ m → More C m c k → More C (suc m) c k
    left_lower ends = left_half C m c k (C + 2 ^ m) C (omega arith) (half_block (C + 2 ^ m) (aligned_next m C lower) (omega (arith, pow_pos m))) (λ x. (
      λ q. elim (dec_lt x (C + 2 ^ m)) [ yes i ↦ inr (record { low = q.low; high = i; out = q.out }) | no i ↦ inl (omega arith, omega (arith, q.high)) ],
      λ t. elim t [
        | inl i ↦ record { low = omega (arith, i.0); high = omega (arith, i.1); out = inr (omega (arith, i.0)) }
        | inr q ↦ record { low = q.low; high = omega (arith, q.high); out = q.out }
      ],
    ))

    -- it is in the upper half
    left_upper : C + 2 ^ m ≤ c → More (C + 2 ^ m) m c k → More C (suc m) c k
    left_upper starts = left_half C m c k C (C + 2 ^ m) (omega arith) (half_block C lower (omega (arith, pow_pos m))) (λ x. (
      λ q. elim (dec_lt x (C + 2 ^ m)) [ yes i ↦ inl (q.low, i) | no i ↦ inr (record { low = omega arith; high = omega (arith, q.high); out = q.out }) ],
      λ t. elim t [
        | inl i ↦ record { low = i.0; high = omega (arith, i.1); out = inl (omega (arith, i.1)) }
        | inr q ↦ record { low = omega (arith, q.low); high = omega (arith, q.high); out = q.out }
      ],
    ))

  left_all : (m k C c : ℕ) → m ≤ W → k ≤ m → Aligned m C → C + 2 ^ m ≤ 2 ^ W → Aligned k c → C ≤ c → c + 2 ^ k ≤ C + 2 ^ m → More C m c k
  left_all zero k C c w l aC top ac low high = left_none C 0 c k (omega arith) low high
  left_all (suc m) k C c w l aC top ac low high =
      let lower : Aligned m C = aligned_mono C (omega arith) aC in
      let upper : Aligned m (C + 2 ^ m) = aligned_next m C lower in
      elim (dec_le k m) [
        | yes j ↦ elim (dec_lt c (C + 2 ^ m)) [
          | yes h ↦
              let ends = aligned_gap k ac (aligned_mono (C + 2 ^ m) j upper) h in
              left_lower m k C c w lower top ends (left_all m k C c (omega arith) j lower (omega arith) ac low ends)
          | no h ↦ left_upper m k C c w lower top (omega arith) (left_all m k (C + 2 ^ m) c (omega arith) j upper (omega arith) ac (omega arith) (omega arith))
        ]
        | no j ↦ left_none C (suc m) c k (omega arith) low high
      ]

-- ---- a block taken out of a list of blocks that have no address in common

module _ {W : ℕ} {b : Block} (B : IsBlock W b) where
  left_covers : {u : Block} → IsBlock W u → (x : ℕ) → Left u.address (W - u.length) b.address (W - b.length) x ↔ (Covers W u x × (¬ Covers W b x))
  left_covers {u} U x = (
    λ l. (within_to_covers U (record { low = l.low; high = l.high }), λ c. let w = covers_to_within B c in elim l.out [ inl h ↦ omega arith | inr h ↦ omega arith ]),
    λ c. let w = covers_to_within U c.0 in record { low = w.low; high = w.high; out = beside c.1 },
  )
    where
      beside : ¬ Covers W b x → (x < b.address) ⊎ (after W b ≤ x)
      beside n = elim (dec_lt x b.address) [
        | yes h ↦ inl h
        | no h ↦ elim (dec_le (after W b) x) [ yes l ↦ inr l | no l ↦ absurd (n (within_to_covers B (record { low = omega arith; high = omega arith }))) ]
      ]

  -- out of one that holds it
  out_of_one : {n : ℕ} {R : ℕ → Type 0} (u : Block) → IsBlock W u → ((x : ℕ) → Covers W b x → Covers W u x) → AtMost W n R
      → AtMost W (W + n) (λ x. (Covers W u x × (¬ Covers W b x)) ⊎ R x)
  out_of_one {n} u U f rest =
      let first = covers_to_within U (f b.address (covers_first B)) in
      let last = covers_to_within U (f (after W b - 1) (covers_last B)) in
      let s = size_pos W b in
      let smaller : ¬ (W - u.length < W - b.length) = λ l. omega (arith, pow-lt l, first.low, last.high) in
      let left = left_all rest (W - u.length) (W - b.length) u.address b.address (omega arith) (omega arith) U.aligned (after_le U) B.aligned first.low (omega (arith, last.high)) in
      at_most_change (omega arith) (λ x. let same = left_covers U x in (
        λ t. elim t [ inl c ↦ inl (same.1 c) | inr r ↦ inr r ],
        λ t. elim t [ inl l ↦ inl (same.0 l) | inr r ↦ inr r ],
      )) left

  -- what b leaves of a list
  abbrev Rest : List Block → ℕ → Type 0
  Rest us x = CoveredBy W us x × (¬ Covers W b x)

  -- of its first block u and the others
  module _ (u : Block) (us : List Block) (x : ℕ) where
    -- b is in u, and so not in the others
    rest_holds : (Covers W b x → Covers W u x) → ((i : ℕ) → Covers W u x → ¬ CoversAt W us i x) → Rest (u ∷ us) x ↔ (Covers W u x × (¬ Covers W b x)) ⊎ CoveredBy W us x
    rest_holds f apart = (to, back)
      where
        to : Rest (u ∷ us) x → (Covers W u x × (¬ Covers W b x)) ⊎ CoveredBy W us x
        to ((zero, c), n) = inl (c, n)
        to ((suc i, c), n) = inr (i, c)

        back : (Covers W u x × (¬ Covers W b x)) ⊎ CoveredBy W us x → Rest (u ∷ us) x
        back (inl (c, n)) = ((0, c), n)
        back (inr (i, c)) = ((suc i, c), λ d. apart i (f d) c)

    -- u is in b
    rest_inside : (Covers W u x → Covers W b x) → Rest (u ∷ us) x ↔ Rest us x
    rest_inside g = (to, λ t. ((suc t.0.0, t.0.1), t.1))
      where
        to : Rest (u ∷ us) x → Rest us x
        to ((zero, c), n) = absurd (n (g c))
        to ((suc i, c), n) = ((i, c), n)

    -- u and b have no address in common
    rest_apart : (Covers W u x → Covers W b x → ⊥) → Rest (u ∷ us) x ↔ Covers W u x ⊎ Rest us x
    rest_apart h = (to, back)
      where
        to : Rest (u ∷ us) x → Covers W u x ⊎ Rest us x
        to ((zero, c), n) = inl c
        to ((suc i, c), n) = inr ((i, c), n)

        back : Covers W u x ⊎ Rest us x → Rest (u ∷ us) x
        back (inl c) = ((0, c), h c)
        back (inr ((i, c), n)) = ((suc i, c), n)

  -- out of a list, of which one block at most holds it
  out_of_all : (us : List Block) → 1 ≤ W → AllBlocks W us → ((x i j : ℕ) → CoversAt W us i x → CoversAt W us j x → i ≡ j) → AtMost W (L.length us + (W - 1)) (Rest us)
  out_of_all [] one U once = at_most_none (λ x s. s.0.1)
  out_of_all (u ∷ us) one U once =
      let rest = out_of_all us one U.1 (λ x i j c d. omega (arith, once x (suc i) (suc j) c d)) in
      let apart : (x i : ℕ) → Covers W u x → ¬ CoversAt W us i x = λ x i c d. omega (arith, once x 0 (suc i) c d) in
      elim (nested_or_apart U.0 B) [
        | inl f ↦ at_most_change (omega arith) (λ x. rest_holds u us x (f x) (apart x)) (out_of_one u U.0 f (at_most_own us U.1))
        | inr other ↦ elim other [
          | inl g ↦ at_most_change (omega arith) (λ x. rest_inside u us x (g x)) rest
          | inr h ↦ at_most_cons (omega arith) U.0 (λ x. rest_apart u us x (h x)) rest
        ]
      ]

-- ---- the theorem

-- no list of blocks of the set is shorter than its fewest, in whatever order
fewest_at_most : {W n : ℕ} {S T : ℕ → Type 0} {bs : List Block} → Fewest W S bs → AtMost W n T → ((x : ℕ) → x < 2 ^ W → S x ↔ T x) → L.length bs ≤ n
fewest_at_most {W} {S = S} F a same =
    let G = plain_gathered W a.list a.blocks in
    let shorter = plain_length W a.list a.blocks in
    let exact : Exactly W S (gathered_blocks W a.list) = λ x h. (λ s. (G.exactly x h).0 ((a.exactly x).0 ((same x h).0 s)), λ c. (same x h).1 ((a.exactly x).1 ((G.exactly x h).1 c))) in
    elim (F.fewest (gathered_blocks W a.list) G.blocks G.rising exact) [
      | inl e ↦ omega (arith, ap L.length e, a.few)
      | inr l ↦ omega (arith, a.few)
    ]

-- THEOREM: all addresses are one block, and each block of the given list adds at most W - 1.
pub plain_uncovered_length : (W : ℕ) (bs : List Block) → 1 ≤ W → AllBlocks W bs → L.length (uncovered_blocks W bs) ≤ 1 + L.length bs * (W - 1)
plain_uncovered_length W [] one B = omega (arith, ap L.length (plain_uncovered_nothing W))
plain_uncovered_length W (b ∷ bs) one B =
    let U = plain_uncovered W bs B.1 in
    let out = out_of_all B.0 (uncovered_blocks W bs) one U.blocks U.once in
    let more = fewest_at_most (plain_uncovered W (b ∷ bs) B) out (λ x h. (
      λ n. ((U.exactly x h).0 (λ c. n (suc c.0, c.1)), λ c. n (0, c)),
      λ t. neither x ((U.exactly x h).1 t.0) t.1,
    )) in
    omega (arith, plain_uncovered_length W bs one B.1, suc-mul (L.length bs) (W - 1))
  where
    neither : (x : ℕ) → ¬ CoveredBy W bs x → ¬ Covers W b x → ¬ CoveredBy W (b ∷ bs) x
    neither x m n (zero, c) = n c
    neither x m n (suc i, c) = m (i, c)
