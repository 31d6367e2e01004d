-- A tidy list, in which neighbours are apart and none of one label are the halves of a block, is the fewest blocks of its cover. Assumes nothing.
use mathlib.Core.Path.{◌≡◌, refl, sym, ap, ap₂, ◌∙◌, subst}
use mathlib.Core.Logic.{◌⊎◌, inl, inr}
use mathlib.Core.Bool.{true, false}
use mathlib.Core.List.{List, [], ◌∷◌, head-eq_of_cons-eq, tail-eq_of_cons-eq}
use Prim.Native.Nat.{ℕ, zero, suc, ◌+◌, ◌≤◌, ◌<◌, max}
use native.Mathlib.Decide.{dec_lt, ℕ_discrete}
use native.Mathlib.Omega.{arith}
use borrow.Author.Tests.{lt-ltb, le-ltb}
use lib.Dec.{ltb}
use lib.ListN as L
use Rattle.cover.specs.Blocks.{Block, CoversAt, AllBlocks, Rising, Exactly, after}
use Rattle.cover.proofs.Interval.{size_pos, covers_to_within}
use Rattle.cover.proofs.Greedy.{rising_above, rising_tail}
use Rattle.lists.specs.Lists.{Entry, blocks, ExactlyAs, FewestAs}
use Rattle.lists.proofs.Labels.{From, from_lower, rising_from, blocks_as, blocks_as_nil, blocks_as_yes, blocks_as_no, as_to_covered, covered_to_as, blocks_as_valid, blocks_as_from, blocks_as_rising}
use Rattle.lists.proofs.Chain.{Halves, Chain, chain_cons, chain_fewest}

entry_path : (e f : Entry) → e.block ≡ f.block → e.label ≡ f.label → e ≡ f
entry_path e f p q = λ i. record { block = p i; label = q i }

-- f lies behind e, and if they have one label they are not the halves of a block
pub record Neighbours (W : ℕ) (e f : Entry) : Type 0 where
  pub behind : after W e.block ≤ f.block.address
  pub parted : e.label ≡ f.label → ¬ Halves W e.block f.block

abbrev pub Tidy : ℕ → List Entry → Type 0
Tidy W [] = Unit {0}
Tidy W (e ∷ []) = Unit {0}
Tidy W (e ∷ f ∷ es) = Neighbours W e f × Tidy W (f ∷ es)

module _ (W : ℕ) where
  tidy_tail : (e : Entry) (es : List Entry) → Tidy W (e ∷ es) → Tidy W es
  tidy_tail e [] t = tt
  tidy_tail e (f ∷ es) t = t.1

  tidy_from : (e : Entry) (es : List Entry) → Tidy W (e ∷ es) → From (after W e.block) (blocks es)
  tidy_from e [] t = tt
  tidy_from e (f ∷ es) t = t.0.behind

  tidy_rising : (es : List Entry) → Tidy W es → Rising (blocks es)
  tidy_rising [] t = tt
  tidy_rising (e ∷ []) t = tt
  tidy_rising (e ∷ f ∷ es) t = (omega (arith, t.0.behind), tidy_rising (f ∷ es) t.1)

  -- ---- each address is covered once

  tidy_above : (e : Entry) (es : List Entry) → AllBlocks W (blocks es) → Tidy W (e ∷ es) → (i x : ℕ) → CoversAt W (blocks es) i x → after W e.block ≤ x
  tidy_above e [] B t i x c = absurd c
  tidy_above e (f ∷ es) B t i x c = omega (arith, t.0.behind, rising_above W f.block (blocks es) B (tidy_rising (f ∷ es) t.1) i x c)

  tidy_once : (es : List Entry) → AllBlocks W (blocks es) → Tidy W es → (x i j : ℕ) → CoversAt W (blocks es) i x → CoversAt W (blocks es) j x → i ≡ j
  tidy_once [] B t x i j c d = absurd c
  tidy_once (e ∷ es) B t x zero zero c d = refl
  tidy_once (e ∷ es) B t x zero (suc j) c d = omega (arith, (covers_to_within B.0 c).high, tidy_above e es B.1 t j x d)
  tidy_once (e ∷ es) B t x (suc i) zero c d = omega (arith, (covers_to_within B.0 d).high, tidy_above e es B.1 t i x c)
  tidy_once (e ∷ es) B t x (suc i) (suc j) c d = ap suc (tidy_once es B.1 (tidy_tail e es t) x i j c d)

  -- ---- the blocks of each label of a tidy list are a chain

  label_cons : (k : ℕ) (e : Entry) (es : List Entry) → e.label ≡ k → Tidy W (e ∷ es) → Chain W (blocks_as k es) → Chain W (e.block ∷ blocks_as k es)
  label_cons k e [] p t g = rw blocks_as_nil tt
  label_cons k e (f ∷ es) p t g = elim (ℕ_discrete f.label k) [
    | yes q ↦ rw (blocks_as_yes f es q) (t.0.behind, t.0.parted (p ∙ sym q), rw (blocks_as_yes f es q) at g)
    | no n ↦
        -- f lies between e and the next block of the label
        let l : suc (after W e.block) ≤ after W f.block = omega (arith, t.0.behind, size_pos W f.block) in
        let far = from_lower (blocks es) l (tidy_from f es t.1) in
        chain_cons W e.block (blocks_as k (f ∷ es)) (rw (blocks_as_no f es n) (blocks_as_from k (suc (after W e.block)) es far (tidy_rising es (tidy_tail f es t.1)))) g
  ]

  pub tidy_chain : (k : ℕ) (es : List Entry) → Tidy W es → Chain W (blocks_as k es)
  tidy_chain k [] t = rw blocks_as_nil tt
  tidy_chain k (e ∷ es) t =
      let rest = tidy_chain k es (tidy_tail e es t) in
      elim (ℕ_discrete e.label k) [
        | yes p ↦ rw (blocks_as_yes e es p) (label_cons k e es p t rest)
        | no n ↦ rw (blocks_as_no e es n) rest
      ]

  -- ---- a rising list with the same blocks of each label is the same list

  -- the first blocks have one label: else each would start behind the other
  first_label : (e f : Entry) (es fs : List Entry) → Tidy W (e ∷ es) → Rising (blocks (f ∷ fs)) → ((k : ℕ) → blocks_as k (f ∷ fs) ≡ blocks_as k (e ∷ es)) → ¬ (¬ (e.label ≡ f.label))
  first_label e f es fs t r same n =
      let up = subst (From (after W e.block)) (sym (blocks_as_no e es n) ∙ sym (same f.label) ∙ blocks_as_yes f fs refl)
      (blocks_as_from f.label (after W e.block) es (tidy_from e es t) (tidy_rising es (tidy_tail e es t))) in
      let down = subst (From f.block.address) (sym (blocks_as_no f fs (λ q. n (sym q))) ∙ same e.label ∙ blocks_as_yes e es refl)
      (blocks_as_from e.label f.block.address fs (rising_from f.block (blocks fs) r) (rising_tail f.block (blocks fs) r)) in
      omega (arith, size_pos W e.block)

  labels_same : (es fs : List Entry) → Tidy W es → Rising (blocks fs) → ((k : ℕ) → blocks_as k fs ≡ blocks_as k es) → fs ≡ es
  labels_same [] [] t r same = refl
  labels_same [] (f ∷ fs) t r same = absurd (omega (arith, ap L.length (sym (blocks_as_yes f fs refl) ∙ same f.label ∙ blocks_as_nil f.label)))
  labels_same (e ∷ es) [] t r same = absurd (omega (arith, ap L.length (sym (blocks_as_yes e es refl) ∙ sym (same e.label) ∙ blocks_as_nil e.label)))
  labels_same (e ∷ es) (f ∷ fs) t r same =
      let rest = labels_same es fs (tidy_tail e es t) (rising_tail f.block (blocks fs) r) in
      elim (ℕ_discrete e.label f.label) [
        | yes p ↦
            let both : ◌≡◌ {A = List Block} (f.block ∷ blocks_as f.label fs) (e.block ∷ blocks_as f.label es) = sym (blocks_as_yes f fs refl) ∙ same f.label ∙ blocks_as_yes e es p in
            let label_by_label : (k : ℕ) → blocks_as k fs ≡ blocks_as k es = λ k. elim (ℕ_discrete f.label k) [
              | yes q ↦ subst (λ (j : ℕ). blocks_as j fs ≡ blocks_as j es) q (tail-eq_of_cons-eq both)
              | no n ↦ sym (blocks_as_no f fs n) ∙ same k ∙ blocks_as_no e es (λ q. n (sym p ∙ q))
            ] in
            ap₂ ◌∷◌ (entry_path f e (head-eq_of_cons-eq both) (sym p)) (rest label_by_label)
        | no n ↦ absurd (first_label e f es fs t r same n)
      ]

-- ---- a list with no fewer blocks of any label is longer, or has the same blocks of each

-- how many entries have labels below n
lower : ℕ → List Entry → ℕ
lower n [] = 0
lower n (e ∷ es) = elim (ltb e.label n) [ true ↦ suc (lower n es) | false ↦ lower n es ]

lower_yes : {n : ℕ} (e : Entry) (es : List Entry) → e.label < n → lower n (e ∷ es) ≡ suc (lower n es)
unfolding lower
lower_yes {n} e es l = rw (lt-ltb e.label n l, lower)

lower_no : {n : ℕ} (e : Entry) (es : List Entry) → n ≤ e.label → lower n (e ∷ es) ≡ lower n es
unfolding lower
lower_no {n} e es l = rw (le-ltb e.label n l, lower)

lower_zero : (es : List Entry) → lower 0 es ≡ 0
unfolding lower
lower_zero [] = refl
lower_zero (e ∷ es) = lower_no e es (omega arith) ∙ lower_zero es

lower_suc : (n : ℕ) (es : List Entry) → lower (suc n) es ≡ lower n es + L.length (blocks_as n es)
unfolding lower
lower_suc n [] = omega (arith, ap L.length (blocks_as_nil n))
lower_suc n (e ∷ es) =
    let rest = lower_suc n es in
    elim (ℕ_discrete e.label n) [
      | yes p ↦ omega (arith, lower_yes {n = suc n} e es (omega arith), lower_no {n = n} e es (omega arith), ap L.length (blocks_as_yes e es p))
      | no m ↦ elim (dec_lt e.label n) [
        | yes l ↦ omega (arith, lower_yes {n = suc n} e es (omega arith), lower_yes {n = n} e es l, ap L.length (blocks_as_no e es m))
        | no l ↦ omega (arith, lower_no {n = suc n} e es (omega arith), lower_no {n = n} e es (omega arith), ap L.length (blocks_as_no e es m))
      ]
    ]

-- a number above every label of the list
abbrev top : List Entry → ℕ
top [] = 0
top (e ∷ es) = max (suc e.label) (top es)

lower_all : (n : ℕ) (es : List Entry) → top es ≤ n → lower n es ≡ L.length es
unfolding lower
lower_all n [] l = refl
lower_all n (e ∷ es) l = lower_yes e es (omega arith) ∙ ap suc (lower_all n es (omega arith))

blocks_as_none : (k : ℕ) (es : List Entry) → top es ≤ k → blocks_as k es ≡ []
blocks_as_none k [] l = blocks_as_nil k
blocks_as_none k (e ∷ es) l = blocks_as_no e es (λ p. omega arith) ∙ blocks_as_none k es (omega arith)

module _ (es fs : List Entry) (each : (k : ℕ) → (blocks_as k fs ≡ blocks_as k es) ⊎ (L.length (blocks_as k es) < L.length (blocks_as k fs))) where
  labels_below : (n : ℕ) → (((k : ℕ) → k < n → blocks_as k fs ≡ blocks_as k es) × (lower n es ≡ lower n fs)) ⊎ (lower n es < lower n fs)
  labels_below zero = inl (λ k h. absurd (omega arith), lower_zero es ∙ sym (lower_zero fs))
  labels_below (suc n) =
      let E = lower_suc n es in
      let F = lower_suc n fs in
      elim (labels_below n) [
        | inl s ↦ elim (each n) [
          | inl e ↦ inl (λ k h. elim (ℕ_discrete k n) [ yes p ↦ subst (λ j. blocks_as j fs ≡ blocks_as j es) (sym p) e | no m ↦ s.0 k (omega arith) ], omega (arith, s.1, ap L.length e))
          | inr l ↦ inr (omega (arith, s.1))
        ]
        | inr h ↦ elim (each n) [ inl e ↦ inr (omega (arith, ap L.length e)) | inr l ↦ inr (omega arith) ]
      ]

  labels_all : ((k : ℕ) → blocks_as k fs ≡ blocks_as k es) ⊎ (L.length es < L.length fs)
  labels_all =
      let n = max (top es) (top fs) in
      let E = lower_all n es (omega arith) in
      let F = lower_all n fs (omega arith) in
      elim (labels_below n) [
        | inl s ↦ inl (λ k. elim (dec_lt k n) [ yes h ↦ s.0 k h | no m ↦ blocks_as_none k fs (omega arith) ∙ sym (blocks_as_none k es (omega arith)) ])
        | inr h ↦ inr (omega arith)
      ]

-- ---- the theorem

exactly_as : (W : ℕ) (S : ℕ → ℕ → Type 0) (es : List Entry) → ExactlyAs W S es → (k : ℕ) → Exactly W (S k) (blocks_as k es)
exactly_as W S es e k x h = (λ s. as_to_covered W k x es ((e k x h).0 s), λ c. (e k x h).1 (covered_to_as W k x es c))

-- THEOREM: a tidy list of blocks is the fewest of what it covers.
pub tidy_fewest : {W : ℕ} {S : ℕ → ℕ → Type 0} (es : List Entry) → AllBlocks W (blocks es) → Tidy W es → ExactlyAs W S es → FewestAs W S es
tidy_fewest {W} {S} es B t e = record {
  valid = B;
  rising = tidy_rising W es t;
  exactly = e;
  once = tidy_once W es B t;
  fewest = λ fs F r h. elim (labels_all es fs (each fs F r h)) [ inl s ↦ inl (labels_same W es fs t r s) | inr l ↦ inr l ];
}
  where
    each : (fs : List Entry) → AllBlocks W (blocks fs) → Rising (blocks fs) → ExactlyAs W S fs
        → (k : ℕ) → (blocks_as k fs ≡ blocks_as k es) ⊎ (L.length (blocks_as k es) < L.length (blocks_as k fs))
    each fs F r h k =
        (chain_fewest {S = S k} (blocks_as k es) (blocks_as_valid W k es B) (tidy_chain W k es t) (exactly_as W S es e k)
        ).fewest (blocks_as k fs) (blocks_as_valid W k fs F) (blocks_as_rising k fs r) (exactly_as W S fs h k)
