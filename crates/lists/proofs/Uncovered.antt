-- The list of what is not covered: its fewest blocks, asked for once and twice. Assumes nothing.
use mathlib.Core.Path.{◌≡◌, refl, sym, ap, ◌∙◌, subst}
use mathlib.Core.Logic.{◌⊎◌, inl, inr, ◌↔◌}
use mathlib.Core.List.{List, [], ◌∷◌, ◌++◌}
use Prim.Native.Nat.{ℕ, ◌-◌, ◌^◌, ◌≤◌, ◌<◌, max}
use native.Mathlib.Nat.{le_refl}
use native.Mathlib.Decide.{dec_lt}
use native.Mathlib.Omega.{arith}
use borrow.Author.Tests.{lt-ltb, le-ltb}
use lib.Pow.{pow_pos}
use Rattle.cover.specs.Blocks.{AllBlocks, Rising, after}
use Rattle.cover.proofs.Interval.{size_pos, covers_to_within, within_to_covers, covers_first}
use Rattle.cover.proofs.Greedy.{rising_tail}
use Rattle.lists.specs.Lists.{Entry, blocks, labelled, AllLabelled, CoveredAs, here, there, SameCover, FewestAs, sorted, Run, run_entries, gathered, gap, uncovered_from, uncovered, NotCovered}
use Rattle.lists.proofs.Labels.{From, append_valid, as_dec, all_labelled, all_one_label, as_below, as_from, as_left, as_right, as_append, as_nothing}
use Rattle.lists.proofs.Tidy.{Tidy, tidy_fewest}
use Rattle.lists.proofs.Order.{perm_same, perm_valid, sorted_perm, sorted_rising, labelled_sorted}
use Rattle.lists.proofs.Runs.{Follows, run_valid, run_as, run_then, run_tidy}
use Rattle.lists.proofs.Gathered.{one_fewest_as, fewest_as_same, gathered_only}

-- ---- the pass over a sorted list

-- x is not covered by the list, and not below a
pub record Free (W a : ℕ) (es : List Entry) (k x : ℕ) : Type 0 where
  pub label : 0 ≡ k
  pub low : a ≤ x
  pub below : x < 2 ^ W
  pub none : (j : ℕ) → ¬ CoveredAs W es j x

-- a list of all that is free from a on
pub record Gaps (W a : ℕ) (es out : List Entry) : Type 0 where
  pub valid : AllBlocks W (blocks out)
  pub covers : (k x : ℕ) → CoveredAs W out k x ↔ Free W a es k x
  pub tidy : Tidy W out

-- it starts no lower than a
gaps_from_lem : {W a : ℕ} {es : List Entry} (out : List Entry) → Gaps W a es out → From a (blocks out)
gaps_from_lem [] G = tt
gaps_from_lem (e ∷ out) G = ((G.covers e.label e.block.address).0 (here refl (covers_first G.valid.0))).low

pub uncovered_end : (W a : ℕ) → uncovered_from W a [] ≡ run_entries W (gap a (2 ^ W - 1))
unfolding uncovered_from
uncovered_end W a = refl

module _ (W a : ℕ) (e : Entry) (es : List Entry) where
  pub uncovered_gap : a < e.block.address → uncovered_from W a (e ∷ es) ≡ run_entries W (gap a (e.block.address - 1)) ++ uncovered_from W (max a (after W e.block)) es
  unfolding uncovered_from
  uncovered_gap l = rw (lt-ltb a e.block.address l, uncovered_from)

  pub uncovered_none : e.block.address ≤ a → uncovered_from W a (e ∷ es) ≡ uncovered_from W (max a (after W e.block)) es
  unfolding uncovered_from
  uncovered_none l = rw (le-ltb a e.block.address l, uncovered_from)

module _ {W a : ℕ} {e : Entry} {es : List Entry} (B : AllBlocks W (blocks (e ∷ es))) (r : Rising (blocks (e ∷ es))) where
  free_before : {k x : ℕ} → 0 ≡ k → a ≤ x → x < e.block.address → Free W a (e ∷ es) k x
  free_before {k} {x} p l h = record {
    label = p;
    low = l;
    below = omega (arith, B.0.below);
    none = λ j o. omega (arith, as_from (e ∷ es) e.block.address B r (le_refl e.block.address) o);
  }

  free_behind : {k x : ℕ} → Free W (max a (after W e.block)) es k x → Free W a (e ∷ es) k x
  free_behind {k} {x} f = record { label = f.label; low = omega (arith, f.low); below = f.below; none = none }
    where
      none : (j : ℕ) → ¬ CoveredAs W (e ∷ es) j x
      none j (here p c) = omega (arith, f.low, (covers_to_within B.0 c).high)
      none j (there o) = f.none j o

  free_split : {k x : ℕ} → Free W a (e ∷ es) k x → (x < e.block.address) ⊎ Free W (max a (after W e.block)) es k x
  free_split {k} {x} f = elim (dec_lt x e.block.address) [
    | yes h ↦ inl h
    | no n ↦ elim (dec_lt x (after W e.block)) [
      | yes h ↦ absurd (f.none e.label (here refl (within_to_covers B.0 (record { low = omega arith; high = h }))))
      | no m ↦ inr (record { label = f.label; low = omega (arith, f.low); below = f.below; none = λ j o. f.none j (there o) })
    ]
  ]

gaps_end : (W a : ℕ) → Gaps W a [] (run_entries W (gap a (2 ^ W - 1)))
gaps_end W a = record {
  valid = run_valid W (gap a (2 ^ W - 1)) below;
  covers = λ k x. (
    λ o. let i = (run_as W (gap a (2 ^ W - 1)) below k x).0 o in record { label = i.label; low = i.low; below = as_below o; none = λ j p. as_nothing p },
    λ f. (run_as W (gap a (2 ^ W - 1)) below k x).1 (record { label = f.label; low = f.low; high = omega (arith, f.below) }),
  );
  tidy = run_tidy W (gap a (2 ^ W - 1)) below;
}
  where
    below : 2 ^ W - 1 < 2 ^ W
    below = omega (arith, pow_pos W)

gaps_none : {W a : ℕ} (e : Entry) (es out : List Entry) → AllBlocks W (blocks (e ∷ es)) → Rising (blocks (e ∷ es)) → e.block.address ≤ a
    → Gaps W (max a (after W e.block)) es out → Gaps W a (e ∷ es) out
gaps_none e es out B r l G = record {
  valid = G.valid;
  covers = λ k x. (
    λ o. free_behind B r ((G.covers k x).0 o),
    λ f. elim (free_split B r f) [ inl h ↦ absurd (omega (arith, f.low)) | inr g ↦ (G.covers k x).1 g ],
  );
  tidy = G.tidy;
}

gaps_gap : {W a : ℕ} (e : Entry) (es out : List Entry) → AllBlocks W (blocks (e ∷ es)) → Rising (blocks (e ∷ es)) → a < e.block.address
    → Gaps W (max a (after W e.block)) es out → Gaps W a (e ∷ es) (run_entries W (gap a (e.block.address - 1)) ++ out)
gaps_gap {W} {a} e es out B r l G = record {
  valid = append_valid W (run_entries W before) out (run_valid W before below) G.valid;
  covers = λ k x. (
    λ o. elim (as_append (run_entries W before) o) [
      | inl p ↦ let i = (run_as W before below k x).0 p in free_before B r i.label i.low (omega (arith, i.high))
      | inr p ↦ free_behind B r ((G.covers k x).0 p)
    ],
    λ f. elim (free_split B r f) [
      | inl h ↦ as_left out ((run_as W before below k x).1 (record { label = f.label; low = f.low; high = omega arith }))
      | inr g ↦ as_right (run_entries W before) ((G.covers k x).1 g)
    ],
  );
  tidy = run_then W before below out G.tidy (follows out (gaps_from_lem out G));
}
  where
    before : Run
    before = gap a (e.block.address - 1)

    below : before.last < 2 ^ W
    below = omega (arith, B.0.below)

    follows : (out : List Entry) → From (max a (after W e.block)) (blocks out) → Follows before.last 0 out
    follows [] h = tt
    follows (f ∷ fs) h = (omega (arith, size_pos W e.block), λ p. omega (arith, size_pos W e.block))

gaps : {W : ℕ} (a : ℕ) (es : List Entry) → AllBlocks W (blocks es) → Rising (blocks es) → Gaps W a es (uncovered_from W a es)
gaps {W} a [] B r = rw uncovered_end (gaps_end W a)
gaps {W} a (e ∷ es) B r =
    let next = max a (after W e.block) in
    let rest = gaps next es B.1 (rising_tail e.block (blocks es) r) in
    elim (dec_lt a e.block.address) [
      | yes l ↦ rw (uncovered_gap W a e es l) (gaps_gap e es (uncovered_from W next es) B r l rest)
      | no n ↦ rw (uncovered_none W a e es (omega arith)) (gaps_none e es (uncovered_from W next es) B r (omega arith) rest)
    ]

-- ---- the theorems

module _ (W : ℕ) where
  uncovered_gaps : (es : List Entry) → AllBlocks W (blocks es) → Gaps W 0 (sorted es) (uncovered W es)
  unfolding uncovered
  uncovered_gaps es B = gaps 0 (sorted es) (perm_valid W (sorted_perm es) B) (sorted_rising es)

  -- THEOREM: the list of what is not covered is the fewest blocks of the addresses that no entry covers.
  pub uncovered_fewest : (es : List Entry) → AllBlocks W (blocks es) → FewestAs W (NotCovered W es) (uncovered W es)
  uncovered_fewest es B =
      let G = uncovered_gaps es B in
      let same = perm_same (sorted_perm es) in
      tidy_fewest (uncovered W es) G.valid G.tidy (λ k x h. (
        λ n. (G.covers k x).1 (record { label = sym n.0; low = omega arith; below = h; none = λ j o. n.1 j ((same j x).1 o) }),
        λ o. let f = (G.covers k x).0 o in (sym f.label, λ j p. f.none j ((same j x).0 p)),
      ))

  -- Lists with the same cover leave the same uncovered.
  pub uncovered_same : (es fs : List Entry) → AllBlocks W (blocks es) → AllBlocks W (blocks fs) → SameCover W es fs → uncovered W es ≡ uncovered W fs
  uncovered_same es fs B C s =
      let same : (k x : ℕ) → x < 2 ^ W → NotCovered W fs k x ↔ NotCovered W es k x = λ k x h. (λ n. (n.0, λ j o. n.1 j ((s j x).0 o)), λ n. (n.0, λ j o. n.1 j ((s j x).1 o))) in
      one_fewest_as (uncovered_fewest es B) (fewest_as_same same (uncovered_fewest fs C))

  -- THEOREM: what is not covered by that is what was covered, if all its labels were 0.
  pub uncovered_twice : (es : List Entry) → AllBlocks W (blocks es) → AllLabelled 0 es → uncovered W (uncovered W es) ≡ gathered W es
  uncovered_twice es B a =
      let U = uncovered_fewest es B in
      gathered_only W es (uncovered W (uncovered W es)) B (all_one_label 0 es a) (fewest_as_same (twice U) (uncovered_fewest (uncovered W es) U.valid))
    where
      twice : FewestAs W (NotCovered W es) (uncovered W es) → (k x : ℕ) → x < 2 ^ W → NotCovered W (uncovered W es) k x ↔ CoveredAs W es k x
      twice U k x h = (
        λ n. elim (as_dec W es k x) [
          | yes o ↦ o
          | no m ↦ absurd (n.1 k ((U.exactly k x h).0 (n.0, λ j o. m (subst (λ (i : ℕ). CoveredAs W es i x) (all_labelled 0 es a o ∙ sym n.0) o))))
        ],
        λ o. (all_labelled 0 es a o, λ j u. ((U.exactly j x h).1 u).1 k o),
      )

-- ---- labels play no part

labels_from : (W a : ℕ) (es : List Entry) → uncovered_from W a es ≡ uncovered_from W a (labelled 0 (blocks es))
labels_from W a [] = refl
labels_from W a (e ∷ es) =
    let next = max a (after W e.block) in
    let plain : Entry = record { block = e.block; label = 0 } in
    let rest = labels_from W next es in
    elim (dec_lt a e.block.address) [
      | yes l ↦ uncovered_gap W a e es l ∙ ap (λ gs. run_entries W (gap a (e.block.address - 1)) ++ gs) rest ∙ sym (uncovered_gap W a plain (labelled 0 (blocks es)) l)
      | no n ↦ uncovered_none W a e es (omega arith) ∙ rest ∙ sym (uncovered_none W a plain (labelled 0 (blocks es)) (omega arith))
    ]

pub uncovered_labels : (W : ℕ) (es : List Entry) → uncovered W es ≡ uncovered W (labelled 0 (blocks es))
unfolding uncovered
uncovered_labels W es = labels_from W 0 (sorted es) ∙ ap (uncovered_from W 0) (sym (labelled_sorted 0 es))
