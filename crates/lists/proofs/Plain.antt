-- Lists without labels: those with all their blocks of label 0 (02, Req 01). Assumes nothing.
use mathlib.Core.Path.{◌≡◌, refl, sym, ap, subst, ◌∙◌}
use mathlib.Core.Logic.{◌↔◌}
use mathlib.Core.List.{List, [], ◌∷◌}
use Prim.Native.Nat.{ℕ, zero, suc, ◌-◌, ◌^◌, ◌≤◌, ◌<◌}
use native.Mathlib.Omega.{arith}
use lib.ListN as L
use lib.Pow.{pow_pos}
use Rattle.wide.proofs.Aligned.{aligned_zero}
use Rattle.cover.specs.Blocks.{Block, IsBlock, Covers, CoversAt, CoveredBy, AllBlocks, Rising, Fewest}
use Rattle.cover.proofs.Interval.{within_to_covers}
use Rattle.cover.proofs.Greedy.{fewest_unique}
use Rattle.lists.specs.Lists.{Entry, blocks, labelled, AllLabelled, CoveredAs, SameCover, gathered, uncovered, gathered_blocks, uncovered_blocks, Among, SameMembers}
use Rattle.lists.proofs.Labels.{as_below, as_dec, all_labelled, all_one_label, labelled_same, labelled_all, labelled_valid, labelled_as, blocks_as_all, as_to_covered, covered_to_as}
use Rattle.lists.proofs.Chain.{Chain, chain_fewest}
use Rattle.lists.proofs.Tidy.{Tidy, tidy_chain}
use Rattle.lists.proofs.Gathered.{gathers, fewest_tidy, gathered_same, gathered_length, gathered_twice}
use Rattle.lists.proofs.Uncovered.{uncovered_fewest, uncovered_twice, uncovered_same, uncovered_labels}

-- ---- blocks and their entries of one label

-- a list of one label is its blocks with that label
labelled_blocks : (k : ℕ) (es : List Entry) → AllLabelled k es → labelled k (blocks es) ≡ es
labelled_blocks k [] a = refl
labelled_blocks k (e ∷ es) a = λ i. record { block = e.block; label = sym a.0 i } ∷ labelled_blocks k es a.1 i

pub blocks_labelled : (k : ℕ) (bs : List Block) → blocks (labelled k bs) ≡ bs
blocks_labelled k [] = refl
blocks_labelled k (b ∷ bs) = ap (λ cs. b ∷ cs) (blocks_labelled k bs)

blocks_length : (es : List Entry) → L.length (blocks es) ≡ L.length es
blocks_length [] = refl
blocks_length (e ∷ es) = ap suc (blocks_length es)

labelled_length : (k : ℕ) (bs : List Block) → L.length (labelled k bs) ≡ L.length bs
labelled_length k bs = sym (blocks_length (labelled k bs)) ∙ ap L.length (blocks_labelled k bs)

pub labelled_rising : (k : ℕ) (bs : List Block) → Rising bs → Rising (blocks (labelled k bs))
labelled_rising k bs = subst Rising (sym (blocks_labelled k bs))

-- ---- the members of a list, also for the proofs of code

module _ (W : ℕ) (z : Block) where
  covers_at : {x : ℕ} (bs : List Block) (i : ℕ) → CoversAt W bs i x → (i < L.length bs) × Covers W (L.get_or bs i z) x
  covers_at [] i c = absurd c
  covers_at (b ∷ bs) zero c = (omega arith, c)
  covers_at (b ∷ bs) (suc i) c = let (h, d) = covers_at bs i c in (omega arith, d)

  at_covers : {x : ℕ} (bs : List Block) (i : ℕ) → i < L.length bs → Covers W (L.get_or bs i z) x → CoversAt W bs i x
  at_covers [] i h c = absurd (omega arith)
  at_covers (b ∷ bs) zero h c = c
  at_covers (b ∷ bs) (suc i) h c = at_covers bs i (omega arith) c

  pub valid_at : (bs : List Block) → AllBlocks W bs → (i : ℕ) → i < L.length bs → IsBlock W (L.get_or bs i z)
  valid_at [] B i h = absurd (omega arith)
  valid_at (b ∷ bs) B zero h = B.0
  valid_at (b ∷ bs) B (suc i) h = valid_at bs B.1 i (omega arith)

  pub valid_all : (bs : List Block) → ((i : ℕ) → i < L.length bs → IsBlock W (L.get_or bs i z)) → AllBlocks W bs
  valid_all [] h = tt
  valid_all (b ∷ bs) h = (h 0 (omega arith), valid_all bs (λ i l. h (suc i) (omega arith)))

  among_covered : (bs cs : List Block) (x : ℕ) → Among z bs cs → CoveredBy W bs x → CoveredBy W cs x
  among_covered bs cs x m (i, c) =
      let (h, d) = covers_at bs i c in
      let (j, l, e) = m i h in
      (j, at_covers cs j l (subst (λ (b : Block). Covers W b x) e d))

  pub members_covered : (bs cs : List Block) → SameMembers z bs cs → (x : ℕ) → CoveredBy W bs x ↔ CoveredBy W cs x
  members_covered bs cs m x = (among_covered bs cs x m.0, among_covered cs bs x m.1)

  pub members_valid : (bs cs : List Block) → Among z cs bs → AllBlocks W bs → AllBlocks W cs
  members_valid bs cs m B = valid_all cs (λ i h. let (j, l, e) = m i h in subst (IsBlock W) (sym e) (valid_at bs B j l))

-- ---- the theorems

module _ (W : ℕ) where
  -- a tidy list of one label is the fewest blocks of its cover, the label left out
  one_label : {S : ℕ → Type 0} (k : ℕ) (es : List Entry) → AllLabelled k es → AllBlocks W (blocks es) → Tidy W es
      → ((x : ℕ) → x < 2 ^ W → S x ↔ CoveredAs W es k x) → Fewest W S (blocks es)
  one_label {S} k es a B t e =
      let same = blocks_as_all k es a in
      let chain = subst (Chain W) same (tidy_chain W k es t) in
      chain_fewest (blocks es) B chain (λ x h. (
        λ s. subst (λ (bs : List Block). CoveredBy W bs x) same (as_to_covered W k x es ((e x h).0 s)),
        λ c. (e x h).1 (covered_to_as W k x es (subst (λ (bs : List Block). CoveredBy W bs x) (sym same) c)),
      ))

  -- a list of one label is gathered with that label
  gathered_labelled : (k : ℕ) (es : List Entry) → AllBlocks W (blocks es) → AllLabelled k es → AllLabelled k (gathered W es)
  gathered_labelled k es B a = let G = gathers W es B in labelled_all W k (gathered W es) G.valid (λ j x o. all_labelled k es a ((G.same j x).1 o))

  -- what is not covered has the label 0
  uncovered_labelled : (es : List Entry) → AllBlocks W (blocks es) → AllLabelled 0 (uncovered W es)
  uncovered_labelled es B = let U = uncovered_fewest W es B in labelled_all W 0 (uncovered W es) U.valid (λ j x o. ((U.exactly j x (as_below o)).1 o).0)

  -- labels play no part in it
  pub uncovered_plain : (es : List Entry) → AllBlocks W (blocks es) → uncovered W es ≡ labelled 0 (uncovered_blocks W (blocks es))
  unfolding uncovered_blocks
  uncovered_plain es B =
      let e = uncovered_labels W es in
      sym (labelled_blocks 0 (uncovered W es) (uncovered_labelled es B)) ∙ ap (λ fs. labelled 0 (blocks fs)) e

  plain_as : (bs : List Block) (x : ℕ) → CoveredBy W bs x ↔ CoveredAs W (labelled 0 bs) 0 x
  plain_as bs x = let same = labelled_as W 0 bs 0 x in (λ c. same.1 (refl, c), λ o. (same.0 o).1)

  -- THEOREM: the gathered list is the fewest blocks of what the given list covers.
  pub plain_gathered : (bs : List Block) → AllBlocks W bs → Fewest W (CoveredBy W bs) (gathered_blocks W bs)
  unfolding gathered_blocks
  plain_gathered bs B =
      let G = gathers W (labelled 0 bs) (labelled_valid W 0 bs B) in
      let all = gathered_labelled 0 (labelled 0 bs) (labelled_valid W 0 bs B) (labelled_same 0 bs) in
      one_label 0 (gathered W (labelled 0 bs)) all G.valid (G.tidy (all_one_label 0 (labelled 0 bs) (labelled_same 0 bs))) (λ x h. (
        λ c. (G.same 0 x).0 ((plain_as bs x).0 c),
        λ o. (plain_as bs x).1 ((G.same 0 x).1 o),
      ))

  -- THEOREM: and the other list is the fewest blocks of what it does not cover.
  pub plain_uncovered : (bs : List Block) → AllBlocks W bs → Fewest W (λ x. ¬ CoveredBy W bs x) (uncovered_blocks W bs)
  unfolding uncovered_blocks
  plain_uncovered bs B =
      let U = uncovered_fewest W (labelled 0 bs) (labelled_valid W 0 bs B) in
      one_label 0 (uncovered W (labelled 0 bs)) (uncovered_labelled (labelled 0 bs) (labelled_valid W 0 bs B)) U.valid (fewest_tidy W (uncovered W (labelled 0 bs)) U) (λ x h. (
        λ n. (U.exactly 0 x h).0 (refl, λ j o. n ((labelled_as W 0 bs j x).0 o).1),
        λ o c. ((U.exactly 0 x h).1 o).1 0 ((plain_as bs x).0 c),
      ))

  -- THEOREM: asking for that twice gives the gathered list.
  pub plain_twice : (bs : List Block) → AllBlocks W bs → uncovered_blocks W (uncovered_blocks W bs) ≡ gathered_blocks W bs
  unfolding uncovered_blocks gathered_blocks
  plain_twice bs B =
      let C = labelled_valid W 0 bs B in
      ap (λ es. blocks (uncovered W es)) (labelled_blocks 0 (uncovered W (labelled 0 bs)) (uncovered_labelled (labelled 0 bs) C))
      ∙ ap blocks (uncovered_twice W (labelled 0 bs) C (labelled_same 0 bs))

  pub plain_again : (bs : List Block) → AllBlocks W bs → gathered_blocks W (gathered_blocks W bs) ≡ gathered_blocks W bs
  unfolding gathered_blocks
  plain_again bs B =
      let C = labelled_valid W 0 bs B in
      ap (λ es. blocks (gathered W es)) (labelled_blocks 0 (gathered W (labelled 0 bs)) (gathered_labelled 0 (labelled 0 bs) C (labelled_same 0 bs)))
      ∙ ap blocks (gathered_twice W (labelled 0 bs) C (all_one_label 0 (labelled 0 bs) (labelled_same 0 bs)))

  pub plain_length : (bs : List Block) → AllBlocks W bs → L.length (gathered_blocks W bs) ≤ L.length bs
  unfolding gathered_blocks
  plain_length bs B =
      let es = labelled 0 bs in
      omega (arith, blocks_length (gathered W es), gathered_length W es (labelled_valid W 0 bs B) (all_one_label 0 es (labelled_same 0 bs)), labelled_length 0 bs)

  -- ---- lists with the same cover

  module _ (bs cs : List Block) (B : AllBlocks W bs) (C : AllBlocks W cs) (same : (x : ℕ) → CoveredBy W bs x ↔ CoveredBy W cs x) where
    labelled_cover : SameCover W (labelled 0 bs) (labelled 0 cs)
    labelled_cover k x = (over bs cs (same x).0, over cs bs (same x).1)
      where
        over : (ds fs : List Block) → (CoveredBy W ds x → CoveredBy W fs x) → CoveredAs W (labelled 0 ds) k x → CoveredAs W (labelled 0 fs) k x
        over ds fs s o = let (p, c) = (labelled_as W 0 ds k x).0 o in (labelled_as W 0 fs k x).1 (p, s c)

    pub plain_gathered_same : gathered_blocks W bs ≡ gathered_blocks W cs
    unfolding gathered_blocks
    plain_gathered_same =
        ap blocks (gathered_same W (labelled 0 bs) (labelled 0 cs) (labelled_valid W 0 bs B) (labelled_valid W 0 cs C) (all_one_label 0 (labelled 0 bs) (labelled_same 0 bs)) labelled_cover)

    pub plain_uncovered_same : uncovered_blocks W bs ≡ uncovered_blocks W cs
    unfolding uncovered_blocks
    plain_uncovered_same = ap blocks (uncovered_same W (labelled 0 bs) (labelled 0 cs) (labelled_valid W 0 bs B) (labelled_valid W 0 cs C) labelled_cover)

  -- ---- lists with the same members

  module _ (z : Block) (bs cs : List Block) (B : AllBlocks W bs) (m : SameMembers z bs cs) where
    pub members_gathered : gathered_blocks W bs ≡ gathered_blocks W cs
    members_gathered = plain_gathered_same bs cs B (members_valid W z bs cs m.1 B) (members_covered W z bs cs m)

    pub members_uncovered : uncovered_blocks W bs ≡ uncovered_blocks W cs
    members_uncovered = plain_uncovered_same bs cs B (members_valid W z bs cs m.1 B) (members_covered W z bs cs m)

  -- ---- nothing covered, and everything

  pub plain_uncovered_nothing : uncovered_blocks W [] ≡ record { address = 0; length = 0 } ∷ []
  plain_uncovered_nothing =
      let all : IsBlock W (record { address = 0; length = 0 }) = record { below = pow_pos W; short = omega arith; aligned = aligned_zero (W - 0) } in
      let e : W - 0 ≡ W = omega arith in
      let sizes = ap (λ (k : ℕ). 2 ^ k) e in
      fewest_unique (plain_uncovered [] tt) (chain_fewest (record { address = 0; length = 0 } ∷ []) (all, tt) tt (λ x h. (
        λ n. (0, within_to_covers all (record { low = omega arith; high = omega (arith, sizes) })),
        λ c i. i.1,
      )))

  pub plain_uncovered_all : (bs : List Block) → AllBlocks W bs → (uncovered_blocks W bs ≡ []) ↔ ((x : ℕ) → x < 2 ^ W → CoveredBy W bs x)
  plain_uncovered_all bs B = (all, λ a. fewest_unique (plain_uncovered bs B) (chain_fewest [] tt tt (λ x h. (λ n. absurd (n (a x h)), λ c. absurd c.1))))
    where
      all : uncovered_blocks W bs ≡ [] → (x : ℕ) → x < 2 ^ W → CoveredBy W bs x
      all e x h = elim (as_dec W (labelled 0 bs) 0 x) [
        | yes o ↦ (plain_as bs x).1 o
        | no n ↦ absurd (subst (λ (cs : List Block). CoveredBy W cs x) e (((plain_uncovered bs B).exactly x h).0 (λ c. n ((plain_as bs x).0 c)))).1
      ]
