-- The gathered list is the fewest blocks with the cover of the given list; what follows from that; tidy lists are the gathered ones. Assumes nothing.
use mathlib.Core.Path.{◌≡◌, sym, ap, ◌∙◌, subst}
use mathlib.Core.Logic.{inl, inr, ◌↔◌}
use mathlib.Core.List.{List, [], ◌∷◌, Permᴰ}
use Prim.Native.Nat.{ℕ, zero, suc, ◌^◌, ◌≤◌, ◌<◌}
use native.Mathlib.Omega.{arith}
use lib.ListN as L
use Rattle.stable_sort.proofs.StableLaws.{perm_length}
use Rattle.cover.specs.Blocks.{CoversAt, AllBlocks, Rising}
use Rattle.lists.specs.Lists.{Entry, blocks, CoveredAs, here, there, SameCover, OneLabel, ExactlyAs, FewestAs, sorted, gathered_sorted, gathered}
use Rattle.lists.proofs.Tidy.{Tidy, tidy_fewest}
use Rattle.lists.proofs.Order.{same_sym, same_trans, same_one_label, perm_same, perm_valid, sorted_perm, sorted_rising}
use Rattle.lists.proofs.Runs.{held_first, pass_first, made}

-- ---- the fewest blocks are one list

pub one_fewest_as : {W : ℕ} {S : ℕ → ℕ → Type 0} {es fs : List Entry} → FewestAs W S es → FewestAs W S fs → es ≡ fs
one_fewest_as {es = es} {fs = fs} F G =
    elim (F.fewest fs G.valid G.rising G.exactly) [
      | inl e ↦ sym e
      | inr h ↦ elim (G.fewest es F.valid F.rising F.exactly) [ inl e ↦ e | inr k ↦ absurd (omega arith) ]
    ]

-- of sets with the same addresses and the same labels
pub fewest_as_same : {W : ℕ} {S R : ℕ → ℕ → Type 0} {es : List Entry} → ((k x : ℕ) → x < 2 ^ W → S k x ↔ R k x) → FewestAs W S es → FewestAs W R es
fewest_as_same {W} {S} {R} {es} s F = record {
  valid = F.valid;
  rising = F.rising;
  exactly = λ k x h. (λ r. (F.exactly k x h).0 ((s k x h).1 r), λ c. (s k x h).0 ((F.exactly k x h).1 c));
  once = F.once;
  fewest = λ fs B r e. F.fewest fs B r (λ k x h. (λ p. (e k x h).0 ((s k x h).0 p), λ c. (s k x h).1 ((e k x h).1 c)));
}

-- no list of blocks with that cover is shorter, in whatever order
fewest_length : {W : ℕ} {S : ℕ → ℕ → Type 0} {es : List Entry} → FewestAs W S es → (fs : List Entry) → AllBlocks W (blocks fs) → ExactlyAs W S fs → L.length es ≤ L.length fs
fewest_length {W} F fs B e =
    let p = sorted_perm fs in
    let same = perm_same p in
    elim (F.fewest (sorted fs) (perm_valid W p B) (sorted_rising fs) (λ k x h. (λ s. (same k x).0 ((e k x h).0 s), λ o. (e k x h).1 ((same k x).1 o)))) [
      | inl q ↦ omega (arith, perm_length p, ap L.length q)
      | inr l ↦ omega (arith, perm_length p)
    ]

-- ---- what `gathered` makes

pub record Gathers (W : ℕ) (es out : List Entry) : Type 0 where
  pub valid : AllBlocks W (blocks out)
  pub same : SameCover W es out
  pub tidy : OneLabel W es → Tidy W out

module _ (W : ℕ) where
  gathers_sorted : (es : List Entry) → AllBlocks W (blocks es) → Rising (blocks es) → Gathers W es (gathered_sorted W es)
  unfolding gathered_sorted
  gathers_sorted [] B r = record { valid = tt; same = λ k x. (λ o. o, λ o. o); tidy = λ a. tt }
  gathers_sorted (e ∷ es) B r =
      let M = made es (pass_first e es B r) in
      let held = held_first e es B.0 in
      record {
        valid = M.valid;
        same = λ k x. (λ o. (M.covers k x).1 ((held k x).0 o), λ o. (held k x).1 ((M.covers k x).0 o));
        tidy = λ a. M.tidy (λ k j x h i. a k j x ((held k x).1 h) ((held j x).1 i));
      }

  pub gathers : (es : List Entry) → AllBlocks W (blocks es) → Gathers W es (gathered W es)
  unfolding gathered
  gathers es B =
      let p = sorted_perm es in
      let G = gathers_sorted (sorted es) (perm_valid W p B) (sorted_rising es) in
      record { valid = G.valid; same = same_trans (perm_same p) G.same; tidy = λ a. G.tidy (same_one_label (perm_same p) a) }

  exactly_same : {es fs : List Entry} → SameCover W es fs → ExactlyAs W (CoveredAs W es) fs
  exactly_same s k x h = s k x

  -- THEOREM: the gathered list is the fewest blocks with the cover of the given list.
  pub gathered_fewest : (es : List Entry) → AllBlocks W (blocks es) → OneLabel W es → FewestAs W (CoveredAs W es) (gathered W es)
  gathered_fewest es B a = let G = gathers es B in tidy_fewest (gathered W es) G.valid (G.tidy a) (exactly_same G.same)

  -- ---- what follows

  -- Whoever made it, the fewest list is the gathered one.
  pub gathered_only : (es fs : List Entry) → AllBlocks W (blocks es) → OneLabel W es → FewestAs W (CoveredAs W es) fs → fs ≡ gathered W es
  gathered_only es fs B a F = one_fewest_as F (gathered_fewest es B a)

  -- Lists with the same cover are gathered to the same list.
  pub gathered_same : (es fs : List Entry) → AllBlocks W (blocks es) → AllBlocks W (blocks fs) → OneLabel W es → SameCover W es fs → gathered W es ≡ gathered W fs
  gathered_same es fs B C a s =
      sym (gathered_only es (gathered W fs) B a (fewest_as_same (λ k x h. same_sym s k x) (gathered_fewest fs C (same_one_label s a))))

  -- so are the same entries in another order
  pub gathered_order : {es fs : List Entry} → Permᴰ es fs → AllBlocks W (blocks es) → OneLabel W es → gathered W es ≡ gathered W fs
  gathered_order {es} {fs} p B a = gathered_same es fs B (perm_valid W p B) a (perm_same p)

  -- It is no longer than the given list.
  pub gathered_length : (es : List Entry) → AllBlocks W (blocks es) → OneLabel W es → L.length (gathered W es) ≤ L.length es
  gathered_length es B a = fewest_length (gathered_fewest es B a) es B (λ k x h. (λ o. o, λ o. o))

  -- ---- tidy lists are the gathered ones

  -- the label of the entry at position i
  label_at : List Entry → ℕ → ℕ
  label_at [] i = 0
  label_at (e ∷ es) zero = e.label
  label_at (e ∷ es) (suc i) = label_at es i

  as_at : {k x : ℕ} (es : List Entry) → CoveredAs W es k x → (i : ℕ) × CoversAt W (blocks es) i x × (label_at es i ≡ k)
  unfolding label_at
  as_at [] o = elim o [ ]
  as_at (e ∷ es) (here p c) = (0, c, p)
  as_at (e ∷ es) (there o) = let (i, c, p) = as_at es o in (suc i, c, p)

  -- in the fewest blocks no address has two labels
  fewest_one_label : {S : ℕ → ℕ → Type 0} (es : List Entry) → FewestAs W S es → OneLabel W es
  fewest_one_label es F k j x o p =
      let (i, c, s) = as_at es o in
      let (h, d, t) = as_at es p in
      sym s ∙ ap (label_at es) (F.once x i h c d) ∙ t

  tidy_own : (es : List Entry) → AllBlocks W (blocks es) → Tidy W es → FewestAs W (CoveredAs W es) es
  tidy_own es B t = tidy_fewest es B t (λ k x h. (λ o. o, λ o. o))

  tidy_one_label : (es : List Entry) → AllBlocks W (blocks es) → Tidy W es → OneLabel W es
  tidy_one_label es B t = fewest_one_label es (tidy_own es B t)

  tidy_gathered : (es : List Entry) → AllBlocks W (blocks es) → Tidy W es → es ≡ gathered W es
  tidy_gathered es B t = gathered_only es es B (tidy_one_label es B t) (tidy_own es B t)

  -- Gathering twice is gathering once.
  pub gathered_twice : (es : List Entry) → AllBlocks W (blocks es) → OneLabel W es → gathered W (gathered W es) ≡ gathered W es
  gathered_twice es B a = let G = gathers es B in sym (tidy_gathered (gathered W es) G.valid (G.tidy a))

  pub fewest_tidy : {S : ℕ → ℕ → Type 0} (es : List Entry) → FewestAs W S es → Tidy W es
  fewest_tidy es F =
      let a = fewest_one_label es F in
      let own : FewestAs W (CoveredAs W es) es = fewest_as_same F.exactly F in
      subst (Tidy W) (sym (gathered_only es es F.valid a own)) ((gathers es F.valid).tidy a)
