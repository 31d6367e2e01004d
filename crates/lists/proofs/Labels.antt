-- What a list covers, entry by entry and label by label. Assumes nothing.
use mathlib.Core.Path.{◌≡◌, refl, sym, ap, ◌∙◌, subst}
use mathlib.Core.Logic.{◌⊎◌, inl, inr, ◌↔◌}
use mathlib.Core.Bool.{true, false}
use mathlib.Core.List.{List, [], ◌∷◌, ◌++◌}
use Prim.Native.Nat.{ℕ, zero, suc, ◌^◌, ◌/◌, ◌≤◌, ◌<◌}
use native.Mathlib.Decide.{dec_lt, ℕ_discrete}
use native.Mathlib.Omega.{arith}
use borrow.Author.Tests.{eq-eqb, ne_eqb}
use lib.Dec.{eqb}
use Rattle.cover.specs.Blocks.{Block, Covers, CoversAt, CoveredBy, AllBlocks, Rising, size}
use Rattle.cover.proofs.Interval.{covers_to_within, covers_first}
use Rattle.cover.proofs.Greedy.{rising_tail}
use Rattle.lists.specs.Lists.{Entry, blocks, labelled, AllLabelled, CoveredAs, here, there, OneLabel}

-- ---- what a list covers with a label

pub as_below : {W k x : ℕ} {es : List Entry} → CoveredAs W es k x → x < 2 ^ W
as_below (here p c) = c.below
as_below (there o) = as_below o

pub as_nothing : {W k x : ℕ} → CoveredAs W [] k x → ⊥
as_nothing o = elim o [ ]

covers_dec : (W : ℕ) (b : Block) (x : ℕ) → Dec (Covers W b x)
covers_dec W b x =
    elim (dec_lt x (2 ^ W)) [
      | yes h ↦ elim (ℕ_discrete (x / size W b) (b.address / size W b)) [ yes e ↦ yes (record { below = h; agrees = e }) | no n ↦ no (λ c. n c.agrees) ]
      | no n ↦ no (λ c. n c.below)
    ]

pub as_dec : (W : ℕ) (es : List Entry) (k x : ℕ) → Dec (CoveredAs W es k x)
as_dec W [] k x = no as_nothing
as_dec W (e ∷ es) k x =
    let rest = as_dec W es k x in
    elim rest [
      | yes o ↦ yes (there o)
      | no n ↦ elim (ℕ_discrete e.label k) [
        | yes p ↦ elim (covers_dec W e.block x) [ yes c ↦ yes (here p c) | no m ↦ no (neither n (λ q c. m c)) ]
        | no m ↦ no (neither n (λ q c. m q))
      ]
    ]
  where
    neither : ¬ CoveredAs W es k x → (e.label ≡ k → Covers W e.block x → ⊥) → ¬ CoveredAs W (e ∷ es) k x
    neither n m (here p c) = m p c
    neither n m (there o) = n o

pub as_left : {W k x : ℕ} {es : List Entry} (fs : List Entry) → CoveredAs W es k x → CoveredAs W (es ++ fs) k x
as_left fs (here p c) = here p c
as_left fs (there o) = there (as_left fs o)

pub as_right : {W k x : ℕ} (es : List Entry) {fs : List Entry} → CoveredAs W fs k x → CoveredAs W (es ++ fs) k x
as_right [] o = o
as_right (e ∷ es) o = there (as_right es o)

pub as_append : {W k x : ℕ} (es : List Entry) {fs : List Entry} → CoveredAs W (es ++ fs) k x → CoveredAs W es k x ⊎ CoveredAs W fs k x
as_append [] o = inr o
as_append (e ∷ es) (here p c) = inl (here p c)
as_append (e ∷ es) (there o) = elim (as_append es o) [ inl l ↦ inl (there l) | inr r ↦ inr r ]

-- with some label: what the blocks cover
pub as_some : (W : ℕ) (es : List Entry) (x : ℕ) → CoveredBy W (blocks es) x ↔ ((k : ℕ) × CoveredAs W es k x)
as_some W es x = (λ c. to es c.0 c.1, λ o. back o.1)
  where
    to : (es : List Entry) (i : ℕ) → CoversAt W (blocks es) i x → (k : ℕ) × CoveredAs W es k x
    to [] i c = absurd c
    to (e ∷ es) zero c = (e.label, here refl c)
    to (e ∷ es) (suc i) c = let (k, o) = to es i c in (k, there o)

    back : {k : ℕ} {es : List Entry} → CoveredAs W es k x → CoveredBy W (blocks es) x
    back (here p c) = (0, c)
    back (there o) = let (i, c) = back o in (suc i, c)

-- of blocks that all have one label
labelled_covers : {W : ℕ} (k : ℕ) (bs : List Block) (i x : ℕ) → CoversAt W bs i x → CoveredAs W (labelled k bs) k x
labelled_covers k [] i x c = absurd c
labelled_covers k (b ∷ bs) zero x c = here refl c
labelled_covers k (b ∷ bs) (suc i) x c = there (labelled_covers k bs i x c)

labelled_covered : {W : ℕ} (k : ℕ) (bs : List Block) (j x : ℕ) → CoveredAs W (labelled k bs) j x → (k ≡ j) × CoveredBy W bs x
labelled_covered k [] j x o = elim o [ ]
labelled_covered k (b ∷ bs) j x (here p c) = (p, (0, c))
labelled_covered k (b ∷ bs) j x (there o) = let r = labelled_covered k bs j x o in (r.0, (suc r.1.0, r.1.1))

pub labelled_as : (W k : ℕ) (bs : List Block) (j x : ℕ) → CoveredAs W (labelled k bs) j x ↔ ((k ≡ j) × CoveredBy W bs x)
labelled_as W k bs j x = (
  labelled_covered k bs j x,
  λ c. subst (λ (i : ℕ). CoveredAs W (labelled k bs) i x) c.0 (labelled_covers k bs c.1.0 x c.1.1),
)

-- ---- lists of blocks

pub append_valid : (W : ℕ) (es fs : List Entry) → AllBlocks W (blocks es) → AllBlocks W (blocks fs) → AllBlocks W (blocks (es ++ fs))
append_valid W [] fs B C = C
append_valid W (e ∷ es) fs B C = (B.0, append_valid W es fs B.1 C)

pub labelled_valid : (W k : ℕ) (bs : List Block) → AllBlocks W bs → AllBlocks W (blocks (labelled k bs))
labelled_valid W k [] B = tt
labelled_valid W k (b ∷ bs) B = (B.0, labelled_valid W k bs B.1)

-- ---- lists of one label

pub all_labelled : {W j x : ℕ} (k : ℕ) (es : List Entry) → AllLabelled k es → CoveredAs W es j x → j ≡ k
all_labelled k [] a o = elim o [ ]
all_labelled k (e ∷ es) a (here p c) = sym p ∙ a.0
all_labelled k (e ∷ es) a (there o) = all_labelled k es a.1 o

pub all_one_label : {W : ℕ} (k : ℕ) (es : List Entry) → AllLabelled k es → OneLabel W es
all_one_label k es a i j x o p = all_labelled k es a o ∙ sym (all_labelled k es a p)

pub labelled_all : (W k : ℕ) (es : List Entry) → AllBlocks W (blocks es) → ((j x : ℕ) → CoveredAs W es j x → j ≡ k) → AllLabelled k es
labelled_all W k [] B h = tt
labelled_all W k (e ∷ es) B h = (h e.label e.block.address (here refl (covers_first B.0)), labelled_all W k es B.1 (λ j x o. h j x (there o)))

pub labelled_same : (k : ℕ) (bs : List Block) → AllLabelled k (labelled k bs)
labelled_same k [] = tt
labelled_same k (b ∷ bs) = (refl, labelled_same k bs)

-- ---- the blocks of one label

-- the blocks of the list with the label k
pub blocks_as : ℕ → List Entry → List Block
blocks_as k [] = []
blocks_as k (e ∷ es) = elim (eqb e.label k) [ true ↦ e.block ∷ blocks_as k es | false ↦ blocks_as k es ]

pub blocks_as_nil : (k : ℕ) → blocks_as k [] ≡ []
unfolding blocks_as
blocks_as_nil k = refl

pub blocks_as_yes : {k : ℕ} (e : Entry) (es : List Entry) → e.label ≡ k → blocks_as k (e ∷ es) ≡ e.block ∷ blocks_as k es
unfolding blocks_as
blocks_as_yes {k} e es p = rw (eq-eqb e.label k p, blocks_as)

pub blocks_as_no : {k : ℕ} (e : Entry) (es : List Entry) → ¬ (e.label ≡ k) → blocks_as k (e ∷ es) ≡ blocks_as k es
unfolding blocks_as
blocks_as_no {k} e es p = rw (ne_eqb e.label k p, blocks_as)

-- a rule for each entry, by its label
blocks_as_ind : (k : ℕ) (P : List Entry → List Block → Type 0) → P [] []
    → ((e : Entry) (es : List Entry) → e.label ≡ k → P es (blocks_as k es) → P (e ∷ es) (e.block ∷ blocks_as k es))
    → ((e : Entry) (es : List Entry) → ¬ (e.label ≡ k) → P es (blocks_as k es) → P (e ∷ es) (blocks_as k es))
    → (es : List Entry) → P es (blocks_as k es)
blocks_as_ind k P none same other [] = rw blocks_as_nil none
blocks_as_ind k P none same other (e ∷ es) =
    let rest = blocks_as_ind k P none same other es in
    elim (ℕ_discrete e.label k) [
      | yes p ↦ rw (blocks_as_yes e es p) (same e es p rest)
      | no n ↦ rw (blocks_as_no e es n) (other e es n rest)
    ]

pub blocks_as_all : (k : ℕ) (es : List Entry) → AllLabelled k es → blocks_as k es ≡ blocks es
blocks_as_all k [] a = blocks_as_nil k
blocks_as_all k (e ∷ es) a = blocks_as_yes e es a.0 ∙ ap (λ bs. e.block ∷ bs) (blocks_as_all k es a.1)

pub as_to_covered : (W k x : ℕ) (es : List Entry) → CoveredAs W es k x → CoveredBy W (blocks_as k es) x
as_to_covered W k x es = blocks_as_ind k (λ fs bs. CoveredAs W fs k x → CoveredBy W bs x) (λ o. absurd (as_nothing o)) same other es
  where
    same : (e : Entry) (es : List Entry) → e.label ≡ k → (CoveredAs W es k x → CoveredBy W (blocks_as k es) x) → CoveredAs W (e ∷ es) k x → CoveredBy W (e.block ∷ blocks_as k es) x
    same e es p ih (here q c) = (0, c)
    same e es p ih (there o) = let r = ih o in (suc r.0, r.1)

    other : (e : Entry) (es : List Entry) → ¬ (e.label ≡ k) → (CoveredAs W es k x → CoveredBy W (blocks_as k es) x) → CoveredAs W (e ∷ es) k x → CoveredBy W (blocks_as k es) x
    other e es n ih (here q c) = absurd (n q)
    other e es n ih (there o) = ih o

pub covered_to_as : (W k x : ℕ) (es : List Entry) → CoveredBy W (blocks_as k es) x → CoveredAs W es k x
covered_to_as W k x es = blocks_as_ind k (λ fs bs. CoveredBy W bs x → CoveredAs W fs k x) (λ c. absurd c.1) same (λ e es n ih c. there (ih c)) es
  where
    same : (e : Entry) (es : List Entry) → e.label ≡ k → (CoveredBy W (blocks_as k es) x → CoveredAs W es k x) → CoveredBy W (e.block ∷ blocks_as k es) x → CoveredAs W (e ∷ es) k x
    same e es p ih (zero, c) = here p c
    same e es p ih (suc i, c) = there (ih (i, c))

pub blocks_as_valid : (W k : ℕ) (es : List Entry) → AllBlocks W (blocks es) → AllBlocks W (blocks_as k es)
blocks_as_valid W k es = blocks_as_ind k (λ fs bs. AllBlocks W (blocks fs) → AllBlocks W bs) (λ B. tt) (λ e es p ih B. (B.0, ih B.1)) (λ e es n ih B. ih B.1) es

-- the list starts no lower than a
abbrev pub From : ℕ → List Block → Type 0
From a [] = Unit {0}
From a (b ∷ bs) = a ≤ b.address

pub from_zero : (bs : List Block) → From 0 bs
from_zero [] = tt
from_zero (b ∷ bs) = omega arith

pub from_lower : {a c : ℕ} (bs : List Block) → a ≤ c → From c bs → From a bs
from_lower [] l h = tt
from_lower (b ∷ bs) l h = omega arith

pub rising_cons : (b : Block) (bs : List Block) → From b.address bs → Rising bs → Rising (b ∷ bs)
rising_cons b [] l r = tt
rising_cons b (c ∷ bs) l r = (l, r)

-- the blocks of one label of a rising list rise
pub blocks_as_from : (k a : ℕ) (es : List Entry) → From a (blocks es) → Rising (blocks es) → From a (blocks_as k es)
blocks_as_from k a es l r = blocks_as_ind k (λ fs bs. (a : ℕ) → From a (blocks fs) → Rising (blocks fs) → From a bs) (λ a l r. tt) (λ e es p ih a l r. l) other es a l r
  where
    other : (e : Entry) (es : List Entry) → ¬ (e.label ≡ k) → ((a : ℕ) → From a (blocks es) → Rising (blocks es) → From a (blocks_as k es))
        → (a : ℕ) → From a (blocks (e ∷ es)) → Rising (blocks (e ∷ es)) → From a (blocks_as k es)
    other e [] n ih a l r = ih a tt tt
    other e (f ∷ es) n ih a l r = ih a (omega (arith, r.0)) r.1

pub rising_from : (b : Block) (bs : List Block) → Rising (b ∷ bs) → From b.address bs
rising_from b [] r = tt
rising_from b (c ∷ bs) r = r.0

pub blocks_as_rising : (k : ℕ) (es : List Entry) → Rising (blocks es) → Rising (blocks_as k es)
blocks_as_rising k es = blocks_as_ind k (λ fs bs. Rising (blocks fs) → Rising bs) (λ r. tt) same (λ e es n ih r. ih (rising_tail e.block (blocks es) r)) es
  where
    same : (e : Entry) (es : List Entry) → e.label ≡ k → (Rising (blocks es) → Rising (blocks_as k es)) → Rising (blocks (e ∷ es)) → Rising (e.block ∷ blocks_as k es)
    same e es p ih r =
        let t = rising_tail e.block (blocks es) r in
        rising_cons e.block (blocks_as k es) (blocks_as_from k e.block.address es (rising_from e.block (blocks es) r) t) (ih t)

-- a rising list that starts no lower than a covers nothing below a
pub as_from : {W k x : ℕ} (es : List Entry) (a : ℕ) → AllBlocks W (blocks es) → Rising (blocks es) → From a (blocks es) → CoveredAs W es k x → a ≤ x
as_from [] a B r l o = elim o [ ]
as_from (e ∷ es) a B r l (here p c) = omega (arith, l, (covers_to_within B.0 c).low)
as_from (e ∷ es) a B r l (there o) = as_from es a B.1 (rising_tail e.block (blocks es) r) (from_lower (blocks es) l (rising_from e.block (blocks es) r)) o
