-- Lists in another order: they cover the same, and sorting is one. Assumes nothing.
use mathlib.Core.Path.{◌≡◌, refl, sym, ap, ◌∙◌, subst}
use mathlib.Core.List.Permᴰ
use mathlib.Core.List.{List, [], ◌∷◌, map, Permᴰ}
use Prim.Native.Nat.{ℕ}
use Rattle.stable_sort.specs.Stable as stable
use Rattle.stable_sort.specs.Stable.{sort_by}
use Rattle.stable_sort.proofs.StableLaws.{sort_is, sort_rising, sort_map}
use Rattle.cover.specs.Blocks.{IsBlock, Covers, AllBlocks, Rising}
use Rattle.cover.proofs.Greedy.{rising_tail}
use Rattle.lists.specs.Lists.{Entry, blocks, labelled, CoveredAs, here, there, SameCover, OneLabel, entry_address, sorted}
use Rattle.lists.proofs.Labels.{From, from_lower, rising_from}

-- ---- lists with the same cover

pub same_sym : {W : ℕ} {es fs : List Entry} → SameCover W es fs → SameCover W fs es
same_sym s = λ k x. ((s k x).1, (s k x).0)

pub same_trans : {W : ℕ} {es fs gs : List Entry} → SameCover W es fs → SameCover W fs gs → SameCover W es gs
same_trans s t = λ k x. (λ o. (t k x).0 ((s k x).0 o), λ o. (s k x).1 ((t k x).1 o))

pub same_one_label : {W : ℕ} {es fs : List Entry} → SameCover W es fs → OneLabel W es → OneLabel W fs
same_one_label s a k j x o p = a k j x ((s k x).1 o) ((s j x).1 p)

-- ---- the same entries in another order

move : {W k x : ℕ} {e f : Entry} {es : List Entry} → e ≡ f → e.label ≡ k → Covers W e.block x → CoveredAs W (f ∷ es) k x
move {W} {x = x} p s c = here (ap (λ (e : Entry). e.label) (sym p) ∙ s) (subst (λ (e : Entry). Covers W e.block x) p c)

perm_as : {W k x : ℕ} {es fs : List Entry} → Permᴰ es fs → CoveredAs W es k x → CoveredAs W fs k x
perm_as Permᴰ.nil o = o
perm_as (Permᴰ.cons e d) (here p c) = move e p c
perm_as (Permᴰ.cons e d) (there o) = there (perm_as d o)
perm_as (Permᴰ.swap p q) (here s c) = there (move p s c)
perm_as (Permᴰ.swap p q) (there (here s c)) = move q s c
perm_as (Permᴰ.swap p q) (there (there o)) = there (there o)
perm_as (Permᴰ.trans d f) o = perm_as f (perm_as d o)

pub perm_same : {W : ℕ} {es fs : List Entry} → Permᴰ es fs → SameCover W es fs
perm_same d = λ k x. (perm_as d, perm_as (Permᴰ.symm d))

pub perm_valid : (W : ℕ) {es fs : List Entry} → Permᴰ es fs → AllBlocks W (blocks es) → AllBlocks W (blocks fs)
perm_valid W Permᴰ.nil B = tt
perm_valid W (Permᴰ.cons e d) B = (subst (λ (f : Entry). IsBlock W f.block) e B.0, perm_valid W d B.1)
perm_valid W (Permᴰ.swap p q) B = (subst (λ (f : Entry). IsBlock W f.block) q B.1.0, (subst (λ (f : Entry). IsBlock W f.block) p B.0, B.1.1))
perm_valid W (Permᴰ.trans d f) B = perm_valid W f (perm_valid W d B)

-- ---- sorting

-- no address above the next, and no address above a later one, are the same
rising_blocks : (es : List Entry) → stable.Rising entry_address es → Rising (blocks es)
rising_blocks [] r = tt
rising_blocks (e ∷ []) r = tt
rising_blocks (e ∷ f ∷ es) r = (r.0.0, rising_blocks (f ∷ es) r.1)

blocks_from : (a : ℕ) (es : List Entry) → From a (blocks es) → Rising (blocks es) → stable.From entry_address a es
blocks_from a [] l r = tt
blocks_from a (e ∷ es) l r = (l, blocks_from a es (from_lower (blocks es) l (rising_from e.block (blocks es) r)) (rising_tail e.block (blocks es) r))

blocks_rising : (es : List Entry) → Rising (blocks es) → stable.Rising entry_address es
blocks_rising [] r = tt
blocks_rising (e ∷ es) r = let t = rising_tail e.block (blocks es) r in (blocks_from (entry_address e) es (rising_from e.block (blocks es) r) t, blocks_rising es t)

pub sorted_perm : (es : List Entry) → Permᴰ es (sorted es)
unfolding sorted
sorted_perm es = (sort_is entry_address es).each_once

pub sorted_rising : (es : List Entry) → Rising (blocks (sorted es))
unfolding sorted
sorted_rising es = rising_blocks (sort_by entry_address es) (sort_is entry_address es).rising

-- a rising list is sorted
pub sorted_done : (es : List Entry) → Rising (blocks es) → sorted es ≡ es
unfolding sorted
sorted_done es r = sort_rising entry_address es (blocks_rising es r)

-- labels play no part in sorting
module _ (k : ℕ) where
  abbrev relabelled : Entry → Entry
  relabelled e = record { block = e.block; label = k }

  labelled_map : (es : List Entry) → labelled k (blocks es) ≡ map relabelled es
  labelled_map [] = refl
  labelled_map (e ∷ es) = ap (λ l. relabelled e ∷ l) (labelled_map es)

  pub labelled_sorted : (es : List Entry) → sorted (labelled k (blocks es)) ≡ labelled k (blocks (sorted es))
  unfolding sorted
  labelled_sorted es = ap sorted (labelled_map es) ∙ sort_map entry_address entry_address relabelled (λ e. refl) es ∙ sym (labelled_map (sorted es))
