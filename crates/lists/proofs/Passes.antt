-- The two passes over a rising list of blocks, step by step, for the proofs of the code. Assumes nothing.
use mathlib.Core.Path.{◌≡◌, refl, ap, ◌∙◌}
use mathlib.Core.List.{List, [], ◌∷◌, ◌++◌}
use Prim.Native.Nat.{ℕ, suc, ◌-◌, ◌^◌, ◌≤◌, ◌<◌, max}
use native.Mathlib.Omega.{arith}
use lib.ListN as L
use lib.Pow.{pow_pos}
use Rattle.cover.specs.Blocks.{Block, AllBlocks, Rising, range_blocks, after}
use Rattle.cover.proofs.Interval.{size_pos}
use Rattle.cover.proofs.Range.{range_done}
use Rattle.lists.specs.Lists.{Entry, blocks, labelled, Run, run_entries, sorted, gathered_sorted, gathered_from, uncovered_from, gathered, uncovered, gathered_blocks, uncovered_blocks, SameMembers}
use Rattle.lists.specs.Inner.{runs_from, gaps_from}
use Rattle.lists.proofs.Order.{sorted_done}
use Rattle.lists.proofs.Runs.{joins_iff, joins_no, from_end, from_join, from_start}
use Rattle.lists.proofs.Uncovered.{uncovered_end, uncovered_gap, uncovered_none}
use Rattle.lists.proofs.Plain.{blocks_labelled, labelled_rising, members_gathered, members_uncovered, plain_length}

-- a list rises if each two neighbours do
pub rising_at : (z : Block) (bs : List Block) → ((i : ℕ) → suc i < L.length bs → (L.get_or bs i z).address ≤ (L.get_or bs (suc i) z).address) → Rising bs
rising_at z [] h = tt
rising_at z (b ∷ []) h = tt
rising_at z (b ∷ c ∷ bs) h = (h 0 (omega arith), rising_at z (c ∷ bs) (λ i l. h (suc i) (omega arith)))

blocks_append : (es fs : List Entry) → blocks (es ++ fs) ≡ blocks es ++ blocks fs
blocks_append [] fs = refl
blocks_append (e ∷ es) fs = ap (λ bs. e.block ∷ bs) (blocks_append es fs)

-- the run from first to last, without a label
abbrev run : ℕ → ℕ → Run
run first last = record { first = first; last = last; label = 0 }

abbrev entry : Block → Entry
entry b = record { block = b; label = 0 }

module _ (W : ℕ) where
  run_blocks_lem : (first last : ℕ) → blocks (run_entries W (run first last)) ≡ range_blocks W first last
  run_blocks_lem first last = blocks_labelled 0 (range_blocks W first last)

  -- the blocks of a run go out before the rest
  run_before : (first last : ℕ) (es : List Entry) → blocks (run_entries W (run first last) ++ es) ≡ range_blocks W first last ++ blocks es
  run_before first last es = blocks_append (run_entries W (run first last)) es ∙ ap (λ bs. bs ++ blocks es) (run_blocks_lem first last)

  -- ---- the gathered list: `first` and `last` are those of the run that is being built

  -- No block is left: the blocks of the run are all that is missing.
  pub runs_end : (first last : ℕ) → runs_from W first last [] ≡ range_blocks W first last
  unfolding runs_from
  runs_end first last = ap blocks (from_end W (run first last)) ∙ run_blocks_lem first last

  module _ (first last : ℕ) (b : Block) (bs : List Block) where
    -- The next block starts in the run or right behind it, and the run ends where the later of both does.
    runs_join : (n : ℕ) → max last (after W b - 1) ≡ n → b.address ≤ suc last → runs_from W first last (b ∷ bs) ≡ runs_from W first n bs
    unfolding runs_from
    runs_join n e l =
        ap blocks (from_join W (run first last) (entry b) (labelled 0 bs) ((joins_iff (run first last) (entry b)).1 (refl, l)))
        ∙ ap (λ (m : ℕ). blocks (gathered_from W (run first m) (labelled 0 bs))) e

    -- If the block ends in the run, the run stays as it is;
    pub runs_inside : after W b ≤ suc last → runs_from W first last (b ∷ bs) ≡ runs_from W first last bs
    runs_inside l = let s = size_pos W b in runs_join last (omega arith) (omega arith)

    -- if not, the run ends where the block does.
    pub runs_longer : b.address ≤ suc last → last < after W b → runs_from W first last (b ∷ bs) ≡ runs_from W first (after W b - 1) bs
    runs_longer l h = runs_join (after W b - 1) (omega arith) l

    -- The next block starts behind the run, and not right behind it: the blocks of the run go out, and another run starts.
    pub runs_next : suc last < b.address → runs_from W first last (b ∷ bs) ≡ range_blocks W first last ++ runs_from W b.address (after W b - 1) bs
    unfolding runs_from
    runs_next l =
        ap blocks (from_start W (run first last) (entry b) (labelled 0 bs) (joins_no (run first last) (entry b) (λ p. l)))
        ∙ run_before first last (gathered_from W (run b.address (after W b - 1)) (labelled 0 bs))

  -- ---- the list of what is not covered: the addresses below a are done

  -- No block is left: the gap behind a is all that is missing.
  pub gaps_end : (a : ℕ) → gaps_from W a [] ≡ range_blocks W a (2 ^ W - 1)
  unfolding gaps_from
  gaps_end a = ap blocks (uncovered_end W a) ∙ run_blocks_lem a (2 ^ W - 1)

  module _ (a : ℕ) (b : Block) (bs : List Block) where
    -- The next block starts behind a: the gap before it goes out.
    pub gaps_next : a < b.address → gaps_from W a (b ∷ bs) ≡ range_blocks W a (b.address - 1) ++ gaps_from W (after W b) bs
    unfolding gaps_from
    gaps_next l =
        let m : max a (after W b) ≡ after W b = omega arith in
        ap blocks (uncovered_gap W a (entry b) (labelled 0 bs) l)
        ∙ run_before a (b.address - 1) (uncovered_from W (max a (after W b)) (labelled 0 bs))
        ∙ ap (λ (n : ℕ). range_blocks W a (b.address - 1) ++ blocks (uncovered_from W n (labelled 0 bs))) m

    -- It does not: nothing goes out, and the block may end behind a.
    pub gaps_none : b.address ≤ a → gaps_from W a (b ∷ bs) ≡ gaps_from W (max a (after W b)) bs
    unfolding gaps_from
    gaps_none l = ap blocks (uncovered_none W a (entry b) (labelled 0 bs) l)

  -- The last address is passed: nothing is missing.
  pub gaps_past : (a : ℕ) (bs : List Block) → AllBlocks W bs → 2 ^ W ≤ a → gaps_from W a bs ≡ []
  gaps_past a [] B l = gaps_end a ∙ range_done W (2 ^ W - 1) a (omega (arith, pow_pos W))
  gaps_past a (b ∷ bs) B l = gaps_none a b bs (omega (arith, B.0.below)) ∙ gaps_past (max a (after W b)) bs B.1 (omega arith)

  -- ---- the whole pass, over the blocks of a list ps in rising order

  sorted_plain : (bs : List Block) → Rising bs → sorted (labelled 0 bs) ≡ labelled 0 bs
  sorted_plain bs r = sorted_done (labelled 0 bs) (labelled_rising 0 bs r)

  module _ (z : Block) (ps : List Block) (B : AllBlocks W ps) where
    gathered_rising : (bs : List Block) → SameMembers z ps bs → Rising bs → gathered_blocks W ps ≡ blocks (gathered_sorted W (labelled 0 bs))
    unfolding gathered_blocks gathered
    gathered_rising bs m r =
        members_gathered W z ps bs B m ∙ ap (λ es. blocks (gathered_sorted W es)) (sorted_plain bs r)

    -- Of no blocks the gathered list is empty;
    pub runs_none : SameMembers z ps [] → gathered_blocks W ps ≡ []
    unfolding gathered_sorted
    runs_none m = gathered_rising [] m tt

    -- of others, it starts with the run of the first block.
    pub runs_start : (b : Block) (bs : List Block) → SameMembers z ps (b ∷ bs) → Rising (b ∷ bs) → gathered_blocks W ps ≡ runs_from W b.address (after W b - 1) bs
    unfolding gathered_sorted runs_from
    runs_start b bs m r = gathered_rising (b ∷ bs) m r

    -- What is not covered starts with the gap from 0 on.
    pub gaps_start : (bs : List Block) → SameMembers z ps bs → Rising bs → uncovered_blocks W ps ≡ gaps_from W 0 bs
    unfolding uncovered_blocks uncovered gaps_from
    gaps_start bs m r =
        members_uncovered W z ps bs B m ∙ ap (λ es. blocks (uncovered_from W 0 es)) (sorted_plain bs r)

  -- The gathered list needs no more room than the given list.
  pub runs_room : (ps : List Block) → AllBlocks W ps → L.length (gathered_blocks W ps) ≤ L.length ps
  runs_room = plain_length W
