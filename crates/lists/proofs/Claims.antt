-- What is claimed of gathered lists and of what is not covered (02, Req 01), over the width W. Assumes nothing.
use mathlib.Core.Path.{◌≡◌, refl}
use mathlib.Core.Logic.{◌↔◌}
use mathlib.Core.List.{List, [], ◌∷◌, Permᴰ}
use Prim.Native.Nat.{ℕ, ◌+◌, ◌-◌, ◌*◌, ◌^◌, ◌≤◌, ◌<◌}
use lib.ListN as L
use Rattle.cover.specs.Blocks.{Block, CoveredBy, AllBlocks, Fewest}
use Rattle.lists.specs.Lists.{Entry, blocks, CoveredAs, SameCover, OneLabel, FewestAs, NotCovered, labelled, AllLabelled, gathered, uncovered, gathered_blocks, uncovered_blocks, SameMembers}
use Rattle.lists.proofs.Labels as labels
use Rattle.lists.proofs.Gathered as gather
use Rattle.lists.proofs.Uncovered as uncover
use Rattle.lists.proofs.Plain as plain
use Rattle.lists.proofs.Count as count

-- ---- lists of blocks (Req 01)

module _ (W : ℕ) (bs : List Block) (valid : AllBlocks W bs) where
  -- "The fewest blocks covering exactly the same addresses, rising": "every other rising list with the same cover must be longer".
  pub gathered_is_fewest : Fewest W (CoveredBy W bs) (gathered_blocks W bs)
  gathered_is_fewest = plain.plain_gathered W bs valid

  -- "The list of what is not covered, by the same rule".
  pub uncovered_is_fewest : Fewest W (λ x. ¬ CoveredBy W bs x) (uncovered_blocks W bs)
  uncovered_is_fewest = plain.plain_uncovered W bs valid

  -- "Asking for that twice gives the gathered list".
  pub twice : uncovered_blocks W (uncovered_blocks W bs) ≡ gathered_blocks W bs
  twice = plain.plain_twice W bs valid

  -- Gathering a gathered list leaves it as it is.
  pub again : gathered_blocks W (gathered_blocks W bs) ≡ gathered_blocks W bs
  again = plain.plain_again W bs valid

  -- The gathered list is no longer than the given list.
  pub no_longer : L.length (gathered_blocks W bs) ≤ L.length bs
  no_longer = plain.plain_length W bs valid

  -- The list of what is not covered has at most one block, and W - 1 more for each block of the given list.
  pub uncovered_at_most : 1 ≤ W → L.length (uncovered_blocks W bs) ≤ 1 + L.length bs * (W - 1)
  uncovered_at_most one = count.plain_uncovered_length W bs one valid

  -- It is empty exactly if the given list covers every address.
  pub none_uncovered : (uncovered_blocks W bs ≡ []) ↔ ((x : ℕ) → x < 2 ^ W → CoveredBy W bs x)
  none_uncovered = plain.plain_uncovered_all W bs valid

  module _ (cs : List Block) (valid-too : AllBlocks W cs) where
    -- Lists with the same cover are gathered to the same list, and leave the same uncovered:
    pub same_cover : ((x : ℕ) → CoveredBy W bs x ↔ CoveredBy W cs x) → gathered_blocks W bs ≡ gathered_blocks W cs
    same_cover = plain.plain_gathered_same W bs cs valid valid-too

    pub same_cover_uncovered : ((x : ℕ) → CoveredBy W bs x ↔ CoveredBy W cs x) → uncovered_blocks W bs ≡ uncovered_blocks W cs
    same_cover_uncovered = plain.plain_uncovered_same W bs cs valid valid-too

  -- so are lists of the same blocks, in any order and any number of times.
  module _ (cs : List Block) (z : Block) (same : SameMembers z bs cs) where
    pub same_members : gathered_blocks W bs ≡ gathered_blocks W cs
    same_members = plain.members_gathered W z bs cs valid same

    pub same_members_uncovered : uncovered_blocks W bs ≡ uncovered_blocks W cs
    same_members_uncovered = plain.members_uncovered W z bs cs valid same

-- The empty list stays empty, and leaves all addresses, which are one block.
pub empty : (W : ℕ) → gathered_blocks W [] ≡ []
unfolding gathered_blocks
empty W = refl

pub empty_uncovered : (W : ℕ) → uncovered_blocks W [] ≡ record { address = 0; length = 0 } ∷ []
empty_uncovered = plain.plain_uncovered_nothing

-- ---- lists of blocks with labels

-- An address is covered with some label exactly if one of the blocks covers it.
pub covered_as_some : (W : ℕ) (es : List Entry) (x : ℕ) → CoveredBy W (blocks es) x ↔ ((k : ℕ) × CoveredAs W es k x)
covered_as_some = labels.as_some

-- Where all blocks have the label k, it is covered with the label k and no other.
pub covered_as_labelled : (W k : ℕ) (bs : List Block) (j x : ℕ) → CoveredAs W (labelled k bs) j x ↔ ((k ≡ j) × CoveredBy W bs x)
covered_as_labelled = labels.labelled_as

-- Sets with labels have one list of the fewest blocks.
pub one_fewest_as : {W : ℕ} {S : ℕ → ℕ → Type 0} {es fs : List Entry} → FewestAs W S es → FewestAs W S fs → es ≡ fs
one_fewest_as = gather.one_fewest_as

module _ (W : ℕ) (es : List Entry) (valid : AllBlocks W (blocks es)) where
  module _ (one : OneLabel W es) where
    -- The gathered list is the fewest blocks with the same addresses and the same labels.
    pub gathered_is_fewest_as : FewestAs W (CoveredAs W es) (gathered W es)
    gathered_is_fewest_as = gather.gathered_fewest W es valid one

    -- It is no longer than the list, and gathering it again leaves it as it is.
    pub no_longer_as : L.length (gathered W es) ≤ L.length es
    no_longer_as = gather.gathered_length W es valid one

    pub again_as : gathered W (gathered W es) ≡ gathered W es
    again_as = gather.gathered_twice W es valid one

    -- Lists with the same cover, such as one list in two orders, are gathered to the same list.
    pub same_cover_as : (fs : List Entry) → AllBlocks W (blocks fs) → SameCover W es fs → gathered W es ≡ gathered W fs
    same_cover_as fs valid-too = gather.gathered_same W es fs valid valid-too one

    pub any_order_as : (fs : List Entry) → Permᴰ es fs → gathered W es ≡ gathered W fs
    any_order_as fs p = gather.gathered_order W p valid one

  -- The other list is the fewest blocks of the addresses that no entry covers, with the label 0.
  pub uncovered_is_fewest_as : FewestAs W (NotCovered W es) (uncovered W es)
  uncovered_is_fewest_as = uncover.uncovered_fewest W es valid

  -- Where all labels are 0, asking for it twice gives the gathered list.
  pub twice_as : AllLabelled 0 es → uncovered W (uncovered W es) ≡ gathered W es
  twice_as = uncover.uncovered_twice W es valid

  -- Lists with the same cover leave the same uncovered.
  pub same_cover_uncovered_as : (fs : List Entry) → AllBlocks W (blocks fs) → SameCover W es fs → uncovered W es ≡ uncovered W fs
  same_cover_uncovered_as fs valid-too = uncover.uncovered_same W es fs valid valid-too

  -- Labels play no part in what is not covered.
  pub uncovered_any_labels : uncovered W es ≡ labelled 0 (uncovered_blocks W (blocks es))
  uncovered_any_labels = plain.uncovered_plain W es valid

-- ---- computed: the definitions run

-- 10.0.0.2/31, 10.0.0.4/30, 10.0.0.0/31 and 10.0.0.1/32: 10.0.0.0/29
pub overlapping : gathered_blocks 32
    (record { address = 0x0a000002; length = 31 } ∷ record { address = 0x0a000004; length = 30 }
    ∷ record { address = 0x0a000000; length = 31 } ∷ record { address = 0x0a000001; length = 32 } ∷ [])
    ≡ record { address = 0x0a000000; length = 29 } ∷ []
unfolding gathered_blocks
overlapping = refl

-- 10.0.0.1 and 10.0.0.2 are neighbours, and not the halves of a block
pub no_halves : gathered_blocks 32 (record { address = 0x0a000002; length = 32 } ∷ record { address = 0x0a000001; length = 32 } ∷ [])
    ≡ record { address = 0x0a000001; length = 32 } ∷ record { address = 0x0a000002; length = 32 } ∷ []
unfolding gathered_blocks
no_halves = refl

-- IPv6, up to the last address
pub last_6 : gathered_blocks 128 (record { address = 2 ^ 127 + 2 ^ 126; length = 2 } ∷ record { address = 2 ^ 127; length = 2 } ∷ [])
    ≡ record { address = 2 ^ 127; length = 1 } ∷ []
unfolding gathered_blocks
last_6 = refl

-- what 64.0.0.0/2 leaves: 0.0.0.0/2 and 128.0.0.0/1
pub left_over : uncovered_blocks 32 (record { address = 0x40000000; length = 2 } ∷ [])
    ≡ record { address = 0; length = 2 } ∷ record { address = 0x80000000; length = 1 } ∷ []
unfolding uncovered_blocks
left_over = refl

-- the bound `uncovered_at_most` is reached: 0.0.0.0/32 leaves 32 blocks, ::/128 leaves 128
pub at_most_reached_4 : L.length (uncovered_blocks 32 (record { address = 0; length = 32 } ∷ [])) ≡ 32
unfolding uncovered_blocks
at_most_reached_4 = refl

pub at_most_reached_6 : L.length (uncovered_blocks 128 (record { address = 0; length = 128 } ∷ [])) ≡ 128
unfolding uncovered_blocks
at_most_reached_6 = refl

-- the halves of a block with two labels stay two
pub two_labels : gathered 32 (record { block = record { address = 0x80000000; length = 1 }; label = 7 } ∷ record { block = record { address = 0; length = 1 }; label = 3 } ∷ [])
    ≡ record { block = record { address = 0; length = 1 }; label = 3 } ∷ record { block = record { address = 0x80000000; length = 1 }; label = 7 } ∷ []
unfolding gathered
two_labels = refl
