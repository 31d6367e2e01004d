-- Records of a range and of one block, put into a buffer. Assumes nothing.
use mathlib.Core.Path.{◌≡◌, refl, sym, ap, ap₂, subst, ◌∙◌}
use mathlib.Core.Bool.{true}
use mathlib.Core.List.{List, [], ◌∷◌, ◌++◌, append_assoc, append-nil}
use Prim.Native.Nat.{ℕ, suc, ◌+◌, ◌-◌, ◌^◌, ◌≤◌, ◌<◌, min, max}
use native.Mathlib.Omega.{arith}
use lib.ListN.{length}
use lib.Pow.{pow_mono}
use Rattle.wide.specs.declared.Wide.{Wide}
use Rattle.wide.specs.Value.{value}
use Rattle.cover.specs.Blocks as cover
use Rattle.cover.specs.Blocks.{range_blocks}
use Rattle.address.specs.declared.Address.TheVariants.{V4, V6}
use Rattle.address.specs.declared.Block.{Block}
use Rattle.address.specs.Addresses.{width}
use Rattle.output.specs.Placing.{PutsAll}
use Rattle.records.specs.Records.{record_of, block_record, records_of}
use Rattle.records.proofs.RecordLaws.{record_length}
use Rattle.record_lists.specs.Inner.{IsSize, size_width}
use Rattle.record_lists.proofs.ListLaws.{size_back}
use Rattle.gather.specs.declared.Run.{Run}
use Rattle.gather.specs.Inner.{numbers, Built, run_blocks, RunFits}
use Rattle.gather.proofs.BlockLaws.{low_value, size_most}

-- ---- records, one list behind another

pub records_append : (W : ℕ) (bs cs : List cover.Block) → records_of W (bs ++ cs) ≡ records_of W bs ++ records_of W cs
unfolding records_of
records_append W [] cs = refl
records_append W (b ∷ bs) cs = ap (λ r. record_of W b ++ r) (records_append W bs cs) ∙ sym (append_assoc (record_of W b) (records_of W bs) (records_of W cs))

pub records_one : (W : ℕ) (b : cover.Block) → records_of W (b ∷ []) ≡ record_of W b
unfolding records_of
records_one W b = append-nil (record_of W b)

pub records_none : (W : ℕ) → records_of W [] ≡ []
unfolding records_of
records_none W = refl

-- ---- the block value of an address and a length

module _ {size : ℕ} where
  pub block_4 : size ≡ 5 → (a : Wide) → value a < 2 ^ size_width size → (n : ℕ) → let b : Block = record { address = V4 a.lo; length = n } in
      (block_record b ≡ record_of (size_width size) (numbers a n)) × (width b.address ≡ size_width size)
  block_4 e a h n =
      let W : 32 ≡ size_width size = omega arith in
      (ap₂ (λ (k x : ℕ). record_of k (record { address = x; length = n })) W (low_value e a h), W)

  pub block_6 : size ≡ 17 → (a : Wide) (n : ℕ) → let b : Block = record { address = V6 a.hi a.lo; length = n } in
      (block_record b ≡ record_of (size_width size) (numbers a n)) × (width b.address ≡ size_width size)
  block_6 e a n = let W : 128 ≡ size_width size = omega arith in (ap (λ (k : ℕ). record_of k (numbers a n)) W, W)

-- the records of a range by other names
pub range_same : (size : ℕ) {old new : List ℕ} {at next : ℕ} (W x y first last : ℕ) → W ≡ size_width size → x ≡ first → y ≡ last
    → PutsAll old new at next (records_of W (range_blocks W x y)) → PutsAll old new at next (records_of (size_width size) (range_blocks (size_width size) first last))
range_same size {old} {new} {at} {next} W x y first last w p q h =
    subst (λ (k : ℕ). PutsAll old new at next (records_of k (range_blocks k first last))) w
    (subst (λ (k : ℕ). PutsAll old new at next (records_of W (range_blocks W k last))) p (subst (λ (k : ℕ). PutsAll old new at next (records_of W (range_blocks W x k))) q h))

-- ---- a run that is one block

module _ {size : ℕ} {r : Run} (b : Built size r) (one : r.alone ≡ true) where
  pub alone_records : records_of (size_width size) (run_blocks size r) ≡ record_of (size_width size) (numbers r.first r.length)
  alone_records = ap (records_of (size_width size)) (b.alone one) ∙ records_one (size_width size) (numbers r.first r.length)

  pub alone_length : length (records_of (size_width size) (run_blocks size r)) ≡ size
  alone_length = ap length alone_records ∙ record_length (size_width size) (numbers r.first r.length) ∙ size_back size b.range.sized

  pub alone_room : (out : List ℕ) → RunFits size r out → r.at + size ≤ length out
  alone_room out h = omega (arith, h, alone_length)

-- ---- right behind the run or not: m is the largest number, at which sums stop

pub near : (last one sum start m : ℕ) → sum ≡ min (last + one) m → one ≡ 1 → start ≤ sum → start ≤ suc last
near last one sum start m e o h = omega arith

below : (x p q : ℕ) → x < p → p ≤ q → x ≤ q - 1
below x p q h l = omega arith

pub below_most : {size : ℕ} → IsSize size → (x : ℕ) → x < 2 ^ size_width size → x ≤ 2 ^ 128 - 1
below_most {size} s x h = below x (2 ^ size_width size) (2 ^ 128) h (pow_mono (size_most s))

pub far : (last one sum start end m : ℕ) → sum ≡ min (last + one) m → one ≡ 1 → sum < start → last < end → end ≤ m → suc last < start
far last one sum start end m e o h l t = omega arith

-- ---- the number of blocks by other names

pub count_same : (size W x y first last : ℕ) → W ≡ size_width size → x ≡ first → y ≡ last → length (range_blocks W x y) ≡ length (range_blocks (size_width size) first last)
count_same size W x y first last w p q = ap length (ap₂ (λ (k m : ℕ). range_blocks k m y) w p ∙ ap (range_blocks (size_width size) first) q)

-- ---- the address to go on from

pub later : (from last : ℕ) → last < from → from ≡ max from (suc last)
later from last h = omega arith

pub next_behind : (from last one sum m : ℕ) → sum ≡ min (last + one) m → one ≡ 1 → from ≤ last → last < m → sum ≡ max from (suc last)
next_behind from last one sum m e o h l = omega arith

-- the address before one that is above another
pub one_before : (first one less : ℕ) → less ≡ first - one → one ≡ 1 → less ≡ first - 1
one_before first one less e o = omega arith

-- ---- the last address of all

under : (x p q : ℕ) → x < p - 1 → p ≤ q → x < q - 1
under x p q h l = omega arith

pub below_top : {size : ℕ} → IsSize size → (x : ℕ) → x < 2 ^ size_width size - 1 → x < 2 ^ 128 - 1
below_top {size} s x h = under x (2 ^ size_width size) (2 ^ 128) h (pow_mono (size_most s))
