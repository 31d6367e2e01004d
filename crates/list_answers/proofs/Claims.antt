-- What is claimed of a gathered list and of what a list does not cover (02, Req 01): of what the two calls answer, and of what the buffer then
-- holds. `old` is the buffer before the call, and `gives (count, n)` a good answer of count blocks in n bytes. Assumes nothing.
use mathlib.Core.Path.{◌≡◌, refl, sym, ap, ◌∙◌}
use mathlib.Core.Logic.{inl, inr, ◌↔◌}
use mathlib.Core.Bool.{true}
use mathlib.Core.List.{List, [], ◌∷◌, ◌++◌}
use Prim.Native.Nat.{ℕ, ◌+◌, ◌-◌, ◌*◌, ◌^◌, ◌≤◌, ◌<◌}
use native.Mathlib.Nat.{mul-le-mul_left}
use native.Mathlib.Omega.{arith}
use lib.ListN.{length, take, drop, replicate}
use Rattle.notation.specs.BigEndian.{AllBelow}
use Rattle.cover.specs.Blocks.{Block, CoveredBy, AllBlocks, Rising, Exactly, Fewest}
use Rattle.lists.specs.Lists.{gathered_blocks, uncovered_blocks, SameMembers}
use Rattle.lists.proofs.Claims as lists
use Rattle.address.specs.declared.Refusal.TheVariants.{NoRoom, WrongFamily, TooMany}
use Rattle.address.specs.Answers.{gives, refuses}
use Rattle.records.specs.Records.{record_size, records_of}
use Rattle.records.proofs.Claims.{records_size}
use Rattle.record_lists.specs.RecordLists.{is_family, family_width, most_records, list_blocks, list_refusal}
use Rattle.record_lists.proofs.GoodLaws as list
use Rattle.record_lists.proofs.Claims.{family_exactly, two_families}
use Rattle.list_answers.specs.ListAnswers.{gathered_list, uncovered_list, blocks_answer, blocks_leave, gather_answer, gather_leaves, uncovered_answer, uncovered_leaves, HoldsFewestOf}
use Rattle.list_answers.proofs.AnswerLaws as laws

-- ---- a list of records, and what it is gathered to

module _ (f : ℕ) (bytes : List ℕ) (small : AllBelow 256 bytes) where
  abbrev W : ℕ
  W = family_width f

  abbrev bs : List Block
  bs = list_blocks f bytes

  module _ (fine : list_refusal f bytes ≡ 0) where
    valid : AllBlocks W bs
    valid = laws.fine_valid f bytes small fine

    gathered_few : Fewest W (CoveredBy W bs) (gathered_list f bytes)
    gathered_few = lists.gathered_is_fewest W bs valid

    uncovered_few : Fewest W (λ x. ¬ CoveredBy W bs x) (uncovered_list f bytes)
    uncovered_few = lists.uncovered_is_fewest W bs valid

  module _ (old : List ℕ) (count n : ℕ) where
    -- "The fewest blocks covering exactly the same addresses, rising, in a second lent buffer": so a good answer's records are. "Every other rising
    -- list with the same cover must be longer."
    pub gather_fewest : gather_answer f bytes old ≡ gives (count, n) → HoldsFewestOf W (CoveredBy W bs) (count, n) old (gather_leaves f bytes old)
    gather_fewest good = laws.holds f bytes (gathered_list f bytes) old count n good gathered_few

    -- "Also give the list of what is not covered, by the same rule."
    pub uncovered_fewest : uncovered_answer f bytes old ≡ gives (count, n) → HoldsFewestOf W (λ x. ¬ CoveredBy W bs x) (count, n) old (uncovered_leaves f bytes old)
    uncovered_fewest good = laws.holds f bytes (uncovered_list f bytes) old count n good uncovered_few

  -- ---- a second call on the records that the first has left

  known : list_refusal f bytes ≡ 0 → is_family f ≡ true
  known fine = (list.fine f bytes fine).family

  module _ (old : List ℕ) (count n : ℕ) (good : uncovered_answer f bytes old ≡ gives (count, n)) (buf : List ℕ) where
    -- "Asking for that twice gives the gathered list, wherever the first answer is within the record limit": the second call then answers what
    -- gathering the first list answers, and leaves what that leaves, whatever the second buffer.
    pub twice : count ≤ most_records
        → let seen = take n (uncovered_leaves f bytes old) in (uncovered_answer f seen buf ≡ gather_answer f bytes buf) × (uncovered_leaves f seen buf ≡ gather_leaves f bytes buf)
    twice =
        let us = uncovered_list f bytes in
        let fine = laws.good_fine f bytes us old count n good in
        laws.second f bytes us old count n good uncovered_few buf (uncovered_blocks W) (gathered_list f bytes) (lists.twice W bs (valid fine))

    -- Beyond the limit the second call is refused by 10.
    pub twice_too_many : most_records < count
        → let seen = take n (uncovered_leaves f bytes old) in (uncovered_answer f seen buf ≡ refuses (0, 0) TooMany) × (uncovered_leaves f seen buf ≡ buf)
    twice_too_many = laws.second_many f bytes (uncovered_list f bytes) old count n good uncovered_few buf _

  -- Gathering a gathered list changes nothing.
  pub again : (old : List ℕ) (count n : ℕ) → gather_answer f bytes old ≡ gives (count, n) → (buf : List ℕ)
      → let seen = take n (gather_leaves f bytes old) in (gather_answer f seen buf ≡ gather_answer f bytes buf) × (gather_leaves f seen buf ≡ gather_leaves f bytes buf)
  again old count n good buf =
      let gs = gathered_list f bytes in
      let fine = laws.good_fine f bytes gs old count n good in
      let less = lists.no_longer W bs (valid fine) in
      let few : count ≤ most_records = omega (arith, laws.good_count f bytes gs old count n good, less, list.as_many f bytes, (list.fine f bytes fine).few) in
      laws.second f bytes gs old count n good gathered_few buf (gathered_blocks W) gs (lists.again W bs (valid fine)) few

  -- ---- refusal 3, by the cover

  -- Of `gather`: exactly if the list is not refused, and the records of no rising list of blocks with its cover fit.
  module _ (old : List ℕ) where
    pub gather_3 : ((gather_answer f bytes old).number ≡ 3)
        ↔ ((list_refusal f bytes ≡ 0) × ((cs : List Block) → AllBlocks W cs → Rising cs → Exactly W (CoveredBy W bs) cs → length old < length (records_of W cs)))
    gather_3 = laws.none_fits f bytes (gathered_list f bytes) old gathered_few

    -- and of `uncovered`: of what it does not cover.
    pub uncovered_3 : ((uncovered_answer f bytes old).number ≡ 3)
        ↔ ((list_refusal f bytes ≡ 0) × ((cs : List Block) → AllBlocks W cs → Rising cs → Exactly W (λ x. ¬ CoveredBy W bs x) cs → length old < length (records_of W cs)))
    uncovered_3 = laws.none_fits f bytes (uncovered_list f bytes) old uncovered_few

    -- ---- room

    module _ (fine : list_refusal f bytes ≡ 0) where
      -- A buffer as long as the list always suffices to gather it,
      pub room_of_list : length bytes ≤ length old → (gather_answer f bytes old).number ≡ 0
      room_of_list room =
          let gs = gathered_list f bytes in
          let most = mul-le-mul_left (record_size W) (lists.no_longer W bs (valid fine)) in
          let long = list.list_whole f bytes (list.fine f bytes fine).whole ∙ ap (λ (k : ℕ). record_size W * k) (sym (list.as_many f bytes)) in
          (laws.zero_exactly f bytes gs old).1 (fine, omega (arith, room, long, most, records_size W gs))

      -- and one of 79,365 bytes of IPv4, or of 1,105,425 of IPv6, for what it does not cover: one block, and 31 or 127 more for each of 512 records.
      pub room_uncovered : (f ≡ 4 → 79365 ≤ length old) → (f ≡ 6 → 1105425 ≤ length old) → (uncovered_answer f bytes old).number ≡ 0
      room_uncovered four six =
          let us = uncovered_list f bytes in
          let most : (w n : ℕ) → W ≡ w → record_size w * (1 + 512 * (w - 1)) ≡ n → length (records_of W us) ≤ n = λ w n e b.
          omega (
            arith,
            records_size W us,
            laws.enough W (length bs) (length us) (omega (arith, list.as_many f bytes, (list.fine f bytes fine).few))
                (lists.uncovered_at_most W bs (valid fine) (laws.some_bits f)),
            ap (λ (k : ℕ). record_size k * (1 + 512 * (k - 1))) e,
            b,
          ) in
          (laws.zero_exactly f bytes us old).1 (
            fine,
            elim (two_families f _ _ ((family_exactly f).0 (known fine))) [
              | inl (e, k, w) ↦ omega (arith, four e, most 32 79365 w refl)
              | inr (e, k, w) ↦ omega (arith, six e, most 128 1105425 w refl)
            ],
          )

      -- Where the list covers every address, nothing is left over, and the buffer stays.
      pub all_covered : ((x : ℕ) → x < 2 ^ W → CoveredBy W bs x) → (uncovered_answer f bytes old ≡ gives (0, 0)) × (uncovered_leaves f bytes old ≡ old)
      all_covered all = laws.none_written f bytes (uncovered_list f bytes) old fine ((lists.none_uncovered W bs (valid fine)).1 all)

-- ---- two lists of records

module _ (f : ℕ) (bytes others : List ℕ) (small : AllBelow 256 bytes) (fine : list_refusal f bytes ≡ 0) (fine-too : list_refusal f others ≡ 0) (old : List ℕ) where
  good_blocks : AllBlocks (family_width f) (list_blocks f bytes)
  good_blocks = laws.fine_valid f bytes small fine

  -- Lists with the same cover are answered alike, and leave the same, whatever the buffer:
  module _ (small-too : AllBelow 256 others) (same : (x : ℕ) → CoveredBy (family_width f) (list_blocks f bytes) x ↔ CoveredBy (family_width f) (list_blocks f others) x) where
    good_others : AllBlocks (family_width f) (list_blocks f others)
    good_others = laws.fine_valid f others small-too fine-too

    pub same_cover : (gather_answer f bytes old ≡ gather_answer f others old) × (gather_leaves f bytes old ≡ gather_leaves f others old)
    same_cover = laws.as_blocks f bytes others _ _ fine fine-too (lists.same_cover (family_width f) _ good_blocks _ good_others same) old

    pub same_cover_uncovered : (uncovered_answer f bytes old ≡ uncovered_answer f others old) × (uncovered_leaves f bytes old ≡ uncovered_leaves f others old)
    same_cover_uncovered = laws.as_blocks f bytes others _ _ fine fine-too (lists.same_cover_uncovered (family_width f) _ good_blocks _ good_others same) old

  -- "overlapping and in any order": so are lists of the same blocks, in any order and any number of times.
  module _ (z : Block) (same : SameMembers z (list_blocks f bytes) (list_blocks f others)) where
    pub same_members : (gather_answer f bytes old ≡ gather_answer f others old) × (gather_leaves f bytes old ≡ gather_leaves f others old)
    same_members = laws.as_blocks f bytes others _ _ fine fine-too (lists.same_members (family_width f) _ good_blocks _ z same) old

    pub same_members_uncovered : (uncovered_answer f bytes old ≡ uncovered_answer f others old) × (uncovered_leaves f bytes old ≡ uncovered_leaves f others old)
    same_members_uncovered = laws.as_blocks f bytes others _ _ fine fine-too (lists.same_members_uncovered (family_width f) _ good_blocks _ z same) old

-- ---- by which number a call is refused: of either call, whose answer is `blocks_answer` of its own blocks bs

module _ (f : ℕ) (bytes : List ℕ) (bs : List Block) (old : List ℕ) where
  -- "Order: 9, 2, 10, then 4 and 5, then 3": a list that is refused is refused by its own number, whatever the room,
  pub number_of_list : ¬ (list_refusal f bytes ≡ 0) → (blocks_answer f bytes bs old).number ≡ list_refusal f bytes
  number_of_list = laws.own_number f bytes bs old

  -- by 3 exactly if it is not, and the buffer is shorter than the records,
  pub number_3 : ((blocks_answer f bytes bs old).number ≡ 3) ↔ ((list_refusal f bytes ≡ 0) × (length old < length (records_of (family_width f) bs)))
  number_3 = laws.three_exactly f bytes bs old

  -- and the answer is good exactly if it is not, and they have room.
  pub number_0 : ((blocks_answer f bytes bs old).number ≡ 0) ↔ ((list_refusal f bytes ≡ 0) × (length (records_of (family_width f) bs) ≤ length old))
  number_0 = laws.zero_exactly f bytes bs old

  -- A good answer tells how many blocks and bytes were written, and the buffer holds those bytes, and what stood behind them.
  pub good_written : (blocks_answer f bytes bs old).number ≡ 0 → let records = records_of (family_width f) bs in
      (blocks_answer f bytes bs old ≡ gives (length bs, length records)) × (blocks_leave f bytes bs old ≡ records ++ drop (length records) old)
  good_written e = let (fine, room) = number_0.0 e in laws.written f bytes bs old fine room

  -- A refusal, whichever it is, has zero in every other field, and alters nothing.
  pub refused_alters_nothing : ¬ ((blocks_answer f bytes bs old).number ≡ 0) → ((blocks_answer f bytes bs old).fields ≡ (0, 0)) × (blocks_leave f bytes bs old ≡ old)
  refused_alters_nothing = laws.refused f bytes bs old

-- ---- no bytes at all

module _ (f : ℕ) (known : is_family f ≡ true) (old : List ℕ) where
  -- The empty list is gathered to the empty list.
  pub empty_gathered : (gather_answer f [] old ≡ gives (0, 0)) × (gather_leaves f [] old ≡ old)
  empty_gathered = laws.none_written f [] (gathered_list f []) old (laws.empty_fine f known) (ap (gathered_blocks (family_width f)) (laws.empty_blocks f) ∙ lists.empty (family_width f))

  -- It leaves all addresses uncovered, which are one block: address 0 and length 0, a record of zeros.
  pub empty_uncovered : let size = record_size (family_width f) in size ≤ length old
      → (uncovered_answer f [] old ≡ gives (1, size)) × (uncovered_leaves f [] old ≡ replicate size 0 ++ drop size old)
  empty_uncovered room =
      laws.one_written f [] (uncovered_list f []) old (laws.empty_fine f known) (record { address = 0; length = 0 })
      (ap (uncovered_blocks (family_width f)) (laws.empty_blocks f) ∙ lists.empty_uncovered (family_width f)) (replicate (record_size (family_width f)) 0) (laws.zeros f) room

-- ---- computed: the definitions run, on bytes

-- 10.0.0.2/31 and 10.0.0.0/31, which falls, are 10.0.0.0/30; what stands behind its record stays.
pub halves_joined : (gather_answer 4 (10 ∷ 0 ∷ 0 ∷ 2 ∷ 31 ∷ 10 ∷ 0 ∷ 0 ∷ 0 ∷ 31 ∷ []) (1 ∷ 2 ∷ 3 ∷ 4 ∷ 5 ∷ 6 ∷ []) ≡ gives (1, 5))
    × (gather_leaves 4 (10 ∷ 0 ∷ 0 ∷ 2 ∷ 31 ∷ 10 ∷ 0 ∷ 0 ∷ 0 ∷ 31 ∷ []) (1 ∷ 2 ∷ 3 ∷ 4 ∷ 5 ∷ 6 ∷ []) ≡ 10 ∷ 0 ∷ 0 ∷ 0 ∷ 30 ∷ 6 ∷ [])
unfolding blocks_answer blocks_leave gathered_blocks list_blocks
halves_joined = (refl, refl)

-- 10.0.0.1/32 and 10.0.0.2/32 touch, and are not the halves of a block: they stay two.
pub no_halves : gather_leaves 4 (10 ∷ 0 ∷ 0 ∷ 2 ∷ 32 ∷ 10 ∷ 0 ∷ 0 ∷ 1 ∷ 32 ∷ []) (0 ∷ 0 ∷ 0 ∷ 0 ∷ 0 ∷ 0 ∷ 0 ∷ 0 ∷ 0 ∷ 0 ∷ []) ≡ 10 ∷ 0 ∷ 0 ∷ 1 ∷ 32 ∷ 10 ∷ 0 ∷ 0 ∷ 2 ∷ 32 ∷ []
unfolding blocks_leave gathered_blocks list_blocks
no_halves = refl

-- 10.0.0.0/8 takes in 10.1.0.0/16, and the record of 11.0.0.0/8 makes it 10.0.0.0/7.
pub nested : gather_leaves 4 (10 ∷ 0 ∷ 0 ∷ 0 ∷ 8 ∷ 10 ∷ 1 ∷ 0 ∷ 0 ∷ 16 ∷ 11 ∷ 0 ∷ 0 ∷ 0 ∷ 8 ∷ []) (0 ∷ 0 ∷ 0 ∷ 0 ∷ 0 ∷ []) ≡ 10 ∷ 0 ∷ 0 ∷ 0 ∷ 7 ∷ []
unfolding blocks_leave gathered_blocks list_blocks
nested = refl

-- The last two addresses of IPv6 are the halves of a block.
pub last_6 : let ones : List ℕ = replicate 15 255 in
    gather_leaves 6 ((ones ++ 255 ∷ 128 ∷ []) ++ ones ++ 254 ∷ 128 ∷ []) (replicate 17 0) ≡ ones ++ 254 ∷ 127 ∷ []
unfolding blocks_leave gathered_blocks list_blocks
last_6 = refl

-- what 64.0.0.0/2 leaves: 0.0.0.0/2 and 128.0.0.0/1
pub left_over : (uncovered_answer 4 (64 ∷ 0 ∷ 0 ∷ 0 ∷ 2 ∷ []) (replicate 10 0) ≡ gives (2, 10))
    × (uncovered_leaves 4 (64 ∷ 0 ∷ 0 ∷ 0 ∷ 2 ∷ []) (replicate 10 0) ≡ 0 ∷ 0 ∷ 0 ∷ 0 ∷ 2 ∷ 128 ∷ 0 ∷ 0 ∷ 0 ∷ 1 ∷ [])
unfolding blocks_answer blocks_leave uncovered_blocks list_blocks
left_over = (refl, refl)

-- The order of refusals: family 0 with a part of a record is 9; of records with the length 255, 2 stands before 10, and 10, which begins at 513
-- records, before 4; of a record with the length 33 and one with a bit beyond its length the first decides, whichever it is; and each of them
-- stands before 3.
pub nine_first : gather_answer 0 (1 ∷ []) [] ≡ refuses (0, 0) WrongFamily
unfolding blocks_answer
nine_first = refl

pub two_before_ten : (gather_answer 4 (replicate 2566 255) []).number ≡ 2
unfolding blocks_answer
two_before_ten = refl

pub ten : (gather_answer 4 (replicate 2565 255) []).number ≡ 10
unfolding blocks_answer
ten = refl

pub up_to_512 : gather_answer 4 (replicate 2560 0) (replicate 5 1) ≡ gives (1, 5)
unfolding blocks_answer gathered_blocks list_blocks
up_to_512 = refl

pub first_bad_by_5 : (gather_answer 4 (0 ∷ 0 ∷ 0 ∷ 1 ∷ 31 ∷ 0 ∷ 0 ∷ 0 ∷ 0 ∷ 33 ∷ []) []).number ≡ 5
unfolding blocks_answer list_blocks
first_bad_by_5 = refl

pub first_bad_by_4 : (uncovered_answer 4 (0 ∷ 0 ∷ 0 ∷ 0 ∷ 33 ∷ 0 ∷ 0 ∷ 0 ∷ 1 ∷ 31 ∷ []) []).number ≡ 4
unfolding blocks_answer list_blocks
first_bad_by_4 = refl

pub three_last : gather_answer 4 (10 ∷ 0 ∷ 0 ∷ 0 ∷ 31 ∷ []) (0 ∷ 0 ∷ 0 ∷ 0 ∷ []) ≡ refuses (0, 0) NoRoom
unfolding blocks_answer gathered_blocks list_blocks
three_last = refl
