-- What is claimed of answers, addresses and blocks. Assumes nothing.
use Rattle.std.specs.Prelude.{Ok, Err, Result, Some, None}
use Rattle.std.specs.Ordering.{partial_lt}
use Rattle.std.specs.declared.cmp.Ordering.TheVariants.{Less, Equal, Greater}
use mathlib.Core.Path.{◌≡◌, refl, sym, ap, ap₂, ◌∙◌}
use mathlib.Core.Logic.{◌⊎◌, inl, inr, ◌↔◌}
use mathlib.Core.Bool.{Bool, true, false, and-eq-true_iff, false≢true}
use mathlib.Core.List.{List, [], ◌∷◌, ◌++◌, map}
use Prim.Native.Nat.{ℕ, ◌+◌, ◌-◌, ◌*◌, ◌/◌, ◌%◌, ◌^◌, ◌≤◌, ◌<◌}
use native.Mathlib.Decide.{dec_le, dec_lt, ℕ_discrete}
use native.Mathlib.Omega.{arith}
use borrow.Author.Tests.{eqb-true, ltb-true, eq-eqb, ne_eqb}
use lib.Arith.{digits_lt}
use lib.Dec.{eqb, ltb}
use lib.ListN.{length, take, drop, get_or, replicate}
use lib.Pow.{high, low}
use Rattle.wide.proofs.Aligned.{aligned_nothing}
use Rattle.cover.specs.Blocks.{IsBlock}
use Rattle.address.specs.declared.Address.{Address}
use Rattle.address.specs.declared.Address.TheVariants.{V4, V6}
use Rattle.address.specs.declared.Block.{Block}
use Rattle.address.specs.declared.Refusal.{Refusal}
use Rattle.address.specs.declared.Refusal.TheVariants.{TextTooLong, Malformed, NoRoom, LengthTooLarge, BitsBeyondLength, NoClass, HostTooLarge, FirstAboveLast, WrongFamily, TooMany}
use Rattle.address.specs.Answers.{Answer, Cases, given, not_given, result_answer, refusal_number, RefusalOf, first_of, holds, refusal, precedence, gives, refuses, no_address, no_block, reading_answer, writing_answer, block_answer, write_refusal, write_answer, write_leaves}
use Rattle.address.specs.Addresses.{IsAddress, family, width, number, address_order, same_address}
use Rattle.address.specs.Blocks.{numbered, too_long, bits_beyond, block_refusal, same_block}
use Rattle.address.specs.contracts.AddressPartialEq.TheImpl as equality
use Rattle.address.specs.contracts.AddressPartialOrd.TheImpl as order
use Rattle.address.specs.contracts.BlockPartialEq.TheImpl as block_equality
use Rattle.address.proofs.AddressLaws.{order_exactly, width_follows}
use Rattle.address.proofs.AddressLaws as addresses
use Rattle.address.proofs.AnswerLaws.{number_pos, number_most}
use Rattle.address.proofs.AnswerLaws as laws
use Rattle.address.proofs.BlockLaws.{refusal_length, refusal_bits, refusal_neither, block_not_3}
use Rattle.address.proofs.OrderLaws as orders

-- ---- refusals

-- the refusals in the order of their numbers
abbrev refusals : List Refusal
refusals = TextTooLong ∷ Malformed ∷ NoRoom ∷ LengthTooLarge ∷ BitsBeyondLength ∷ NoClass ∷ HostTooLarge ∷ FirstAboveLast ∷ WrongFamily ∷ TooMany ∷ []

refusal_at : (e : Refusal) → get_or refusals (refusal_number e - 1) Malformed ≡ e
refusal_at TextTooLong = refl
refusal_at Malformed = refl
refusal_at NoRoom = refl
refusal_at LengthTooLarge = refl
refusal_at BitsBeyondLength = refl
refusal_at NoClass = refl
refusal_at HostTooLarge = refl
refusal_at FirstAboveLast = refl
refusal_at WrongFamily = refl
refusal_at TooMany = refl

-- No two refusals have one number.
pub one_number : (e f : Refusal) → refusal_number e ≡ refusal_number f → e ≡ f
one_number e f h = sym (refusal_at e) ∙ ap (λ (n : ℕ). get_or refusals (n - 1) Malformed) h ∙ refusal_at f

-- And none has the number of a good answer.
pub number_above_0 : (e : Refusal) → 0 < refusal_number e
number_above_0 = number_pos

-- What is taken for a refusal's number is that refusal; so each of 1 to 10 is taken for the one that has it.
pub number_back : (e : Refusal) (r : Result Refusal Refusal) → RefusalOf (refusal_number e) r → r ≡ Ok e
number_back e (Ok f) h = ap Ok (one_number f e h.2)
number_back e (Err f) h = absurd (h.0 (number_pos e, number_most e))

-- ---- the order of refusals

-- "Given exactly when": a number holds exactly if it is listed with a condition that does.
pub holds_exactly : (n : ℕ) (cs : List (ℕ × Bool))
    → (holds n cs ≡ true) ↔ ((before : List (ℕ × Bool)) × (after : List (ℕ × Bool)) × (cs ≡ before ++ (n, true) ∷ after))
holds_exactly n cs = (orders.holds_listed n cs, λ p. ap (holds n) p.2 ∙ orders.listed_holds n p.0 p.1)

-- The first condition that holds decides, whatever stands behind it;
pub first_decides : (before after : List (ℕ × Bool)) (n : ℕ) → map (λ c. c.1) before ≡ replicate (length before) false → first_of (before ++ (n, true) ∷ after) ≡ n
unfolding first_of
first_decides [] after n h = refl
first_decides ((m, t) ∷ before) after n h = rw (ap (λ ts. get_or ts 0 false) h) (first_decides before after n (ap (drop 1) h))

-- where none holds, nothing is refused;
pub none_holds : (conditions : List (ℕ × Bool)) → map (λ c. c.1) conditions ≡ replicate (length conditions) false → first_of conditions ≡ 0
unfolding first_of
none_holds [] h = refl
none_holds ((m, t) ∷ conditions) h = rw (ap (λ ts. get_or ts 0 false) h) (none_holds conditions (ap (drop 1) h))

-- and what is refused is listed with a condition that holds.
pub first_holds : (conditions : List (ℕ × Bool)) → 0 < first_of conditions → holds (first_of conditions) conditions ≡ true
first_holds = orders.first_holds

-- 01's order has every refusal of 01: one whose condition alone holds is given.
pub every_judged : (e : Refusal) → refusal_number e ≤ 9 → refusal precedence ((refusal_number e, true) ∷ []) ≡ refusal_number e
unfolding refusal
every_judged TextTooLong h = refl
every_judged Malformed h = refl
every_judged NoRoom h = refl
every_judged LengthTooLarge h = refl
every_judged BitsBeyondLength h = refl
every_judged NoClass h = refl
every_judged HostTooLarge h = refl
every_judged FirstAboveLast h = refl
every_judged WrongFamily h = refl
every_judged TooMany h = absurd (omega arith)

module _ (reasons : List (ℕ × Bool)) where
  -- A call's refusal is one that holds, whatever the order.
  pub refusal_holds : (order : List ℕ) → 0 < refusal order reasons → holds (refusal order reasons) reasons ≡ true
  refusal_holds = orders.refusal_holds reasons

  -- And where one holds, the refusal is that one or one that stands before it in the order.
  pub refusal_first : (order : List ℕ) (i : ℕ) → i < length order → holds (get_or order i 0) reasons ≡ true → (j : ℕ) × (j ≤ i) × (refusal order reasons ≡ get_or order j 0)
  refusal_first = orders.refusal_first reasons

  -- Where no number of the order holds, nothing is refused, whatever else is listed.
  pub refusal_none : (order : List ℕ) → ((i : ℕ) → i < length order → holds (get_or order i 0) reasons ≡ false) → refusal order reasons ≡ 0
  refusal_none = orders.refusal_none reasons

  -- A writer's refusal is the one that its order gives with 3 put behind it: "the lent buffer is shorter than the bytes the answer needs".
  module _ (unlisted : holds 3 reasons ≡ false) (bytes old : List ℕ) where
    pub room_behind : (order : List ℕ) → ((i : ℕ) → i < length order → (0 < get_or order i 0) × ¬ (get_or order i 0 ≡ 3))
        → write_refusal (refusal order reasons) bytes old ≡ refusal (order ++ 3 ∷ []) ((3, ltb (length old) (length bytes)) ∷ reasons)
    room_behind = orders.room_behind reasons unlisted bytes old

    -- 01's order is such a one: 3 is last in it.
    pub room_last : write_refusal (refusal precedence reasons) bytes old ≡ refusal precedence ((3, ltb (length old) (length bytes)) ∷ reasons)
    unfolding refusal orders.others
    room_last =
        let before3 : List ℕ = 9 ∷ 1 ∷ 2 ∷ 4 ∷ 5 ∷ 6 ∷ 7 ∷ 8 ∷ [] in
        ap (λ n. write_refusal n bytes old) (orders.unlisted_last reasons unlisted before3) ∙ orders.room_after reasons unlisted bytes old before3 refl

-- ---- lent buffers

-- Of a call that writes bytes, where its other conditions give the number n:
module _ (n : ℕ) (bytes old : List ℕ) where
  -- "A good answer changes only the first bytes it counts; later bytes stay." The bytes that it counts are those to be written, all of them.
  pub written_held : (k : ℕ) → write_answer n bytes old ≡ gives k
      → (take k (write_leaves n bytes old) ≡ bytes) × (k ≡ length bytes) × (k ≤ length old) × (drop k (write_leaves n bytes old) ≡ drop k old)
  written_held = laws.written_held n bytes old

  -- "A refusal returns its number with every other field zero, and no byte of a lent buffer differs from before."
  pub write_refused : ¬ ((write_answer n bytes old).number ≡ 0) → ((write_answer n bytes old).fields ≡ 0) × (write_leaves n bytes old ≡ old)
  write_refused = laws.write_refused n bytes old

  -- Whatever the answer, the buffer is as long as before.
  pub length_stays : length (write_leaves n bytes old) ≡ length old
  length_stays = laws.write_length n bytes old

  -- "refusal 3 exactly if the room is less", where no other refusal comes first
  pub room_exactly : ¬ (n ≡ 3) → ((write_answer n bytes old).number ≡ 3) ↔ ((n ≡ 0) × (length old < length bytes))
  unfolding write_answer
  room_exactly = laws.refusal_3 bytes old n

  -- and it is good exactly if nothing else is refused and the bytes fit
  pub good_exactly : (write_answer n bytes old ≡ gives (length bytes)) ↔ ((n ≡ 0) × (length bytes ≤ length old))
  good_exactly = (λ e. (laws.good_no_reason n bytes old (length bytes) e, (written_held (length bytes) e).2), λ p. laws.write_good n bytes old p.0 p.1)

-- ---- a promise about the paper's answer fixes the code's answer

module _ {A : Type 0} where
  pub gives_one : {a b : A} → gives a ≡ gives b → a ≡ b
  gives_one h = ap (λ (r : Answer A). r.fields) h

  pub gives_refuses : {a zeros : A} (e : Refusal) → gives a ≡ refuses zeros e → ⊥
  gives_refuses e h = omega (arith, number_above_0 e, ap (λ (r : Answer A). r.number) h)

  refuses_one : {zeros : A} (e f : Refusal) → refuses zeros e ≡ refuses zeros f → e ≡ f
  refuses_one e f h = one_number e f (ap (λ (r : Answer A). r.number) h)

  module _ {R : Type 0} (value : A → R) (refused : Refusal → R) (zeros : A) (says : R → Answer A)
      (value_says : (a : A) → says (value a) ≡ gives a) (refused_says : (e : Refusal) → says (refused e) ≡ refuses zeros e) where
    -- Two answers of the code that say the same are the same, whatever type holds them.
    pub one_answer : (r s : R) → Cases value refused r → Cases value refused s → says r ≡ says s → r ≡ s
    one_answer _ _ (given a) (given b) h = ap value (gives_one (sym (value_says a) ∙ h ∙ value_says b))
    one_answer _ _ (given a) (not_given f) h = absurd (gives_refuses f (sym (value_says a) ∙ h ∙ refused_says f))
    one_answer _ _ (not_given e) (given b) h = absurd (gives_refuses e (sym (value_says b) ∙ sym h ∙ refused_says e))
    one_answer _ _ (not_given e) (not_given f) h = ap refused (refuses_one e f (sym (refused_says e) ∙ h ∙ refused_says f))

  result_cases : (r : Result A Refusal) → Cases Ok Err r
  result_cases (Ok a) = given a
  result_cases (Err e) = not_given e

  -- So it is of the results that the calls return.
  pub one_result : (zeros : A) (r s : Result A Refusal) → result_answer zeros r ≡ result_answer zeros s → r ≡ s
  one_result zeros r s = one_answer Ok Err zeros (result_answer zeros) (λ a. refl) (λ e. refl) r s (result_cases r) (result_cases s)

pub one_reading : (r s : Result Address Refusal) → reading_answer r ≡ reading_answer s → r ≡ s
one_reading = one_result no_address

pub one_writing : (r s : Result ℕ Refusal) → writing_answer r ≡ writing_answer s → r ≡ s
one_writing = one_result 0

pub one_block_reading : (r s : Result Block Refusal) → block_answer r ≡ block_answer s → r ≡ s
one_block_reading = one_result no_block

-- ---- equality

-- Two addresses are the same exactly if the comparison says so.
pub same_means : (a b : Address) → IsAddress a → IsAddress b → (same_address a b ≡ true) ↔ (a ≡ b)
same_means (V4 v) (V4 w) h k = (λ e. ap V4 (eqb-true v w e), λ e. eq-eqb v w (cc))
same_means (V4 v) (V6 hi lo) h k = (λ e. absurd (false≢true e), λ e. absurd (let z : ◌≡◌ {A = ℕ} 0 1 = cc in omega arith))
same_means (V6 hi lo) (V4 v) h k = (λ e. absurd (false≢true e), λ e. absurd (let z : ◌≡◌ {A = ℕ} 0 1 = cc in omega arith))
same_means (V6 hi lo) (V6 hi' lo') h k = (
  λ e.
      let n = eqb-true (hi * 2 ^ 64 + lo) (hi' * 2 ^ 64 + lo') e in
      ap₂ V6 (sym (high hi 64 h.1) ∙ ap (λ (x : ℕ). x / 2 ^ 64) n ∙ high hi' 64 k.1) (sym (low hi 64 h.1) ∙ ap (λ (x : ℕ). x % 2 ^ 64) n ∙ low hi' 64 k.1),
  λ e. eq-eqb (hi * 2 ^ 64 + lo) (hi' * 2 ^ 64 + lo') (ap number e),
)

-- And the derived `==` is this comparison.
pub equal_means : (a b : Address) → IsAddress a → IsAddress b → equality.ghosts.eq a b ≡ same_address a b
equal_means = addresses.equal_means

-- ---- order

-- The order that `partial_cmp` answers, `None` for two families, is that of the numbers.
pub order_means : (a b : Address) → IsAddress a → IsAddress b → order.ghosts.partial_cmp a b ≡ address_order a b
order_means = addresses.order_means

-- So `a < b` says within a family that the number of a is below that of b.
pub less_means : (a b : Address) → IsAddress a → IsAddress b → family a ≡ family b → partial_lt order.ghosts.partial_cmp a b ≡ ltb (number a) (number b)
less_means = addresses.less_means

-- "Addresses of one family are ordered as numbers of 32 or 128 bits, the first byte highest": each of the three answers exactly if the numbers
-- say so, and the fourth exactly for two families.
module _ (a b : Address) where
  pub below_means : (address_order a b ≡ Some Less) ↔ ((family a ≡ family b) × (number a < number b))
  below_means = order_exactly a b (Some Less)

  pub above_means : (address_order a b ≡ Some Greater) ↔ ((family a ≡ family b) × (number b < number a))
  above_means = order_exactly a b (Some Greater)

  pub apart_means : (address_order a b ≡ None) ↔ ¬ (family a ≡ family b)
  apart_means = order_exactly a b None

  -- The same are only equal addresses.
  pub order_same_means : IsAddress a → IsAddress b → (address_order a b ≡ Some Equal) ↔ (a ≡ b)
  order_same_means h k = (
    λ e. let s = (order_exactly a b (Some Equal)).0 e in (same_means a b h k).0 (rw (eq-eqb (family a) (family b) s.0, eq-eqb (number a) (number b) s.1)),
    λ e. (order_exactly a b (Some Equal)).1 (ap family e, ap number e),
  )

  -- The order of one family is total,
  pub order_total : family a ≡ family b → (address_order a b ≡ Some Less) ⊎ (address_order a b ≡ Some Equal) ⊎ (address_order a b ≡ Some Greater)
  order_total e = elim (dec_lt (number a) (number b)) [
    | yes l ↦ inl (below_means.1 (e, l))
    | no n ↦ elim (dec_lt (number b) (number a)) [
      | yes l ↦ inr (inr (above_means.1 (e, l)))
      | no m ↦ inr (inl ((order_exactly a b (Some Equal)).1 (e, omega (arith, n, m))))
    ]
  ]

-- turns with its arguments,
pub order_swapped : (a b : Address) → (address_order a b ≡ Some Less) ↔ (address_order b a ≡ Some Greater)
order_swapped a b = (
  λ e. let s = (below_means a b).0 e in (above_means b a).1 (sym s.0, s.1),
  λ e. let s = (above_means b a).0 e in (below_means a b).1 (sym s.0, s.1),
)

-- and is transitive.
pub order_transitive : (a b c : Address) → address_order a b ≡ Some Less → address_order b c ≡ Some Less → address_order a c ≡ Some Less
order_transitive a b c e f = let s = (below_means a b).0 e in let t = (below_means b c).0 f in (below_means a c).1 (s.0 ∙ t.0, omega (arith, s.1, t.1))

-- "An address is a value of one of two kinds, IPv4 or IPv6, and carries its kind": family 4 with 32 bits or family 6 with 128, and no third.
pub two_kinds : (a : Address) → ((family a ≡ 4) × (width a ≡ 32)) ⊎ ((family a ≡ 6) × (width a ≡ 128))
two_kinds (V4 v) = inl (refl, refl)
two_kinds (V6 hi lo) = inr (refl, refl)

pub one_width : (a b : Address) → (family a ≡ family b) ↔ (width a ≡ width b)
one_width a b = (width_follows a b, back a b)
  where
    back : (a b : Address) → width a ≡ width b → family a ≡ family b
    back (V4 v) (V4 w) e = refl
    back (V4 v) (V6 hi lo) e = absurd (omega arith)
    back (V6 hi lo) (V4 v) e = absurd (omega arith)
    back (V6 hi lo) (V6 h l) e = refl

-- Two block values are the same exactly if the comparison says so.
pub same_block_means : (a b : Block) → IsAddress a.address → IsAddress b.address → (same_block a b ≡ true) ↔ (a ≡ b)
same_block_means a b h k = (
  λ e.
      let both = (and-eq-true_iff (same_address a.address b.address) (eqb a.length b.length)).0 e in
      let p = (same_means a.address b.address h k).0 both.0 in
      let q = eqb-true a.length b.length both.1 in
      λ i. record { address = p i; length = q i },
  λ e.
      (and-eq-true_iff (same_address a.address b.address) (eqb a.length b.length)).1 (
        (same_means a.address b.address h k).1 (ap (λ x. x.address) e),
        eq-eqb a.length b.length (ap (λ x. x.length) e),
      ),
)

-- And the derived `==` is this comparison.
pub block_equal_means : (a b : Block) → IsAddress a.address → IsAddress b.address → block_equality.ghosts.eq a b ≡ same_block a b
block_equal_means = addresses.block_equal_means

-- ---- blocks

-- The number of an address has no more bits than its family.
pub address_below : (a : Address) → IsAddress a → number a < 2 ^ width a
address_below (V4 v) h = h
address_below (V6 hi lo) h = digits_lt h.0 h.1

-- A block value is not refused exactly if it is a block of its family's width.
pub valid_means : (b : Block) → IsAddress b.address → (block_refusal b ≡ 0) ↔ IsBlock (width b.address) (numbered b)
valid_means b h = (to, from)
  where
    W : ℕ
    W = width b.address

    rest : ℕ
    rest = number b.address % 2 ^ (W - b.length)

    to : block_refusal b ≡ 0 → IsBlock W (numbered b)
    to e = elim (dec_le b.length W) [
      | yes s ↦ elim (ℕ_discrete rest 0) [
        | yes z ↦ record { below = address_below b.address h; short = s; aligned = z }
        | no n ↦ absurd (omega (arith, e, refusal_bits b s (ne_eqb rest 0 n)))
      ]
      | no n ↦ absurd (omega (arith, e, refusal_length b (omega (arith, n))))
    ]

    from : IsBlock W (numbered b) → block_refusal b ≡ 0
    from B = refusal_neither b B.short (eq-eqb rest 0 B.aligned)

-- No block value breaks both rules: a length above the width leaves blocks of one address.
pub never_both : (b : Block) → too_long b ≡ true → bits_beyond b ≡ false
never_both b e =
    let none : width b.address - b.length ≡ 0 = omega (arith, ltb-true (width b.address) b.length e) in
    rw none (rw (aligned_nothing (number b.address)) refl)

-- A call that writes a block value by its reasons is good only for a block.
pub written_valid : (b : Block) → IsAddress b.address → (bytes old : List ℕ) (n : ℕ) → write_answer (block_refusal b) bytes old ≡ gives n → IsBlock (width b.address) (numbered b)
written_valid b h bytes old n e = (valid_means b h).0 (laws.good_no_reason (block_refusal b) bytes old n e)

-- It is good exactly if the block value is a block and the bytes fit, and refusal 3 exactly if it is a block and the room is less.
module _ (b : Block) (h : IsAddress b.address) (bytes old : List ℕ) where
  pub block_good_exactly : (write_answer (block_refusal b) bytes old ≡ gives (length bytes)) ↔ (IsBlock (width b.address) (numbered b) × (length bytes ≤ length old))
  block_good_exactly =
      let good = good_exactly (block_refusal b) bytes old in
      let valid = valid_means b h in
      (λ e. let g = good.0 e in (valid.0 g.0, g.1), λ p. good.1 (valid.1 p.0, p.1))

  pub block_room_exactly : ((write_answer (block_refusal b) bytes old).number ≡ 3) ↔ (IsBlock (width b.address) (numbered b) × (length old < length bytes))
  block_room_exactly =
      let room = room_exactly (block_refusal b) bytes old (block_not_3 b) in
      let valid = valid_means b h in
      (λ e. let r = room.0 e in (valid.0 r.0, r.1), λ p. room.1 (valid.1 p.0, p.1))
