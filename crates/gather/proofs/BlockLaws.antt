-- The block of a record, as the code reads it. Assumes nothing.
use mathlib.Core.Path.{◌≡◌, refl, sym, ap, ap₂, subst, ◌∙◌}
use mathlib.Core.Logic.{inl, inr}
use mathlib.Core.List.{List, [], ◌∷◌}
use Prim.Native.Nat.{ℕ, suc, ◌+◌, ◌-◌, ◌*◌, ◌/◌, ◌%◌, ◌^◌, ◌≤◌, ◌<◌, min}
use native.Mathlib.Omega.{arith}
use lib.ListN.{length, take, drop, get_or, length-drop}
use lib.Pow.{pow_mono, pow_pos, pow-lt}
use lib.Seq.{length-take-le, get_or-drop}
use Rattle.notation.specs.BigEndian.{number_of}
use Rattle.wide.specs.declared.Wide.{Wide}
use Rattle.wide.specs.Value.{value}
use Rattle.wide.proofs.Halves.{one_shifted}
use Rattle.cover.specs.Blocks.{Block, IsBlock, range_blocks, after}
use Rattle.cover.proofs.Interval.{after_le}
use Rattle.cover.proofs.Range.{range_step, range_done}
use Rattle.address.specs.declared.Address.{Address}
use Rattle.address.specs.declared.Refusal.{Refusal}
use Rattle.address.specs.Addresses.{number}
use Rattle.address.specs.Answers.{Answer, gives, refuses, no_address}
use Rattle.address.proofs.AnswerLaws.{number_pos}
use Rattle.octets.specs.Octets.{octets_answer}
use Rattle.octets.proofs.Claims.{number_is}
use Rattle.octets.proofs.OctetLaws.{read_4, read_6}
use Rattle.records.specs.Records.{record_size, read_record}
use Rattle.record_lists.specs.Inner.{IsSize, size_width}
use Rattle.record_lists.proofs.ListLaws.{size_back}
use Rattle.gather.specs.declared.Family.{Family}
use Rattle.gather.specs.declared.Family.TheVariants.{V4, V6}
use Rattle.gather.specs.Inner.{size_of, numbers, record_at, InList}

-- ---- sizes

pub is_size : (f : Family) → IsSize (size_of f)
is_size V4 = inl refl
is_size V6 = inr refl

pub size_octets : {size : ℕ} → IsSize size → size_width size / 8 ≡ size - 1
size_octets {size} s = elim s [ inl e ↦ omega arith | inr e ↦ omega arith ]

pub size_most : {size : ℕ} → IsSize size → size_width size ≤ 128
size_most {size} s = elim s [ inl e ↦ omega arith | inr e ↦ omega arith ]

pub size_some : {size : ℕ} → IsSize size → (5 ≤ size) × (size ≤ 17)
size_some {size} s = elim s [ inl e ↦ (omega arith, omega arith) | inr e ↦ (omega arith, omega arith) ]

-- ---- the record at an index

module _ {size i : ℕ} {bytes : List ℕ} (l : InList size i bytes) where
  abbrev W : ℕ
  W = size_width size

  at_size : i * record_size W ≡ i * size
  at_size = ap (λ (n : ℕ). i * n) (size_back size l.sized)

  abbrev rest : List ℕ
  rest = drop (i * size) bytes

  -- the octets that the code takes
  abbrev part : List ℕ
  part = take (i * size + size - 1 - i * size) rest

  part_is : part ≡ take (W / 8) rest
  part_is = let e : i * size + size - 1 - i * size ≡ W / 8 = omega (arith, size_octets l.sized, (size_some l.sized).0) in ap (λ (n : ℕ). take n rest) e

  part_length : length part ≡ size - 1
  part_length = ap length part_is ∙ length-take-le (W / 8) rest (omega (arith, size_octets l.sized, l.inside, length-drop (i * size) bytes, (size_some l.sized).0)) ∙ size_octets l.sized

  at_address : (record_at W bytes i).address ≡ number_of 256 part
  unfolding read_record
  at_address = ap (λ (n : ℕ). number_of 256 (take (W / 8) (drop n bytes))) at_size ∙ ap (number_of 256) (sym part_is)

  pub at_read : (a : Address) → gives a ≡ octets_answer part → (n : ℕ) → n ≡ number a → n ≡ (record_at W bytes i).address
  at_read a e n p = p ∙ (number_is part a (sym e)).1 ∙ sym at_address

  pub at_refused : (e : Refusal) → refuses no_address e ≡ octets_answer part → ⊥
  at_refused e h = elim l.sized [
    | inl s ↦ wrong (ap (λ (r : Answer Address). r.number) (read_4 part _ (omega (arith, part_length)) refl))
    | inr s ↦ wrong (ap (λ (r : Answer Address). r.number) (read_6 part _ _ (omega (arith, part_length)) refl refl))
  ]
    where
      wrong : 0 ≡ (octets_answer part).number → ⊥
      wrong z = omega (arith, number_pos e, ap (λ (r : Answer Address). r.number) h)

  pub at_inside : i * size + (size - 1) < length bytes
  at_inside = omega (arith, l.inside, (size_some l.sized).0)

  pub at_length : (record_at W bytes i).length ≡ get_or bytes (i * size + (size - 1)) 0
  unfolding read_record
  at_length =
      ap (λ (n : ℕ). get_or (drop n bytes) (W / 8) 0) at_size ∙ get_or-drop (i * size) bytes (W / 8) 0
      ∙ ap (λ (n : ℕ). get_or bytes (i * size + n) 0) (size_octets l.sized)

  -- the block that the code has
  pub at_block : (a : Wide) → value a ≡ (record_at W bytes i).address → numbers a (get_or bytes (i * size + (size - 1)) 0) ≡ record_at W bytes i
  at_block a e = let f = sym at_length in λ t. record { address = e t; length = f t }

-- ---- the last address of a block

last_exact : (p q a s r : ℕ) → r ≡ min (a + (s - 1)) (p - 1) → 0 < s → a + s ≤ q → q ≤ p → r ≡ a + s - 1
last_exact p q a s r e h l m = omega arith

pub block_last : {size : ℕ} → size ≡ 17 → (b : Block) → IsBlock (size_width size) b → (one r : ℕ) → one ≡ 2 ^ min (128 - b.length) 128 - 1
    → r ≡ min (b.address + one) (2 ^ 128 - 1) → r ≡ after (size_width size) b - 1
block_last {size} s b B one r p e =
    let k = size_width size - b.length in
    let small : min (128 - b.length) 128 ≡ k = omega arith in
    let o : one ≡ 2 ^ k - 1 = p ∙ ap (λ (j : ℕ). 2 ^ j - 1) small in
    last_exact (2 ^ 128) (2 ^ size_width size) b.address (2 ^ k) r (e ∙ ap (λ (x : ℕ). min (b.address + x) (2 ^ 128 - 1)) o) (pow_pos k) (after_le B) (pow_mono (let w : size_width size ≤ 128 = omega arith in w))

-- a block is the one block of its range
pub range_one : {W : ℕ} (b : Block) → IsBlock W b → range_blocks W b.address (after W b - 1) ≡ b ∷ []
range_one {W} b B =
    let k = W - b.length in
    let pos = pow_pos k in
    let last = after W b - 1 in
    let more : 2 ^ k < 2 ^ suc k = pow-lt (omega arith) in
    range_step W last b.address k (omega (arith, B.short)) (record { aligned = B.aligned; room = omega arith }) (inr (λ m. omega (arith, m.room, more)))
    ∙ ap₂ ◌∷◌ (λ i. record { address = b.address; length = (let e : W - k ≡ b.length = omega (arith, B.short) in e) i }) (range_done W last (b.address + 2 ^ k) (omega arith))

-- ---- a number of one half

half : (hi lo : ℕ) → hi * 18446744073709551616 + lo < 4294967296 → hi ≡ 0
half hi lo h = omega arith

module _ {size : ℕ} (s : size ≡ 5) (a : Wide) (h : value a < 2 ^ size_width size) where
  narrow : value a < 4294967296
  narrow = subst (λ (n : ℕ). value a < 2 ^ size_width n) s h

  pub low_value : a.lo ≡ value a
  low_value = omega (arith, half a.hi a.lo narrow)

  pub low_fits : a.lo < 4294967296
  low_fits = omega (arith, low_value, narrow)

-- the last address of a block of IPv4, in the lower half alone
module _ {size : ℕ} (s : size ≡ 5) (a : Wide) (n : ℕ) (B : IsBlock (size_width size) (numbers a n)) where
  width_4 : size_width size ≡ 32
  width_4 = omega arith

  free : 1 * 2 ^ (32 - n) % 2 ^ 64 ≡ 2 ^ (32 - n)
  free = one_shifted (32 - n) (omega arith)

  pub last_some : 1 ≤ 1 * 2 ^ (32 - n) % 2 ^ 64
  last_some = omega (arith, free, pow_pos (32 - n))

  last_le : value a + 2 ^ (32 - n) ≤ 4294967296
  last_le = subst (λ (W : ℕ). value a + 2 ^ (W - n) ≤ 2 ^ W) width_4 (after_le B)

  pub last_fits : a.lo + (1 * 2 ^ (32 - n) % 2 ^ 64 - 1) < 18446744073709551616
  last_fits = omega (arith, free, last_le, low_value s a B.below)

  pub last_4 : 0 * 2 ^ 64 + (a.lo + (1 * 2 ^ (32 - n) % 2 ^ 64 - 1)) ≡ after (size_width size) (numbers a n) - 1
  last_4 = subst (λ (W : ℕ). 0 * 2 ^ 64 + (a.lo + (1 * 2 ^ (32 - n) % 2 ^ 64 - 1)) ≡ value a + 2 ^ (W - n) - 1) (sym width_4) (omega (arith, free, pow_pos (32 - n), low_value s a B.below))
