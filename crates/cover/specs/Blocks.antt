-- Blocks of addresses of W bits, lists of blocks, and the fewest blocks of a set (01, "Blocks and ranges").
-- W is 32 for IPv4 and 128 for IPv6. An address is a number below 2 ^ W. Assumes nothing.
use Rattle.std.specs.Prelude.{◌≡◌, ◌⊎◌, ◌↔◌, Bool, true, false, ◌&&◌, List, [], ◌∷◌, ℕ, zero, suc, ◌+◌, ◌-◌, ◌/◌, ◌%◌, ◌^◌, ◌≤◌, ◌<◌, leb, eqb}
use Rattle.std.proofs.Math.ListN as L

-- What 01 calls a block is a prefix of RFC 4632 and RFC 4291 section 2.3: an address and how many of its first bits count.
pub record Block : Type 0 where
  pub address : ℕ
  pub length : ℕ

-- how many addresses a block has: those with the same first (length) bits
abbrev pub size : ℕ → Block → ℕ
size W b = 2 ^ (W - b.length)

-- the two rules of a block, for an address of W bits
pub record IsBlock (W : ℕ) (b : Block) : Type 0 where
  pub below : b.address < 2 ^ W
  -- its length is at most W
  pub short : b.length ≤ W
  -- its address has no one bit beyond its length
  pub aligned : b.address % size W b ≡ 0

-- x is an address whose first (length) bits are the block's own
pub record Covers (W : ℕ) (b : Block) (x : ℕ) : Type 0 where
  pub below : x < 2 ^ W
  pub agrees : x / size W b ≡ b.address / size W b

-- the address after the block's last
abbrev pub after : ℕ → Block → ℕ
after W b = b.address + size W b

-- ---- lists of blocks

-- the block at position i of the list covers x
abbrev pub CoversAt : ℕ → List Block → ℕ → ℕ → Type 0
CoversAt W [] i x = ⊥
CoversAt W (b ∷ bs) zero x = Covers W b x
CoversAt W (b ∷ bs) (suc i) x = CoversAt W bs i x

-- a list covers what any of its blocks covers
abbrev pub CoveredBy : ℕ → List Block → ℕ → Type 0
CoveredBy W bs x = (i : ℕ) × CoversAt W bs i x

-- a list holding an entry that breaks a rule is no list of blocks
abbrev pub AllBlocks : ℕ → List Block → Type 0
AllBlocks W [] = Unit {0}
AllBlocks W (b ∷ bs) = IsBlock W b × AllBlocks W bs

-- no block's address is below that of the block before it
abbrev pub Rising : List Block → Type 0
Rising [] = Unit {0}
Rising (b ∷ []) = Unit {0}
Rising (b ∷ c ∷ bs) = (b.address ≤ c.address) × Rising (c ∷ bs)

-- the list covers the addresses of the set S, and no others
abbrev pub Exactly : ℕ → (ℕ → Type 0) → List Block → Type 0
Exactly W S bs = (x : ℕ) → x < 2 ^ W → S x ↔ CoveredBy W bs x

-- The fewest blocks of the set S.
pub record Fewest (W : ℕ) (S : ℕ → Type 0) (bs : List Block) : Type 0 where
  pub blocks : AllBlocks W bs
  pub rising : Rising bs
  pub exactly : Exactly W S bs
  -- no address is covered by two blocks
  pub once : (x i j : ℕ) → CoversAt W bs i x → CoversAt W bs j x → i ≡ j
  -- every other rising list of blocks with that cover is longer
  pub fewest : (cs : List Block) → AllBlocks W cs → Rising cs → Exactly W S cs → (cs ≡ bs) ⊎ (L.length bs < L.length cs)

-- ---- the greedy list of a set

-- every address of the block is in S
abbrev pub Inside : ℕ → (ℕ → Type 0) → Block → Type 0
Inside W S b = (x : ℕ) → Covers W b x → S x

-- b starts at the lowest address of S from a on, and is the largest block of S that starts there
pub record Next (W : ℕ) (S : ℕ → Type 0) (a : ℕ) (b : Block) : Type 0 where
  pub block : IsBlock W b
  pub above : a ≤ b.address
  pub lowest : (x : ℕ) → a ≤ x → x < b.address → ¬ S x
  pub inside : Inside W S b
  pub largest : (c : Block) → IsBlock W c → c.address ≡ b.address → Inside W S c → b.length ≤ c.length

-- the list is next block after next block of S, from a on, until nothing of S is left over
pub data Greedy (W : ℕ) (S : ℕ → Type 0) : ℕ → List Block → Type 0 where
  done : {a : ℕ} → ((x : ℕ) → a ≤ x → x < 2 ^ W → ¬ S x) → Greedy W S a []
  next : {a : ℕ} {b : Block} {bs : List Block} → Next W S a b → Greedy W S (after W b) bs → Greedy W S a (b ∷ bs)

-- ---- sizes

-- the sizes of the blocks of a list, added up
abbrev pub total : ℕ → List Block → ℕ
total W [] = 0
total W (b ∷ bs) = size W b + total W bs

-- ---- the blocks of a range

-- the addresses from first to last
abbrev pub Range : ℕ → ℕ → ℕ → Type 0
Range first last x = (first ≤ x) × (x ≤ last)

-- 2 ^ k addresses from a on are a block, and the last of them is at most `last`
abbrev pub may_start : ℕ → ℕ → ℕ → Bool
may_start a last k = eqb (a % 2 ^ k) 0 && leb (a + 2 ^ k) (suc last)

-- the largest of the numbers 1 to m that passes the test, or 0 where none of them does
unfoldable pub greatest : (ℕ → Bool) → ℕ → ℕ
greatest test zero = zero
greatest test (suc m) = elim (test (suc m)) [ true ↦ suc m | false ↦ greatest test m ]

-- the largest exponent k up to W for which that is so; 0 where a is above last
unfoldable pub largest : ℕ → ℕ → ℕ → ℕ
unfolding greatest
largest W a last = greatest (may_start a last) W

-- Blocks from a to last, each the largest that starts where the one before it ends. Each takes one address or more, so that
-- n = last + 1 - a of them are enough.
unfoldable pub blocks_from : ℕ → ℕ → ℕ → ℕ → List Block
unfolding largest
blocks_from W last zero a = []
blocks_from W last (suc n) a =
    let k = largest W a last in
    elim (leb a last) [ true ↦ record { address = a; length = W - k } ∷ blocks_from W last n (a + 2 ^ k) | false ↦ [] ]

-- The blocks of the range from first to last: its fewest, by the theorem `range_is_fewest`.
unfoldable pub range_blocks : ℕ → ℕ → ℕ → List Block
unfolding blocks_from
range_blocks W first last = blocks_from W last (suc last - first) first
