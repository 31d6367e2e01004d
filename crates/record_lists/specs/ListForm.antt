-- A list of records and the call that reads it, to be held beside 02, Req 01. Assumes nothing.
use Rattle.std.specs.Prelude.{◌≡◌, Bool, true, false, List, [], ◌∷◌, ◌++◌, ℕ, ◌+◌, ◌-◌, ◌*◌, ◌%◌, ◌^◌, ◌≤◌, ◌<◌, length}
use Rattle.notation.specs.BigEndian.{number_of}
use Rattle.cover.specs.Blocks.{Block, IsBlock, AllBlocks, Rising}
use Rattle.address.specs.declared.Refusal.{Refusal}
use Rattle.address.specs.declared.Refusal.TheVariants.{Malformed, LengthTooLarge, BitsBeyondLength, WrongFamily, TooMany}
use Rattle.address.specs.Answers.{Answer, gives, refuses}

-- "one family, which the caller names by 4 or 6": how many bytes and how many bits its addresses have
pub data Family : ℕ → ℕ → ℕ → Type 0 where
  four : Family 4 4 32
  six : Family 6 16 128

-- "4 or 16 address bytes, then one length byte", record after record: what the bytes hold, whether or not it keeps the rules of blocks
pub data Records (k : ℕ) : List ℕ → List Block → Type 0 where
  no_record : Records k [] []
  address_length : (octets : List ℕ) (n : ℕ) {rest : List ℕ} {bs : List Block} → length octets ≡ k → Records k rest bs
      → Records k (octets ++ n ∷ rest) (record { address = number_of 256 octets; length = n } ∷ bs)

-- the rule that a record breaks, "4 before 5"
pub data Breaks (W : ℕ) (b : Block) : Refusal → Type 0 where
  -- 4: "a length or bit count is above 32 (IPv4) or 128 (IPv6)"
  length_above : W < b.length → Breaks W b LengthTooLarge
  -- 5: "a block's address has a one bit beyond its length"
  bits_beyond_lem : b.length ≤ W → (b.address % 2 ^ (W - b.length) ≡ 0 → ⊥) → Breaks W b BitsBeyondLength

-- "the first bad record decides": those before it are blocks, and it breaks that rule, whatever stands behind it
pub data FirstBad (W : ℕ) : List Block → Refusal → Type 0 where
  here : {b : Block} {bs : List Block} {e : Refusal} → Breaks W b e → FirstBad W (b ∷ bs) e
  later : {b : Block} {bs : List Block} {e : Refusal} → IsBlock W b → FirstBad W bs e → FirstBad W (b ∷ bs) e

-- whether no address is below the one before it
pub data Rises (bs : List Block) : Bool → Type 0 where
  rising : Rising bs → Rises bs true
  falling : (Rising bs → ⊥) → Rises bs false

-- what reading a list answers: the number of records and whether they rise, or a refusal with the number 0 and no
pub data ListCall (f : ℕ) (bytes : List ℕ) : Answer (ℕ × Bool) → Type 0 where
  -- "0 is refusal 9 in every call on records", and so is each number that names no family
  no_family : ((k W : ℕ) → Family f k W → ⊥) → ListCall f bytes (refuses (0, false) WrongFamily)
  -- "a byte count that is no whole number of records is refusal 2"
  part_record : {k W : ℕ} → Family f k W → ((n : ℕ) → length bytes ≡ (k + 1) * n → ⊥) → ListCall f bytes (refuses (0, false) Malformed)
  -- "up to 512 records", "more is a new refusal 10"
  too_many : {k W n : ℕ} → Family f k W → length bytes ≡ (k + 1) * n → 512 < n → ListCall f bytes (refuses (0, false) TooMany)
  -- "then 4 and 5"
  bad_record : {k W : ℕ} {bs : List Block} {e : Refusal} → Family f k W → Records k bytes bs → length bs ≤ 512 → FirstBad W bs e → ListCall f bytes (refuses (0, false) e)
  all_blocks : {k W : ℕ} {bs : List Block} {t : Bool} → Family f k W → Records k bytes bs → length bs ≤ 512 → AllBlocks W bs → Rises bs t
      → ListCall f bytes (gives (length bs, t))
