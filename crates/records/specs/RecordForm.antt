-- A record and the call that reads it, to be held beside 01, "Blocks and ranges" and "Why a call says no". Assumes nothing.
use Rattle.std.specs.Prelude.{◌≡◌, List, [], ◌∷◌, ◌++◌, ℕ, ◌-◌, ◌%◌, ◌^◌, ◌≤◌, ◌<◌, length}
use Rattle.address.specs.declared.Block.{Block}
use Rattle.address.specs.declared.Refusal.TheVariants.{Malformed, LengthTooLarge, BitsBeyondLength}
use Rattle.address.specs.Addresses.{IsAddress, width, number}
use Rattle.address.specs.Answers.{Answer, gives, refuses, no_block}
use Rattle.octets.specs.Octets.{octets}

-- "4 or 16 address bytes, then one length byte": the bytes are the record of a block value
pub data RecordForm : List ℕ → Block → Type 0 where
  address_length : {b : Block} → IsAddress b.address → RecordForm (octets b.address ++ b.length ∷ []) b

-- what reading bytes as a record answers: the block, or a refusal with the address 0.0.0.0 and the length 0
pub data RecordCall (bs : List ℕ) : Answer Block → Type 0 where
  -- 2: "not of the form asked for": another number of bytes than 5 or 17
  no_record : (length bs ≡ 5 → ⊥) → (length bs ≡ 17 → ⊥) → RecordCall bs (refuses no_block Malformed)
  -- 4: "a length or bit count is above 32 (IPv4) or 128 (IPv6)"
  length_above : {b : Block} → RecordForm bs b → width b.address < b.length → RecordCall bs (refuses no_block LengthTooLarge)
  -- 5: "a block's address has a one bit beyond its length"
  bits_beyond_lem : {b : Block} → RecordForm bs b → b.length ≤ width b.address → (number b.address % 2 ^ (width b.address - b.length) ≡ 0 → ⊥)
      → RecordCall bs (refuses no_block BitsBeyondLength)
  block_record_lem : {b : Block} → RecordForm bs b → b.length ≤ width b.address → number b.address % 2 ^ (width b.address - b.length) ≡ 0
      → RecordCall bs (gives b)
