-- Block text, the call that reads it and what is written, to be held beside 01, "Blocks and ranges" (RFC 4632 section 3.1, RFC 4291 section 2.3).
-- Assumes nothing.
use Rattle.std.specs.Prelude.{◌≡◌, List, ◌∷◌, ◌++◌, ℕ, ◌-◌, ◌%◌, ◌^◌, ◌≤◌, ◌<◌, length}
use Rattle.address.specs.declared.Address.{Address}
use Rattle.address.specs.declared.Block.{Block}
use Rattle.address.specs.declared.Refusal.TheVariants.{TextTooLong, Malformed, LengthTooLarge, BitsBeyondLength}
use Rattle.address.specs.Addresses.{width, number}
use Rattle.address.specs.Answers.{Answer, gives, refuses, no_block}
use Rattle.grammar.specs.StrictForm.{StrictForm}
use Rattle.grammar.specs.NormalForm.{NormalForm}
use Rattle.grammar.specs.NetworkForm.{slash, SizePart}

-- "strict address text of either family, a slash, a length in the size's digits"
pub data BlockForm : List ℕ → Address → ℕ → Type 0 where
  prefix : {t u : List ℕ} {a : Address} {n : ℕ} → StrictForm 0 t a → SizePart u n → BlockForm (t ++ slash ∷ u) a n

-- what reading such a text answers: the block, or a refusal with the address 0.0.0.0 and the length 0
pub data BlockCall (t : List ℕ) : Answer Block → Type 0 where
  -- 1: "the text is longer than 64 bytes"
  too_long : 64 < length t → BlockCall t (refuses no_block TextTooLong)
  -- 2: "the text is not of the form asked for, the empty text included"
  not_block : length t ≤ 64 → ((a : Address) (n : ℕ) → BlockForm t a n → ⊥) → BlockCall t (refuses no_block Malformed)
  -- 4: "a length or bit count is above 32 (IPv4) or 128 (IPv6)"
  length_above : {a : Address} {n : ℕ} → BlockForm t a n → width a < n → BlockCall t (refuses no_block LengthTooLarge)
  -- 5: "a block's address has a one bit beyond its length"
  bits_beyond_lem : {a : Address} {n : ℕ} → BlockForm t a n → n ≤ width a → (number a % 2 ^ (width a - n) ≡ 0 → ⊥)
      → BlockCall t (refuses no_block BitsBeyondLength)
  read_block : {a : Address} {n : ℕ} → BlockForm t a n → n ≤ width a → number a % 2 ^ (width a - n) ≡ 0
      → BlockCall t (gives (record { address = a; length = n }))

-- ---- writing

-- "Text is written from a block value in normal text": that of the address, a slash and the length
pub data WrittenBlock : Address → ℕ → List ℕ → Type 0 where
  normal_prefix : {t u : List ℕ} {a : Address} {n : ℕ} → NormalForm t a → SizePart u n → WrittenBlock a n (t ++ slash ∷ u)
