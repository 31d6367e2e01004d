-- A block value: its two rules as refusals, and when two are the same (01, "Blocks and ranges"). Assumes nothing.
use Rattle.std.specs.Prelude.{Bool, ◌&&◌, not, List, [], ◌∷◌, ℕ, ◌%◌, eqb, ltb}
use Rattle.cover.specs.Blocks as cover
use Rattle.address.specs.declared.Block.{Block}
use Rattle.address.specs.Answers.{precedence, refusal}
use Rattle.address.specs.Addresses.{width, number, same_address}

-- the block among the numbers of its family's width
abbrev pub numbered : Block → cover.Block
numbered b = record { address = number b.address; length = b.length }

-- the two rules of `IsBlock` of `cover`, broken: the length is above the width; the address has a one bit beyond the length
abbrev pub too_long : Block → Bool
too_long b = ltb (width b.address) b.length

abbrev pub bits_beyond : Block → Bool
bits_beyond b = not (eqb (number b.address % cover.size (width b.address) (numbered b)) 0)

abbrev pub block_reasons : Block → List (ℕ × Bool)
block_reasons b = (4, too_long b) ∷ (5, bits_beyond b) ∷ []

unfoldable pub block_refusal : Block → ℕ
unfolding refusal
block_refusal b = refusal precedence (block_reasons b)

abbrev pub same_block : Block → Block → Bool
same_block a b = same_address a.address b.address && eqb a.length b.length
