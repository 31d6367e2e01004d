-- What is claimed of the text of a block: written, and read again (01, "Blocks and ranges"). Assumes nothing.
use Rattle.std.specs.Prelude.{Some}
use mathlib.Core.Path.{◌≡◌}
use mathlib.Core.List.{List}
use Prim.Native.Nat.{ℕ, ◌≤◌}
use native.Mathlib.Omega.{arith}
use lib.ListN.{length, take}
use Rattle.cover.specs.Blocks.{IsBlock}
use Rattle.address.specs.declared.Block.{Block}
use Rattle.address.specs.Addresses.{IsAddress, width}
use Rattle.address.specs.Answers.{gives, write_answer, write_leaves}
use Rattle.address.specs.Blocks.{block_refusal, numbered}
use Rattle.address.proofs.AnswerLaws.{read_held}
use Rattle.address.proofs.Claims.{valid_means, written_valid}
use Rattle.blocks.specs.BlockText.{block_of, block_text_answer, block_text}
use Rattle.blocks.proofs.BlockTextLaws.{width_most, text_most}
use Rattle.blocks.proofs.ReadBackLaws.{text_read_back, answer_back}

-- The text of any block value has an address of at most 39 bytes, a slash and at most three digits.
pub at_most_43 : (b : Block) → length (block_text b) ≤ 43
at_most_43 = text_most

-- Reading the text of a block value gives that value, whether or not it keeps the rules: its length need only have three digits.
pub read_back : (b : Block) → IsAddress b.address → b.length ≤ 999 → block_of (block_text b) ≡ Some b
read_back = text_read_back

-- Demand 2 for blocks: a block that keeps both rules is read back from its text.
pub read_back_answer : (b : Block) → IsAddress b.address → IsBlock (width b.address) (numbered b) → block_text_answer (block_text b) ≡ gives b
read_back_answer b h k = answer_back b h (omega (arith, k.short, width_most b.address)) ((valid_means b h).1 k)

-- Demand 2 for blocks, of what the caller holds: the bytes that the buffer holds after a good call, as many as it says, are read as the
-- block. A good call tells that it keeps both rules.
pub written_read_back : (b : Block) → IsAddress b.address → (old : List ℕ) (n : ℕ) → write_answer (block_refusal b) (block_text b) old ≡ gives n
    → block_text_answer (take n (write_leaves (block_refusal b) (block_text b) old)) ≡ gives b
written_read_back b h old n e = read_held (block_refusal b) (block_text b) old block_text_answer (read_back_answer b h (written_valid b h (block_text b) old n e)) n e
