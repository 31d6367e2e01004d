-- Reading the text of a block. Assumes nothing.
use Rattle.std.specs.Prelude.{Some}
use mathlib.Core.Path.{◌≡◌, sym, ◌∙◌}
use mathlib.Core.List.{List, ◌∷◌, ◌++◌}
use Prim.Native.Nat.{ℕ, ◌≤◌}
use native.Mathlib.Omega.{arith}
use Rattle.notation.specs.Pieces.{Lacks}
use Rattle.notation.proofs.SeparatedLaws.{seam}
use Rattle.address.specs.declared.Address.{Address}
use Rattle.address.specs.declared.Block.{Block}
use Rattle.address.specs.Addresses.{IsAddress}
use Rattle.address.specs.Answers.{gives}
use Rattle.address.specs.Blocks.{block_refusal}
use Rattle.address.proofs.BlockLaws.{read_valid}
use Rattle.digits.specs.Numerals.{decimal, part_of}
use Rattle.digits.proofs.NumeralLaws.{decimal_part}
use Rattle.text.specs.Strict.{strict_of}
use Rattle.normal.specs.Normal.{normal_text}
use Rattle.normal.proofs.ReadBackLaws.{text_read, text_lacks_slash}
use Rattle.blocks.specs.BlockText.{block_of, block_text_answer, block_text}
use Rattle.blocks.proofs.BlockTextLaws.{answer_checked, text_most}

-- ---- a text with a slash

-- an address before the first slash, and a length behind it
slash_block : (s t : List ℕ) (a : Address) (n : ℕ) → Lacks 47 s → strict_of 0 s ≡ Some a → part_of 999 t ≡ Some n → block_of (s ++ 47 ∷ t) ≡ Some (record { address = a; length = n })
unfolding block_of
slash_block s t a n l e f = let w = seam 47 s t l in rw (w.0, w.1, w.2, e, f)

module _ (b : Block) (h : IsAddress b.address) (l : b.length ≤ 999) where
  pub text_read_back : block_of (block_text b) ≡ Some b
  unfolding block_text
  text_read_back = slash_block (normal_text b.address) (decimal b.length) b.address b.length (text_lacks_slash b.address) (text_read b.address h).0 (decimal_part 999 b.length l (omega arith))

  -- a block that keeps both rules is the answer
  pub answer_back : block_refusal b ≡ 0 → block_text_answer (block_text b) ≡ gives b
  answer_back k = sym (read_valid b k ∙ answer_checked (block_text b) (omega (arith, text_most b)) b text_read_back)
