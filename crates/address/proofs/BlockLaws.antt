-- A block's refusal told by tests, and what readers of a block answer by it. Assumes nothing.
use Rattle.std.specs.Prelude.{Some}
use mathlib.Core.Path.{◌≡◌, sym, ap, ◌∙◌}
use mathlib.Core.Bool.{true, false, false≢true}
use Prim.Native.Nat.{◌-◌, ◌%◌, ◌^◌, ◌≤◌, ◌<◌}
use native.Mathlib.Omega.{arith}
use borrow.Author.Tests.{lt-ltb, le-ltb}
use lib.Dec.{eqb}
use Rattle.address.specs.declared.Block.{Block}
use Rattle.address.specs.declared.Refusal.{Refusal}
use Rattle.address.specs.Addresses.{width, number}
use Rattle.address.specs.Answers.{holds, precedence, refusal_number, gives, refuses, no_block, read_answer}
use Rattle.address.specs.Blocks.{block_reasons, block_refusal}
use Rattle.address.proofs.AnswerLaws.{answer_gives, answer_refuses}
use Rattle.address.proofs.OrderLaws.{refusal_holds}

pub refusal_length : (b : Block) → width b.address < b.length → block_refusal b ≡ 4
unfolding block_refusal
refusal_length b h = rw (lt-ltb (width b.address) b.length h)

module _ (b : Block) (h : b.length ≤ width b.address) where
  pub refusal_bits : eqb (number b.address % 2 ^ (width b.address - b.length)) 0 ≡ false → block_refusal b ≡ 5
  unfolding block_refusal
  refusal_bits e = rw (le-ltb (width b.address) b.length h, e)

  pub refusal_neither : eqb (number b.address % 2 ^ (width b.address - b.length)) 0 ≡ true → block_refusal b ≡ 0
  unfolding block_refusal
  refusal_neither e = rw (le-ltb (width b.address) b.length h, e)

-- the room of a buffer is no reason of a block's own
pub block_not_3 : (b : Block) → ¬ (block_refusal b ≡ 3)
unfolding block_refusal
block_not_3 b e =
    let held : holds (block_refusal b) (block_reasons b) ≡ true = refusal_holds (block_reasons b) precedence (omega (arith, e)) in
    false≢true (ap (λ n. holds n (block_reasons b)) (sym e) ∙ held)

-- ---- answers of readers of a block

module _ (b : Block) where
  pub read_valid : block_refusal b ≡ 0 → gives b ≡ read_answer precedence no_block (block_reasons b) (Some b)
  unfolding block_refusal read_answer
  read_valid h = answer_gives no_block b _ h

  pub read_refused : (e : Refusal) → refusal_number e ≡ block_refusal b → refuses no_block e ≡ read_answer precedence no_block (block_reasons b) (Some b)
  unfolding block_refusal read_answer
  read_refused e h = answer_refuses no_block b _ e h
