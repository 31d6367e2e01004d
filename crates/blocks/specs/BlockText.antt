-- Block text (01, "Blocks and ranges"; RFC 4632, RFC 4291 section 2.3). A text is the list of its bytes. Assumes nothing.
use Rattle.std.specs.Prelude.{cond, List, ◌∷◌, ◌++◌, ℕ, suc, ltb, length, take, drop, Option, Some, None, unwrap_or}
use Rattle.notation.specs.Pieces.{contains, index_of}
use Rattle.address.specs.declared.Address.{Address}
use Rattle.address.specs.declared.Block.{Block}
use Rattle.address.specs.Answers.{precedence, Answer, read_answer, no_block}
use Rattle.address.specs.Blocks.{block_reasons}
use Rattle.digits.specs.Numerals.{part_of, decimal}
use Rattle.text.specs.Strict.{strict_of}
use Rattle.normal.specs.Normal.{normal_text}

abbrev pub with_length : Option Address → Option ℕ → Option Block
with_length None n = None
with_length (Some a) None = None
with_length (Some a) (Some n) = Some (record { address = a; length = n })

-- "strict address text of either family, a slash, a length in the size's digits". Any length of that form is read, and judged after it.
unfoldable pub block_of : List ℕ → Option Block
unfolding strict_of contains index_of part_of
block_of t = cond (contains 47 t) (with_length (strict_of 0 (take (index_of 47 t) t)) (part_of 999 (drop (suc (index_of 47 t)) t))) None

-- what reading answers: "the text is longer than 64 bytes", "not of the form asked for", or the block's own refusals
unfoldable pub block_text_answer : List ℕ → Answer Block
unfolding block_of read_answer
block_text_answer t = read_answer precedence no_block ((1, ltb 64 (length t)) ∷ block_reasons (unwrap_or (block_of t) no_block)) (block_of t)

-- "Text is written from a block value in normal text": the address, a slash and the length
unfoldable pub block_text : Block → List ℕ
unfolding normal_text
block_text b = normal_text b.address ++ 47 ∷ decimal b.length
