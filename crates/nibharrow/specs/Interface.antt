-- The C interface: the outcome of each call. An address crosses as its octets; bytes that are no address are refusal 2 (decision 4).
-- Assumes nothing.
use Rattle.std.specs.Prelude.{cond, not, List, ℕ, eqb}
use Rattle.address.specs.declared.Address.{Address}
use Rattle.address.specs.declared.Block.{Block}
use Rattle.address.specs.Addresses.{number}
use Rattle.address.specs.Answers.{Answer, write_answer, write_leaves}
use Rattle.address.specs.Blocks.{block_refusal}
use Rattle.octets.specs.Octets.{octets, octets_answer}
use Rattle.normal.specs.Normal.{normal_text}
use Rattle.network.specs.NetworkText.{network_text, write_network_refusal}
use Rattle.network.specs.Network.{network_answer, network_leaves}
use Rattle.classes.specs.Classes.{split_answer}
use Rattle.blocks.specs.BlockText.{block_text_answer, block_text}
use Rattle.ranges.specs.Ranges.{range_answer, range_leaves}
use Rattle.list_answers.specs.ListAnswers.{gather_answer, gather_leaves, uncovered_answer, uncovered_leaves}
use Rattle.sheet_answers.specs.SheetAnswers.{respell_answer, respell_leaves}
use Rattle.words.specs.Words.{words_text, words_refusal}
use Rattle.c_answers.specs.CAnswers.{besides}

-- ---- outcomes

-- what a call answers, and the whole of its lent buffer afterwards
pub record Outcome (A : Type 0) : Type 0 where
  pub answers : Answer A
  pub leaves : List ℕ

abbrev pub outcome : {A : Type 0} → Answer A → List ℕ → Outcome A
outcome a old = record { answers = a; leaves = old }

-- What follows from the value of an answer; a refusal stands, "with every other field zero".
unfoldable pub when_given : {A B : Type 0} → (ℕ → B) → Answer A → (A → B) → B
when_given refused a f = cond (eqb a.number 0) (f a.fields) (refused a.number)

abbrev pub refused_by : {A : Type 0} → A → ℕ → Answer A
refused_by zeros n = record { number = n; fields = zeros }

-- the same for a call that is lent a buffer, of which "no byte differs from before"
abbrev pub and_then : {A B : Type 0} → B → List ℕ → Answer A → (A → Outcome B) → Outcome B
and_then zeros old = when_given (λ n. outcome (refused_by zeros n) old)

-- bytes written to the start of the buffer, or a refusal by the number n
abbrev pub writes : ℕ → List ℕ → List ℕ → Outcome ℕ
writes n bytes old = outcome (write_answer n bytes old) (write_leaves n bytes old)

-- ---- the calls

-- the address of an answer, put into a lent buffer: `nibharrow_read_address`, `nibharrow_read_loose`, `nibharrow_join`
unfoldable pub address_into : Answer Address → List ℕ → Outcome ℕ
address_into a old = and_then 0 old a (λ x. writes 0 (octets x) old)

-- `nibharrow_write_address`
unfoldable pub address_written : List ℕ → List ℕ → Outcome ℕ
address_written bytes old = and_then 0 old (octets_answer bytes) (λ a. writes 0 (normal_text a) old)

-- `nibharrow_read_network`
unfoldable pub network_into : List ℕ → List ℕ → Outcome (ℕ × ℕ)
network_into t old = outcome (network_answer t old) (network_leaves t old)

-- `nibharrow_write_network`
abbrev pub network_writes : Address → ℕ → List ℕ → Outcome ℕ
network_writes a size old = writes (write_network_refusal a size) (network_text (number a) size) old

unfoldable pub network_written : List ℕ → ℕ → List ℕ → Outcome ℕ
network_written bytes size old = and_then 0 old (octets_answer bytes) (λ a. network_writes a size old)

-- `nibharrow_split`
unfoldable pub octets_split : List ℕ → Answer (ℕ × ℕ)
octets_split bytes = when_given (refused_by (0, 0)) (octets_answer bytes) split_answer

-- `nibharrow_read_block`: the length, and the address in the buffer
unfoldable pub block_into : List ℕ → List ℕ → Outcome (ℕ × ℕ)
block_into t old = and_then (0, 0) old (block_text_answer t) (λ b. outcome (besides b.length (write_answer 0 (octets b.address) old)) (write_leaves 0 (octets b.address) old))

-- `nibharrow_write_block`
abbrev pub block_writes : Address → ℕ → List ℕ → Outcome ℕ
block_writes a n old = let b : Block = record { address = a; length = n } in writes (block_refusal b) (block_text b) old

unfoldable pub block_written : List ℕ → ℕ → List ℕ → Outcome ℕ
block_written bytes n old = and_then 0 old (octets_answer bytes) (λ a. block_writes a n old)

-- `nibharrow_range_blocks`
unfoldable pub range_to : Address → Answer Address → List ℕ → Outcome (ℕ × ℕ)
range_to first last old = and_then (0, 0) old last (λ b. outcome (range_answer first b old) (range_leaves first b old))

unfoldable pub range_into : List ℕ → List ℕ → List ℕ → Outcome (ℕ × ℕ)
range_into first last old = and_then (0, 0) old (octets_answer first) (λ a. range_to a (octets_answer last) old)

-- `nibharrow_gather`, `nibharrow_uncovered`: the family number comes with the records
unfoldable pub gather_into : ℕ → List ℕ → List ℕ → Outcome (ℕ × ℕ)
gather_into f records old = outcome (gather_answer f records old) (gather_leaves f records old)

unfoldable pub uncovered_into : ℕ → List ℕ → List ℕ → Outcome (ℕ × ℕ)
uncovered_into f records old = outcome (uncovered_answer f records old) (uncovered_leaves f records old)

-- `nibharrow_respell`: any number but 0 asks for the lines sorted
unfoldable pub respell_into : ℕ → List ℕ → List ℕ → Outcome ℕ
respell_into sorted t old = outcome (respell_answer (not (eqb sorted 0)) t old) (respell_leaves (not (eqb sorted 0)) t old)

-- `nibharrow_refusal_text`
unfoldable pub words_into : ℕ → List ℕ → Outcome ℕ
words_into n old = writes (words_refusal n) (words_text n) old
