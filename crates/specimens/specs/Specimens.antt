-- The specimens of 01 that are proved: the rows marked P of "Specimens on both sides". Assumes nothing.
use Rattle.std.specs.Prelude.{◌≡◌, List, [], ◌∷◌, ℕ, replicate}
use Prim.Native.String.{String}
use Rattle.notation.specs.BigEndian.{number_of}
use Rattle.notation.specs.Ascii.{ascii}
use Rattle.address.specs.declared.Address.{Address}
use Rattle.address.specs.declared.Address.TheVariants.{V4, V6}
use Rattle.address.specs.declared.Block.{Block}
use Rattle.address.specs.Answers.{Answer, gives, no_address, no_block}
use Rattle.text.specs.Strict.{strict_answer}
use Rattle.normal.specs.Normal.{normal_text}
use Rattle.loose.specs.Loose.{loose_answer}
use Rattle.network.specs.NetworkText.{network_text}
use Rattle.network.specs.Network.{network_answer, network_leaves}
use Rattle.blocks.specs.BlockText.{block_text_answer}
use Rattle.ranges.specs.Ranges.{range_answer, range_leaves}

-- ---- what a row says

-- the outcome that a row expects of a call: the number of its refusal, or the fields of its answer
pub data Expected (A : Type 0) : Type 0 where
  refused : ℕ → Expected A
  answered : A → Expected A

-- A row: what is asked, the input, and the outcome.
pub data Specimen : Type 0 where
  -- a text read as an address, strictly in either family or loosely: the address, and its normal text
  strict : String → Expected (Address × String) → Specimen
  loose : String → Expected (Address × String) → Specimen
  -- a text read in the network form into a lent buffer: the size and the number of bytes, and the buffer afterwards
  network : String → List ℕ → Expected (ℕ × ℕ) → List ℕ → Specimen
  -- a text so read into four bytes, and written from these and the size
  writes_back : String → List ℕ → String → Specimen
  -- a text read as a block
  block : String → Expected Block → Specimen
  -- the addresses from a first to a last, as records in a lent buffer: the number of blocks and of bytes, and the buffer afterwards
  range : Address → Address → List ℕ → Expected (ℕ × ℕ) → List ℕ → Specimen

-- ---- when a row is correct

-- the whole answer: "A refusal returns its number with every other field zero." `zeros` are the fields at zero.
abbrev entire : {A : Type 0} → A → Expected A → Answer A
entire zeros (refused n) = record { number = n; fields = zeros }
entire zeros (answered fields) = gives fields

-- an answer, and the bytes that belong to it
abbrev with_bytes : {A : Type 0} → Answer A → List ℕ → Answer A × List ℕ
with_bytes r bytes = (r, bytes)

-- a reader of addresses gives the outcome
abbrev ReadAs : Answer Address → Expected (Address × String) → Type 0
ReadAs r (refused n) = r ≡ entire no_address (refused n)
ReadAs r (answered o) = with_bytes r (normal_text r.fields) ≡ with_bytes (gives o.0) (ascii o.1)

-- The definitions that the contracts cite give the outcome of the row, all of it.
abbrev pub Correct : Specimen → Type 0
Correct (strict t o) = ReadAs (strict_answer 0 (ascii t)) o
Correct (loose t o) = ReadAs (loose_answer (ascii t)) o
Correct (network t old o new) = with_bytes (network_answer (ascii t) old) (network_leaves (ascii t) old) ≡ with_bytes (entire (0, 0) o) new
Correct (writes_back t old u) = network_text (number_of 256 (network_leaves (ascii t) old)) (network_answer (ascii t) old).fields.0 ≡ ascii u
Correct (block t o) = block_text_answer (ascii t) ≡ entire no_block o
Correct (range first last old o new) = with_bytes (range_answer first last old) (range_leaves first last old) ≡ with_bytes (entire (0, 0) o) new

-- every row of a table is correct
infixr 5 ◌also◌
pub data AllCorrect : List Specimen → Type 0 where
  no_more : AllCorrect []
  ◌also◌ : {s : Specimen} {ss : List Specimen} → Correct s → AllCorrect ss → AllCorrect (s ∷ ss)

-- ---- the table

-- a lent buffer of n bytes, each of them one that no row writes
abbrev lent : ℕ → List ℕ
lent n = replicate n 0xee

-- The rows in the order of 01. One with two inputs is two rows here, and so is one with a text written back.
abbrev pub specimens : List Specimen
specimens =
    strict "010.0.0.12" (refused 2)
    ∷ loose "010.0.0.12" (answered (V4 0x0800000c, "8.0.0.12"))
    ∷ loose "0x7f.1" (answered (V4 0x7f000001, "127.0.0.1"))
    ∷ loose "1.2.65535" (answered (V4 0x0102ffff, "1.2.255.255"))
    ∷ loose "1.2.65536" (refused 2)
    ∷ strict "1:2:3:4:5:6:7::" (answered (V6 0x0001000200030004 0x0005000600070000, "1:2:3:4:5:6:7:0"))
    ∷ strict "1:2:3:4:5:6:7:8::" (refused 2)
    ∷ strict "0:0:0:0:0:FFFF:204.152.189.116" (answered (V6 0 0x0000ffffcc98bd74, "::ffff:cc98:bd74"))
    ∷ strict "2001:db8:0:0:1:0:0:1" (answered (V6 0x20010db800000000 0x0001000000000001, "2001:db8::1:0:0:1"))
    ∷ network "193.168" (lent 4) (answered (24, 3)) (0xc1 ∷ 0xa8 ∷ 0x00 ∷ 0xee ∷ [])
    ∷ network "193.168.1.128/24" (lent 4) (answered (24, 4)) (0xc1 ∷ 0xa8 ∷ 0x01 ∷ 0x80 ∷ [])
    ∷ writes_back "193.168.1.128/24" (lent 4) "193.168.1/24"
    ∷ block "10.0.0.1/31" (refused 5)
    ∷ block "10.0.0.0/33" (refused 4)
    ∷ range (V4 0x00000000) (V4 0xffffffff) (lent 6) (answered (1, 5)) (0x00 ∷ 0x00 ∷ 0x00 ∷ 0x00 ∷ 0x00 ∷ 0xee ∷ [])
    ∷ []
