-- What is claimed of the C interface. Assumes nothing.
use Rattle.std.specs.Prelude.{Some, None, unwrap_or}
use mathlib.Core.Path.{◌≡◌, refl, sym, ap, subst, ◌∙◌}
use mathlib.Core.Logic.{◌↔◌}
use mathlib.Core.Bool.{Bool, true, false, not}
use mathlib.Core.List.{List, [], ◌∷◌, ◌++◌, map, Permᴰ}
use Prim.Native.Nat.{ℕ, ◌+◌, ◌*◌, ◌/◌, ◌≤◌, ◌<◌, min, max}
use native.Mathlib.Omega.{arith}
use borrow.Author.Tests.{ne_eqb}
use lib.Dec.{eqb}
use lib.ListN.{length, take, drop}
use Rattle.notation.specs.BigEndian.{AllBelow, digits_of, number_of}
use Rattle.cover.specs.Blocks.{CoveredBy, range_blocks}
use Rattle.address.specs.declared.Address.{Address}
use Rattle.address.specs.declared.Block.{Block}
use Rattle.address.specs.declared.Refusal.{Refusal}
use Rattle.address.specs.declared.Refusal.TheVariants.{Malformed, NoRoom, NoClass}
use Rattle.address.specs.Addresses.{IsAddress, family, width, number}
use Rattle.address.specs.Answers.{Answer, gives, refuses, no_address, no_block, write_answer, write_leaves}
use Rattle.address.specs.Blocks.{block_refusal}
use Rattle.address.proofs.AnswerLaws.{number_pos, write_short, write_fits}
use Rattle.address.proofs.Claims.{written_held}
use Rattle.octets.specs.Octets.{octets, octets_answer}
use Rattle.octets.proofs.Claims.{octets_length, octets_read_back, octets_of_read, is_address, number_is}
use Rattle.text.specs.Strict.{strict_answer}
use Rattle.normal.specs.Normal.{normal_text}
use Rattle.normal.proofs.Claims.{read_back_answer}
use Rattle.normal.proofs.Claims as normal
use Rattle.network.specs.GivenBytes.{zero_filled}
use Rattle.network.specs.NetworkText.{size_bytes, cleared, network_text, write_network_refusal}
use Rattle.network.specs.Network.{Network, network_of, no_network, read_network_refusal, network_answer, network_leaves}
use Rattle.network.proofs.Claims as network
use Rattle.classes.specs.Classes.{split_answer, join_answer}
use Rattle.classes.proofs.Claims as classes
use Rattle.blocks.specs.BlockText.{block_text_answer, block_text}
use Rattle.blocks.proofs.Claims as blocks
use Rattle.records.specs.Records.{record_size, records_of}
use Rattle.ranges.specs.Ranges.{range_records, range_answer, range_leaves, HoldsFewest}
use Rattle.record_lists.specs.RecordLists.{family_width, most_records, list_blocks, list_refusal}
use Rattle.list_answers.specs.ListAnswers.{gathered_list, uncovered_list, blocks_answer, blocks_leave, HoldsFewestOf}
use Rattle.list_answers.proofs.Claims as gather
use Rattle.sheet_lines.specs.declared.Entry.{Entry}
use Rattle.sheet_lines.specs.Lines.{line_entry}
use Rattle.sheet_answers.specs.Sheets.{sheet_of, sheet_lines, sheet_text, arranged}
use Rattle.sheet_answers.specs.SheetAnswers.{respelled, sheet_refusal, respell_answer, respell_leaves}
use Rattle.sheet_answers.proofs.Claims as sheets
use Rattle.words.specs.Words.{words_text, words_refusal}
use Rattle.words.proofs.Claims as words
use Rattle.c_answers.specs.CAnswers.{besides}
use Rattle.nibharrow.specs.Interface.{Outcome, outcome, when_given, writes, address_into, address_written, network_into, network_writes, network_written, octets_split, block_into, block_writes, block_written, range_to, range_into, gather_into, uncovered_into, respell_into, words_into}
use Rattle.nibharrow.specs.Buffers.{Wrote, Answered, Filled}
use Rattle.nibharrow.proofs.InterfaceLaws.{both, when_given_lem, refused_on}
use Rattle.nibharrow.proofs.InterfaceLaws as interface
use Rattle.nibharrow.proofs.RoundTripLaws.{good_writes, outcome_went_on, number_went_on, answer_went_on, split_four}
use Rattle.nibharrow.proofs.RoundTripLaws as laws
use Rattle.nibharrow.proofs.BufferLaws.{judged, after, written, beside, beside_filled, into_filled, good_filled, text_held}

-- ---- demand 1

module _ (old : List ℕ) where
  pub address_into_lem : (a : Answer Address) → Wrote old (address_into a old)
  unfolding address_into
  address_into_lem a = after 0 (λ n. n) old a _ (λ x. written old _ _)

  pub address_written_lem : (bytes : List ℕ) → Wrote old (address_written bytes old)
  unfolding address_written
  address_written_lem bytes = after 0 (λ n. n) old _ _ (λ a. written old _ _)

  pub network_into_lem : (t : List ℕ) → Answered old (network_into t old)
  unfolding network_into network_answer network_leaves write_leaves
  network_into_lem t = judged (0, 0) (λ r. r.1) old _ _ (unwrap_or (network_of t) no_network).bytes refl

  pub network_written_lem : (bytes : List ℕ) (size : ℕ) → Wrote old (network_written bytes size old)
  unfolding network_written
  network_written_lem bytes size = after 0 (λ n. n) old _ _ (λ a. written old _ _)

  pub block_into_lem : (t : List ℕ) → Answered old (block_into t old)
  unfolding block_into
  block_into_lem t = after (0, 0) (λ r. r.1) old _ _ (λ b. beside old b.length 0 (octets b.address))

  pub block_written_lem : (bytes : List ℕ) (n : ℕ) → Wrote old (block_written bytes n old)
  unfolding block_written
  block_written_lem bytes n = after 0 (λ n. n) old _ _ (λ a. written old _ _)

  pub range_into_lem : (first last : List ℕ) → Answered old (range_into first last old)
  unfolding range_into range_to range_answer range_leaves write_leaves
  range_into_lem first last = after (0, 0) (λ r. r.1) old _ _ (λ a. after (0, 0) (λ r. r.1) old _ _ (λ b. judged (0, 0) (λ r. r.1) old _ _ (range_records a b) refl))

  pub gather_into_lem : (f : ℕ) (records : List ℕ) → Answered old (gather_into f records old)
  unfolding gather_into blocks_answer blocks_leave write_leaves
  gather_into_lem f records = judged (0, 0) (λ r. r.1) old _ _ (records_of (family_width f) (gathered_list f records)) refl

  pub uncovered_into_lem : (f : ℕ) (records : List ℕ) → Answered old (uncovered_into f records old)
  unfolding uncovered_into blocks_answer blocks_leave write_leaves
  uncovered_into_lem f records = judged (0, 0) (λ r. r.1) old _ _ (records_of (family_width f) (uncovered_list f records)) refl

  pub respell_into_lem : (sorted : ℕ) (t : List ℕ) → Wrote old (respell_into sorted t old)
  unfolding respell_into respell_answer respell_leaves
  respell_into_lem sorted t = written old (sheet_refusal t) (respelled (not (eqb sorted 0)) t)

  pub words_into_lem : (n : ℕ) → Wrote old (words_into n old)
  unfolding words_into
  words_into_lem n = written old _ _

-- ---- calls on the value of another

-- A refusal of what a call stands on is the call's own, with the same number.
pub refusal_stands : (e : Refusal) (old : List ℕ)
    → ((x : Answer Address) → x ≡ refuses no_address e → address_into x old ≡ outcome (refuses 0 e) old)
    × ((t : List ℕ) → block_text_answer t ≡ refuses no_block e → block_into t old ≡ outcome (refuses (0, 0) e) old)
    × ((t : List ℕ) → network_answer t old ≡ refuses (0, 0) e → network_into t old ≡ outcome (refuses (0, 0) e) old)
    × ((bytes : List ℕ) (a : Address) → octets_answer bytes ≡ gives a → split_answer a ≡ refuses (0, 0) e → octets_split bytes ≡ refuses (0, 0) e)
unfolding address_into block_into network_into octets_split
refusal_stands e old = (
  λ x h. refused_on 0 old _ x no_address e h,
  λ t h. refused_on (0, 0) old _ (block_text_answer t) no_block e h,
  λ t h. both h ((network_into_lem old t).refused (subst (λ (r : Answer (ℕ × ℕ)). 0 < r.number) (sym h) (number_pos e))).1,
  λ bytes a h k. sym (when_given_lem _ _ (octets_answer bytes) a (sym h)) ∙ k,
)

-- Where it stands on a value, it answers and leaves what the call inside it answers and leaves: with an address, a network or a block that is
-- read,
module _ (old : List ℕ) where
  pub address_put : (x : Answer Address) (a : Address) → x ≡ gives a → address_into x old ≡ outcome (write_answer 0 (octets a) old) (write_leaves 0 (octets a) old)
  unfolding address_into
  address_put x a is = sym (when_given_lem _ _ x a (sym is))

  pub network_put : (t : List ℕ) → network_into t old ≡ outcome (network_answer t old) (network_leaves t old)
  unfolding network_into
  network_put t = refl

  pub block_put : (t : List ℕ) (b : Block) → block_text_answer t ≡ gives b
      → let bytes = octets b.address in block_into t old ≡ outcome (besides b.length (write_answer 0 bytes old)) (write_leaves 0 bytes old)
  unfolding block_into
  block_put t b is = sym (when_given_lem _ _ (block_text_answer t) b (sym is))

  -- so that it is refusal 3, "the lent buffer is shorter than the bytes the answer needs", or good;
  pub address_room : (x : Answer Address) (a : Address) → x ≡ gives a
      → (length old < width a / 8 → address_into x old ≡ outcome (refuses 0 NoRoom) old)
      × (width a / 8 ≤ length old → (address_into x old).answers ≡ gives (width a / 8))
  address_room x a is =
      let short = write_short (octets a) old (width a / 8) (octets_length a) in
      let fits = write_fits (octets a) old (width a / 8) (octets_length a) in (
        λ h. address_put x a is ∙ both (sym (short h).0) (sym (short h).1),
        λ h. ap (λ o. o.answers) (address_put x a is) ∙ sym (fits h _ refl).0,
      )

  pub block_room : (t : List ℕ) (b : Block) → block_text_answer t ≡ gives b
      → (length old < width b.address / 8 → block_into t old ≡ outcome (refuses (0, 0) NoRoom) old)
      × (width b.address / 8 ≤ length old → (block_into t old).answers ≡ gives (b.length, width b.address / 8))
  block_room t b is =
      let a = b.address in
      let short = write_short (octets a) old (width a / 8) (octets_length a) in
      let fits = write_fits (octets a) old (width a / 8) (octets_length a) in (
        λ h. block_put t b is ∙ both (ap (besides b.length) (sym (short h).0)) (sym (short h).1),
        λ h. ap (λ o. o.answers) (block_put t b is) ∙ ap (besides b.length) (sym (fits h _ refl).0),
      )

-- and with octets that are an address.
module _ (bytes old : List ℕ) (a : Address) (is : octets_answer bytes ≡ gives a) where
  pub address_taken : address_written bytes old ≡ outcome (write_answer 0 (normal_text a) old) (write_leaves 0 (normal_text a) old)
  unfolding address_written
  address_taken = sym (when_given_lem _ _ (octets_answer bytes) a (sym is))

  pub network_taken : (size : ℕ)
      → let text = network_text (number a) size in network_written bytes size old ≡ outcome (write_answer (write_network_refusal a size) text old) (write_leaves (write_network_refusal a size) text old)
  unfolding network_written
  network_taken size = sym (when_given_lem _ _ (octets_answer bytes) a (sym is))

  pub block_taken : (len : ℕ)
      → let b : Block = record { address = a; length = len } in
      block_written bytes len old ≡ outcome (write_answer (block_refusal b) (block_text b) old) (write_leaves (block_refusal b) (block_text b) old)
  unfolding block_written
  block_taken len = sym (when_given_lem _ _ (octets_answer bytes) a (sym is))

  pub range_taken : (last : List ℕ) (b : Address) → octets_answer last ≡ gives b → range_into bytes last old ≡ outcome (range_answer a b old) (range_leaves a b old)
  unfolding range_into range_to
  range_taken last b is_b = sym (when_given_lem _ _ (octets_answer bytes) a (sym is)) ∙ sym (when_given_lem _ _ (octets_answer last) b (sym is_b))

-- Demand 2 through the interface: the octets of an address are written as its normal text, and that text is read back to the octets, asked
-- for either family or for its own.
pub read_back : (a : Address) → IsAddress a → (old : List ℕ)
    → (address_written (octets a) old ≡ writes 0 (normal_text a) old)
    × (address_into (strict_answer 0 (normal_text a)) old ≡ writes 0 (octets a) old)
    × (address_into (strict_answer (family a) (normal_text a)) old ≡ writes 0 (octets a) old)
unfolding address_into address_written when_given
read_back a h old = let back = read_back_answer a h in (rw (octets_read_back a h), rw back.0, rw back.1)

-- ---- the caller's buffers

-- "An address put into a lent buffer takes 4 or 16 bytes": those that the caller holds after a good call are the octets of the address that
-- was read or joined.
pub address_held : (x : Answer Address) (old : List ℕ) (m : ℕ) → (address_into x old).answers ≡ gives m
    → (x ≡ gives x.fields) × (take m (address_into x old).leaves ≡ octets x.fields) × (m ≡ width x.fields / 8)
unfolding address_into
address_held x old m good =
    let a = x.fields in
    let (is, on, wrote) = outcome_went_on 0 old x (λ a. writes 0 (octets a) old) m good in
    let w = written_held 0 (octets a) old m wrote in
    (is, ap (λ o. take m o.leaves) on ∙ w.0, w.1 ∙ octets_length a)

-- After a good call the caller holds, of every text that is read as a network, the size and the bytes that the text means;
pub network_held : (t old : List ℕ) → (network_into t old).answers.number ≡ 0
    → (n : Network) × (network_of t ≡ Some n) × Filled (n.size, length n.bytes) n.bytes old (network_into t old)
unfolding network_into network_leaves
network_held t old good =
    let (is, answered, wrote) = laws.network_good t old good in
    (unwrap_or (network_of t) no_network, is, good_filled _ (read_network_refusal t (network_of t)) _ old wrote _ answered)

-- of every text that is read as a block, the length and the octets of its address;
pub block_held : (t old : List ℕ) → (block_into t old).answers.number ≡ 0
    → (b : Block) × (block_text_answer t ≡ gives b) × Filled (b.length, width b.address / 8) (octets b.address) old (block_into t old)
unfolding block_into
block_held t old good =
    let b = (block_text_answer t).fields in
    let bytes = octets b.address in
    let put : Block → Outcome (ℕ × ℕ) = λ b. outcome (besides b.length (write_answer 0 (octets b.address) old)) (write_leaves 0 (octets b.address) old) in
    let (is, on, wrote) = number_went_on (0, 0) old (block_text_answer t) put good in
    let answered = ap (besides b.length) (good_writes 0 bytes old wrote) ∙ ap (λ (m : ℕ). gives (b.length, m)) (octets_length b.address) in
    (b, is, subst (Filled _ bytes old) (sym on) (good_filled _ 0 bytes old wrote _ answered))

-- and of octets that are written as a text, the text of their address: all of it, as many bytes as the call says.
module _ (bytes old : List ℕ) where
  pub address_written_held : (address_written bytes old).answers.number ≡ 0
      → (a : Address) × (octets_answer bytes ≡ gives a) × Filled (length (normal_text a)) (normal_text a) old (address_written bytes old)
  unfolding address_written
  address_written_held = text_held old (octets_answer bytes) (λ a. 0) normal_text

  pub network_written_held : (size : ℕ) → (network_written bytes size old).answers.number ≡ 0
      → (a : Address) × (octets_answer bytes ≡ gives a) × (let text = network_text (number a) size in Filled (length text) text old (network_written bytes size old))
  unfolding network_written
  network_written_held size = text_held old (octets_answer bytes) (λ a. write_network_refusal a size) (λ a. network_text (number a) size)

  pub block_written_held : (len : ℕ) → (block_written bytes len old).answers.number ≡ 0
      → (a : Address) × (octets_answer bytes ≡ gives a)
      × (let text = block_text (record { address = a; length = len }) in Filled (length text) text old (block_written bytes len old))
  unfolding block_written
  block_written_held len =
      let block : Address → Block = λ a. record { address = a; length = len } in
      text_held old (octets_answer bytes) (λ a. block_refusal (block a)) (λ a. block_text (block a))

-- Demand 2: octets are written as a text, and that text, the bytes that the caller then holds, is read as the same octets, asked for either
-- family or for that of the address.
pub address_back : (bytes old : List ℕ) (n : ℕ) → AllBelow 256 bytes → (address_written bytes old).answers ≡ gives n → (buf : List ℕ) → length bytes ≤ length buf
    → let text = take n (address_written bytes old).leaves in
    Filled (length bytes) bytes buf (address_into (strict_answer 0 text) buf)
    × Filled (length bytes) bytes buf (address_into (strict_answer (family (octets_answer bytes).fields) text) buf)
unfolding address_written
address_back bytes old n small good buf room =
    let a = (octets_answer bytes).fields in
    let (is, on, wrote) = outcome_went_on 0 old (octets_answer bytes) (λ a. writes 0 (normal_text a) old) n good in
    let back = normal.written_read_back a (is_address bytes a small is) old n wrote in
    let same = octets_of_read bytes a small is in (
      into_filled bytes buf room _ a (ap (λ o. strict_answer 0 (take n o.leaves)) on ∙ back.0) same,
      into_filled bytes buf room _ a (ap (λ o. strict_answer (family a) (take n o.leaves)) on ∙ back.1) same,
    )

-- "Reading this gives the same size, and bytes which, filled with zeros to four, are the cleared address": of the number that the octets write.
pub network_back : (bytes : List ℕ) (size : ℕ) (old : List ℕ) (n : ℕ) → (network_written bytes size old).answers ≡ gives n → (buf : List ℕ) → 4 ≤ length buf
    → let o = network_into (take n (network_written bytes size old).leaves) buf in
    let count = max 1 (size_bytes size) in
    (o.answers ≡ gives (size, count))
    × (zero_filled 4 (take count o.leaves) ≡ digits_of 256 4 (cleared 32 size (number_of 256 bytes)))
    × (drop count o.leaves ≡ drop count buf)
unfolding network_written network_into octets
network_back bytes size old n good buf room =
    let a = (octets_answer bytes).fields in
    let count = max 1 (size_bytes size) in
    let (is, on, wrote) = outcome_went_on 0 old (octets_answer bytes) (λ a. network_writes a size old) n good in
    let back = network.written_read_back a size old n wrote buf room in (
      ap (λ o. network_answer (take n o.leaves) buf) on ∙ back.0,
      ap (λ o. zero_filled 4 (take count (network_leaves (take n o.leaves) buf))) on
          ∙ back.1
          ∙ ap (λ (v : ℕ). digits_of 256 4 (cleared 32 size v)) (number_is bytes a is).1,
      ap (λ o. drop count (network_leaves (take n o.leaves) buf)) on ∙ back.2,
    )

-- Demand 2 for blocks: octets and a length are written as a text, and that text is read as the same length and octets.
pub block_back : (bytes : List ℕ) (len : ℕ) (old : List ℕ) (n : ℕ) → AllBelow 256 bytes → (block_written bytes len old).answers ≡ gives n
    → (buf : List ℕ) → length bytes ≤ length buf
    → Filled (len, length bytes) bytes buf (block_into (take n (block_written bytes len old).leaves) buf)
unfolding block_written block_into when_given
block_back bytes len old n small good buf room =
    let a = (octets_answer bytes).fields in
    let b : Block = record { address = a; length = len } in
    let (is, on, wrote) = outcome_went_on 0 old (octets_answer bytes) (λ a. block_writes a len old) n good in
    let back = ap (λ o. block_text_answer (take n o.leaves)) on ∙ blocks.written_read_back b (is_address bytes a small is) old n wrote in
    rw (back, octets_of_read bytes a small is) (beside_filled bytes buf room len)

-- ---- classes, over octets

-- "join of split is the address": four octets that split are held again after the join of the two numbers.
pub join_of_split : (bytes : List ℕ) (n h : ℕ) → AllBelow 256 bytes → octets_split bytes ≡ gives (n, h) → (buf : List ℕ) → 4 ≤ length buf
    → (length bytes ≡ 4) × Filled 4 bytes buf (address_into (join_answer n h) buf)
unfolding octets_split
join_of_split bytes n h small e buf room =
    let a = (octets_answer bytes).fields in
    let (is, splits) = answer_went_on (0, 0) (octets_answer bytes) split_answer (n, h) e in
    let l = split_four bytes a n h is splits in
    let held = into_filled bytes buf (omega arith) _ a (classes.join_of_split a n h splits) (octets_of_read bytes a small is) in
    (l, subst (λ k. Filled k bytes buf (address_into (join_answer n h) buf)) l held)

-- Demand 2: "every pair that joins splits back to itself", of the octets that the caller holds.
pub split_of_join : (n h : ℕ) (buf : List ℕ) (m : ℕ) → (address_into (join_answer n h) buf).answers ≡ gives m
    → octets_split (take m (address_into (join_answer n h) buf).leaves) ≡ gives (n, h)
unfolding octets_split when_given
split_of_join n h buf m good =
    let a = (join_answer n h).fields in
    let (is, held, count) = address_held (join_answer n h) buf m good in
    let split = classes.split_of_join n h a is in
    rw (held, octets_read_back a split.0) split.1

-- The table of RFC 791, by the first octet: the network number is the first one, two or three octets, "so the class bits stay in it".
pub class_table : (a b c d : ℕ) → AllBelow 256 (a ∷ b ∷ c ∷ d ∷ [])
    → (a < 128 → octets_split (a ∷ b ∷ c ∷ d ∷ []) ≡ gives (a, (b * 256 + c) * 256 + d))
    × (128 ≤ a → a < 192 → octets_split (a ∷ b ∷ c ∷ d ∷ []) ≡ gives (a * 256 + b, c * 256 + d))
    × (192 ≤ a → a < 224 → octets_split (a ∷ b ∷ c ∷ d ∷ []) ≡ gives ((a * 256 + b) * 256 + c, d))
    × (224 ≤ a → octets_split (a ∷ b ∷ c ∷ d ∷ []) ≡ refuses (0, 0) NoClass)
class_table a b c d small = (laws.split_a a b c d small, laws.split_b a b c d small, laws.split_c a b c d small, laws.split_d a b c d small)

-- ---- ranges, over octets

-- Demand 3, of the records that the caller holds: "read as blocks of the range's family", which has as many bits as the first address's bytes,
-- they are the fewest of the range of the two numbers that the octets write. "The answer is the number of blocks and of bytes: how many
-- records the call has written, end to end from the start of the buffer, and the bytes these fill"; what stood behind them stays.
pub demand_3 : (first last old : List ℕ) (count bytes : ℕ) → AllBelow 256 last → (range_into first last old).answers ≡ gives (count, bytes)
    → let W = 8 * length first in
    HoldsFewest W (number_of 256 first) (number_of 256 last) (count, bytes) old (range_into first last old).leaves
demand_3 first last old count bytes small good =
    let (is-a, is_b, on, wrote) = laws.range_went_on first last old (count, bytes) good in
    let b = (octets_answer last).fields in
    let x = number_is first (octets_answer first).fields is-a in
    laws.held_same old (count, bytes) x.0 x.1 (number_is last b is_b).1 (sym on) (laws.range_held _ b old (count, bytes) (is_address last b small is_b) wrote)

-- It is good exactly if both addresses are of one family, the first is not above the last, and the records have room; bytes that are no
-- address are refused by `no_address_lem`.
pub range_exactly : (first last old : List ℕ) (a b : Address) → octets_answer first ≡ gives a → octets_answer last ≡ gives b
    → let W = 8 * length first in
    ((range_into first last old).answers.number ≡ 0)
    ↔ ((length first ≡ length last) × (number_of 256 first ≤ number_of 256 last) × (record_size W * length (range_blocks W (number_of 256 first) (number_of 256 last)) ≤ length old))
unfolding range_into range_to when_given
range_exactly first last old a b is-a is_b = rw (is-a, is_b) (laws.range_good_octets first last old a b is-a is_b)

-- ---- lists of records

-- 02, Req 01, of the records that the caller holds after a good call, answered by the number of blocks and of bytes.
module _ (f : ℕ) (records : List ℕ) (small : AllBelow 256 records) where
  abbrev covered : ℕ → Type 0
  covered x = CoveredBy (family_width f) (list_blocks f records) x

  module _ (old : List ℕ) (count n : ℕ) where
    -- They are the fewest blocks of what the list covers,
    pub gathered_held : (gather_into f records old).answers ≡ gives (count, n) → HoldsFewestOf (family_width f) covered (count, n) old (gather_into f records old).leaves
    unfolding gather_into
    gathered_held good = gather.gather_fewest f records small old count n good

    -- and of what it does not cover.
    pub uncovered_held : (uncovered_into f records old).answers ≡ gives (count, n) → HoldsFewestOf (family_width f) (λ x. ¬ covered x) (count, n) old (uncovered_into f records old).leaves
    unfolding uncovered_into
    uncovered_held good = gather.uncovered_fewest f records small old count n good

    -- "asking for that twice gives the gathered list, wherever the first answer is within the record limit": with any second buffer
    pub uncovered_twice : (uncovered_into f records old).answers ≡ gives (count, n) → count ≤ most_records → (buf : List ℕ)
        → uncovered_into f (take n (uncovered_into f records old).leaves) buf ≡ gather_into f records buf
    unfolding gather_into uncovered_into
    uncovered_twice good few buf = let (a, l) = gather.twice f records small old count n good buf few in both a l

    -- A gathered list gathers to itself.
    pub gathered_again : (gather_into f records old).answers ≡ gives (count, n) → (buf : List ℕ) → gather_into f (take n (gather_into f records old).leaves) buf ≡ gather_into f records buf
    unfolding gather_into
    gathered_again good buf = let (a, l) = gather.again f records small old count n good buf in both a l

  module _ (fine : list_refusal f records ≡ 0) (old : List ℕ) where
    -- Room that always suffices: as long as the list, and what the header says.
    pub gather_room : length records ≤ length old → (gather_into f records old).answers.number ≡ 0
    unfolding gather_into
    gather_room = gather.room_of_list f records small old fine

    pub uncovered_room : (f ≡ 4 → 79365 ≤ length old) → (f ≡ 6 → 1105425 ≤ length old) → (uncovered_into f records old).answers.number ≡ 0
    unfolding uncovered_into
    uncovered_room = gather.room_uncovered f records small old fine

-- A list that is refused is refused by its own number, whatever the room; any other by 3, exactly if the records have no room.
module _ (f : ℕ) (records old : List ℕ) where
  pub gather_refused : ¬ (list_refusal f records ≡ 0) → (gather_into f records old).answers.number ≡ list_refusal f records
  unfolding gather_into
  gather_refused = gather.number_of_list f records (gathered_list f records) old

  pub uncovered_refused : ¬ (list_refusal f records ≡ 0) → (uncovered_into f records old).answers.number ≡ list_refusal f records
  unfolding uncovered_into
  uncovered_refused = gather.number_of_list f records (uncovered_list f records) old

  pub gather_short : ((gather_into f records old).answers.number ≡ 3) ↔ ((list_refusal f records ≡ 0) × (length old < length (records_of (family_width f) (gathered_list f records))))
  unfolding gather_into
  gather_short = gather.number_3 f records (gathered_list f records) old

  pub uncovered_short : ((uncovered_into f records old).answers.number ≡ 3) ↔ ((list_refusal f records ≡ 0) × (length old < length (records_of (family_width f) (uncovered_list f records))))
  unfolding uncovered_into
  uncovered_short = gather.number_3 f records (uncovered_list f records) old

-- ---- the sheet

-- What the caller then holds: the sheet that was read, respelled, each of its lines once, and behind it what stood there.
module _ (sorted : ℕ) (t old : List ℕ) where
  abbrev asked : Bool
  asked = not (eqb sorted 0)

  module _ (n : ℕ) (good : (respell_into sorted t old).answers ≡ gives n) where
    abbrev seen : List ℕ
    seen = take n (respell_into sorted t old).leaves

    pub respelled_held : (seen ≡ respelled asked t) × (n ≡ length (respelled asked t)) × (drop n (respell_into sorted t old).leaves ≡ drop n old)
    unfolding respell_into
    respelled_held = let w = sheets.written asked t old n good in (w.0, w.1, w.3)

    -- "Every output line must carry the volume and pH of one input line with the same address, each input line used exactly once."
    pub each_line_once : Permᴰ (map line_entry (sheet_lines t)) (map line_entry (sheet_lines seen))
    unfolding respell_into
    each_line_once = sheets.each_line_once asked t old n good

    -- Respelling twice changes nothing, and sorting twice changes nothing: the same request on what was written writes it again.
    pub respelled_unchanged : (buf : List ℕ) → n ≤ length buf → respell_into sorted seen buf ≡ outcome (gives n) (seen ++ drop n buf)
    unfolding respell_into
    respelled_unchanged buf room = let u = sheets.unchanged asked t old n good buf room in both u.0 u.1

    -- A second call of any request, with any buffer, does what one call does that sorts where either of both was to.
    pub respelled_again : (then : ℕ) (buf : List ℕ) → respell_into then seen buf ≡ respell_into (max sorted then) t buf
    unfolding respell_into
    respelled_again then buf =
        let (a, l) = sheets.again asked t old n good (not (eqb then 0)) buf in
        both a l ∙ ap (λ b. outcome (respell_answer b t buf) (respell_leaves b t buf)) (interface.either_asked sorted then)

  -- By which number the call is refused: 1, then 10, then 2,
  pub respell_numbers : let k = (respell_into sorted t old).answers.number in
      ((k ≡ 1) ↔ (65536 < length t))
      × ((k ≡ 10) ↔ ((length t ≤ 65536) × (1024 < length (sheet_lines t))))
      × ((k ≡ 2) ↔ ((length t ≤ 65536) × (length (sheet_lines t) ≤ 1024) × (sheet_of t ≡ None)))
  unfolding respell_into
  respell_numbers = (sheets.number_1 asked t old, sheets.number_10 asked t old, sheets.number_2 asked t old)

  -- then 3, each exactly.
  pub respell_short : ((respell_into sorted t old).answers.number ≡ 3)
      ↔ ((length t ≤ 65536) × (length (sheet_lines t) ≤ 1024) × (es : List Entry) × (sheet_of t ≡ Some es) × (length old < length (sheet_text (arranged asked es))))
  unfolding respell_into
  respell_short = sheets.number_3 asked t old

  -- Room that always suffices, as the header has it.
  pub respell_room : length t ≤ 65536 → length (sheet_lines t) ≤ 1024 → (es : List Entry) → sheet_of t ≡ Some es → 53248 ≤ length old → (respell_into sorted t old).answers.number ≡ 0
  unfolding respell_into
  respell_room short few es is room = sheets.room_for_all asked t es is few short old room

-- 0 leaves the lines in their order, and any other number sorts them.
pub unsorted_by_0 : (t old : List ℕ) → respell_into 0 t old ≡ outcome (respell_answer false t old) (respell_leaves false t old)
unfolding respell_into
unsorted_by_0 t old = refl

pub sorted_by_any : (sorted : ℕ) (t old : List ℕ) → ¬ (sorted ≡ 0) → respell_into sorted t old ≡ outcome (respell_answer true t old) (respell_leaves true t old)
unfolding respell_into
sorted_by_any sorted t old n = rw (ne_eqb sorted 0 n)

-- ---- words

-- The number is refused by 2 exactly if it is none of 1 to 10, and by 3 exactly if it is one of them and the room is less; else the call is good.
module _ (k : ℕ) (old : List ℕ) where
  pub words_unknown : ((words_into k old).answers.number ≡ 2) ↔ ¬ ((1 ≤ k) × (k ≤ 10))
  unfolding words_into
  words_unknown = words.unknown_exactly k old

  pub words_short : ((words_into k old).answers.number ≡ 3) ↔ ((1 ≤ k) × (k ≤ 10) × (length old < length (words_text k)))
  unfolding words_into
  words_short = words.room_exactly k old

  pub words_good : ((words_into k old).answers ≡ gives (length (words_text k))) ↔ ((1 ≤ k) × (k ≤ 10) × (length (words_text k) ≤ length old))
  unfolding words_into
  words_good = words.good_exactly k old

-- The words that the caller holds are those of the number.
pub words_held : (k : ℕ) (old : List ℕ) (n : ℕ) → (words_into k old).answers ≡ gives n
    → (take n (words_into k old).leaves ≡ words_text k) × (n ≡ length (words_text k)) × (drop n (words_into k old).leaves ≡ drop n old)
unfolding words_into
words_held k old n good = let w = written_held (words_refusal k) (words_text k) old n good in (w.0, w.1, w.3)

-- ---- numbers that no byte holds

-- A family, a size or a length that no byte holds is as wrong as 255: what is promised of the number cut to a byte is promised of the number.
pub family_cut : (family : ℕ) (t : List ℕ) → strict_answer (min family 255) t ≡ strict_answer family t
family_cut family t = interface.family_cut family (min family 255) t refl

pub size_cut : (a : Address) (size : ℕ) (old : List ℕ) → network_writes a (min size 255) old ≡ network_writes a size old
size_cut a size old = interface.size_cut a size (min size 255) old refl

pub length_cut : (a : Address) (length : ℕ) (old : List ℕ) → block_writes a (min length 255) old ≡ block_writes a length old
length_cut a length old = interface.length_cut a length (min length 255) old refl

-- ---- bytes that are no address

-- "not of the form asked for": neither 4 nor 16 bytes are refusal 2 in every call that takes octets, and alter nothing.
pub no_address_lem : (bytes : List ℕ) → ¬ (length bytes ≡ 4) → ¬ (length bytes ≡ 16) → (old : List ℕ)
    → (address_written bytes old ≡ outcome (refuses 0 Malformed) old)
    × ((size : ℕ) → network_written bytes size old ≡ outcome (refuses 0 Malformed) old)
    × ((len : ℕ) → block_written bytes len old ≡ outcome (refuses 0 Malformed) old)
    × (octets_split bytes ≡ refuses (0, 0) Malformed)
    × ((last : List ℕ) → range_into bytes last old ≡ outcome (refuses (0, 0) Malformed) old)
    × ((first : List ℕ) (a : Address) → octets_answer first ≡ gives a → range_into first bytes old ≡ outcome (refuses (0, 0) Malformed) old)
unfolding address_written network_written block_written octets_split range_into range_to
no_address_lem bytes n m old = (
  laws.none_given bytes n m _ _,
  λ size. laws.none_given bytes n m _ _,
  λ len. laws.none_given bytes n m _ _,
  laws.none_given bytes n m _ _,
  λ last. laws.none_given bytes n m _ _,
  λ first a e. sym (when_given_lem _ _ (octets_answer first) a (sym e)) ∙ laws.none_given bytes n m _ _,
)
