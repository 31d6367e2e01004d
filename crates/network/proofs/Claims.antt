-- What is claimed of the network form: text that was written, and read again (01, "Network form"). Assumes nothing.
use Rattle.address.specs.declared.Refusal.{Refusal}
use Rattle.std.specs.Prelude.{Some, Result}
use mathlib.Core.Path.{◌≡◌, refl, ap, ◌∙◌}
use mathlib.Core.List.{List, [], ◌∷◌, ◌++◌}
use Prim.Native.Nat.{ℕ, ◌-◌, ◌/◌, ◌%◌, ◌^◌, ◌≤◌, ◌<◌, max}
use native.Mathlib.Nat.{mul-div_cancel, mul-mod_left}
use native.Mathlib.Omega.{arith}
use lib.ListN.{length, take, drop}
use lib.Pow.{pow_pos}
use lib.Seq.{take_at, drop_at}
use Rattle.notation.specs.BigEndian.{digits_of}
use Rattle.address.specs.declared.Address.{Address}
use Rattle.address.specs.declared.Address.TheVariants.{V4}
use Rattle.address.specs.Addresses.{number}
use Rattle.address.specs.Answers.{gives, write_answer, write_leaves}
use Rattle.address.proofs.AnswerLaws.{read_held, good_no_reason}
use Rattle.address.proofs.Claims.{one_result}
use Rattle.octets.specs.Octets.{octets}
use Rattle.digits.specs.Numerals.{numeral}
use Rattle.network.specs.GivenBytes.{zero_filled}
use Rattle.network.specs.NetworkText.{size_bytes, cleared, network_text, write_network_refusal}
use Rattle.network.specs.Network.{Network, network_of, network_answer, network_leaves, network_reading_answer}
use Rattle.network.proofs.TextLaws.{cleared_high, text_most, no_reason}
use Rattle.network.proofs.ReadBackLaws.{written, written_length, written_read, written_filled, written_answer_lem}

-- ---- what is written

-- "bits beyond the size cleared": these bits are zero, and those before them stay.
module _ (W size v : ℕ) where
  pub cleared_bits : cleared W size v % 2 ^ (W - size) ≡ 0
  cleared_bits = rw (cleared_high W size v) (mul-mod_left (v / 2 ^ (W - size)) (2 ^ (W - size)))

  pub kept_bits : cleared W size v / 2 ^ (W - size) ≡ v / 2 ^ (W - size)
  kept_bits = rw (cleared_high W size v) (mul-div_cancel (v / 2 ^ (W - size)) (pow_pos (W - size)))

-- "Size 0 writes `0/0`."
pub size_zero : (v : ℕ) → v < 2 ^ 32 → network_text v 0 ≡ 48 ∷ 47 ∷ 48 ∷ []
unfolding network_text numeral
size_zero v h = let gone : cleared 32 0 v ≡ 0 = omega arith in rw gone

-- The text has at most four octets, a slash and two digits.
pub at_most_18 : (v size : ℕ) → size ≤ 32 → length (network_text v size) ≤ 18
at_most_18 = text_most

-- ---- reading what was written

-- "Reading this gives the same size, and bytes which, filled with zeros to four, are the cleared address."
pub read_back : (v size : ℕ) → size ≤ 32
    → (n : Network) × (network_of (network_text v size) ≡ Some n) × (n.size ≡ size) × (zero_filled 4 n.bytes ≡ digits_of 256 4 (cleared 32 size v))
read_back v size h = (written v size, written_read v size h, refl, written_filled v size h)

-- "The answer is the size and the number of bytes written": as many as the text has octets, and what stood behind them stays.
pub read_back_answer : (v size : ℕ) (old : List ℕ) → size ≤ 32 → max 1 (size_bytes size) ≤ length old
    → (network_answer (network_text v size) old ≡ gives (size, max 1 (size_bytes size)))
    × (network_leaves (network_text v size) old ≡ take (max 1 (size_bytes size)) (digits_of 256 4 (cleared 32 size v)) ++ drop (max 1 (size_bytes size)) old)
read_back_answer = written_answer_lem

-- The same of what the caller holds. The bytes that the writer's buffer holds after a good call, as many as it says, are read into any
-- buffer of four bytes; the answer is the size and a count, and as many bytes as it counts, "filled with zeros to four, are the cleared
-- address". "later bytes stay."
pub written_read_back : (a : Address) (size : ℕ) (old : List ℕ) (n : ℕ) → write_answer (write_network_refusal a size) (network_text (number a) size) old ≡ gives n
    → (buf : List ℕ) → 4 ≤ length buf
    → let text = take n (write_leaves (write_network_refusal a size) (network_text (number a) size) old) in
    let count = max 1 (size_bytes size) in
    (network_answer text buf ≡ gives (size, count))
    × (zero_filled 4 (take count (network_leaves text buf)) ≡ octets (V4 (cleared 32 size (number a))))
    × (drop count (network_leaves text buf) ≡ drop count buf)
unfolding octets
written_read_back a size old n e buf room =
    let refused = write_network_refusal a size in
    let v = number a in
    let text = network_text v size in
    let count = max 1 (size_bytes size) in
    let small = ((no_reason a size).0 (good_no_reason refused text old n e)).1 in
    let back = written_answer_lem v size buf small (omega arith) in
    let left = read_held refused text old (λ t. network_leaves t buf) back.1 n e in
    let l = written_length v size small in (
      read_held refused text old (λ t. network_answer t buf) back.0 n e,
      ap (λ bs. zero_filled 4 bs) (ap (take count) left ∙ take_at (written v size).bytes (drop count buf) count l) ∙ written_filled v size small,
      ap (drop count) left ∙ drop_at (written v size).bytes (drop count buf) count l,
    )

-- A promise about the paper's answer fixes the code's answer.
pub one_network_reading : (r s : Result (ℕ × ℕ) Refusal) → network_reading_answer r ≡ network_reading_answer s → r ≡ s
one_network_reading = one_result (0, 0)
