-- The network form, read (01, "Network form"; document 000). A text is the list of its bytes. Assumes nothing.
use Rattle.address.specs.declared.Refusal.{Refusal}
use Rattle.std.specs.Prelude.{cond, ◌&&◌, List, [], ◌∷◌, ℕ, suc, ◌*◌, max, leb, ltb, length, drop, get_or, Option, Some, None, option_map, unwrap_or, Result}
use Rattle.notation.specs.Pieces.{contains, index_of}
use Rattle.address.specs.Answers.{result_answer, Answer, answer, missing, precedence, refusal, write_refusal, write_leaves}
use Rattle.digits.specs.Numerals.{part_of}
use Rattle.network.specs.GivenBytes.{given_of, zero_filled, before_slash}
use Rattle.network.specs.NetworkText.{size_bytes}

-- ---- the size

-- "it comes from the first byte: 240 and up 32; 224 and up 4; 192 and up 24; 128 and up 16; else 8"
unfoldable pub class_size : ℕ → ℕ
class_size b = cond (leb 240 b) 32 (cond (leb 224 b) 4 (cond (leb 192 b) 24 (cond (leb 128 b) 16 8)))

-- "If that inferred size is 8 or more and less than 8 times the bytes given, it becomes 8 times the bytes given."
unfoldable pub widened : ℕ → ℕ → ℕ
widened count size = cond (leb 8 size && ltb size (8 * count)) (8 * count) size

unfoldable pub inferred_size : List ℕ → ℕ
unfolding class_size widened
inferred_size given = widened (length given) (class_size (get_or given 0 0))

-- ---- a network

-- what a text means: a size, and the bytes
pub record Network : Type 0 where
  pub size : ℕ
  pub bytes : List ℕ

-- "The bytes written are the larger of the bytes given and the size divided by eight, rounded up. Missing ones are zero."
unfoldable pub completed : ℕ → List ℕ → Network
unfolding zero_filled
completed size given = record { size = size; bytes = zero_filled (max (length given) (size_bytes size)) given }

abbrev pub sized : Option ℕ → Option (List ℕ) → Option Network
sized None given = None
sized (Some size) None = None
sized (Some size) (Some given) = Some (completed size given)

-- "then, if wished, a slash and a size. The text after the slash is read as a part of its own: one to three digits, no leading zero except
-- `0`." A size above 32 is of the form.
unfoldable pub network_of : List ℕ → Option Network
unfolding given_of inferred_size completed contains index_of part_of
network_of t =
    cond (contains 47 t)
    (sized (part_of 999 (drop (suc (index_of 47 t)) t)) (given_of (before_slash t)))
    (sized (option_map inferred_size (given_of t)) (given_of t))

-- ---- reading

abbrev pub no_network : Network
no_network = record { size = 0; bytes = [] }

-- "the text is longer than 64 bytes", "not of the form asked for", "Above 32 is refusal 4"
unfoldable pub read_network_refusal : List ℕ → Option Network → ℕ
unfolding refusal
read_network_refusal t o = refusal precedence ((1, ltb 64 (length t)) ∷ (2, missing o) ∷ (4, ltb 32 (unwrap_or o no_network).size) ∷ [])

-- "The answer is the size and the number of bytes written."
unfoldable pub network_answer : List ℕ → List ℕ → Answer (ℕ × ℕ)
unfolding read_network_refusal network_of
network_answer t old =
    let n = unwrap_or (network_of t) no_network in
    answer (0, 0) (write_refusal (read_network_refusal t (network_of t)) n.bytes old) (n.size, length n.bytes)

-- and what the call leaves in the buffer
unfoldable pub network_leaves : List ℕ → List ℕ → List ℕ
unfolding read_network_refusal write_leaves network_of
network_leaves t old = write_leaves (read_network_refusal t (network_of t)) (unwrap_or (network_of t) no_network).bytes old

-- the code's answer in the paper's terms
abbrev pub network_reading_answer : Result (ℕ × ℕ) Refusal → Answer (ℕ × ℕ)
network_reading_answer r = result_answer (0, 0) r
