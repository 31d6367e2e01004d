-- The refusals in words (01, "Why a call says no"). Assumes nothing.
use Rattle.std.specs.Prelude.{cond, Bool, true, ◌&&◌, List, [], ◌∷◌, ℕ, eqb, Option, Some, None, unwrap_or}
use Rattle.notation.specs.Ascii.{ascii, within}
use Rattle.address.specs.Answers.{missing, precedence, refusal}

-- the numbers of 01's table and of 02's requests, each with its words
abbrev pub table : List (ℕ × List ℕ)
table =
    (1, ascii "the text is longer than the call takes")
    ∷ (2, ascii "the text or the bytes are not of the form asked for")
    ∷ (3, ascii "the buffer is shorter than the answer")
    ∷ (4, ascii "the length or size is above the bits of an address")
    ∷ (5, ascii "the block's address has a one bit beyond its length")
    ∷ (6, ascii "the address or network number is of no class")
    ∷ (7, ascii "the host number is too large for its network's class")
    ∷ (8, ascii "the first address is above the last")
    ∷ (9, ascii "the address family is unknown, mixed or not meant here")
    ∷ (10, ascii "there are more entries than the call takes")
    ∷ []

-- the words beside a number
unfoldable pub words_in : ℕ → List (ℕ × List ℕ) → Option (List ℕ)
words_in n [] = None
words_in n (w ∷ ws) = cond (eqb n w.0) (Some w.1) (words_in n ws)

unfoldable pub refusal_words : ℕ → Option (List ℕ)
unfolding words_in ascii
refusal_words n = words_in n table

-- what is written for a number, and the number that refuses one that is not of the table: it is "not of the form asked for"
abbrev pub words_text : ℕ → List ℕ
words_text n = unwrap_or (refusal_words n) []

unfoldable pub words_refusal : ℕ → ℕ
unfolding refusal
words_refusal n = refusal precedence ((2, missing (refusal_words n)) ∷ [])

-- every byte is printable ASCII
unfoldable pub printable : List ℕ → Bool
printable [] = true
printable (c ∷ t) = within 32 126 c && printable t
