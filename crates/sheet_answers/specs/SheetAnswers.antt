-- A sheet respelled: what the call answers, and what it leaves in the second buffer (02, Req 09). Assumes nothing.
use Rattle.std.specs.Prelude.{Bool, List, [], ◌∷◌, ℕ, ltb, length, unwrap_or}
use Rattle.address.specs.Answers.{Answer, missing, refusal, write_answer, write_leaves}
use Rattle.sheet_lines.specs.declared.Entry.{Entry}
use Rattle.sheet_answers.specs.Sheets.{sheet_lines, sheet_of, sheet_text, sorted, arranged}

-- the entries of a sheet; none where it is malformed
abbrev pub entries_in : List ℕ → List Entry
entries_in t = unwrap_or (sheet_of t) []

-- what is to be written: "It respells each address normally, and on request sorts whole lines"
unfoldable pub respelled : Bool → List ℕ → List ℕ
unfolding sheet_of sheet_text sorted
respelled sort t = sheet_text (arranged sort (entries_in t))

-- "At most 65,536 bytes in and 1,024 lines"
abbrev pub most_bytes : ℕ
most_bytes = 65536

abbrev pub most_lines : ℕ
most_lines = 1024

-- "beyond is refusal 1, then 10, both before 2"
abbrev pub sheet_precedence : List ℕ
sheet_precedence = 1 ∷ 10 ∷ 2 ∷ []

abbrev pub sheet_reasons : List ℕ → List (ℕ × Bool)
sheet_reasons t =
    (1, ltb most_bytes (length t))
    ∷ (10, ltb most_lines (length (sheet_lines t)))
    ∷ (2, missing (sheet_of t))
    ∷ []

unfoldable pub sheet_refusal : List ℕ → ℕ
unfolding refusal sheet_lines sheet_of
sheet_refusal t = refusal sheet_precedence (sheet_reasons t)

-- "Output is a second buffer, refusal 3 last.": the number of bytes written,
unfoldable pub respell_answer : Bool → List ℕ → List ℕ → Answer ℕ
unfolding sheet_refusal respelled write_answer
respell_answer sort t old = write_answer (sheet_refusal t) (respelled sort t) old

-- and the buffer afterwards: the sheet and, behind it, what stood there; a refusal alters nothing
unfoldable pub respell_leaves : Bool → List ℕ → List ℕ → List ℕ
unfolding sheet_refusal respelled write_leaves
respell_leaves sort t old = write_leaves (sheet_refusal t) (respelled sort t) old
