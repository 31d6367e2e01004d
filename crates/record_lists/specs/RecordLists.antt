-- Lists of records of one family (02, Req 01): what they hold, and why a call on them says no. Assumes nothing.
use Rattle.address.specs.declared.Refusal.{Refusal}
use Rattle.std.specs.Prelude.{Bool, true, false, cond, ◌&&◌, ◌||◌, not, List, [], ◌∷◌, ◌++◌, ℕ, ◌/◌, ◌%◌, leb, ltb, eqb, length, Result}
use Rattle.cover.specs.Blocks.{Block, size}
use Rattle.address.specs.Answers.{result_answer, Answer, answer, first_of}
use Rattle.records.specs.Records.{record_size, read_records}

-- ---- families

-- "one family, which the caller names by 4 or 6 (0 is refusal 9 in every call on records)"
abbrev pub is_family : ℕ → Bool
is_family f = eqb f 4 || eqb f 6

-- how many bits its addresses have
abbrev pub family_width : ℕ → ℕ
family_width f = cond (eqb f 4) 32 128

-- ---- what a list holds

-- "up to 512 records"
abbrev pub most_records : ℕ
most_records = 512

abbrev pub record_count : ℕ → List ℕ → ℕ
record_count f bytes = length bytes / record_size (family_width f)

-- its blocks, whether or not they keep the rules of blocks
unfoldable pub list_blocks : ℕ → List ℕ → List Block
unfolding read_records
list_blocks f bytes = read_records (family_width f) (record_count f bytes) bytes

-- whether no address is below the one before it: `Rising` of cover, as a test
unfoldable pub is_rising : List Block → Bool
is_rising [] = true
is_rising (b ∷ []) = true
is_rising (b ∷ c ∷ bs) = leb b.address c.address && is_rising (c ∷ bs)

-- ---- why a list is refused

-- a record's own reasons, "4 before 5": a length above the width, a one bit beyond the length
abbrev pub record_reasons : ℕ → Block → List (ℕ × Bool)
record_reasons W b = (4, ltb W b.length) ∷ (5, not (eqb (b.address % size W b) 0)) ∷ []

-- "the first bad record decides": each record's reasons, one record after the other
unfoldable pub records_reasons : ℕ → List Block → List (ℕ × Bool)
records_reasons W [] = []
records_reasons W (b ∷ bs) = record_reasons W b ++ records_reasons W bs

-- "Order: 9, 2, 10, then 4 and 5"
unfoldable pub list_reasons : ℕ → List ℕ → List (ℕ × Bool)
unfolding list_blocks records_reasons
list_reasons f bytes =
    (9, not (is_family f)) ∷ (2, not (eqb (length bytes % record_size (family_width f)) 0)) ∷ (10, ltb most_records (record_count f bytes))
    ∷ records_reasons (family_width f) (list_blocks f bytes)

unfoldable pub list_refusal : ℕ → List ℕ → ℕ
unfolding list_reasons first_of
list_refusal f bytes = first_of (list_reasons f bytes)

-- ---- the answer

-- how many records there are, and whether they rise
unfoldable pub list_answer : ℕ → List ℕ → Answer (ℕ × Bool)
unfolding list_refusal is_rising
list_answer f bytes = answer (0, false) (list_refusal f bytes) (record_count f bytes, is_rising (list_blocks f bytes))

-- the code's answer in the paper's terms
abbrev pub list_reading_answer : Result (ℕ × Bool) Refusal → Answer (ℕ × Bool)
list_reading_answer r = result_answer (0, false) r
