-- A line of the acidity sheet: what it holds, and how that is written (02, Req 09). A text is the list of its bytes. Assumes nothing.
use Rattle.std.specs.Prelude.{cond, List, [], ◌∷◌, ◌++◌, ℕ, ◌≤◌, ltb, leb, length, Option, Some, None}
use Rattle.notation.specs.Pieces.{split_on, separated}
use Rattle.address.specs.declared.Address.{Address}
use Rattle.address.specs.Addresses.{IsAddress}
use Rattle.digits.specs.Numerals.{text_number, bounded_number, leading_zero, numeral}
use Rattle.text.specs.Strict.{strict_of}
use Rattle.normal.specs.Normal.{normal_text}
use Rattle.sheet_lines.specs.declared.Entry.{Entry}

-- ---- read

-- a decimal number that is at most m: "the numbers have no leading zero except `0`"
unfoldable pub number_to : ℕ → List ℕ → Option ℕ
unfolding text_number leading_zero
number_to m t = cond (leading_zero t) None (bounded_number 10 m t)

-- a number that is at least m
abbrev pub at_least : ℕ → Option ℕ → Option ℕ
at_least m None = None
at_least m (Some n) = cond (leb m n) (Some n) None

-- "a strict address", of either family; "an address of more than 64 bytes" is none
unfoldable pub address_of : List ℕ → Option Address
unfolding strict_of
address_of t = cond (ltb 64 (length t)) None (strict_of 0 t)

-- "a volume number from 1 to 999,999"
unfoldable pub volume_of : List ℕ → Option ℕ
unfolding number_to
volume_of t = at_least 1 (number_to 999999 t)

-- "pH in hundredths from 0 to 1400"
unfoldable pub ph_of : List ℕ → Option ℕ
unfolding number_to
ph_of t = number_to 1400 t

-- an entry, where all its fields are read
abbrev pub entry_of : Option Address → Option ℕ → Option ℕ → Option Entry
entry_of None v p = None
entry_of (Some a) None p = None
entry_of (Some a) (Some v) None = None
entry_of (Some a) (Some v) (Some p) = Some (record { address = a; volume = v; ph = p })

-- three fields
unfoldable pub fields_entry : List (List ℕ) → Option Entry
unfolding address_of volume_of ph_of
fields_entry [] = None
fields_entry (a ∷ []) = None
fields_entry (a ∷ v ∷ []) = None
fields_entry (a ∷ v ∷ p ∷ []) = entry_of (address_of a) (volume_of v) (ph_of p)
fields_entry (a ∷ v ∷ p ∷ q ∷ ps) = None

-- what a line without its newline holds: "a strict address, a comma, a volume number .., a comma, and pH"
unfoldable pub line_entry : List ℕ → Option Entry
unfolding fields_entry split_on
line_entry t = fields_entry (split_on 44 t)

-- what every entry that is read keeps
pub record IsEntry (e : Entry) : Type 0 where
  pub address : IsAddress e.address
  pub some_volume : 1 ≤ e.volume
  pub volume : e.volume ≤ 999999
  pub ph : e.ph ≤ 1400

-- ---- written

-- the line of an entry without its newline: the address "normally", and the numbers, for which ten digits are enough
unfoldable pub entry_text : Entry → List ℕ
unfolding normal_text separated numeral
entry_text e = separated 44 (normal_text e.address ∷ numeral 10 10 e.volume ∷ numeral 10 10 e.ph ∷ [])

-- "ended by a newline"
unfoldable pub entry_line : Entry → List ℕ
unfolding entry_text
entry_line e = entry_text e ++ 10 ∷ []
