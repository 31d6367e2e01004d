-- What the contracts of private functions cite: the rows of a table, one for each line of a sheet. Assumes nothing.
use Rattle.std.specs.Prelude.{◌≡◌, ◌⊎◌, cond, List, map, ℕ, ◌≤◌, ◌<◌, ltb, length, get_or, take, Option, Some, None}
use Rattle.address.specs.declared.Address.TheVariants.{V4}
use Rattle.address.specs.declared.Refusal.{Refusal}
use Rattle.address.specs.declared.Refusal.TheVariants.{Malformed, TooMany}
use Rattle.address.specs.Addresses.{family, number}
use Rattle.stable_sort.specs.Stable.{with_key, sort_by}
use Rattle.sheet_lines.specs.declared.Entry.{Entry}
use Rattle.sheet_lines.specs.Lines.{line_entry}
use Rattle.sheet_answers.specs.Sheets.{sheet_of, sheet_lines}
use Rattle.sheet_answers.specs.SheetAnswers.{most_lines}

-- ---- rows read

-- the entry of the line that ends at an index of a text, if the text goes on there
abbrev pub finished_entry : List ℕ → ℕ → Option Entry
finished_entry t i = cond (ltb i (length t)) (line_entry (take i t)) None

-- a sheet read into rows: the first are all its entries, or it is malformed or has too many lines
abbrev pub ReadsRows : List ℕ → List Entry → Option ℕ → Type 0
ReadsRows t rows (Some n) = (sheet_of t ≡ Some (take n rows)) × (n ≤ most_lines)
ReadsRows t rows None = (sheet_of t ≡ None) ⊎ (most_lines < length (sheet_lines t))

-- why a sheet that is not too long is refused, where it is
abbrev pub fault_of : List ℕ → Refusal
fault_of t = cond (ltb most_lines (length (sheet_lines t))) TooMany Malformed

-- ---- rows chosen and put

-- every place of an order has a row
abbrev pub Picks : List Entry → List ℕ → Type 0
Picks rows order = (p : ℕ) → p < length order → get_or order p 0 < length rows

-- the entry of a row, and of none beyond the last
abbrev pub row_at : List Entry → ℕ → Entry
row_at rows i = get_or rows i (record { address = V4 0; volume = 0; ph = 0 })

-- the rows at the places of an order
abbrev pub picked : List Entry → List ℕ → List Entry
picked rows order = map (row_at rows) order

-- the number of an entry's address, whatever its family
abbrev pub entry_number : Entry → ℕ
entry_number e = number e.address

-- an order that sorts rows by number, equal numbers in their old order
pub record Sorts (rows : List Entry) (order : List ℕ) : Type 0 where
  pub picks : Picks rows order
  pub rising : picked rows order ≡ sort_by entry_number rows

-- the entries of a family, in their order
abbrev pub of_family : ℕ → List Entry → List Entry
of_family f es = with_key (λ (e : Entry). family e.address) f es
