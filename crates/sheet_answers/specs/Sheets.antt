-- The acidity sheet: its lines, what they hold, and their order (02, Req 09). A text is the list of its bytes. Assumes nothing.
use Rattle.std.specs.Prelude.{◌≡◌, Bool, cond, List, [], ◌∷◌, ◌++◌, ℕ, ◌+◌, ◌^◌, Option, Some, None}
use Rattle.notation.specs.Pieces.{split_on, Each}
use Rattle.address.specs.declared.Address.{Address}
use Rattle.address.specs.declared.Address.TheVariants.{V4, V6}
use Rattle.address.specs.Addresses.{number}
use Rattle.stable_sort.specs.Stable.{sort_by}
use Rattle.sheet_lines.specs.declared.Entry.{Entry}
use Rattle.sheet_lines.specs.Lines.{line_entry, entry_text, entry_line, IsEntry}

-- ---- lines

-- the lines of a text cut at its newlines: "A final line without its newline counts as a line"
unfoldable pub lines_of : List (List ℕ) → List (List ℕ)
lines_of [] = []
lines_of ([] ∷ []) = []
lines_of ((x ∷ p) ∷ []) = (x ∷ p) ∷ []
lines_of (p ∷ q ∷ ps) = p ∷ lines_of (q ∷ ps)

unfoldable pub sheet_lines : List ℕ → List (List ℕ)
unfolding lines_of split_on
sheet_lines t = lines_of (split_on 10 t)

-- ---- what they hold

-- an entry before others, where all are read
abbrev pub before : Option Entry → Option (List Entry) → Option (List Entry)
before None es = None
before (Some e) None = None
before (Some e) (Some es) = Some (e ∷ es)

-- the entries of a text cut at its newlines: "A final line without its newline .. is malformed"
unfoldable pub entries_of : List (List ℕ) → Option (List Entry)
unfolding line_entry
entries_of [] = Some []
entries_of ([] ∷ []) = Some []
entries_of ((x ∷ p) ∷ []) = None
entries_of (p ∷ q ∷ ps) = before (line_entry p) (entries_of (q ∷ ps))

-- what a sheet holds: "Any malformed line .. refuses the sheet"
unfoldable pub sheet_of : List ℕ → Option (List Entry)
unfolding entries_of split_on
sheet_of t = entries_of (split_on 10 t)

-- the sheet of entries, each on its line
unfoldable pub sheet_text : List Entry → List ℕ
unfolding entry_line
sheet_text [] = []
sheet_text (e ∷ es) = entry_line e ++ sheet_text es

-- entries that keep the limits
abbrev pub AllEntries : List Entry → Type 0
AllEntries [] = Unit {0}
AllEntries (e ∷ es) = IsEntry e × AllEntries es

-- every line is the one that is written of what it holds: "It respells each address normally"
abbrev pub Spelled : List ℕ → Type 0
Spelled t = Each (λ line. (e : Entry) → line_entry line ≡ Some e → line ≡ entry_text e) (sheet_lines t)

-- ---- their order

-- where an address stands among all: "IPv4 before IPv6", and those of a family as their numbers
abbrev pub place : Address → ℕ
place (V4 v) = number (V4 v)
place (V6 hi lo) = 2 ^ 32 + number (V6 hi lo)

abbrev pub entry_place : Entry → ℕ
entry_place e = place e.address

-- "sorts whole lines by address, IPv4 before IPv6, keeping equal addresses in their old order"
unfoldable pub sorted : List Entry → List Entry
unfolding sort_by
sorted es = sort_by entry_place es

-- "on request"; "Unsorted lines stay in order."
abbrev pub arranged : Bool → List Entry → List Entry
arranged sort es = cond sort (sorted es) es
