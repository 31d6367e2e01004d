-- What is claimed of a line of the acidity sheet (02, Req 09). That exactly the lines of the published form are read is claimed in
-- `sheet_grammar`. Assumes nothing.
use Rattle.std.specs.Prelude.{Some}
use mathlib.Core.Path.{◌≡◌}
use mathlib.Core.List.{List}
use Prim.Native.Nat.{ℕ, ◌≤◌}
use lib.ListN.{length}
use Rattle.sheet_lines.specs.declared.Entry.{Entry}
use Rattle.sheet_lines.specs.Lines.{line_entry, entry_text, entry_line, IsEntry}
use Rattle.sheet_lines.proofs.EntryLaws as entries
use Rattle.sheet_lines.proofs.TextLaws as texts

-- An entry that is read keeps the limits: an address, "from 1 to 999,999" and "from 0 to 1400";
pub reads_entry : (line : List ℕ) (e : Entry) → line_entry line ≡ Some e → IsEntry e
reads_entry = entries.line_is

-- and every entry that keeps them is read of the line that is written of it.
pub read_back : (e : Entry) → IsEntry e → line_entry (entry_text e) ≡ Some e
read_back = entries.entry_back

-- At most 39 bytes for the address, six and four digits, two commas and the newline.
pub at_most_52 : (e : Entry) → IsEntry e → length (entry_line e) ≤ 52
at_most_52 = texts.line_most
