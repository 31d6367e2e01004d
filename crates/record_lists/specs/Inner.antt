-- Definitions for the contracts of private functions. Assumes nothing.
use Rattle.address.specs.declared.Refusal.{Refusal}
use Rattle.std.specs.Prelude.{◌≡◌, ◌⊎◌, Bool, true, false, ◌&&◌, List, [], ◌∷◌, ℕ, ◌-◌, ◌*◌, leb, Ok, Err, Result}
use Rattle.wide.specs.declared.Wide.{Wide}
use Rattle.wide.specs.Value.{value}
use Rattle.cover.specs.Blocks.{Block}
use Rattle.address.specs.Answers.{Answer, answer, first_of, refusal_number}
use Rattle.records.specs.Records.{read_records}
use Rattle.record_lists.specs.RecordLists.{record_reasons, records_reasons, is_rising}

-- the size of a record of IPv4 or of IPv6, and the width of its addresses
abbrev pub IsSize : ℕ → Type 0
IsSize size = (size ≡ 5) ⊎ (size ≡ 17)

abbrev pub size_width : ℕ → ℕ
size_width size = 8 * (size - 1)

-- one record: its address where it is a block, or the number of the rule that it breaks
abbrev pub JudgedAs : ℕ → Block → Result Wide Refusal → Type 0
JudgedAs W b (Ok a) = (first_of (record_reasons W b) ≡ 0) × (value a ≡ b.address)
JudgedAs W b (Err e) = first_of (record_reasons W b) ≡ refusal_number e

-- whether a list rises that has the address a before it
unfoldable pub rises_from : ℕ → List Block → Bool
rises_from a [] = true
rises_from a (b ∷ bs) = leb a b.address && rises_from b.address bs

-- what n records are answered with
unfoldable pub records_answer : ℕ → ℕ → List ℕ → Answer (ℕ × Bool)
unfolding first_of records_reasons read_records is_rising
records_answer W n bytes = answer (0, false) (first_of (records_reasons W (read_records W n bytes))) (n, is_rising (read_records W n bytes))
