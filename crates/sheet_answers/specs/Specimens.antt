-- How a sheet is written down in a claim, by its lines, and lines that are malformed. Assumes nothing.
use Rattle.std.specs.Prelude.{◌≡◌, Bool, List, [], ◌∷◌, ◌++◌, ℕ}
use Prim.Native.String.{String}
use Rattle.notation.specs.Ascii.{ascii}
use Rattle.address.specs.declared.Refusal.{Refusal}
use Rattle.address.specs.declared.Refusal.TheVariants.{Malformed}
use Rattle.address.specs.Answers.{refuses}
use Rattle.sheet_answers.specs.SheetAnswers.{respell_answer, respell_leaves}

-- these lines, each "ended by a newline"
unfoldable pub ended : List String → List ℕ
unfolding ascii
ended [] = []
ended (line ∷ lines) = ascii line ++ 10 ∷ ended lines

-- a sheet that is refused, whatever the request and the buffer, which stays as it was
abbrev pub Refused : List ℕ → Refusal → Type 0
Refused t e = (sort : Bool) (old : List ℕ) → (respell_answer sort t old ≡ refuses 0 e) × (respell_leaves sort t old ≡ old)

-- each line alone is a sheet that is refused by 2
abbrev pub EachMalformed : List String → Type 0
EachMalformed [] = Unit {0}
EachMalformed (line ∷ lines) = Refused (ended (line ∷ [])) Malformed × EachMalformed lines

-- volumes and pHs beyond the limits, leading zeros, a sign, two fields, four fields, an empty field, blanks, other separators, an address that is no
-- strict text, no byte at all
abbrev pub malformed_lines : List String
malformed_lines =
    "10.0.0.1,0,700"
    ∷ "10.0.0.1,1000000,700"
    ∷ "10.0.0.1,7,1401"
    ∷ "10.0.0.1,07,700"
    ∷ "10.0.0.1,007,700"
    ∷ "10.0.0.1,7,00"
    ∷ "10.0.0.1,+7,700"
    ∷ "10.0.0.1,7"
    ∷ "10.0.0.1,7,700,"
    ∷ "10.0.0.1,,700"
    ∷ "10.0.0.1,7,"
    ∷ ",7,700"
    ∷ "10.0.0.1, 7,700"
    ∷ "10.0.0.1;7;700"
    ∷ "010.0.0.1,7,700"
    ∷ ""
    ∷ []
