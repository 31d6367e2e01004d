-- A sheet that is refused whatever the request and the buffer, and lines that are. Assumes nothing.
use mathlib.Core.Path.{◌≡◌, sym}
use mathlib.Core.Bool.{Bool, true, ◌&&◌, and-eq-true_iff}
use mathlib.Core.List.{List, [], ◌∷◌}
use Prim.Native.Nat.{ℕ}
use Prim.Native.String.{String}
use borrow.Author.Tests.{eqb-true}
use lib.Dec.{eqb}
use Rattle.address.specs.declared.Refusal.{Refusal}
use Rattle.address.specs.declared.Refusal.TheVariants.{Malformed}
use Rattle.address.specs.Answers.{refusal_number}
use Rattle.sheet_answers.specs.SheetAnswers.{sheet_refusal}
use Rattle.sheet_answers.specs.Specimens.{ended, Refused, EachMalformed}
use Rattle.sheet_answers.proofs.RefusalLaws.{refused_by_lem}

pub refused : (t : List ℕ) (e : Refusal) → sheet_refusal t ≡ refusal_number e → Refused t e
refused t e h sort old = let r = refused_by_lem sort t old e h in (sym r.0, sym r.1)

-- each line alone is refused by 2
unfoldable pub all_malformed : List String → Bool
all_malformed [] = true
all_malformed (line ∷ lines) = eqb (sheet_refusal (ended (line ∷ []))) 2 && all_malformed lines

pub each_malformed : (lines : List String) → all_malformed lines ≡ true → EachMalformed lines
unfolding all_malformed
each_malformed [] e = tt
each_malformed (line ∷ lines) e =
    let both = (and-eq-true_iff (eqb (sheet_refusal (ended (line ∷ []))) 2) (all_malformed lines)).0 e in
    (refused (ended (line ∷ [])) Malformed (eqb-true (sheet_refusal (ended (line ∷ []))) 2 both.0), each_malformed lines both.1)
