-- Texts that are not read are of no form. Assumes nothing.
use Rattle.std.specs.Prelude.{Option, Some}
use mathlib.Core.Path.{◌≡◌, sym, ap, ◌∙◌}
use mathlib.Core.Bool.{Bool, true, ◌&&◌, and-eq-true_iff, false≢true}
use mathlib.Core.List.{List, [], ◌∷◌}
use Prim.Native.Nat.{ℕ}
use Prim.Native.String.{String}
use Rattle.notation.specs.Ascii.{ascii}
use Rattle.address.specs.declared.Address.{Address}
use Rattle.address.specs.Answers.{missing}
use Rattle.grammar.specs.Specimens.{NoneOf}

-- none of the texts is read
unfoldable pub unread : (List ℕ → Option Address) → List String → Bool
unread f [] = true
unread f (s ∷ ss) = missing (f (ascii s)) && unread f ss

module _ (Form : List ℕ → Address → Type 0) (f : List ℕ → Option Address) (reads : (t : List ℕ) (a : Address) → Form t a → f t ≡ Some a) where
  pub none_of : (ss : List String) → unread f ss ≡ true → NoneOf Form ss
  unfolding unread
  none_of [] e = tt
  none_of (s ∷ ss) e = let both = (and-eq-true_iff (missing (f (ascii s))) (unread f ss)).0 e in (λ a h. false≢true (sym (ap missing (reads (ascii s) a h)) ∙ both.0), none_of ss both.1)
