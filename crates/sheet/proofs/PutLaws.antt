-- Rows put, one after the other. Assumes nothing.
use mathlib.Core.Path.{◌≡◌, refl, sym, ap, ◌∙◌, subst}
use mathlib.Core.Bool.{Bool, true, false, cond}
use mathlib.Core.List.{List, [], ◌∷◌, ◌++◌, append-nil, append_assoc}
use Prim.Native.Nat.{ℕ, ◌+◌, ◌≤◌, ◌<◌}
use native.Mathlib.Numerals.{add-one}
use borrow.Author.Tests.{eq-eqb, ne_eqb}
use lib.Dec.{eqb}
use lib.ListN.{length, get_or, drop, drop_of_length-le}
use lib.Seq.{drop-cons}
use Rattle.address.specs.Addresses.{family}
use Rattle.output.specs.Placing.{Puts}
use Rattle.output.proofs.PlacingLaws.{puts_then, puts_none}
use Rattle.stable_sort.specs.Stable.{with_key}
use Rattle.sheet_lines.specs.declared.Entry.{Entry}
use Rattle.sheet_lines.specs.Lines.{entry_line}
use Rattle.sheet_answers.specs.Sheets.{sheet_text}
use Rattle.sheet.specs.Inner.{row_at, picked, of_family}

-- ---- one entry

one_line : (e : Entry) → sheet_text (e ∷ []) ≡ entry_line e
unfolding sheet_text
one_line e = append-nil (entry_line e)

module _ (f : ℕ) (e : Entry) where
  pub line_wanted : family e.address ≡ f → sheet_text (of_family f (e ∷ [])) ≡ entry_line e
  unfolding with_key
  line_wanted h = rw (eq-eqb (family e.address) f h) (one_line e)

  pub line_other : ¬ (family e.address ≡ f) → sheet_text (of_family f (e ∷ [])) ≡ []
  unfolding with_key sheet_text
  line_other m = rw (ne_eqb (family e.address) f m) refl

pub text_append : (es fs : List Entry) → sheet_text (es ++ fs) ≡ sheet_text es ++ sheet_text fs
unfolding sheet_text
text_append [] fs = refl
text_append (e ∷ es) fs = ap (λ r. entry_line e ++ r) (text_append es fs) ∙ sym (append_assoc (entry_line e) (sheet_text es) (sheet_text fs))

-- ---- one after the other

-- From `old` what is written of the first p elements is put, and `now` is left: putting what is written of the others puts all.
pub record Putting {A : Type 0} (write : List A → List ℕ) (xs : List A) (old : List ℕ) (at : ℕ) (now : List ℕ) (next p : ℕ) : Type 0 where
  pub others : (new : List ℕ) (r : ℕ) → Puts now new next r (write (drop p xs)) → Puts old new at r (write xs)

module _ {A : Type 0} {write : List A → List ℕ} {xs : List A} {old : List ℕ} {at : ℕ} {now : List ℕ} {next p : ℕ} (k : Putting write xs old at now next p) where
  pub put_on : p < length xs → (d : A) (one : List ℕ) → ((ys : List A) → write (get_or xs p d ∷ ys) ≡ one ++ write ys) → {mid : List ℕ} {on : ℕ} → Puts now mid next on one
      → Putting write xs old at mid on (p + 1)
  put_on h d one law {mid} {on} q =
      let rest = drop (p + 1) xs in
      let split : write (drop p xs) ≡ one ++ write rest =
      ap write (drop-cons xs p d h ∙ ap (λ (j : ℕ). get_or xs p d ∷ drop j xs) (sym (add-one p))) ∙ law rest in
      record { others = λ new r u. k.others new r (subst (Puts now new next r) (sym split) (puts_then q u)) }

  pub put_done : length xs ≤ p → write [] ≡ [] → Puts old now at next (write xs)
  put_done h none =
      k.others now next (subst (λ l. Puts now now next next (write l)) (sym (drop_of_length-le xs h)) (subst (Puts now now next next) (sym none) (puts_none now next)))

pub no_text : sheet_text [] ≡ []
unfolding sheet_text
no_text = refl

pub text_cons : (e : Entry) (es : List Entry) → sheet_text (e ∷ es) ≡ entry_line e ++ sheet_text es
unfolding sheet_text
text_cons e es = refl

-- the text of the rows of a family, in an order
abbrev pub family_text : List Entry → ℕ → List ℕ → List ℕ
family_text rows f order = sheet_text (of_family f (picked rows order))

pub no_family : (rows : List Entry) (f : ℕ) → family_text rows f [] ≡ []
unfolding with_key sheet_text
no_family rows f = refl

family_cons : (f : ℕ) (e : Entry) (es : List Entry) → of_family f (e ∷ es) ≡ of_family f (e ∷ []) ++ of_family f es
unfolding with_key
family_cons f e es = go (eqb (family e.address) f)
  where
    go : (b : Bool) → cond b (e ∷ of_family f es) (of_family f es) ≡ cond b (e ∷ []) [] ++ of_family f es
    go true = refl
    go false = refl

pub family_text_cons : (rows : List Entry) (f i : ℕ) (order : List ℕ)
    → family_text rows f (i ∷ order) ≡ sheet_text (of_family f (row_at rows i ∷ [])) ++ family_text rows f order
family_text_cons rows f i order =
    let e = row_at rows i in
    let es = picked rows order in
    ap sheet_text (family_cons f e es) ∙ text_append (of_family f (e ∷ [])) (of_family f es)
