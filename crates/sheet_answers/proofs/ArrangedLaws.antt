-- Entries as they stand or sorted: the same entries, each once; sorting twice. Assumes nothing.
use mathlib.Core.Path.{◌≡◌, refl, sym, subst, ◌∙◌}
use mathlib.Core.Bool.{Bool, true, false, cond}
use mathlib.Core.List.Memᴰ
use mathlib.Core.List.Permᴰ
use mathlib.Core.List.{List, [], Memᴰ, Permᴰ}
use mathlib.Core.Logic.{⊎_elim}
use Rattle.stable_sort.specs.Stable.{StableSort}
use Rattle.stable_sort.proofs.StableLaws.{sort_is, sort_only, sort_twice}
use Rattle.sheet_lines.specs.declared.Entry.{Entry}
use Rattle.sheet_lines.specs.Lines.{IsEntry}
use Rattle.sheet_answers.specs.Sheets.{AllEntries, entry_place, sorted, arranged}

-- ---- the same elements, each once

module _ {A : Type 0} where
  -- what stands in the second list stands in the first
  pub perm_from : {a : A} {xs ys : List A} → Permᴰ xs ys → Memᴰ a ys → Memᴰ a xs
  perm_from Permᴰ.nil m = m
  perm_from (Permᴰ.cons e p) m = ⊎_elim (λ g. Memᴰ.head (g ∙ sym e)) (λ n. Memᴰ.tail (perm_from p n)) (Memᴰ.cases_cons m)
  perm_from (Permᴰ.swap e g) m =
      ⊎_elim (λ h. Memᴰ.tail (Memᴰ.head (h ∙ sym g)))
      (λ n. ⊎_elim (λ h. Memᴰ.head (h ∙ sym e)) (λ r. Memᴰ.tail (Memᴰ.tail r)) (Memᴰ.cases_cons n))
      (Memᴰ.cases_cons m)
  perm_from (Permᴰ.trans p q) m = perm_from p (perm_from q m)

pub perm_all : {es fs : List Entry} → Permᴰ es fs → AllEntries es → AllEntries fs
perm_all Permᴰ.nil a = tt
perm_all (Permᴰ.cons e p) a = (subst IsEntry e a.0, perm_all p a.1)
perm_all (Permᴰ.swap e g) a = (subst IsEntry g a.1.0, (subst IsEntry e a.0, a.1.1))
perm_all (Permᴰ.trans p q) a = perm_all q (perm_all p a)

-- ---- arranged

pub sorted_is : (es : List Entry) → StableSort entry_place es (sorted es)
unfolding sorted
sorted_is es = sort_is entry_place es

pub sorted_only : (es fs : List Entry) → StableSort entry_place es fs → fs ≡ sorted es
unfolding sorted
sorted_only es fs s = sort_only entry_place es fs s

unsorted_is : (es : List Entry) → arranged false es ≡ es
unsorted_is es = refl

pub arranged_perm : (sort : Bool) (es : List Entry) → Permᴰ es (arranged sort es)
arranged_perm true es = (sorted_is es).each_once
arranged_perm false es = subst (Permᴰ es) (sym (unsorted_is es)) (Permᴰ.refl es)

pub arranged_all : (sort : Bool) (es : List Entry) → AllEntries es → AllEntries (arranged sort es)
arranged_all sort es a = perm_all (arranged_perm sort es) a

pub arranged_twice : (sort then : Bool) (es : List Entry) → arranged then (arranged sort es) ≡ arranged (cond sort true then) es
unfolding sorted
arranged_twice true true es = sort_twice entry_place es
arranged_twice true false es = refl
arranged_twice false then es = refl

pub arranged_none : (sort : Bool) → arranged sort [] ≡ []
unfolding sorted
arranged_none true = refl
arranged_none false = refl
