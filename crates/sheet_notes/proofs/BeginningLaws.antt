-- The first lines of a sheet: how many bytes and lines they have, and what they hold. Assumes nothing.
use Rattle.std.specs.Prelude.{Option, Some, None}
use mathlib.Core.Path.{◌≡◌, refl, sym, ap, subst, ◌∙◌}
use mathlib.Core.Bool.{Bool, true, false}
use mathlib.Core.List.{List, [], ◌∷◌, ◌++◌}
use Prim.Native.Nat.{ℕ, zero, suc, ◌≤◌, ◌<◌}
use native.Mathlib.Decide.{dec_lt}
use native.Mathlib.Omega.{arith}
use lib.Dec.{eqb}
use lib.ListN.{length, take, drop}
use Rattle.notation.specs.Pieces.{Lacks, Each, index_of}
use Rattle.notation.proofs.PieceLaws.{index_contains, index_lacks, split_first, around}
use Rattle.notation.proofs.SeparatedLaws.{lacks_cons, index_none, pieces_lack}
use Rattle.sheet_lines.specs.declared.Entry.{Entry}
use Rattle.sheet_lines.specs.Lines.{line_entry}
use Rattle.sheet_answers.specs.Sheets.{before, sheet_of, sheet_lines}
use Rattle.sheet_answers.proofs.LineLaws.{after_entries, after_lines, last_lines, no_entries, no_lines}
use Rattle.sheet_notes.specs.SheetNotes.{newlines, one_more, first_lines}
use Rattle.sheet_notes.proofs.LineLaws.{good, good_none, good_last, good_after}

-- ---- a byte more

module _ (k x : ℕ) (t : List ℕ) where
  first_newline : eqb x 10 ≡ true → first_lines (suc k) (x ∷ t) ≡ x ∷ first_lines k t
  unfolding first_lines
  first_newline e = rw e

  first_byte : eqb x 10 ≡ false → first_lines (suc k) (x ∷ t) ≡ x ∷ first_lines (suc k) t
  unfolding first_lines
  first_byte e = rw e

module _ (x : ℕ) (t : List ℕ) where
  newlines_newline : eqb x 10 ≡ true → newlines (x ∷ t) ≡ suc (newlines t)
  unfolding newlines
  newlines_newline e = rw e (omega arith)

  newlines_byte : eqb x 10 ≡ false → newlines (x ∷ t) ≡ newlines t
  unfolding newlines
  newlines_byte e = rw e (omega arith)

pub first_none : (t : List ℕ) → first_lines zero t ≡ []
unfolding first_lines
first_none t = refl

first_empty : (k : ℕ) → first_lines k [] ≡ []
unfolding first_lines
first_empty zero = refl
first_empty (suc k) = refl

newlines_none : newlines [] ≡ 0
unfolding newlines
newlines_none = refl

-- ---- bytes

-- the lines up to that of a byte have the byte
pub reach : (m : ℕ) (t : List ℕ) → m < length t → m < length (first_lines (suc (newlines (take m t))) t)
reach m [] h = absurd (omega arith)
reach zero (x ∷ t) h = go (eqb x 10) refl
  where
    go : (b : Bool) → eqb x 10 ≡ b → 0 < length (first_lines (suc (newlines [])) (x ∷ t))
    go true e = omega (arith, ap length (first_newline (newlines []) x t e))
    go false e = omega (arith, ap length (first_byte (newlines []) x t e))
reach (suc m) (x ∷ t) h = go (eqb x 10) refl (reach m t (omega arith))
  where
    go : (b : Bool) → eqb x 10 ≡ b → m < length (first_lines (suc (newlines (take m t))) t)
        → suc m < length (first_lines (suc (newlines (x ∷ take m t))) (x ∷ t))
    go true e r =
        omega (arith, r, ap length (ap (λ (n : ℕ). first_lines (suc n) (x ∷ t)) (newlines_newline x (take m t) e) ∙ first_newline (suc (newlines (take m t))) x t e))
    go false e r =
        omega (arith, r, ap length (ap (λ (n : ℕ). first_lines (suc n) (x ∷ t)) (newlines_byte x (take m t) e) ∙ first_byte (newlines (take m t)) x t e))

-- and fewer lines do not
pub short : (m k : ℕ) (t : List ℕ) → k ≤ newlines (take m t) → length (first_lines k t) ≤ m
short m zero t h = omega (arith, ap length (first_none t))
short m (suc k) [] h = omega (arith, ap length (first_empty (suc k)))
short zero (suc k) (x ∷ t) h = absurd (omega (arith, newlines_none))
short (suc m) (suc k) (x ∷ t) h = go (eqb x 10) refl (short m k t) (short m (suc k) t)
  where
    go : (b : Bool) → eqb x 10 ≡ b → (k ≤ newlines (take m t) → length (first_lines k t) ≤ m) → (suc k ≤ newlines (take m t) → length (first_lines (suc k) t) ≤ m)
        → length (first_lines (suc k) (x ∷ t)) ≤ suc m
    go true e r s = omega (arith, r (omega (arith, h, newlines_newline x (take m t) e)), ap length (first_newline k x t e))
    go false e r s = omega (arith, s (omega (arith, h, newlines_byte x (take m t) e)), ap length (first_byte k x t e))

-- ---- lines

-- a sheet begins with a line, or has only one without its newline, or nothing
data Begins : List ℕ → Type 0 where
  nothing : Begins []
  unfinished : (p : List ℕ) → Lacks 10 p → 0 < length p → Begins p
  line : (p t : List ℕ) → Lacks 10 p → Begins (p ++ 10 ∷ t)

begins : (t : List ℕ) → Begins t
begins t = elim (dec_lt (index_of 10 t) (length t)) [
  | yes h ↦ subst Begins (around 10 t (index_contains 10 t h)) (line (take (index_of 10 t) t) (drop (suc (index_of 10 t)) t) before_newline)
  | no n ↦ go t (index_lacks 10 t (omega arith))
]
  where
    before_newline : Lacks 10 (take (index_of 10 t) t)
    before_newline = (subst (Each (Lacks 10)) (split_first 10 t).1 (pieces_lack 10 t)).0

    go : (u : List ℕ) → Lacks 10 u → Begins u
    go [] l = nothing
    go (x ∷ u) l = unfinished (x ∷ u) l (omega arith)

module _ (k : ℕ) where
  pub first_unfinished : (p : List ℕ) → Lacks 10 p → first_lines (suc k) p ≡ p
  first_unfinished [] h = first_empty (suc k)
  first_unfinished (x ∷ p) h = let l = lacks_cons 10 x p h in first_byte k x p l.0 ∙ ap (λ u. x ∷ u) (first_unfinished p l.1)

  pub first_line : (p t : List ℕ) → Lacks 10 p → first_lines (suc k) (p ++ 10 ∷ t) ≡ p ++ 10 ∷ first_lines k t
  first_line [] t h = first_newline k 10 t refl
  first_line (x ∷ p) t h = let l = lacks_cons 10 x p h in first_byte k x (p ++ 10 ∷ t) l.0 ∙ ap (λ u. x ∷ u) (first_line p t l.1)

abbrev lines : List ℕ → ℕ
lines t = length (sheet_lines t)

one_line : (p : List ℕ) → Lacks 10 p → 0 < length p → lines p ≡ 1
one_line p h l = ap length (last_lines p (index_of 10 p) refl l (omega (arith, index_none 10 p h)))

more_lines : (p t : List ℕ) → Lacks 10 p → lines (p ++ 10 ∷ t) ≡ suc (lines t)
more_lines p t h = ap length (after_lines p t h)

-- no more lines than asked for
pub lines_most : (k : ℕ) (t : List ℕ) → lines (first_lines k t) ≤ k
lines_most zero t = omega (arith, ap lines (first_none t), ap length no_lines)
lines_most (suc k) t = go (begins t) (lines_most k)
  where
    go : {t : List ℕ} → Begins t → ((u : List ℕ) → lines (first_lines k u) ≤ k) → lines (first_lines (suc k) t) ≤ suc k
    go nothing r = omega (arith, ap lines (first_empty (suc k)), ap length no_lines)
    go (unfinished p h l) r = omega (arith, ap lines (first_unfinished k p h), one_line p h l)
    go (line p t h) r = omega (arith, r t, ap lines (first_line k p t h), more_lines p (first_lines k t) h)

-- and so many, where the sheet has them
pub lines_least : (k : ℕ) (t : List ℕ) → k ≤ lines t → k ≤ lines (first_lines k t)
lines_least zero t l = omega arith
lines_least (suc k) t l = go (begins t) l (lines_least k)
  where
    go : {t : List ℕ} → Begins t → suc k ≤ lines t → ((u : List ℕ) → k ≤ lines u → k ≤ lines (first_lines k u)) → suc k ≤ lines (first_lines (suc k) t)
    go nothing m r = absurd (omega (arith, m, ap length no_lines))
    go (unfinished p h l) m r = omega (arith, m, ap lines (first_unfinished k p h))
    go (line p t h) m r = omega (arith, r t (omega (arith, m, more_lines p t h)), ap lines (first_line k p t h), more_lines p (first_lines k t) h)

-- all its lines are the sheet
pub lines_all : (k : ℕ) (t : List ℕ) → lines t ≤ k → first_lines k t ≡ t
lines_all zero t l = go (begins t) l
  where
    go : {t : List ℕ} → Begins t → lines t ≤ 0 → first_lines zero t ≡ t
    go nothing m = first_none []
    go (unfinished p h l) m = absurd (omega (arith, m, one_line p h l))
    go (line p t h) m = absurd (omega (arith, m, more_lines p t h))
lines_all (suc k) t l = go (begins t) l (lines_all k)
  where
    go : {t : List ℕ} → Begins t → lines t ≤ suc k → ((u : List ℕ) → lines u ≤ k → first_lines k u ≡ u) → first_lines (suc k) t ≡ t
    go nothing m r = first_empty (suc k)
    go (unfinished p h l) m r = first_unfinished k p h
    go (line p t h) m r = first_line k p t h ∙ ap (λ u. p ++ 10 ∷ u) (r t (omega (arith, m, more_lines p t h)))

-- ---- what they hold

-- the good lines are a sheet
pub good_held : (k : ℕ) (t : List ℕ) → k ≤ good t → (es : List Entry) × (sheet_of (first_lines k t) ≡ Some es)
good_held zero t l = ([], ap sheet_of (first_none t) ∙ no_entries)
good_held (suc k) t l = go (begins t) l (good_held k)
  where
    held : (o : Option Entry) (t : List ℕ) → suc k ≤ one_more o (good t) → ((u : List ℕ) → k ≤ good u → (es : List Entry) × (sheet_of (first_lines k u) ≡ Some es))
        → (es : List Entry) × (before o (sheet_of (first_lines k t)) ≡ Some es)
    held None t m r = absurd (omega arith)
    held (Some e) t m r = let s = r t (omega arith) in (e ∷ s.0, ap (before (Some e)) s.1)

    go : {t : List ℕ} → Begins t → suc k ≤ good t → ((u : List ℕ) → k ≤ good u → (es : List Entry) × (sheet_of (first_lines k u) ≡ Some es))
        → (es : List Entry) × (sheet_of (first_lines (suc k) t) ≡ Some es)
    go nothing m r = absurd (omega (arith, m, good_none))
    go (unfinished p h l) m r = absurd (omega (arith, m, good_last p (index_of 10 p) refl (omega (arith, index_none 10 p h))))
    go (line p t h) m r =
        let s = held (line_entry p) t (omega (arith, m, good_after p t h)) r in
        (s.0, ap sheet_of (first_line k p t h) ∙ after_entries p (first_lines k t) h ∙ s.1)

-- and with one more they are none, where the whole is none
bad_step : (n : ℕ) → ((u : List ℕ) → suc (good u) ≡ n → sheet_of u ≡ None → sheet_of (first_lines n u) ≡ None)
    → {t : List ℕ} → Begins t → good t ≡ n → sheet_of t ≡ None → sheet_of (first_lines (suc n) t) ≡ None
bad_step n r nothing g z = ap sheet_of (first_empty (suc n)) ∙ z
bad_step n r (unfinished p h l) g z = ap sheet_of (first_unfinished n p h) ∙ z
bad_step n r (line p t h) g z =
    ap sheet_of (first_line n p t h) ∙ after_entries p (first_lines n t) h ∙ held (line_entry p) (sym (good_after p t h) ∙ g) (sym (after_entries p t h) ∙ z)
  where
    rest_none : (e : Entry) (o : Option (List Entry)) → before (Some e) o ≡ None → o ≡ None
    rest_none e None z = refl
    rest_none e (Some es) z = let y : ◌≡◌ {A = ℕ} 0 1 = cc in absurd (omega arith)

    held : (o : Option Entry) → one_more o (good t) ≡ n → before o (sheet_of t) ≡ None → before o (sheet_of (first_lines n t)) ≡ None
    held None m z = refl
    held (Some e) m z = ap (before (Some e)) (r t (omega arith) (rest_none e (sheet_of t) z))

pub bad_held : (n : ℕ) (t : List ℕ) → good t ≡ n → sheet_of t ≡ None → sheet_of (first_lines (suc n) t) ≡ None
bad_held zero t = bad_step zero (λ u e z. absurd (omega (arith, e))) (begins t)
bad_held (suc n) t = bad_step (suc n) (λ u e. bad_held n u (omega (arith, e))) (begins t)
