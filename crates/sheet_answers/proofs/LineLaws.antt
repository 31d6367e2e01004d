-- A sheet cut at its newlines, one line after the other. Assumes nothing.
use Rattle.std.specs.Prelude.{Some, None}
use mathlib.Core.Path.{◌≡◌, refl, sym, ap, ◌∙◌}
use mathlib.Core.List.{List, [], ◌∷◌, ◌++◌}
use Prim.Native.Nat.{ℕ, ◌+◌, ◌≤◌, ◌<◌}
use native.Mathlib.Numerals.{add-one}
use native.Mathlib.Omega.{arith}
use lib.ListN.{length, take}
use Rattle.notation.specs.Pieces.{Lacks, index_of, split_on}
use Rattle.notation.proofs.PieceLaws.{split_found, split_last, split_first}
use Rattle.notation.proofs.SeparatedLaws.{lacks_cons}
use Rattle.notation.proofs.SliceLaws.{tail, to_end}
use Rattle.sheet_lines.specs.Lines.{line_entry}
use Rattle.sheet_answers.specs.Sheets.{before, entries_of, sheet_of, lines_of, sheet_lines}

-- a line, and what stands behind its newline
record Cut (t line rest : List ℕ) : Type 0 where
  is : split_on 10 t ≡ line ∷ split_on 10 rest

module _ (t line rest : List ℕ) (c : Cut t line rest) where
  cut_entries : sheet_of t ≡ before (line_entry line) (sheet_of rest)
  unfolding sheet_of entries_of
  cut_entries =
      let s = split_first 10 rest in
      ap entries_of (c.is ∙ ap (λ ps. line ∷ ps) s.1) ∙ ap (λ ps. before (line_entry line) (entries_of ps)) (sym s.1)

  cut_lines : sheet_lines t ≡ line ∷ sheet_lines rest
  unfolding sheet_lines lines_of
  cut_lines =
      let s = split_first 10 rest in
      ap lines_of (c.is ∙ ap (λ ps. line ∷ ps) s.1) ∙ ap (λ ps. line ∷ lines_of ps) (sym s.1)

-- ---- as the code cuts it

module _ (t : List ℕ) (i : ℕ) (at : i ≡ index_of 10 t) where
  module _ (h : i < length t) where
    found : Cut t (take i t) (tail (i + 1) t)
    found = record { is = rw (to_end (i + 1) t, add-one i, at) (split_found 10 t (omega arith)) }

    pub found_entries : sheet_of t ≡ before (line_entry (take i t)) (sheet_of (tail (i + 1) t))
    found_entries = cut_entries t (take i t) (tail (i + 1) t) found

    pub found_lines : sheet_lines t ≡ take i t ∷ sheet_lines (tail (i + 1) t)
    found_lines = cut_lines t (take i t) (tail (i + 1) t) found

  pub last_entries : 0 < length t → length t ≤ i → sheet_of t ≡ None
  unfolding sheet_of
  last_entries p h = ap entries_of (split_last 10 t (omega arith)) ∙ some_bytes t p
    where
      some_bytes : (u : List ℕ) → 0 < length u → entries_of (u ∷ []) ≡ None
      some_bytes [] q = absurd (omega arith)
      some_bytes (x ∷ u) q = refl

  pub last_lines : 0 < length t → length t ≤ i → sheet_lines t ≡ t ∷ []
  unfolding sheet_lines
  last_lines p h = ap lines_of (split_last 10 t (omega arith)) ∙ some_bytes t p
    where
      some_bytes : (u : List ℕ) → 0 < length u → lines_of (u ∷ []) ≡ u ∷ []
      some_bytes [] q = absurd (omega arith)
      some_bytes (x ∷ u) q = refl

pub no_entries : sheet_of [] ≡ Some []
unfolding sheet_of
no_entries = refl

pub no_lines : sheet_lines [] ≡ []
unfolding sheet_lines
no_lines = refl

-- ---- as the text is put together

split_after : (p t : List ℕ) → Lacks 10 p → split_on 10 (p ++ 10 ∷ t) ≡ p ∷ split_on 10 t
unfolding split_on
split_after [] t h = refl
split_after (x ∷ p) t h = let l = lacks_cons 10 x p h in rw (l.0, split_after p t l.1)

module _ (p t : List ℕ) (h : Lacks 10 p) where
  after : Cut (p ++ 10 ∷ t) p t
  after = record { is = split_after p t h }

  pub after_entries : sheet_of (p ++ 10 ∷ t) ≡ before (line_entry p) (sheet_of t)
  after_entries = cut_entries (p ++ 10 ∷ t) p t after

  pub after_lines : sheet_lines (p ++ 10 ∷ t) ≡ p ∷ sheet_lines t
  after_lines = cut_lines (p ++ 10 ∷ t) p t after
