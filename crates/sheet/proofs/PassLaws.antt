-- The lines of a sheet counted, and read into rows, one after the other. Assumes nothing.
use Rattle.std.specs.Prelude.{Option, Some, None, option_map}
use mathlib.Core.Path.{◌≡◌, refl, sym, ap, ◌∙◌}
use mathlib.Core.Logic.{◌⊎◌, inl, inr}
use mathlib.Core.Bool.{Bool, true, false, cond}
use mathlib.Core.List.{List, [], ◌∷◌, ◌++◌, append-nil, append_assoc}
use Prim.Native.Nat.{ℕ, ◌+◌, ◌≤◌, ◌<◌}
use native.Mathlib.Numerals.{add-one}
use native.Mathlib.Decide.{dec_lt}
use native.Mathlib.Omega.{arith}
use borrow.Author.Tests.{lt-ltb, ltb-true}
use lib.Dec.{ltb}
use lib.ListN.{length, set, take}
use lib.Seq.{take-suc-set}
use Rattle.notation.specs.Pieces.{index_of}
use Rattle.notation.proofs.OptionLaws.{impossible}
use Rattle.notation.proofs.SliceLaws.{tail, to_end_less, none_left}
use Rattle.sheet_lines.specs.declared.Entry.{Entry}
use Rattle.sheet_lines.specs.Lines.{line_entry}
use Rattle.sheet_lines.proofs.EntryLaws.{line_says}
use Rattle.sheet_answers.specs.Sheets.{before, sheet_of, sheet_lines}
use Rattle.sheet_answers.specs.SheetAnswers.{most_lines}
use Rattle.sheet_answers.proofs.LineLaws.{found_entries, found_lines, last_entries, last_lines, no_entries, no_lines}
use Rattle.sheet.specs.Inner.{finished_entry, ReadsRows}

-- ---- the lines counted

-- so many lines stand before the rest
pub record Counted (t rest : List ℕ) (count : ℕ) : Type 0 where
  pub short : count + length rest ≤ length t
  pub lines : length (sheet_lines t) ≡ count + length (sheet_lines rest)

pub count_start : (t : List ℕ) → Counted t t 0
count_start t = record { short = omega arith; lines = omega arith }

module _ {t rest : List ℕ} {count : ℕ} (c : Counted t rest count) where
  module _ (i : ℕ) (at : i ≡ index_of 10 rest) where
    pub count_on : i < length rest → Counted t (tail (i + 1) rest) (count + 1)
    count_on h =
        let s = c.short in
        let l = c.lines in
        record { short = omega (arith, to_end_less i rest h); lines = omega (arith, ap length (found_lines rest i at h)) }

    pub count_last : 0 < length rest → length rest ≤ i → count + 1 ≡ length (sheet_lines t)
    count_last p h = let l = c.lines in omega (arith, ap length (last_lines rest i at p h))

  pub count_done : length rest ≤ 0 → count ≡ length (sheet_lines t)
  count_done h = let l = c.lines in omega (arith, ap (λ r. length (sheet_lines r)) (none_left rest h), ap length no_lines)

-- ---- the lines read

-- a line that is read is finished
pub finished_says : (t : List ℕ) (i : ℕ) (e : Entry) → Some e ≡ (finished_entry t i) → (i < length t) × (line_entry (take i t) ≡ Some e)
finished_says t i e h = go (ltb i (length t)) refl (line_says (finished_entry t i) e h)
  where
    go : (b : Bool) → ltb i (length t) ≡ b → cond b (line_entry (take i t)) None ≡ Some e → (i < length t) × (line_entry (take i t) ≡ Some e)
    go true q k = (ltb-true i (length t) q, k)
    go false q k = impossible k

-- entries before those that are read of the rest
abbrev ahead : List Entry → Option (List Entry) → Option (List Entry)
ahead es o = option_map (λ fs. es ++ fs) o

-- the first n rows have the entries of the lines before the rest
pub record RowsRead (t rest : List ℕ) (rows : List Entry) (n : ℕ) : Type 0 where
  pub counted : Counted t rest n
  pub few : n ≤ most_lines
  pub entries : sheet_of t ≡ ahead (take n rows) (sheet_of rest)

pub read_start : (t : List ℕ) (rows : List Entry) → RowsRead t t rows 0
read_start t rows = record { counted = count_start t; few = omega arith; entries = same (sheet_of t) }
  where
    same : (o : Option (List Entry)) → o ≡ ahead [] o
    same None = refl
    same (Some fs) = refl

ahead_more : (es : List Entry) (e : Entry) (o : Option (List Entry)) → ahead es (before (Some e) o) ≡ ahead (es ++ e ∷ []) o
ahead_more es e None = refl
ahead_more es e (Some fs) = ap Some (sym (append_assoc es (e ∷ []) fs))

module _ {t rest : List ℕ} {rows : List Entry} {n : ℕ} (r : RowsRead t rest rows n) where
  abbrev Fails : Type 0
  Fails = (sheet_of t ≡ None) ⊎ (most_lines < length (sheet_lines t))

  no_entry_lem : sheet_of rest ≡ None → Fails
  no_entry_lem e = inl (r.entries ∙ ap (ahead (take n rows)) e)

  -- there is a line too many
  pub read_many : 0 < length rest → most_lines ≤ n → Fails
  read_many p h = inr (omega (arith, r.counted.lines, some_lines rest p))
    where
      some_lines : (u : List ℕ) → 0 < length u → 0 < length (sheet_lines u)
      some_lines u p = elim (dec_lt (index_of 10 u) (length u)) [
        | yes l ↦ omega (arith, ap length (found_lines u (index_of 10 u) refl l))
        | no m ↦ omega (arith, ap length (last_lines u (index_of 10 u) refl p (omega arith)))
      ]

  module _ (i : ℕ) (at : i ≡ index_of 10 rest) where
    -- the line is not finished, or is malformed
    pub read_bad : 0 < length rest → finished_entry rest i ≡ None → Fails
    read_bad p e = elim (dec_lt i (length rest)) [
      | yes h ↦
          let gone : line_entry (take i rest) ≡ None = sym (ap (λ b. cond b (line_entry (take i rest)) None) (lt-ltb i (length rest) h)) ∙ e in
          no_entry_lem (found_entries rest i at h ∙ ap (λ o. before o (sheet_of (tail (i + 1) rest))) gone)
      | no m ↦ no_entry_lem (last_entries rest i at p (omega arith))
    ]

    -- a line more
    pub read_on : i < length rest → (e : Entry) → line_entry (take i rest) ≡ Some e → n < most_lines → n < length rows → RowsRead t (tail (i + 1) rest) (set rows n e) (n + 1)
    read_on h e is room row =
        record {
          counted = count_on r.counted i at h;
          few = omega arith;
          entries = r.entries
              ∙ ap (ahead (take n rows)) (found_entries rest i at h ∙ ap (λ o. before o (sheet_of (tail (i + 1) rest))) is)
              ∙ ahead_more (take n rows) e (sheet_of (tail (i + 1) rest))
              ∙ ap (λ es. ahead es (sheet_of (tail (i + 1) rest))) (sym (ap (λ (k : ℕ). take k (set rows n e)) (add-one n) ∙ take-suc-set rows n e row));
        }

  -- all are read
  pub read_done : length rest ≤ 0 → ReadsRows t rows (Some n)
  read_done h =
      let empty : sheet_of rest ≡ Some [] = ap sheet_of (sym (none_left rest h)) ∙ no_entries in
      (r.entries ∙ ap (ahead (take n rows)) empty ∙ ap Some (append-nil (take n rows)), r.few)
