-- A line cut at its commas. Assumes nothing.
use Rattle.std.specs.Prelude.{None}
use mathlib.Core.Path.{◌≡◌, refl, sym, ap, ◌∙◌}
use mathlib.Core.List.{List, ◌∷◌}
use Prim.Native.Nat.{ℕ, suc, ◌+◌, ◌≤◌, ◌<◌}
use native.Mathlib.Numerals.{add-one}
use native.Mathlib.Decide.{dec_lt}
use native.Mathlib.Omega.{arith}
use lib.ListN.{length, take, drop}
use Rattle.digits.specs.Numerals.{digit_of}
use Rattle.notation.specs.Pieces.{index_of, split_on}
use Rattle.notation.proofs.PieceLaws.{index_contains, split_found, split_last, split_first}
use Rattle.notation.proofs.SliceLaws.{tail, to_end}
use Rattle.sheet_lines.specs.Lines.{address_of, volume_of, ph_of, entry_of, fields_entry, line_entry}
use Rattle.sheet_lines.proofs.FieldLaws.{number_none, no_ph, ph_is}

comma_no_digit : digit_of 44 ≡ 16
unfolding digit_of
comma_no_digit = refl

-- what stands behind the second comma is the pH, and no pH has a comma
last_field : (a v t : List ℕ) → fields_entry (a ∷ v ∷ split_on 44 t) ≡ entry_of (address_of a) (volume_of v) (ph_of t)
unfolding fields_entry
last_field a v t = elim (dec_lt (index_of 44 t) (length t)) [
  | yes h ↦
      let s = split_first 44 (drop (suc (index_of 44 t)) t) in
      ap (λ ps. fields_entry (a ∷ v ∷ ps)) (split_found 44 t h ∙ ap (λ ps. take (index_of 44 t) t ∷ ps) s.1)
      ∙ sym (ap (entry_of (address_of a) (volume_of v)) (ph_is t ∙ number_none 1400 t 44 comma_no_digit (index_contains 44 t h)) ∙ no_ph (address_of a) (volume_of v))
  | no n ↦ ap (λ ps. fields_entry (a ∷ v ∷ ps)) (split_last 44 t (omega arith))
]

module _ (t : List ℕ) (i : ℕ) (at : i ≡ index_of 44 t) where
  -- no comma
  pub line_none : length t ≤ i → line_entry t ≡ None
  unfolding line_entry
  line_none h = ap fields_entry (split_last 44 t (omega arith))

  module _ (h : i < length t) (j : ℕ) (there : j ≡ index_of 44 (tail (i + 1) t)) where
    line_first : split_on 44 t ≡ take i t ∷ split_on 44 (tail (i + 1) t)
    line_first = rw (to_end (i + 1) t, add-one i, at) (split_found 44 t (omega arith))

    -- one comma
    pub line_one : length (tail (i + 1) t) ≤ j → line_entry t ≡ None
    unfolding line_entry
    line_one l = ap fields_entry (line_first ∙ ap (λ ps. take i t ∷ ps) (split_last 44 (tail (i + 1) t) (omega arith)))

    -- two or more
    pub line_two : j < length (tail (i + 1) t)
        → line_entry t ≡ entry_of (address_of (take i t)) (volume_of (take j (tail (i + 1) t))) (ph_of (tail (j + 1) (tail (i + 1) t)))
    unfolding line_entry
    line_two l =
        let r = tail (i + 1) t in
        let second : split_on 44 r ≡ take j r ∷ split_on 44 (tail (j + 1) r) = rw (to_end (j + 1) r, add-one j, there) (split_found 44 r (omega arith)) in
        ap fields_entry (line_first ∙ ap (λ ps. take i t ∷ ps) second) ∙ last_field (take i t) (take j r) (tail (j + 1) r)
