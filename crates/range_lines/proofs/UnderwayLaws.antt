-- The loop over the lines of a piece. Assumes nothing.
use mathlib.Core.Path.{◌≡◌, refl, sym, ap, subst, ◌∙◌}
use mathlib.Core.Bool.{Bool, true, false, ◌||◌}
use mathlib.Core.List.{List, [], ◌∷◌, ◌++◌}
use Prim.Native.Nat.{ℕ, suc, ◌+◌, ◌-◌, ◌≤◌, ◌<◌}
use native.Mathlib.Numerals.{add-one}
use native.Mathlib.Omega.{arith}
use borrow.Author.Tests.{ltb-true, ltb-false}
use lib.Dec.{ltb}
use lib.ListN.{length, take, drop, length-drop, length-take}
use Rattle.notation.specs.Pieces.{index_of}
use Rattle.notation.proofs.SliceLaws.{tail, to_end}
use Rattle.output.specs.Placing.{Puts}
use Rattle.output.proofs.PlacingLaws.{puts_then, puts_none, puts_length, puts_room}
use Rattle.range_text.specs.RangeText.{answer_line}
use Rattle.range_text.proofs.Claims.{at_most_11176}
use Rattle.range_lines.specs.declared.Reader.{Reader}
use Rattle.range_lines.specs.declared.Fed.{Fed}
use Rattle.range_lines.specs.Lines.{Report, silence, line_report}
use Rattle.range_lines.specs.Feeding.{pending_text, kept, closing, place_of, behind_line, Feeding, has_room, fed, Feeds}
use Rattle.range_lines.specs.Inner.{AnswersLine, BeginsLine}
use Rattle.range_lines.proofs.LineLaws.{or_assoc}
use Rattle.range_lines.proofs.NoteLaws.{or_none}
use Rattle.range_lines.proofs.FedLaws.{told_most, room_both, fed_last, fed_full, fed_line}

module _ (explain : Bool) (name : List ℕ) (s : Reader) (piece out notes : List ℕ) where
  -- all that the piece gives, and what its rest still gives
  abbrev pub whole : Feeding
  whole = fed explain name (length out) (length notes) (place_of s) piece

  abbrev pub ahead : Fed → List ℕ → Feeding
  ahead done rest = fed explain name (length out - done.next) (length notes - done.noted) (place_of done.reader) rest

  -- Some lines of the piece are answered, and `rest` is left: what it still gives, put behind what is put, is what the piece gives.
  pub record Underway (done : Fed) (rest outNow notesNow : List ℕ) : Type 0 where
    pub used : done.next ≤ length out
    pub noted : done.noted ≤ length notes
    pub same : length outNow ≡ length out
    pub same_notes : length notesNow ≡ length notes
    pub taken : done.taken + length rest ≡ length piece
    pub answers : {new : List ℕ} {next : ℕ} → Puts outNow new done.next next (ahead done rest).report.text → Puts out new 0 next whole.report.text
    pub told : {new : List ℕ} {next : ℕ} → Puts notesNow new done.noted next (ahead done rest).report.notes → Puts notes new 0 next whole.report.notes
    pub refused : (done.refused || (ahead done rest).report.refused) ≡ whole.report.refused
    pub place : (ahead done rest).place ≡ whole.place
    pub left : (ahead done rest).rest ≡ whole.rest

  pub underway_start : Underway (record { reader = s; taken = 0; next = 0; noted = 0; refused = false }) piece out notes
  underway_start =
      let done : Fed = record { reader = s; taken = 0; next = 0; noted = 0; refused = false } in
      let free : length out - 0 ≡ length out = omega arith in
      let spare : length notes - 0 ≡ length notes = omega arith in
      let e : ahead done piece ≡ whole = cc in
      record {
        used = omega arith;
        noted = omega arith;
        same = refl;
        same_notes = refl;
        taken = omega arith;
        answers = λ p. rw (← e) p;
        told = λ p. rw (← e) p;
        refused = ap (λ f. f.report.refused) e;
        place = ap (λ f. f.place) e;
        left = ap (λ f. f.rest) e;
      }

  module _ (done : Fed) (rest outNow notesNow : List ℕ) (u : Underway done rest outNow notesNow) where
    -- the rest ends no line
    module _ (h : length rest ≤ index_of 10 rest) where
      none_ends : ahead done rest ≡ record { report = silence; place = record { begun = kept ((place_of done.reader).begun ++ rest); line = done.reader.line }; rest = [] }
      none_ends = fed_last explain name (length out - done.next) (length notes - done.noted) (place_of done.reader) rest h

      pub underway_last : (r : Fed) → BeginsLine done rest r → Feeds explain name s piece out outNow notes notesNow r
      underway_last r b =
          let e = none_ends in
          let none : length whole.rest ≡ 0 = ap length (sym u.left ∙ ap (λ f. f.rest) e) in
          record {
            answers = rw b.answers (u.answers (rw e (puts_none outNow done.next)));
            told = rw b.told (u.told (rw e (puts_none notesNow done.noted)));
            refused = b.refused ∙ or_none done.refused (ahead done rest).report.refused (ap (λ f. f.report.refused) e) ∙ u.refused;
            place = b.place ∙ sym (ap (λ f. f.place) e) ∙ u.place;
            taken = omega (arith, b.taken, u.taken, none);
          }

    -- it ends one, and there is no room
    module _ (h : index_of 10 rest < length rest) where
      pub underway_full : has_room explain name (length out - done.next) (length notes - done.noted) ≡ false → Feeds explain name s piece out outNow notes notesNow done
      underway_full k =
          let e = fed_full explain name (length out - done.next) (length notes - done.noted) (place_of done.reader) rest h k in
          record {
            answers = u.answers (rw e (puts_none outNow done.next));
            told = u.told (rw e (puts_none notesNow done.noted));
            refused = or_none done.refused (ahead done rest).report.refused (ap (λ f. f.report.refused) e) ∙ u.refused;
            place = sym (ap (λ f. f.place) e) ∙ u.place;
            taken = omega (arith, u.taken, ap length (sym u.left ∙ ap (λ f. f.rest) e));
          }

      -- and there is: the line is answered
      pub underway_line : has_room explain name (length out - done.next) (length notes - done.noted) ≡ true
          → (r : Fed) {outNext notesNext : List ℕ} → AnswersLine explain name done (take (index_of 10 rest) rest) outNow outNext notesNow notesNext r
          → Underway r (drop (suc (index_of 10 rest)) rest) outNext notesNext
      underway_line k r {outNext} {notesNext} a =
          let free = length out - done.next in
          let spare = length notes - done.noted in
          let line = (place_of done.reader).begun ++ take (index_of 10 rest) rest in
          let more = drop (suc (index_of 10 rest)) rest in
          let one : Report = line_report explain name done.reader.line (answer_line line) in
          let others : Feeding = fed explain name (free - length one.text) (spare - length one.notes) (behind_line done.reader.line) more in
          let e = fed_line explain name free spare (place_of done.reader) rest h k in
          let room = room_both explain name free spare k in
          let next : r.next ≡ done.next + length one.text = (puts_room a.answer (omega (arith, room.0, at_most_11176 line, u.same, u.used))).0 in
          let noted : r.noted ≡ done.noted + length one.notes =
          (puts_room a.told (omega (arith, room.1, told_most explain name done.reader.line (answer_line line).number, u.same_notes, u.noted))).0
          in
          let free_left : length out - r.next ≡ free - length one.text = omega (arith, next) in
          let spare_left : length notes - r.noted ≡ spare - length one.notes = omega (arith, noted) in
          let stands = a.place in
          let on : others ≡ ahead r more = cc in
          record {
            used = omega (arith, next, room.0, at_most_11176 line);
            noted = omega (arith, noted, room.1, told_most explain name done.reader.line (answer_line line).number);
            same = puts_length a.answer ∙ u.same;
            same_notes = puts_length a.told ∙ u.same_notes;
            taken = omega (arith, u.taken, a.taken, length-take (index_of 10 rest) rest, length-drop (suc (index_of 10 rest)) rest);
            answers = λ p. u.answers (rw e (puts_then a.answer (rw on p)));
            told = λ p. u.told (rw e (puts_then a.told (rw on p)));
            refused = ap (λ t. t || (ahead r more).report.refused) a.refused
                ∙ or_assoc done.refused one.refused (ahead r more).report.refused
                ∙ ap (λ f. done.refused || (one.refused || f.report.refused)) (sym on)
                ∙ ap (λ f. done.refused || f.report.refused) (sym e)
                ∙ u.refused;
            place = sym (ap (λ f. f.place) on) ∙ sym (ap (λ f. f.place) e) ∙ u.place;
            left = sym (ap (λ f. f.rest) on) ∙ sym (ap (λ f. f.rest) e) ∙ u.left;
          }

    -- ---- as the code has it

    pub underway_room : has_room explain name (length outNow - done.next) (length notesNow - done.noted) ≡ has_room explain name (length out - done.next) (length notes - done.noted)
    underway_room = rw (u.same, u.same_notes)

    module _ (end : ℕ) (at : end ≡ index_of 10 rest) where
      pub underway_end : length rest ≤ end → (r : Fed) → BeginsLine done rest r → Feeds explain name s piece out outNow notes notesNow r
      underway_end h = underway_last (omega (arith, h, at))

      module _ (h : end < length rest) where
        inside : index_of 10 rest < length rest
        inside = omega (arith, h, at)

        pub underway_stop : has_room explain name (length outNow - done.next) (length notesNow - done.noted) ≡ false → Feeds explain name s piece out outNow notes notesNow done
        underway_stop k = underway_full inside (sym underway_room ∙ k)

        pub underway_next : has_room explain name (length outNow - done.next) (length notesNow - done.noted) ≡ true
            → (r : Fed) {outNext notesNext : List ℕ} → AnswersLine explain name done (take end rest) outNow outNext notesNow notesNext r
            → Underway r (tail (end + 1) rest) outNext notesNext
        underway_next k r a = rw (to_end (end + 1) rest, add-one end, at) (underway_line inside (sym underway_room ∙ k) r (rw at at a))

        -- the bytes taken are no more than a slice can have
        pub taken_fits : length piece < 18446744073709551616 → done.taken + length (take end rest) < 18446744073709551615
        taken_fits m = omega (arith, u.taken, length-take end rest)

-- ---- the end of the input

module _ (explain : Bool) (name : List ℕ) (s : Reader) {out out_after notes notes_after : List ℕ} {r : Fed} where
  -- a line is begun
  pub some_closes : ltb 0 (length (pending_text s.pending)) ≡ true → Feeds explain name s (10 ∷ []) out out_after notes notes_after r
      → Feeds explain name s (closing (pending_text s.pending)) out out_after notes notes_after r
  some_closes h f = subst (λ p. Feeds explain name s p out out_after notes notes_after r) (sym (go (pending_text s.pending) h)) f
    where
      go : (t : List ℕ) → ltb 0 (length t) ≡ true → closing t ≡ 10 ∷ []
      go [] k = let l = ltb-true 0 0 k in absurd (omega arith)
      go (x ∷ t) k = refl

-- none is
pub none_closes : (explain : Bool) (name : List ℕ) (s : Reader) (out notes : List ℕ) → ltb 0 (length (pending_text s.pending)) ≡ false
    → Feeds explain name s (closing (pending_text s.pending)) out out notes notes (record { reader = s; taken = 0; next = 0; noted = 0; refused = false })
none_closes explain name s out notes h =
    let done : Fed = record { reader = s; taken = 0; next = 0; noted = 0; refused = false } in
    let e = go (pending_text s.pending) h in
    let same : pending_text s.pending ≡ kept (pending_text s.pending ++ []) = e ∙ sym (ap (λ t. kept (t ++ [])) e) in
    subst (λ p. Feeds explain name s p out out notes notes done) (sym (ap closing e))
    (underway_last explain name s [] out notes done [] out notes (underway_start explain name s [] out notes) (omega arith) done
    (record { place = λ i. record { begun = same i; line = s.line }; taken = refl; answers = refl; told = refl; refused = refl }))
  where
    go : (t : List ℕ) → ltb 0 (length t) ≡ false → t ≡ []
    go [] k = refl
    go (x ∷ t) k = let l = ltb-false 0 (length (x ∷ t)) k in absurd (omega arith)
