-- A piece of the input, fed: what it gives and what is left of it. Assumes nothing.
use mathlib.Core.Path.{◌≡◌, refl, sym, ap, subst, ◌∙◌}
use mathlib.Core.Logic.{◌⊎◌, inl, inr}
use mathlib.Core.Bool.{Bool, true, false, cond, not, ◌&&◌, and-eq-true_iff}
use mathlib.Core.List.{List, [], ◌∷◌, ◌++◌, append_assoc, append-nil}
use Prim.Native.Nat.{ℕ, suc, ◌+◌, ◌-◌, ◌≤◌, ◌<◌}
use native.Mathlib.Omega.{arith}
use borrow.Author.Tests.{leb-true, leb-false, le-leb}
use lib.Dec.{leb, eqb}
use lib.ListN.{length, take, drop, length-append}
use Rattle.notation.specs.Pieces.{index_of, split_on, separated, Lacks, Each}
use Rattle.notation.proofs.PieceLaws.{split_found, split_last, split_first}
use Rattle.notation.proofs.SeparatedLaws.{lacks_append, separated_split, pieces_lack}
use Rattle.notes.specs.Notes.{note_text}
use Rattle.notes.proofs.Claims.{note_most}
use Rattle.range_text.specs.RangeText.{answer_line}
use Rattle.range_text.proofs.Claims.{at_most_11176}
use Rattle.range_lines.specs.Lines.{lines_of, told_of, Report, silence, followed, line_report, report}
use Rattle.range_lines.specs.Feeding.{kept, Place, behind_line, Feeding, note_space, has_room, feed_parts, fed}
use Rattle.range_lines.proofs.LineLaws.{split_some, lacks_front, nothing_lacks, followed_assoc, still, still_kept, still_line}

-- ---- how long a note is

module _ (explain : Bool) (name : List ℕ) where
  pub told_most : (k n : ℕ) → length (told_of explain name k n) ≤ note_space explain name
  unfolding told_of
  told_most k n = go explain (eqb n 0)
    where
      go : (e z : Bool) → length (cond (e && not z) (note_text name k n) []) ≤ note_space e name
      go true true = omega arith
      go true false = note_most name k n
      go false z = omega arith

  -- ---- room

  pub room_both : (free spare : ℕ) → has_room explain name free spare ≡ true → (11176 ≤ free) × (note_space explain name ≤ spare)
  unfolding has_room
  room_both free spare h =
      let both = (and-eq-true_iff (leb 11176 free) (leb (note_space explain name) spare)).0 h in
      (leb-true 11176 free both.0, leb-true (note_space explain name) spare both.1)

  pub both_room : (free spare : ℕ) → 11176 ≤ free → note_space explain name ≤ spare → has_room explain name free spare ≡ true
  unfolding has_room
  both_room free spare h k = rw (le-leb 11176 free h, le-leb (note_space explain name) spare k)

  pub room_short : (free spare : ℕ) → has_room explain name free spare ≡ false → (free < 11176) ⊎ (spare < note_space explain name)
  unfolding has_room
  room_short free spare h = go (leb 11176 free) refl (leb (note_space explain name) spare) refl h
    where
      go : (a : Bool) → leb 11176 free ≡ a → (b : Bool) → leb (note_space explain name) spare ≡ b → (a && b) ≡ false → (free < 11176) ⊎ (spare < note_space explain name)
      go false p b q k = inl (leb-false 11176 free p)
      go true p false q k = inr (leb-false (note_space explain name) spare q)
      go true p true q k = let z : ◌≡◌ {A = ℕ} 0 1 = cc in absurd (omega arith)

  -- ---- the parts of a piece

  module _ (free spare : ℕ) (s : Place) (p q : List ℕ) (ps : List (List ℕ)) where
    parts_full : has_room explain name free spare ≡ false
        → feed_parts explain name free spare s (p ∷ q ∷ ps) ≡ record { report = silence; place = s; rest = separated 10 (p ∷ q ∷ ps) }
    unfolding feed_parts
    parts_full k = rw (k, feed_parts)

    abbrev first_part_lem : Report
    first_part_lem = line_report explain name s.line (answer_line (s.begun ++ p))

    abbrev other_parts : Feeding
    other_parts = feed_parts explain name (free - length first_part_lem.text) (spare - length first_part_lem.notes) (behind_line s.line) (q ∷ ps)

    parts_line : has_room explain name free spare ≡ true
        → feed_parts explain name free spare s (p ∷ q ∷ ps) ≡ record { report = followed first_part_lem other_parts.report; place = other_parts.place; rest = other_parts.rest }
    unfolding feed_parts
    parts_line k = rw (k, feed_parts)

  -- What a piece gives: where the line that is begun holds no newline, it is, with what is still to come behind it, all that was still to come. It
  -- is within the room, and the last bytes of the piece are left, none of them unless the room is short.
  pub record Gives (free spare : ℕ) (s : Place) (piece : List ℕ) (f : Feeding) : Type 0 where
    pub law : Lacks 10 s.begun → (rest : List ℕ) → still explain name s (piece ++ rest) ≡ followed f.report (still explain name f.place (f.rest ++ rest))
    pub lacks : Lacks 10 s.begun → Lacks 10 f.place.begun
    pub fits : length f.report.text ≤ free
    pub notes_fit : length f.report.notes ≤ spare
    pub front : List ℕ
    pub whole : piece ≡ front ++ f.rest
    pub stops : (f.rest ≡ []) ⊎ ((free < length f.report.text + 11176) ⊎ (spare < length f.report.notes + note_space explain name))
    pub goes_on : has_room explain name free spare ≡ true → 0 < length piece → 0 < length front

  module _ (free spare : ℕ) (s : Place) where
    -- no newline
    gives_last : (p : List ℕ) → Lacks 10 p
        → Gives free spare s p (record { report = silence; place = record { begun = kept (s.begun ++ p); line = s.line }; rest = [] })
    gives_last p e =
        record {
          law = λ l rest.
              ap (λ t. report explain name s.line (lines_of t)) (sym (append_assoc s.begun p rest))
              ∙ sym (still_kept explain name s.line (s.begun ++ p) rest (lacks_append 10 s.begun p l e));
          lacks = λ l. lacks_front 10 130 (s.begun ++ p) (lacks_append 10 s.begun p l e);
          fits = omega arith;
          notes_fit = omega arith;
          front = p;
          whole = sym (append-nil p);
          stops = inl refl;
          goes_on = λ h k. k;
        }

    -- no room
    gives_full : (piece : List ℕ) → has_room explain name free spare ≡ false → Gives free spare s piece (record { report = silence; place = s; rest = piece })
    gives_full piece h =
        record {
          law = λ l rest. refl;
          lacks = λ l. l;
          fits = omega arith;
          notes_fit = omega arith;
          front = [];
          whole = refl;
          stops = inr (elim (room_short free spare h) [ inl short ↦ inl (omega arith) | inr short ↦ inr (omega arith) ]);
          goes_on = λ k m. let z : ◌≡◌ {A = ℕ} 0 1 = cc in absurd (omega arith);
        }

    -- a line, and what follows it
    module _ (p piece : List ℕ) (h : has_room explain name free spare ≡ true) (e : Lacks 10 p) where
      abbrev one : Report
      one = line_report explain name s.line (answer_line (s.begun ++ p))

      gives_line : (f : Feeding) → Gives (free - length one.text) (spare - length one.notes) (behind_line s.line) piece f
          → Gives free spare s (p ++ 10 ∷ piece) (record { report = followed one f.report; place = f.place; rest = f.rest })
      gives_line f g =
          let room = room_both free spare h in
          let answer = at_most_11176 (s.begun ++ p) in
          let note = told_most s.line (answer_line (s.begun ++ p)).number in
          let text = length-append one.text f.report.text in
          let notes = length-append one.notes f.report.notes in
          let line : (rest : List ℕ) → s.begun ++ ((p ++ 10 ∷ piece) ++ rest) ≡ (s.begun ++ p) ++ 10 ∷ (piece ++ rest) =
          λ rest. ap (λ t. s.begun ++ t) (append_assoc p (10 ∷ piece) rest) ∙ sym (append_assoc s.begun p (10 ∷ (piece ++ rest)))
          in
          record {
            law = λ l rest.
                ap (λ t. report explain name s.line (lines_of t)) (line rest)
                ∙ still_line explain name s.line (s.begun ++ p) (piece ++ rest) (lacks_append 10 s.begun p l e)
                ∙ ap (followed one) (g.law (nothing_lacks 10) rest)
                ∙ sym (followed_assoc one f.report (still explain name f.place (f.rest ++ rest)));
            lacks = λ l. g.lacks (nothing_lacks 10);
            fits = omega (arith, g.fits, room.0, answer, text);
            notes_fit = omega (arith, g.notes_fit, room.1, note, notes);
            front = p ++ 10 ∷ g.front;
            whole = ap (λ t. p ++ 10 ∷ t) g.whole ∙ sym (append_assoc p (10 ∷ g.front) f.rest);
            stops = elim g.stops [
              | inl none ↦ inl none
              | inr (inl short) ↦ inr (inl (omega (arith, short, text, room.0, answer)))
              | inr (inr short) ↦ inr (inr (omega (arith, short, notes, room.1, note)))
            ];
            goes_on = λ k m. omega (arith, length-append p (10 ∷ g.front));
          }

  parts_give : (ps : List (List ℕ)) (free spare : ℕ) (s : Place) → 0 < length ps → Each (Lacks 10) ps
      → Gives free spare s (separated 10 ps) (feed_parts explain name free spare s ps)
  unfolding feed_parts separated
  parts_give [] free spare s h e = absurd (omega arith)
  parts_give (p ∷ []) free spare s h e = gives_last free spare s p e.0
  parts_give (p ∷ q ∷ ps) free spare s h e = go (λ f n. parts_give (q ∷ ps) f n (behind_line s.line) (omega arith) e.1) (has_room explain name free spare) refl
    where
      go : ((f n : ℕ) → Gives f n (behind_line s.line) (separated 10 (q ∷ ps)) (feed_parts explain name f n (behind_line s.line) (q ∷ ps)))
          → (t : Bool) → has_room explain name free spare ≡ t → Gives free spare s (separated 10 (p ∷ q ∷ ps)) (feed_parts explain name free spare s (p ∷ q ∷ ps))
      go ih true k = subst (Gives free spare s (separated 10 (p ∷ q ∷ ps))) (sym (parts_line free spare s p q ps k)) (gives_line free spare s p (separated 10 (q ∷ ps)) k e.0 _ (ih _ _))
      go ih false k = subst (Gives free spare s (separated 10 (p ∷ q ∷ ps))) (sym (parts_full free spare s p q ps k)) (gives_full free spare s (separated 10 (p ∷ q ∷ ps)) k)

  -- ---- a piece

  pub fed_gives : (free spare : ℕ) (s : Place) (piece : List ℕ) → Gives free spare s piece (fed explain name free spare s piece)
  unfolding fed
  fed_gives free spare s piece =
      subst (λ t. Gives free spare s t (feed_parts explain name free spare s (split_on 10 piece))) (separated_split 10 piece)
      (parts_give (split_on 10 piece) free spare s (split_some 10 piece) (pieces_lack 10 piece))

  -- where it ends no line
  pub fed_last : (free spare : ℕ) (s : Place) (piece : List ℕ) → length piece ≤ index_of 10 piece
      → fed explain name free spare s piece ≡ record { report = silence; place = record { begun = kept (s.begun ++ piece); line = s.line }; rest = [] }
  unfolding fed
  fed_last free spare s piece h = ap (feed_parts explain name free spare s) (split_last 10 piece h)

  module _ (free spare : ℕ) (s : Place) (piece : List ℕ) (h : index_of 10 piece < length piece) where
    two_parts : (q : List ℕ) × (ps : List (List ℕ)) × (split_on 10 piece ≡ take (index_of 10 piece) piece ∷ q ∷ ps) × (split_on 10 (drop (suc (index_of 10 piece)) piece) ≡ q ∷ ps)
    two_parts =
        let more = drop (suc (index_of 10 piece)) piece in
        let f = split_first 10 more in
        (take (index_of 10 more) more, f.0, split_found 10 piece h ∙ ap (λ ps. take (index_of 10 piece) piece ∷ ps) f.1, f.1)

    -- where it ends one without room for the answer
    pub fed_full : has_room explain name free spare ≡ false → fed explain name free spare s piece ≡ record { report = silence; place = s; rest = piece }
    unfolding fed feed_parts
    fed_full k =
        let p = two_parts in
        ap (feed_parts explain name free spare s) p.2
        ∙ parts_full free spare s (take (index_of 10 piece) piece) p.0 p.1 k
        ∙ ap (λ t. record { report = silence; place = s; rest = t }) (ap (separated 10) (sym p.2) ∙ separated_split 10 piece)

    -- and with it
    abbrev pub first : Report
    first = line_report explain name s.line (answer_line (s.begun ++ take (index_of 10 piece) piece))

    abbrev pub others : Feeding
    others = fed explain name (free - length first.text) (spare - length first.notes) (behind_line s.line) (drop (suc (index_of 10 piece)) piece)

    pub fed_line : has_room explain name free spare ≡ true
        → fed explain name free spare s piece ≡ record { report = followed first others.report; place = others.place; rest = others.rest }
    unfolding fed feed_parts
    fed_line k =
        let p = two_parts in
        ap (feed_parts explain name free spare s) p.2
        ∙ parts_line free spare s (take (index_of 10 piece) piece) p.0 p.1 k
        ∙ ap (λ (f : Feeding). record { report = followed first f.report; place = f.place; rest = f.rest })
        (ap (feed_parts explain name (free - length first.text) (spare - length first.notes) (behind_line s.line)) (sym p.3))
