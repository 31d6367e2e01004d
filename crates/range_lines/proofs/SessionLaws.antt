-- The calls on an input, one after the other. Assumes nothing.
use mathlib.Core.Path.{◌≡◌, refl, sym, ap, ap₂, subst, ◌∙◌}
use mathlib.Core.Logic.{◌⊎◌, inl, inr}
use mathlib.Core.Bool.{Bool, true, false, ◌||◌}
use mathlib.Core.List.{List, [], ◌∷◌, ◌++◌, append-nil}
use Prim.Native.Nat.{ℕ, zero, suc, ◌+◌, ◌≤◌, ◌<◌}
use native.Mathlib.Omega.{arith}
use lib.ListN.{length, take, drop, length-append, length-drop}
use lib.Seq.{drop_at}
use Rattle.notation.specs.Pieces.{contains, index_of, Lacks}
use Rattle.output.proofs.PlacingLaws.{puts_whole}
use Rattle.range_text.specs.RangeText.{answer_line}
use Rattle.range_lines.specs.declared.Reader.{Reader}
use Rattle.range_lines.specs.declared.Fed.{Fed}
use Rattle.range_lines.specs.Lines.{lines_of, Report, followed, line_report, report}
use Rattle.range_lines.specs.Feeding.{Place, place_of, at_start, behind_line, Feeding, note_space, has_room, fed, Feeds, closing, Session, feeds, ends, Called}
use Rattle.range_lines.proofs.LineLaws.{nothing_lacks, no_lines, line_last, still}
use Rattle.range_lines.proofs.FedLaws.{both_room, Gives, fed_gives, fed_last, fed_full, fed_line}

-- room for a note, where notes are wanted
note_fits : (explain : Bool) (name : List ℕ) {n : ℕ} → (explain ≡ true → length name + 91 ≤ n) → note_space explain name ≤ n
note_fits true name h = h refl
note_fits false name h = omega arith

note_short : (explain : Bool) (name : List ℕ) {n k : ℕ} → (n < k + note_space explain name) × (k ≤ n) → (explain ≡ true) × (n < k + (length name + 91))
note_short true name h = (refl, h.0)
note_short false name h = absurd (omega (arith, h.0, h.1))

module _ (explain : Bool) (name : List ℕ) where
  -- ---- what a call leaves

  module _ {s : Reader} {piece out out_after notes notes_after : List ℕ} {r : Fed} (f : Feeds explain name s piece out out_after notes notes_after r) where
    abbrev pub result : Feeding
    result = fed explain name (length out) (length notes) (place_of s) piece

    given : Gives explain name (length out) (length notes) (place_of s) piece (fed explain name (length out) (length notes) (place_of s) piece)
    given = fed_gives explain name (length out) (length notes) (place_of s) piece

    pub answers_held : (r.next ≡ length result.report.text) × (take r.next out_after ≡ result.report.text)
    answers_held = puts_whole f.answers given.fits

    pub told_held : (r.noted ≡ length result.report.notes) × (take r.noted notes_after ≡ result.report.notes)
    told_held = puts_whole f.told given.notes_fit

    pub rest_left : drop r.taken piece ≡ result.rest
    rest_left =
        let g = given in
        ap (drop r.taken) g.whole
        ∙ drop_at g.front result.rest r.taken (omega (arith, f.taken, ap length g.whole, length-append g.front result.rest))

    pub stops : (r.taken ≡ length piece) ⊎ ((length out < r.next + 11176) ⊎ ((explain ≡ true) × (length notes < r.noted + (length name + 91))))
    stops = elim given.stops [
      | inl none ↦ inl (omega (arith, f.taken, ap length none))
      | inr (inl short) ↦ inr (inl (omega (arith, short, answers_held.0)))
      | inr (inr short) ↦ inr (inr (note_short explain name (omega (arith, short, told_held.0), omega (arith, told_held.0, given.notes_fit))))
    ]

    pub goes_on : 11176 ≤ length out → (explain ≡ true → length name + 91 ≤ length notes) → 0 < length piece → 0 < r.taken
    goes_on h k some =
        let g = given in
        let front = g.goes_on (both_room explain name (length out) (length notes) h (note_fits explain name k)) some in
        omega (arith, front, f.taken, ap length g.whole, length-append g.front result.rest)

  -- ---- the end of the input

  -- it gives what is still to come, where all of it is taken
  close : (free spare : ℕ) (b : List ℕ) (k : ℕ) → Lacks 10 b → length (fed explain name free spare (record { begun = b; line = k }) (closing b)).rest ≡ 0
      → (fed explain name free spare (record { begun = b; line = k }) (closing b)).report ≡ still explain name (record { begun = b; line = k }) []
  unfolding report index_of
  close free spare [] k l none = ap (λ f. f.report) (fed_last explain name free spare (record { begun = []; line = k }) [] (omega arith)) ∙ sym (ap (report explain name k) no_lines)
  close free spare (x ∷ p) k l none = go (has_room explain name free spare) refl
    where
      s : Place
      s = record { begun = x ∷ p; line = k }

      b : List ℕ
      b = (x ∷ p) ++ []

      all : Lacks 10 b
      all = ap (contains 10) (append-nil (x ∷ p)) ∙ l

      go : (t : Bool) → has_room explain name free spare ≡ t → (fed explain name free spare (record { begun = x ∷ p; line = k }) (10 ∷ [])).report ≡ still explain name (record { begun = x ∷ p; line = k }) []
      go true h =
          ap (λ f. f.report) (fed_line explain name free spare s (10 ∷ []) (omega arith) h)
          ∙ ap (followed (line_report explain name k (answer_line b))) (ap (λ f. f.report) (fed_last explain name _ _ (behind_line k) [] (omega arith)))
          ∙ sym (ap (report explain name k) (line_last b all (omega arith)))
      go false h = absurd (omega (arith, none, ap (λ f. length f.rest) (fed_full explain name free spare s (10 ∷ []) (omega arith) h)))

  -- with room for an answer and a note it is taken
  ends_with_room : {s : Reader} (c : Called explain name s (closing (place_of s).begun)) → c.answer.taken ≡ length (closing (place_of s).begun)
  ends_with_room {s} c = go (place_of s).begun (goes_on c.does c.room c.note_room_lem) (omega (arith, c.does.taken))
    where
      go : (b : List ℕ) → (0 < length (closing b) → 0 < c.answer.taken) → c.answer.taken ≤ length (closing b) → c.answer.taken ≡ length (closing b)
      go [] p q = omega (arith, q)
      go (x ∷ b) p q = let o : 0 < length (closing (x ∷ b)) = omega arith in omega (arith, p o, q)

  -- ---- all calls

  pub session_law : {s : Reader} {input : List ℕ} {all : Report} → Session explain name s input all → Lacks 10 (place_of s).begun → all ≡ still explain name (place_of s) input
  session_law (feeds {s} piece rest {r = r} {later = later} f more) l =
      let F = result f in
      let g = given f in
      let stands : Lacks 10 (place_of r.reader).begun = ap (λ p. contains 10 p.begun) f.place ∙ g.lacks l in
      let ih = session_law more stands in
      let t = (answers_held f).1 in
      let n = (told_held f).1 in
      let q = f.refused in
      let on : later ≡ still explain name F.place (F.rest ++ rest) = ih ∙ ap₂ (λ p u. still explain name p (u ++ rest)) f.place (rest_left f) in
      (λ i. record { text = t i ++ later.text; notes = n i ++ later.notes; refused = q i || later.refused }) ∙ ap (followed F.report) on ∙ sym (g.law l rest)
  session_law (ends {s} {out} {notes = notes} f all) l =
      let t = (answers_held f).1 in
      let n = (told_held f).1 in
      let q = f.refused in
      (λ i. record { text = t i; notes = n i; refused = q i }) ∙ close (length out) (length notes) (place_of s).begun s.line l (omega (arith, f.taken, all))

  pub whole_session : {s : Reader} {input : List ℕ} {all : Report} → Session explain name s input all → place_of s ≡ at_start → all ≡ report explain name 1 (lines_of input)
  whole_session {input = input} c e = session_law c (ap (λ p. contains 10 p.begun) e ∙ nothing_lacks 10) ∙ ap (λ p. still explain name p input) e

  -- ---- calls with room come to an end

  module _ (call : (s : Reader) (piece : List ℕ) → Called explain name s piece) where
    last_call : (s : Reader) → (all : Report) × Session explain name s [] all
    last_call s = let c = call s (closing (place_of s).begun) in (_, ends c.does (ends_with_room c))

    pub comes : (n : ℕ) (s : Reader) (input : List ℕ) → length input ≤ n → (all : Report) × Session explain name s input all
    comes zero s [] h = last_call s
    comes zero s (x ∷ t) h = absurd (omega arith)
    comes (suc n) s [] h = last_call s
    comes (suc n) s (x ∷ t) h =
        let c = call s (x ∷ t) in
        let r = c.answer in
        let some : 0 < r.taken = goes_on c.does c.room c.note_room_lem (omega arith) in
        let left = drop r.taken (x ∷ t) ++ [] in
        let fewer : length left ≤ n = omega (arith, length-append (drop r.taken (x ∷ t)) [], length-drop r.taken (x ∷ t)) in
        let more = comes n r.reader left fewer in
        subst (λ i. (all : Report) × Session explain name s i all) (append-nil (x ∷ t)) (_, feeds (x ∷ t) [] c.does more.1)
