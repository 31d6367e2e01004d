-- The lines of an input, and what is still written where a line is begun. Assumes nothing.
use mathlib.Core.Path.{◌≡◌, refl, sym, ap, ◌∙◌}
use mathlib.Core.Bool.{Bool, true, false, ◌||◌}
use mathlib.Core.List.{List, [], ◌∷◌, ◌++◌, append_assoc, append-nil}
use Prim.Native.Nat.{ℕ, zero, suc, ◌≤◌, ◌<◌, min}
use native.Mathlib.Decide.{dec_le}
use native.Mathlib.Omega.{arith}
use borrow.Author.Tests.{eqb-true, lt-ltb, le-ltb}
use lib.Dec.{eqb, ltb}
use lib.ListN.{length, take, length-append, length-take}
use lib.Seq.{take_all, append_snoc}
use Rattle.notation.specs.Pieces.{contains, index_of, split_on, Lacks}
use Rattle.notation.proofs.PieceLaws.{split_first}
use Rattle.notation.proofs.SeparatedLaws.{lacks_cons, lacks_append, split_lacks}
use Rattle.range_text.specs.RangeText.{answer_line}
use Rattle.range_text.proofs.RangeTextLaws.{line_long}
use Rattle.range_lines.specs.Lines.{lines_among, lines_of, next_line, Report, silence, followed, line_report, report}
use Rattle.range_lines.specs.Feeding.{kept, Place}
use Rattle.range_lines.proofs.KeepLaws.{kept_all}

-- ---- no answer depends on more than the first 130 bytes of a line

pub line_kept_append : (p t : List ℕ) → answer_line (kept p ++ t) ≡ answer_line (p ++ t)
line_kept_append p t = elim (dec_le (length p) 130) [
  | yes h ↦ ap (λ q. answer_line (q ++ t)) (kept_all p h)
  | no n ↦ sym (line_long (kept p ++ t) (omega (arith, length-append (kept p) t, length-take 130 p))) ∙ line_long (p ++ t) (omega (arith, length-append p t))
]

line_kept : (l : List ℕ) → answer_line (kept l) ≡ answer_line l
line_kept l = ap answer_line (sym (append-nil (kept l))) ∙ line_kept_append l [] ∙ ap answer_line (append-nil l)

-- so the answer can be read off what is kept in the first n of 130 places
module _ (n : ℕ) (bytes : List ℕ) where
  pub none_held : n ≡ 0 → take (min n 130) bytes ≡ []
  none_held e = let z : min n 130 ≡ 0 = omega arith in ap (λ m. take m bytes) z

  pub held : length bytes ≡ 130 → ltb 0 n ≡ ltb 0 (length (take (min n 130) bytes))
  held e = elim (dec_le n 0) [
    | yes h ↦ le-ltb 0 n h ∙ sym (le-ltb 0 (length (take (min n 130) bytes)) (omega (arith, length-take (min n 130) bytes)))
    | no m ↦ lt-ltb 0 n (omega arith) ∙ sym (lt-ltb 0 (length (take (min n 130) bytes)) (omega (arith, length-take (min n 130) bytes)))
  ]

  module _ (l : List ℕ) (k : take (min n 130) bytes ≡ kept l) where
    pub line_full : length bytes ≡ 130 → 130 < n → answer_line bytes ≡ answer_line l
    line_full e h = ap answer_line (sym (take_all (min n 130) bytes (omega arith)) ∙ k) ∙ line_kept l

    pub line_held : n ≤ 130 → answer_line (take n bytes) ≡ answer_line l
    line_held h = let here : n ≡ min n 130 = omega arith in ap (λ m. answer_line (take m bytes)) here ∙ ap answer_line k ∙ line_kept l

-- ---- lines

-- a line with others behind it
lines_more : (l : List ℕ) (ps : List (List ℕ)) → 0 < length ps → lines_among (l ∷ ps) ≡ l ∷ lines_among ps
unfolding lines_among
lines_more l [] h = absurd (omega arith)
lines_more l (q ∷ ps) h = refl

module _ (b : ℕ) where
  -- what is begun stands before the first piece
  split_begun : (p t f : List ℕ) (ps : List (List ℕ)) → Lacks b p → split_on b t ≡ f ∷ ps → split_on b (p ++ t) ≡ (p ++ f) ∷ ps
  unfolding split_on
  split_begun [] t f ps h e = e
  split_begun (x ∷ p) t f ps h e = let l = lacks_cons b x p h in rw (l.0, split_begun p t f ps l.1 e)

  pub split_some : (t : List ℕ) → 0 < length (split_on b t)
  split_some t = rw (split_first b t).1 (omega arith)

  pub lacks_front : (n : ℕ) (p : List ℕ) → Lacks b p → Lacks b (take n p)
  unfolding contains
  lacks_front zero p h = refl
  lacks_front (suc n) [] h = refl
  lacks_front (suc n) (x ∷ p) h = let l = lacks_cons b x p h in rw l.0 (lacks_front n p l.1)

-- a line with its newline, and the input behind it
pub line_ended : (l rest : List ℕ) → Lacks 10 l → lines_of (l ++ 10 ∷ rest) ≡ l ∷ lines_of rest
unfolding lines_of
line_ended l rest h =
    ap lines_among (split_begun 10 l (10 ∷ rest) [] (split_on 10 rest) h refl)
    ∙ lines_more (l ++ []) (split_on 10 rest) (split_some 10 rest)
    ∙ ap (λ x. x ∷ lines_of rest) (append-nil l)

-- a last line without its newline
pub line_last : (l : List ℕ) → Lacks 10 l → 0 < length l → lines_of l ≡ l ∷ []
unfolding lines_of
line_last [] h k = absurd (omega arith)
line_last (x ∷ l) h k = ap lines_among (split_lacks 10 (x ∷ l) h)

-- ---- a newline behind the last line

pub nothing_lacks : (b : ℕ) → Lacks b []
unfolding contains
nothing_lacks b = refl

one_lacks : (b x : ℕ) → eqb x b ≡ false → Lacks b (x ∷ [])
unfolding contains
one_lacks b x e = rw e

pub no_lines : lines_of [] ≡ []
unfolding lines_of
no_lines = refl

module _ (line : List ℕ) (l : Lacks 10 line) (some : 0 < length line) where
  pub last_ended : (input p : List ℕ) → Lacks 10 p → lines_of (p ++ (input ++ line)) ≡ lines_of (p ++ (input ++ (line ++ 10 ∷ [])))
  last_ended [] p h =
      let all = lacks_append 10 p line h l in
      line_last (p ++ line) all (omega (arith, length-append p line))
      ∙ sym (ap lines_of (sym (append_assoc p line (10 ∷ []))) ∙ line_ended (p ++ line) [] all ∙ ap (λ ls. (p ++ line) ∷ ls) no_lines)
  last_ended (x ∷ input) p h = go (last_ended input) (eqb x 10) refl
    where
      go : ((q : List ℕ) → Lacks 10 q → lines_of (q ++ (input ++ line)) ≡ lines_of (q ++ (input ++ (line ++ 10 ∷ [])))) → (b : Bool) → eqb x 10 ≡ b
          → lines_of (p ++ (x ∷ (input ++ line))) ≡ lines_of (p ++ (x ∷ (input ++ (line ++ 10 ∷ []))))
      go ih true e = rw (eqb-true x 10 e) (line_ended p (input ++ line) h ∙ ap (λ ls. p ∷ ls) (ih [] (nothing_lacks 10)) ∙ sym (line_ended p (input ++ (line ++ 10 ∷ [])) h))
      go ih false e =
          ap lines_of (sym (append_snoc p x (input ++ line)))
          ∙ ih (p ++ x ∷ []) (lacks_append 10 p (x ∷ []) h (one_lacks 10 x e))
          ∙ ap lines_of (append_snoc p x (input ++ (line ++ 10 ∷ [])))

-- ---- reports

pub or_assoc : (a b c : Bool) → ((a || b) || c) ≡ (a || (b || c))
or_assoc true b c = refl
or_assoc false b c = refl

pub followed_assoc : (a b c : Report) → followed (followed a b) c ≡ followed a (followed b c)
followed_assoc a b c =
    let t = append_assoc a.text b.text c.text in
    let n = append_assoc a.notes b.notes c.notes in
    let r = or_assoc a.refused b.refused c.refused in
    λ i. record { text = t i; notes = n i; refused = r i }

module _ (explain : Bool) (name : List ℕ) where
  -- no report depends on more than what is kept of a line that is begun
  lines_kept : (k : ℕ) (p t : List ℕ) (ps : List (List ℕ)) → report explain name k (lines_among ((kept p ++ t) ∷ ps)) ≡ report explain name k (lines_among ((p ++ t) ∷ ps))
  unfolding lines_among report
  lines_kept k [] t [] = refl
  lines_kept k (x ∷ p) t [] = ap (λ a. followed (line_report explain name k a) silence) (line_kept_append (x ∷ p) t)
  lines_kept k p t (q ∷ ps) = ap (λ a. followed (line_report explain name k a) (report explain name (next_line k) (lines_among (q ∷ ps)))) (line_kept_append p t)

  -- what is still written and told where the reading stands and input is left
  abbrev pub still : Place → List ℕ → Report
  still s input = report explain name s.line (lines_of (s.begun ++ input))

  pub still_kept : (k : ℕ) (p input : List ℕ) → Lacks 10 p → still (record { begun = kept p; line = k }) input ≡ still (record { begun = p; line = k }) input
  unfolding lines_of
  still_kept k p input h =
      let s = split_first 10 input in
      let f = take (index_of 10 input) input in
      ap (λ ps. report explain name k (lines_among ps)) (split_begun 10 (kept p) input f s.0 (lacks_front 10 130 p h) s.1)
      ∙ lines_kept k p f s.0
      ∙ ap (λ ps. report explain name k (lines_among ps)) (sym (split_begun 10 p input f s.0 h s.1))

  -- the line that is begun ends
  pub still_line : (k : ℕ) (p rest : List ℕ) → Lacks 10 p
      → still (record { begun = p; line = k }) (10 ∷ rest) ≡ followed (line_report explain name k (answer_line p)) (still (record { begun = []; line = next_line k }) rest)
  unfolding report
  still_line k p rest h = ap (report explain name k) (line_ended p rest h)
