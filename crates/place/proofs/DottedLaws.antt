-- IPv4 text: how far a text goes on as one. Assumes nothing.
use Rattle.std.specs.Prelude.{Some}
use mathlib.Core.Path.{◌≡◌, refl, sym, ap, subst, ◌∙◌}
use mathlib.Core.Bool.{Bool, true, false, cond, or-true}
use mathlib.Core.List.{List, [], ◌∷◌, ◌++◌, append-nil}
use Prim.Native.Nat.{ℕ, zero, suc, ◌<◌}
use native.Mathlib.Omega.{arith}
use borrow.Author.Tests.{eq-eqb, eqb-true}
use lib.Dec.{eqb}
use lib.ListN.{length, take}
use Rattle.notation.specs.BigEndian.{number_of}
use Rattle.digits.specs.Numerals.{part_of}
use Rattle.notation.specs.Pieces.{contains, index_of, split_on, on_first, separated}
use Rattle.notation.proofs.PieceLaws.{split_first}
use Rattle.notation.specs.Pieces.{Lacks}
use Rattle.notation.proofs.SeparatedLaws.{separated_cons}
use Rattle.notation.specs.Options.{every}
use Rattle.ipv4_text.specs.Dotted.{dotted_of}
use Rattle.notation.proofs.EveryLaws.{Reads, done, more, every_reads}
use Rattle.ipv4_text.proofs.PartLaws.{part_lacks}
use Rattle.ipv4_text.proofs.DottedLaws.{dotted_octets}
use Rattle.ipv4_text.proofs.DottedLaws.{dotted_spelling}
use Rattle.place.specs.Place.{parts_place}
use Rattle.place.proofs.LongestLaws.{Longest, Ends, ends_longest, ByteThen, byte_longest, PieceThen, Stops, piece_longest}
use Rattle.place.proofs.FrontLaws.{Part, part_fronts}

-- ---- the rule

-- a part, and n more parts with single dots
abbrev pub Parts : ℕ → List ℕ → Type 0
Parts zero w = PieceThen Part Ends w
Parts (suc n) w = PieceThen Part (ByteThen 46 (Parts n)) w

contains_seam : (b : ℕ) (p v : List ℕ) → contains b (p ++ b ∷ v) ≡ true
unfolding contains
contains_seam b [] v = rw (eq-eqb b b refl)
contains_seam b (x ∷ p) v = rw (contains_seam b p v) (or-true (eqb x b))

-- a piece that lacks the byte b ends before it
pub lacks_stops : (b : ℕ) (P A : List ℕ → Type 0) → ((p : List ℕ) → P p → Lacks b p) → Stops P (ByteThen b A)
lacks_stops b P A lacks x u m p v h =
    let is : x ≡ b = let e = m.is in cc in
    let z : ◌≡◌ {A = ℕ} 0 1 = cc (lacks (p ++ x ∷ v) h, ap (λ y. contains b (p ++ y ∷ v)) is, contains_seam b p v) in
    omega arith

pub ends_stop : (P : List ℕ → Type 0) → Stops P Ends
ends_stop P x u e p v h = let z : ◌≡◌ {A = ℕ} 0 1 = cc in omega arith

pub parts_longest : (n : ℕ) (t : List ℕ) → Longest (Parts n) t (parts_place n t)
unfolding parts_place
parts_longest zero t = piece_longest part_fronts ends_longest (ends_stop Part) t
parts_longest (suc n) t = piece_longest part_fronts (byte_longest 46 (parts_longest n)) (lacks_stops 46 Part (Parts n) (λ p h. part_lacks p h.0 h.1)) t

-- ---- the rule is the definition

-- one more piece
pub separated_more : (b : ℕ) (p : List ℕ) (ps : List (List ℕ)) → 0 < length ps → separated b (p ∷ ps) ≡ p ++ b ∷ separated b ps
unfolding separated
separated_more b p [] h = absurd (omega arith)
separated_more b p (q ∷ ps) h = refl

-- pieces with separators, split and put together again
pub separated_split : (b : ℕ) (t : List ℕ) → separated b (split_on b t) ≡ t
unfolding split_on separated
separated_split b [] = refl
separated_split b (x ∷ t) = go (eqb x b) refl (split_first b t) (separated_split b t)
  where
    go : (c : Bool) → eqb x b ≡ c → (ps : List (List ℕ)) × (split_on b t ≡ take (index_of b t) t ∷ ps) → separated b (split_on b t) ≡ t
        → separated b (cond c ([] ∷ split_on b t) (on_first x (split_on b t))) ≡ x ∷ t
    go true e (ps, f) ih = separated_more b [] (split_on b t) (rw f (omega arith)) ∙ ap (λ l. b ∷ l) ih ∙ ap (λ y. y ∷ t) (sym (eqb-true x b e))
    go false e (ps, f) ih = rw f (separated_cons b x (take (index_of b t) t) ps ∙ ap (λ l. x ∷ l) (sym (ap (separated b) f) ∙ ih))

pub record Spelt (n : ℕ) (w : List ℕ) : Type 0 where
  pub pieces : List (List ℕ)
  pub numbers : List ℕ
  pub read : every (part_of 255) pieces ≡ Some numbers
  pub count : length numbers ≡ suc n
  pub some_pieces : 0 < length pieces
  pub is : separated 46 pieces ≡ w

parts_spelt : (n : ℕ) (w : List ℕ) → Parts n w → Spelt n w
unfolding every separated
parts_spelt zero w m = record {
  pieces = m.piece ∷ [];
  numbers = m.good.0 ∷ [];
  read = rw m.good.1;
  count = refl;
  some_pieces = omega arith;
  is = sym (append-nil m.piece) ∙ ap (λ u. m.piece ++ u) m.then ∙ m.is;
}
parts_spelt (suc n) w m =
    let s = parts_spelt n m.then.rest m.then.then in
    record {
      pieces = m.piece ∷ s.pieces;
      numbers = m.good.0 ∷ s.numbers;
      read = rw (m.good.1, s.read);
      count = ap suc s.count;
      some_pieces = omega arith;
      is = separated_more 46 m.piece s.pieces s.some_pieces ∙ ap (λ u. m.piece ++ 46 ∷ u) s.is ∙ ap (λ u. m.piece ++ u) m.then.is ∙ m.is;
    }

spelt_parts : (n : ℕ) {ps : List (List ℕ)} {xs : List ℕ} → Reads (part_of 255) ps xs → length xs ≡ suc n → Parts n (separated 46 ps)
unfolding separated
spelt_parts n done h = absurd (omega arith)
spelt_parts zero (more {p} {x} e done) h = record { piece = p; rest = []; good = (x, e); then = refl; is = append-nil p }
spelt_parts zero (more e (more f r)) h = absurd (omega arith)
spelt_parts (suc n) (more e done) h = absurd (omega arith)
spelt_parts (suc n) (more {p} {x} e (more {p = q} {ps = ps} f r)) h = record {
  piece = p;
  rest = 46 ∷ separated 46 (q ∷ ps);
  good = (x, e);
  then = record { rest = separated 46 (q ∷ ps); then = spelt_parts n (more f r) (omega arith); is = refl };
  is = refl;
}

pub dotted_rule : (w : List ℕ) (v : ℕ) → dotted_of w ≡ Some v → Parts 3 w
dotted_rule w v e =
    let o = dotted_octets w v e in
    subst (Parts 3) (separated_split 46 w) (spelt_parts 3 (every_reads (part_of 255) (split_on 46 w) o.0 o.1.each) o.2)

pub rule_dotted : (w : List ℕ) → Parts 3 w → (v : ℕ) × (dotted_of w ≡ Some v)
rule_dotted w m =
    let s = parts_spelt 3 w m in
    (number_of 256 s.numbers, ap dotted_of (sym s.is) ∙ dotted_spelling s.pieces s.numbers s.read s.count)
