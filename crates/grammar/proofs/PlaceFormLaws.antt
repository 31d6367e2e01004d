-- Where a strict text goes wrong: the place over the grammar is the one that is told. Assumes nothing.
use mathlib.Core.Path.{◌≡◌, refl, sym, ap, ◌∙◌}
use mathlib.Core.List.{List, ◌++◌}
use Prim.Native.Nat.{ℕ, ◌≤◌}
use native.Mathlib.Omega.{arith}
use lib.ListN.{length, take, drop, length-append, take-append-drop}
use lib.Seq.{length-take-le, take-append_seam}
use Rattle.address.specs.declared.Address.{Address}
use Rattle.address.specs.Answers.{Answer, gives}
use Rattle.text.specs.Strict.{strict_answer}
use Rattle.place.specs.Place.{Beginning, LongestBeginning, fault_place, placed_answer}
use Rattle.place.proofs.PlaceLaws.{place_longest}
use Rattle.grammar.specs.StrictForm.{Known, StrictCall, unknown, too_long, not_strict_lem, read_strict}
use Rattle.grammar.specs.PlaceForm.{Begins, GoesWrong, PlacedCall}
use Rattle.grammar.specs.PlaceForm as placed
use Rattle.grammar.proofs.StrictFormLaws.{family_known, call_answers, answers_call, gives_form}

module _ (f : ℕ) (t : List ℕ) where
  -- from the sentence over what is accepted to the one over the grammar
  pub goes_wrong : (p : ℕ) → LongestBeginning f t p → GoesWrong f t p
  goes_wrong p l = record {
    beginning = take p t;
    rest = drop p t;
    is = sym (take-append-drop p t);
    begins = record { ending = l.beginning.ending; address = accepted.0; form = gives_form f (take p t ++ l.beginning.ending) accepted.0 (answers_call f (take p t ++ l.beginning.ending)) accepted.1 };
    longest = longest;
    place_is = whole;
  }
    where
      accepted : (a : Address) × (strict_answer f (take p t ++ l.beginning.ending) ≡ gives a)
      accepted = l.beginning.accepted

      whole : length (take p t) ≡ p
      whole = length-take-le p t l.beginning.within

      longest : (b r : List ℕ) → t ≡ b ++ r → Begins f b → length b ≤ length (take p t)
      longest b r e g =
          let front : take (length b) t ≡ b = ap (take (length b)) e ∙ take-append_seam b r in
          let accepts : strict_answer f (take (length b) t ++ g.ending) ≡ gives g.address = ap (λ u. strict_answer f (u ++ g.ending)) front ∙ call_answers f (b ++ g.ending) (read_strict g.form) in
          let begins : Beginning f t (length b) = record { within = omega (arith, ap length e, length-append b r); ending = g.ending; accepted = (g.address, accepts) } in
          omega (arith, l.longest (length b) begins, whole)

  -- there is one such place
  one_place : (p q : ℕ) → GoesWrong f t p → GoesWrong f t q → p ≡ q
  one_place p q x y =
      omega (arith, x.longest y.beginning y.rest y.is y.begins, y.longest x.beginning x.rest x.is x.begins, x.place_is, y.place_is)

  module _ (k : Known f) where
    pub place_wrong : GoesWrong f t (fault_place f t)
    place_wrong = goes_wrong (fault_place f t) (place_longest f (family_known k) t)

    pub wrong_place : (p : ℕ) → GoesWrong f t p → fault_place f t ≡ p
    wrong_place p g = one_place (fault_place f t) p place_wrong g

  -- ---- the call

  call_placed : {r : Answer Address} → StrictCall f t r → strict_answer f t ≡ r → PlacedCall f t (placed_answer f t)
  unfolding placed_answer
  call_placed (unknown n) e = rw e (placed.unknown n)
  call_placed (too_long k l) e = rw e (placed.too_long k l)
  call_placed (not_strict_lem k l n) e = rw e (placed.not_strict_lem k l n (place_wrong k))
  call_placed (read_strict h) e = rw e (placed.read_strict h)

  pub placed_call : PlacedCall f t (placed_answer f t)
  placed_call = call_placed (answers_call f t) refl

  pub call_answered : {r : Answer (Address × ℕ)} → PlacedCall f t r → placed_answer f t ≡ r
  unfolding placed_answer
  call_answered (placed.unknown n) = rw (call_answers f t (unknown n))
  call_answered (placed.too_long k l) = rw (call_answers f t (too_long k l))
  call_answered (placed.not_strict_lem {place} k l n g) = rw (call_answers f t (not_strict_lem k l n), wrong_place k place g)
  call_answered (placed.read_strict h) = rw (call_answers f t (read_strict h))
