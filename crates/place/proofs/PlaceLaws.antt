-- The computed place is that of the sentence, from the rules that accept what is read. Assumes nothing.
use Rattle.std.specs.Prelude.{Option, Some, None, option_map}
use mathlib.Core.Path.{◌≡◌, refl, sym, ap, ◌∙◌}
use mathlib.Core.Logic.{inl, inr}
use mathlib.Core.Bool.{Bool, true, false, cond}
use mathlib.Core.List.{List, ◌++◌}
use Prim.Native.Nat.{ℕ, ◌≤◌, max}
use native.Mathlib.Nat.{zero-max, max-zero}
use native.Mathlib.Omega.{arith}
use borrow.Author.Tests.{eqb-true, eqb-false}
use lib.Dec.{eqb}
use lib.ListN.{length, take, drop}
use Rattle.notation.specs.Options.{or_else}
use Rattle.notation.proofs.OptionLaws.{or_none}
use Rattle.address.specs.declared.Address.{Address}
use Rattle.address.specs.declared.Address.TheVariants.{V4}
use Rattle.address.specs.declared.Refusal.TheVariants.{WrongFamily}
use Rattle.address.specs.Answers.{refuses, no_address}
use Rattle.address_groups.specs.Groups.{groups_address}
use Rattle.ipv4_text.specs.Dotted.{dotted_of}
use Rattle.ipv6_text.specs.EightGroups.{eight_of}
use Rattle.text.specs.Strict.{strict_of, known_family, strict_answer}
use Rattle.text.proofs.StrictLaws.{strict_4, strict_6, strict_0, strict_unknown, strict_gives, gives_strict}
use Rattle.place.specs.Place.{Accepted, Beginning, LongestBeginning, dotted_place, eight_place, fault_place, placed_answer}
use Rattle.place.proofs.LongestLaws.{Longest, Either, either_longest, agree_left, agree_right, agree_take, agree_ending}
use Rattle.place.proofs.DottedLaws.{Parts, parts_longest, dotted_rule, rule_dotted}
use Rattle.place.proofs.GroupsLaws.{Eight, eight_longest}
use Rattle.place.proofs.SpeltLaws.{rule_eight}
use Rattle.place.proofs.RuleLaws.{eight_rule}
use Rattle.place.proofs.LengthLaws.{parts_length, eight_length}

-- ---- a rule that accepts what is read

record Same (A : List ℕ → Type 0) (read : List ℕ → Option Address) : Type 0 where
  accepts : (w : List ℕ) → A w → (a : Address) × (read w ≡ Some a)
  only : (w : List ℕ) (a : Address) → read w ≡ Some a → A w

same_4 : Same (Parts 3) (λ w. option_map V4 (dotted_of w))
same_4 = record { accepts = accepts; only = λ w a e. only w a (dotted_of w) refl e }
  where
    accepts : (w : List ℕ) → Parts 3 w → (a : Address) × (option_map V4 (dotted_of w) ≡ Some a)
    accepts w m = let v = rule_dotted w m in (V4 v.0, rw v.1)

    only : (w : List ℕ) (a : Address) (o : Option ℕ) → dotted_of w ≡ o → option_map V4 o ≡ Some a → Parts 3 w
    only w a None q k = let z : ◌≡◌ {A = ℕ} 0 1 = cc in absurd (omega arith)
    only w a (Some v) q k = dotted_rule w v q

same_6 : Same Eight (λ w. option_map groups_address (eight_of w))
same_6 = record { accepts = accepts; only = λ w a e. only w a (eight_of w) refl e }
  where
    accepts : (w : List ℕ) → Eight w → (a : Address) × (option_map groups_address (eight_of w) ≡ Some a)
    accepts w m = let v = rule_eight w m in (groups_address v.0, rw v.1)

    only : (w : List ℕ) (a : Address) (o : Option (List ℕ)) → eight_of w ≡ o → option_map groups_address o ≡ Some a → Eight w
    only w a None q k = let z : ◌≡◌ {A = ℕ} 0 1 = cc in absurd (omega arith)
    only w a (Some gs) q k = eight_rule w gs q

same_either : {A B : List ℕ → Type 0} {f g : List ℕ → Option Address} → Same A f → Same B g → Same (Either A B) (λ w. or_else (f w) (g w))
same_either {A} {B} {f} {g} x y = record { accepts = accepts; only = λ w a e. only w a (f w) refl e }
  where
    first : (w : List ℕ) (o : Option Address) → (a : Address) × (g w ≡ Some a) → (a : Address) × (or_else o (g w) ≡ Some a)
    first w None h = h
    first w (Some a) h = (a, refl)

    accepts : (w : List ℕ) → Either A B w → (a : Address) × (or_else (f w) (g w) ≡ Some a)
    accepts w (inl m) = let v = x.accepts w m in (v.0, rw v.1)
    accepts w (inr m) = first w (f w) (y.accepts w m)

    only : (w : List ℕ) (a : Address) (o : Option Address) → f w ≡ o → or_else o (g w) ≡ Some a → Either A B w
    only w a None q k = inr (y.only w a k)
    only w a (Some b) q k = inl (x.only w b q)

-- ---- accepted texts

strict_rule : (family : ℕ) (t : List ℕ) (a : Address) → strict_of family t ≡ Some a → Either (Parts 3) Eight t
unfolding strict_of
strict_rule family t a e = go (eqb family 6) (eqb family 4) e
  where
    go : (b c : Bool) → or_else (cond b None (option_map V4 (dotted_of t))) (cond c None (option_map groups_address (eight_of t))) ≡ Some a → Either (Parts 3) Eight t
    go true true k = let z : ◌≡◌ {A = ℕ} 0 1 = cc in absurd (omega arith)
    go true false k = inr (same_6.only t a k)
    go false true k = inl (same_4.only t a (sym (or_none (option_map V4 (dotted_of t))) ∙ k))
    go false false k = (same_either same_4 same_6).only t a k

pub strict_most : (family : ℕ) (t : List ℕ) (a : Address) → strict_of family t ≡ Some a → length t ≤ 45
strict_most family t a e = go (strict_rule family t a e)
  where
    go : Either (Parts 3) Eight t → length t ≤ 45
    go (inl m) = omega (arith, parts_length 3 t m)
    go (inr m) = eight_length t m

-- ---- the place

module _ (family : ℕ) (known : known_family family ≡ true) where
  pub accepted_strict : (t : List ℕ) → Accepted family t → (a : Address) × (strict_of family t ≡ Some a)
  accepted_strict t (a, e) = (a, (strict_gives family t known a e).1)

  pub strict_accepted : (t : List ℕ) (a : Address) → strict_of family t ≡ Some a → Accepted family t
  strict_accepted t a e = (a, gives_strict family t known a (omega (arith, strict_most family t a e)) e)

  module _ {A : List ℕ → Type 0} {read : List ℕ → Option Address} (s : Same A read) (e : (w : List ℕ) → read w ≡ strict_of family w) where
    from_rule : {t : List ℕ} {p : ℕ} → Longest A t p → LongestBeginning family t p
    from_rule {t} {p} l =
        let (a, is) = s.accepts l.text l.accepted in
        record {
          beginning = record {
            within = agree_left l.agrees;
            ending = drop p l.text;
            accepted = strict_accepted (take p t ++ drop p l.text) a (ap (strict_of family) (agree_ending l.agrees) ∙ sym (e l.text) ∙ is);
          };
          longest = longest;
        }
      where
        longest : (q : ℕ) → Beginning family t q → q ≤ p
        longest q b =
            let w = take q t ++ b.ending in
            let (a, is) = accepted_strict w b.accepted in
            l.most w q (s.only w a (e w ∙ is)) (agree_take q t b.ending b.within)

  pub place_longest : (t : List ℕ) → LongestBeginning family t (fault_place family t)
  unfolding fault_place
  place_longest t = go (eqb family 6) refl (eqb family 4) refl
    where
      go : (b : Bool) → eqb family 6 ≡ b → (c : Bool) → eqb family 4 ≡ c → LongestBeginning family t (max (cond b 0 (dotted_place t)) (cond c 0 (eight_place t)))
      go true p true q = absurd (omega (arith, eqb-true family 6 p, eqb-true family 4 q))
      go true p false q = rw (zero-max (eight_place t)) (from_rule same_6 (λ w. strict_6 family w (eqb-true family 6 p)) (eight_longest t))
      go false p true q = rw (max-zero (dotted_place t)) (from_rule same_4 (λ w. strict_4 family w (eqb-true family 4 q)) (parts_longest 3 t))
      go false p false q =
          from_rule (same_either same_4 same_6) (λ w. strict_0 family w (eqb-false family 4 q) (eqb-false family 6 p)) (either_longest (parts_longest 3 t) (eight_longest t))

-- it is no longer than some accepted text
pub place_short : (family : ℕ) (t : List ℕ) → fault_place family t ≤ 45
unfolding fault_place
place_short family t = go (eqb family 6) (eqb family 4)
  where
    dotted_short : dotted_place t ≤ 45
    dotted_short = let l = parts_longest 3 t in omega (arith, agree_right l.agrees, parts_length 3 l.text l.accepted)

    eight_short : eight_place t ≤ 45
    eight_short = let l = eight_longest t in omega (arith, agree_right l.agrees, eight_length l.text l.accepted)

    go : (b c : Bool) → max (cond b 0 (dotted_place t)) (cond c 0 (eight_place t)) ≤ 45
    go true true = omega arith
    go true false = omega (arith, eight_short)
    go false true = omega (arith, dotted_short)
    go false false = omega (arith, dotted_short, eight_short)

-- ---- the answer

-- a text that is refused by 2 is of a family that is known
pub known_2 : (family : ℕ) (t : List ℕ) → (strict_answer family t).number ≡ 2 → known_family family ≡ true
known_2 family t h = go (known_family family) refl
  where
    go : (b : Bool) → known_family family ≡ b → b ≡ true
    go true e = refl
    go false e = let z : ◌≡◌ {A = ℕ} 9 2 = ap (λ a. a.number) (strict_unknown family t e) ∙ h in absurd (omega arith)

-- and one of any other number is refused by 9, at no place
pub placed_unknown : (family : ℕ) (t : List ℕ) → known_family family ≡ false → refuses (no_address, 0) WrongFamily ≡ placed_answer family t
unfolding placed_answer
placed_unknown family t k = rw (← strict_unknown family t k)
