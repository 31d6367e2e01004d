-- What is claimed of the place that refusal 2 carries (02, Req 02). Assumes nothing.
use mathlib.Core.Path.{◌≡◌, refl, sym, subst, ◌∙◌}
use mathlib.Core.Logic.{◌↔◌}
use mathlib.Core.Bool.{Bool, true, ◌&&◌}
use mathlib.Core.List.{List, [], ◌∷◌, ◌++◌}
use Prim.Native.Nat.{ℕ, ◌≤◌}
use Prim.Native.String.{String}
use native.Mathlib.Omega.{arith}
use borrow.Author.Tests.{eq-eqb, ne_eqb}
use lib.Dec.{eqb}
use lib.ListN.{length}
use lib.Seq.{take-length}
use Rattle.notation.specs.Ascii.{ascii}
use Rattle.digits.specs.Numerals.{part_of, group_of, digit_count, digit_of, all_digits}
use Rattle.notation.specs.Options.{every}
use Rattle.notation.specs.Pieces.{split_on}
use Rattle.address.specs.declared.Address.TheVariants.{V6}
use Rattle.address.specs.Answers.{gives, read_answer}
use Rattle.address_groups.specs.Groups.{groups_address}
use Rattle.text.specs.Strict.{known_family, strict_answer}
use Rattle.place.specs.Place.{Accepted, LongestBeginning, fault_place, placed_answer}
use Rattle.place.proofs.PlaceLaws as laws

-- There is one such length.
pub one_longest : (family : ℕ) (t : List ℕ) (p q : ℕ) → LongestBeginning family t p → LongestBeginning family t q → p ≡ q
one_longest family t p q x y = omega (arith, y.longest p x.beginning, x.longest q y.beginning)

module _ (family : ℕ) (known : known_family family ≡ true) where
  -- The computed place is the length that the sentence names, for 4, 6 and 0.
  pub place_exactly : (t : List ℕ) (p : ℕ) → (fault_place family t ≡ p) ↔ LongestBeginning family t p
  place_exactly t p = (λ e. subst (LongestBeginning family t) e (laws.place_longest family known t), λ l. one_longest family t _ p (laws.place_longest family known t) l)

  -- "No strict text is longer than 45 bytes",
  pub accepted_most : (t : List ℕ) → Accepted family t → length t ≤ 45
  accepted_most t a = let (b, e) = laws.accepted_strict family known t a in laws.strict_most family t b e

-- so that no place is above 45.
pub place_most : (family : ℕ) (t : List ℕ) → fault_place family t ≤ 45
place_most = laws.place_short

-- A text of 45 bytes is accepted, so that no smaller limit holds.
pub longest_accepted : strict_answer 6 (ascii "1111:2222:3333:4444:5555:6666:111.122.133.144") ≡ gives (V6 0x1111222233334444 0x555566666f7a8590)
unfolding strict_answer read_answer ascii group_of part_of digit_of all_digits every groups_address split_on
longest_accepted = refl

-- ---- what the strict reader answers

module _ (family : ℕ) (t : List ℕ) where
  abbrev number : ℕ
  number = (placed_answer family t).number

  abbrev place : ℕ
  place = (placed_answer family t).fields.1

  -- "refusal 2 shall carry a place: the length of the longest beginning of the text that is also the beginning of some accepted text of the
  -- family asked for",
  pub place_of_2 : number ≡ 2 → (p : ℕ) → (place ≡ p) ↔ LongestBeginning family t p
  unfolding placed_answer
  place_of_2 h p =
      let e = place_exactly family (laws.known_2 family t h) t p in
      let is : place ≡ fault_place family t = rw (eq-eqb (strict_answer family t).number 2 h) in
      (λ k. e.0 (sym is ∙ k), λ l. is ∙ e.1 l)

  -- "Other refusals carry place zero", and so does a good answer.
  pub no_other_place : ¬ (number ≡ 2) → place ≡ 0
  unfolding placed_answer
  no_other_place n = rw (ne_eqb (strict_answer family t).number 2 n)

  -- "For an unfinished text that is its whole length", and for no other text.
  pub unfinished_exactly : number ≡ 2 → (place ≡ length t) ↔ ((s : List ℕ) × Accepted family (t ++ s))
  unfinished_exactly h = (
    λ e. let b = ((place_of_2 h (length t)).0 e).beginning in (b.ending, subst (λ u. Accepted family (u ++ b.ending)) (take-length t) b.accepted),
    λ x.
        let (s, a) = x in
        (place_of_2 h (length t)).1 (record {
          beginning = record { within = omega arith; ending = s; accepted = subst (λ u. Accepted family (u ++ s)) (sym (take-length t)) a };
          longest = λ q b. b.within;
        }),
  )

  -- Number and address are those of 01.
  pub answer_stays : (number ≡ (strict_answer family t).number) × ((placed_answer family t).fields.0 ≡ (strict_answer family t).fields)
  unfolding placed_answer
  answer_stays = (refl, refl)

-- ---- computed: the definition runs

-- whether the place of each text is the number that stands behind it
abbrev places : ℕ → List (String × ℕ) → Bool
places family [] = true
places family (e ∷ es) = eqb (fault_place family (ascii e.0)) e.1 && places family es

pub places_4 : places 4 (
    ("", 0) ∷ ("1.2.3", 5) ∷ ("1.2.3.", 6) ∷ ("1.2.3.256", 8) ∷ ("256.", 2) ∷ ("010.0.0.12", 1) ∷ ("1..2", 2) ∷ (".1", 0) ∷ ("1.2.3.4.5", 7) ∷ ("1.2.3.4 ", 7) ∷
    ("::1", 0) ∷ ("1:2", 1) ∷ ("1.2.3.1000", 9) ∷ []) ≡ true
unfolding fault_place ascii part_of digit_count digit_of all_digits
places_4 = refl

pub places_6 : places 6 (
    ("", 0) ∷ (":", 1) ∷ (":1", 1) ∷ (":::", 2) ∷ ("1:2:3:4:5:6:7:", 14) ∷ ("1:2:3:4:5:6:7::8", 15) ∷ ("1:2:3:4:5:6:7:8:", 15) ∷ ("1:2:3:4:5:6:7:8::", 15) ∷ ("::256.", 5) ∷
    ("::255.", 6) ∷ ("::1.2.3.4.", 9) ∷ ("1.2.3.4", 1) ∷ ("1:2:3:4:5:6:7:1.2.3.4", 15) ∷ ("1:2:3:4:5:1.2.3.4", 11) ∷ ("1::2:3:4:5:6:7:8", 14) ∷ ("1::2::3", 5) ∷ ("12345::", 4) ∷
    ("::1:2:3:4:5:6:7:8", 15) ∷ ("::1:2:3:4:5:6:1.2.3.4", 15) ∷ ("::1%eth0", 3) ∷ ("::1.2.3:", 7) ∷ []) ≡ true
unfolding fault_place ascii part_of digit_count digit_of all_digits
places_6 = refl

pub places_0 : places 0 (("", 0) ∷ ("256.", 3) ∷ ("010.0.0.12", 3) ∷ ("1.2.3.256", 8) ∷ ("1.2.3:", 5) ∷ ("1:2.3", 3) ∷ ("255.", 4) ∷ ("1.2.3", 5) ∷ ("::256.", 5) ∷ []) ≡ true
unfolding fault_place ascii part_of digit_count digit_of all_digits
places_0 = refl
