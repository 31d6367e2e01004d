-- What is claimed of the refusals in words. Assumes nothing.
use mathlib.Core.Path.{◌≡◌, refl, sym, ap, subst, ◌∙◌}
use mathlib.Core.Logic.{◌↔◌}
use mathlib.Core.Bool.{true, false, false≢true}
use mathlib.Core.List.{List}
use Prim.Native.Nat.{ℕ, ◌≤◌, ◌<◌}
use lib.ListN.{length}
use Rattle.address.specs.declared.Refusal.{Refusal}
use Rattle.address.specs.declared.Refusal.TheVariants.{TextTooLong, Malformed, NoRoom, LengthTooLarge, BitsBeyondLength, NoClass, HostTooLarge, FirstAboveLast, WrongFamily, TooMany}
use Rattle.address.specs.Answers.{refusal_number, missing, gives, write_answer}
use Rattle.address.proofs.Claims.{one_number}
use Rattle.address.proofs.Claims as address
use Rattle.words.specs.Words.{refusal_words, words_text, words_refusal, printable}
use Rattle.words.proofs.WordsLaws as laws

-- Every refusal has its words.
pub every_refusal : (e : Refusal) → missing (refusal_words (refusal_number e)) ≡ false
unfolding refusal_words
every_refusal TextTooLong = refl
every_refusal Malformed = refl
every_refusal NoRoom = refl
every_refusal LengthTooLarge = refl
every_refusal BitsBeyondLength = refl
every_refusal NoClass = refl
every_refusal HostTooLarge = refl
every_refusal FirstAboveLast = refl
every_refusal WrongFamily = refl
every_refusal TooMany = refl

-- A number has words exactly if it is 1 to 10, which are the numbers of the refusals; 0, that of a good answer, has none.
pub words_exactly : (n : ℕ) → (missing (refusal_words n) ≡ false) ↔ ((1 ≤ n) × (n ≤ 10))
words_exactly = laws.words_1_to_10

pub words_of_refusals : (n : ℕ) → (missing (refusal_words n) ≡ false) ↔ ((e : Refusal) × (refusal_number e ≡ n))
words_of_refusals n = (
  λ h. let k = (words_exactly n).0 h in laws.refusal_of n k.0 k.1,
  λ r. subst (λ (k : ℕ). missing (refusal_words k) ≡ false) r.1 (every_refusal r.0),
)

-- Two refusals with the same words are one.
pub own_words : (e f : Refusal) → words_text (refusal_number e) ≡ words_text (refusal_number f) → e ≡ f
own_words e f h = one_number e f (sym (laws.number_back e) ∙ ap laws.number_by h ∙ laws.number_back f)

-- What a call with a number answers: 2 exactly if the number is none of these, 3 exactly if it is one and the room is less, and else it is good.
module _ (n : ℕ) (old : List ℕ) where
  pub unknown_exactly : ((write_answer (words_refusal n) (words_text n) old).number ≡ 2) ↔ ¬ ((1 ≤ n) × (n ≤ 10))
  unfolding write_answer
  unknown_exactly =
      let none = laws.refused_2 n (words_text n) old in (
        λ e k. false≢true (sym ((words_exactly n).1 k) ∙ none.0 e),
        λ f. none.1 (laws.not_false (missing (refusal_words n)) (λ e. f ((words_exactly n).0 e))),
      )

  pub room_exactly : ((write_answer (words_refusal n) (words_text n) old).number ≡ 3) ↔ ((1 ≤ n) × (n ≤ 10) × (length old < length (words_text n)))
  room_exactly =
      let room = address.room_exactly (words_refusal n) (words_text n) old (laws.not_3 n) in
      let none = laws.no_reason n in (
        λ e. let r = room.0 e in let k = (words_exactly n).0 (none.0 r.0) in (k.0, k.1, r.1),
        λ k. room.1 (none.1 ((words_exactly n).1 (k.0, k.1)), k.2),
      )

  pub good_exactly : (write_answer (words_refusal n) (words_text n) old ≡ gives (length (words_text n))) ↔ ((1 ≤ n) × (n ≤ 10) × (length (words_text n) ≤ length old))
  good_exactly =
      let good = address.good_exactly (words_refusal n) (words_text n) old in
      let none = laws.no_reason n in (
        λ e. let r = good.0 e in let k = (words_exactly n).0 (none.0 r.0) in (k.0, k.1, r.1),
        λ k. good.1 (none.1 ((words_exactly n).1 (k.0, k.1)), k.2),
      )

-- The words of any number are at most 54 bytes of printable ASCII.
pub at_most_54 : (n : ℕ) → (length (words_text n) ≤ 54) × (printable (words_text n) ≡ true)
at_most_54 = laws.words_good
