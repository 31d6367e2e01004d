-- Outcomes of the C interface, from what the calls below it answer. Assumes nothing.
use Rattle.std.specs.Prelude.{Ok, Err, Result}
use mathlib.Core.Path.{◌≡◌, refl, sym, ap, ◌∙◌}
use mathlib.Core.Bool.{true, false, cond, not}
use mathlib.Core.List.{List}
use Prim.Native.Nat.{ℕ, ◌+◌, ◌*◌, ◌^◌, ◌<◌, min, max}
use native.Mathlib.Decide.{dec_le, dec_lt}
use native.Mathlib.Omega.{arith}
use borrow.Author.Tests.{ne_eqb}
use lib.Dec.{eqb}
use Rattle.address.specs.declared.Address.{Address}
use Rattle.address.specs.declared.Address.TheVariants.{V4, V6}
use Rattle.address.specs.declared.Block.{Block}
use Rattle.address.specs.Addresses.{family}
use Rattle.address.specs.declared.Refusal.{Refusal}
use Rattle.address.specs.declared.Refusal.TheVariants.{LengthTooLarge, WrongFamily}
use Rattle.address.specs.Answers.{Answer, gives, refuses, refusal_number, no_address, reading_answer, write_answer, write_leaves}
use Rattle.address.proofs.AnswerLaws.{nonzero, write_other}
use Rattle.address.proofs.BlockLaws.{refusal_length}
use Rattle.text.specs.Strict.{known_family, strict_answer}
use Rattle.text.proofs.StrictLaws.{strict_unknown}
use Rattle.network.specs.NetworkText.{network_text}
use Rattle.network.proofs.TextLaws.{write_6, write_large}
use Rattle.blocks.specs.BlockText.{block_text}
use Rattle.blocks.proofs.BlockTextLaws.{width_most}
use Rattle.c_answers.specs.CAnswers.{besides}
use Rattle.cover.specs.Blocks as cover
use Rattle.record_lists.specs.RecordLists.{is_family}
use Rattle.record_lists.proofs.AnswerLaws.{list_unknown}
use Rattle.record_lists.proofs.GoodLaws.{refused_number}
use Rattle.list_answers.specs.ListAnswers.{blocks_answer, blocks_leave}
use Rattle.list_answers.proofs.AnswerLaws.{list_refused}
use Rattle.nibharrow.specs.Interface.{Outcome, outcome, when_given, refused_by, and_then, address_into, range_to, writes, network_writes, block_writes}

-- equal answers and equal buffers
pub both : {A : Type 0} {a b : Answer A} {l m : List ℕ} → a ≡ b → l ≡ m → outcome a l ≡ outcome b m
both p q = λ i. record { answers = p i; leaves = q i }

-- what a writer answers and leaves
pub wrote : {r s : Answer ℕ} {new : List ℕ} (refused : ℕ) (bytes old : List ℕ)
    → r ≡ s → (s ≡ write_answer refused bytes old) × (new ≡ write_leaves refused bytes old) → outcome r new ≡ writes refused bytes old
wrote refused bytes old e w = both (e ∙ w.0) w.1

module _ {A B : Type 0} (refused : ℕ → B) (f : A → B) (x : Answer A) where
  -- a value goes on
  pub when_given_lem : (a : A) → gives a ≡ x → f a ≡ when_given refused x f
  unfolding when_given
  when_given_lem a h = ap (λ y. when_given refused y f) h

  -- and a refusal stands
  pub when_refused : (z : A) (e : Refusal) → refuses z e ≡ x → refused (refusal_number e) ≡ when_given refused x f
  unfolding when_given
  when_refused z e h = rw (← h, nonzero e)

-- with its own number, and the buffer as it was
pub refused_on : {A B : Type 0} (zeros : B) (old : List ℕ) (f : A → Outcome B) (x : Answer A) (z : A) (e : Refusal) → x ≡ refuses z e
    → and_then zeros old x f ≡ outcome (refuses zeros e) old
refused_on zeros old f x z e h = sym (when_refused (λ n. outcome (refused_by zeros n) old) f x z e (sym h))

-- what a match tells of a reading, where the reading answers x
module _ {B : Type 0} (refused : ℕ → B) (f : Address → B) (x : Answer Address) (r : Result Address Refusal) (h : reading_answer r ≡ x) where
  pub reading_given : (a : Address) → r ≡ Ok a → f a ≡ when_given refused x f
  reading_given a e = when_given_lem refused f x a (ap reading_answer (sym e) ∙ h)

  pub reading_refused : (e : Refusal) → r ≡ Err e → refused (refusal_number e) ≡ when_given refused x f
  reading_refused e k = when_refused refused f x no_address e (ap reading_answer (sym k) ∙ h)

-- equal answers of a reader go the same way
pub to_same : (first : Address) (x y : Answer Address) (old : List ℕ) (o : Outcome (ℕ × ℕ)) → o ≡ range_to first x old → x ≡ y → o ≡ range_to first y old
to_same first x y old o p q = p ∙ ap (λ a. range_to first a old) q

pub into_same : (x y : Answer Address) (old : List ℕ) (o : Outcome ℕ) → o ≡ address_into x old → x ≡ y → o ≡ address_into y old
into_same x y old o p q = p ∙ ap (λ a. address_into a old) q

-- ---- a number cut to a byte

-- what a function gives of a number that is cut to 255, where it gives the same of all that are larger
cut : {R : Type 0} (f : ℕ → R) (n m : ℕ) → m ≡ min n 255 → (255 < n → f 255 ≡ f n) → f m ≡ f n
cut f n m e large = elim (dec_le n 255) [ yes h ↦ ap f (omega arith) | no h ↦ ap f (omega arith) ∙ large (omega arith) ]

-- a family above 255 is unknown
pub family_cut : (family n : ℕ) (t : List ℕ) → n ≡ min family 255 → strict_answer n t ≡ strict_answer family t
family_cut family n t e = cut (λ m. strict_answer m t) family n e (λ h. sym (strict_unknown 255 t refl) ∙ strict_unknown family t (unknown h))
  where
    unknown : 255 < family → known_family family ≡ false
    unknown h = rw (ne_eqb family 4 (omega arith), ne_eqb family 6 (omega arith), ne_eqb family 0 (omega arith))

-- and so is one of a list of records, whatever blocks it would write
pub records_cut : (make : ℕ → List ℕ → List cover.Block) (family n : ℕ) (bytes old : List ℕ) → n ≡ min family 255
    → outcome (blocks_answer n bytes (make n bytes) old) (blocks_leave n bytes (make n bytes) old) ≡ outcome (blocks_answer family bytes (make family bytes) old) (blocks_leave family bytes (make family bytes) old)
records_cut make family n bytes old e =
    cut (λ m. outcome (blocks_answer m bytes (make m bytes) old) (blocks_leave m bytes (make m bytes) old)) family n e
    (λ h. let p = none 255 refl in let q = none family (unknown h) in both (sym p.0 ∙ q.0) (sym p.1 ∙ q.1))
  where
    none : (m : ℕ) → is_family m ≡ false → (refuses (0, 0) WrongFamily ≡ blocks_answer m bytes (make m bytes) old) × (old ≡ blocks_leave m bytes (make m bytes) old)
    none m u = list_refused m bytes old (make m bytes) WrongFamily (refused_number m bytes WrongFamily (sym (list_unknown m bytes u)))

    unknown : 255 < family → is_family family ≡ false
    unknown h = rw (ne_eqb family 4 (omega arith), ne_eqb family 6 (omega arith))

-- a refusal is the same whatever would be written
alike : (e : Refusal) {n m : ℕ} (b c old : List ℕ) → refusal_number e ≡ n → refusal_number e ≡ m → writes n b old ≡ writes m c old
alike e {n} {m} b c old h k =
    let p = write_other n b old e h in
    let q = write_other m c old e k in
    both (sym p.0 ∙ q.0) (sym p.1 ∙ q.1)

-- so is a size above 255
pub size_cut : (a : Address) (size n : ℕ) (old : List ℕ) → n ≡ min size 255 → network_writes a n old ≡ network_writes a size old
size_cut a size n old e = cut (λ m. network_writes a m old) size n e (λ h. large a h)
  where
    large : (a : Address) → 255 < size → network_writes a 255 old ≡ network_writes a size old
    large (V4 v) h = alike LengthTooLarge (network_text v 255) (network_text v size) old (write_large v 255 (omega arith)) (write_large v size (omega arith))
    large (V6 hi lo) h = alike WrongFamily (network_text (hi * 2 ^ 64 + lo) 255) (network_text (hi * 2 ^ 64 + lo) size) old (write_6 hi lo 255) (write_6 hi lo size)

-- and a length
pub length_cut : (a : Address) (length n : ℕ) (old : List ℕ) → n ≡ min length 255 → block_writes a n old ≡ block_writes a length old
length_cut a length n old e =
    cut (λ m. block_writes a m old) length n e
    (λ h. alike LengthTooLarge (block_text (block_of 255)) (block_text (block_of length)) old
    (sym (refusal_length (block_of 255) (omega (arith, width_most a))))
    (sym (refusal_length (block_of length) (omega (arith, width_most a)))))
  where
    block_of : ℕ → Block
    block_of m = record { address = a; length = m }

-- a writer's refusal with a number beside it
pub refused_besides : (n : ℕ) (e : Refusal) → besides n (refuses 0 e) ≡ refuses (0, 0) e
refused_besides n e = rw (nonzero e)

-- ---- a number that asks, or does not

-- of two numbers one is above 0 exactly if the larger is
pub either_asked : (m n : ℕ) → cond (not (eqb m 0)) true (not (eqb n 0)) ≡ not (eqb (max m n) 0)
either_asked m n = elim (dec_lt 0 m) [
  | yes h ↦ rw (ne_eqb m 0 (λ e. omega arith), ne_eqb (max m n) 0 (λ e. omega arith))
  | no l ↦ let none : m ≡ 0 = omega arith in let other : max m n ≡ n = omega arith in rw (other, none)
]
