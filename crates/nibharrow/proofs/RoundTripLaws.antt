-- What the calls of the C interface leave in the caller's buffers, from what the calls below them answer. Assumes nothing.
use Rattle.std.specs.Prelude.{Option, Some, None, unwrap_or}
use mathlib.Core.Path.{◌≡◌, refl, sym, ap, ap₂, subst, ◌∙◌}
use mathlib.Core.Logic.{◌↔◌}
use mathlib.Core.Bool.{Bool, true, false, cond}
use mathlib.Core.List.{List, [], ◌∷◌}
use Prim.Native.Nat.{ℕ, ◌+◌, ◌*◌, ◌≤◌, ◌<◌}
use native.Mathlib.Decide.{ℕ_discrete}
use native.Mathlib.Omega.{arith}
use borrow.Author.Tests.{ne_eqb}
use lib.Dec.{ltb}
use lib.ListN.{length}
use Rattle.notation.specs.BigEndian.{AllBelow, number_of}
use Rattle.notation.proofs.DigitLaws.{four_number}
use Rattle.cover.specs.Blocks.{range_blocks}
use Rattle.address.specs.declared.Address.{Address}
use Rattle.address.specs.declared.Address.TheVariants.{V4, V6}
use Rattle.address.specs.declared.Refusal.TheVariants.{NoClass}
use Rattle.address.specs.Addresses.{IsAddress, width, number}
use Rattle.address.specs.Answers.{Answer, gives, refuses, write_refusal, write_answer}
use Rattle.address.proofs.AnswerLaws.{answer_gives, no_refusal}
use Rattle.address.proofs.Claims.{one_width}
use Rattle.octets.specs.Octets.{octets_answer}
use Rattle.octets.proofs.Claims.{number_is, no_address_exactly}
use Rattle.octets.proofs.OctetLaws.{read_4}
use Rattle.network.specs.Network.{Network, network_of, no_network, read_network_refusal, network_answer}
use Rattle.classes.specs.Classes.{class_a, class_b, class_c, split_answer}
use Rattle.classes.proofs.ClassLaws.{class_a_lem, class_b_lem, class_c_lem, class_none, split_class, split_none, split_6}
use Rattle.records.specs.Records.{record_size}
use Rattle.records.proofs.Claims.{records_size}
use Rattle.ranges.specs.Ranges.{range_answer, range_leaves, HoldsFewest}
use Rattle.ranges.proofs.Claims as ranges
use Rattle.ranges.proofs.RangeLaws.{written, case_exactly}
use Rattle.nibharrow.specs.Interface.{Outcome, outcome, when_given, refused_by, and_then, octets_split, range_to, range_into}

-- ---- calls on the value of another

-- where a call on another's value is good, the value was given, and the outcome is the call's on it
module _ {A B : Type 0} (refused : ℕ → B) (says : B → ℕ) (stays : (n : ℕ) → ¬ (n ≡ 0) → ¬ (says (refused n) ≡ 0)) (x : Answer A) (f : A → B) where
  went_on : says (when_given refused x f) ≡ 0 → (x ≡ gives x.fields) × (when_given refused x f ≡ f x.fields)
  unfolding when_given
  went_on e = elim (ℕ_discrete x.number 0) [
    | yes z ↦ (λ i. record { number = z i; fields = x.fields }, rw z)
    | no n ↦ absurd (stays x.number n (rw (ne_eqb x.number 0 n) at e))
  ]

pub answer_went_on : {A B : Type 0} (zeros : B) (x : Answer A) (f : A → Answer B) (y : B) → when_given (refused_by zeros) x f ≡ gives y
    → (x ≡ gives x.fields) × (f x.fields ≡ gives y)
answer_went_on zeros x f y e = let w = went_on (refused_by zeros) (λ r. r.number) (λ n d e. omega (arith, d, e)) x f (ap (λ r. r.number) e) in (w.0, sym w.1 ∙ e)

-- the same of an outcome, by its number and by its whole answer
module _ {A B : Type 0} (zeros : B) (old : List ℕ) (x : Answer A) (f : A → Outcome B) where
  pub number_went_on : (and_then zeros old x f).answers.number ≡ 0 → (x ≡ gives x.fields) × (and_then zeros old x f ≡ f x.fields) × ((f x.fields).answers.number ≡ 0)
  number_went_on e =
      let w = went_on (λ n. outcome (refused_by zeros n) old) (λ o. o.answers.number) (λ n d e. omega (arith, d, e)) x f e in
      (w.0, w.1, ap (λ o. o.answers.number) (sym w.1) ∙ e)

  pub outcome_went_on : (y : B) → (and_then zeros old x f).answers ≡ gives y → (x ≡ gives x.fields) × (and_then zeros old x f ≡ f x.fields) × ((f x.fields).answers ≡ gives y)
  outcome_went_on y e = let w = number_went_on (ap (λ r. r.number) e) in (w.0, w.1, ap (λ o. o.answers) (sym w.1) ∙ e)

-- bytes that are no address are refused, whatever would follow
pub none_given : (bytes : List ℕ) → ¬ (length bytes ≡ 4) → ¬ (length bytes ≡ 16)
    → {B : Type 0} (refused : ℕ → B) (f : Address → B) → when_given refused (octets_answer bytes) f ≡ refused 2
unfolding when_given
none_given bytes n m refused f = rw ((no_address_exactly bytes).1 (n, m))

-- a writer that refuses nothing answers how many bytes it has
pub good_writes : (refused : ℕ) (bytes old : List ℕ) → (write_answer refused bytes old).number ≡ 0 → write_answer refused bytes old ≡ gives (length bytes)
unfolding write_answer
good_writes refused bytes old e = sym (answer_gives 0 (length bytes) _ e)

-- ---- networks

-- a text without a meaning is refused
none_refused : (t : List ℕ) → ¬ (read_network_refusal t None ≡ 0)
unfolding read_network_refusal
none_refused t = go (ltb 64 (length t))
  where
    go : (p : Bool) → ¬ (◌≡◌ {A = ℕ} (cond p 1 2) 0)
    go true e = omega (arith, e)
    go false e = omega (arith, e)

network_some : (t old : List ℕ) (o : Option Network) → let n = unwrap_or o no_network in write_refusal (read_network_refusal t o) n.bytes old ≡ 0 → o ≡ Some n
network_some t old None e = absurd (none_refused t ((no_refusal [] old (read_network_refusal t None)).0 e).0)
network_some t old (Some n) e = refl

-- and a good answer is the size and the bytes of its meaning
pub network_good : (t old : List ℕ) → (network_answer t old).number ≡ 0
    → let n = unwrap_or (network_of t) no_network in
    (network_of t ≡ Some n) × (network_answer t old ≡ gives (n.size, length n.bytes)) × ((write_answer (read_network_refusal t (network_of t)) n.bytes old).number ≡ 0)
unfolding network_answer write_answer
network_good t old e = (network_some t old (network_of t) e, sym (answer_gives (0, 0) _ _ e), e)

-- ---- the class table, over octets

module _ (a b c d : ℕ) (small : AllBelow 256 (a ∷ b ∷ c ∷ d ∷ [])) where
  -- the number that they write
  abbrev value : ℕ
  value = ((a * 256 + b) * 256 + c) * 256 + d

  split_of : octets_split (a ∷ b ∷ c ∷ d ∷ []) ≡ split_answer (V4 value)
  unfolding octets_split when_given
  split_of = rw (← read_4 (a ∷ b ∷ c ∷ d ∷ []) value refl (sym (four_number 256 a b c d)))

  pub split_a : a < 128 → octets_split (a ∷ b ∷ c ∷ d ∷ []) ≡ gives (a, (b * 256 + c) * 256 + d)
  split_a h = split_of ∙ sym (split_class value class_a (class_a_lem value (omega arith))) ∙ ap₂ (λ (n k : ℕ). gives (n, k)) (omega arith) (omega arith)

  pub split_b : 128 ≤ a → a < 192 → octets_split (a ∷ b ∷ c ∷ d ∷ []) ≡ gives (a * 256 + b, c * 256 + d)
  split_b l h = split_of ∙ sym (split_class value class_b (class_b_lem value (omega arith) (omega arith))) ∙ ap₂ (λ (n k : ℕ). gives (n, k)) (omega arith) (omega arith)

  pub split_c : 192 ≤ a → a < 224 → octets_split (a ∷ b ∷ c ∷ d ∷ []) ≡ gives ((a * 256 + b) * 256 + c, d)
  split_c l h = split_of ∙ sym (split_class value class_c (class_c_lem value (omega arith) (omega arith))) ∙ ap₂ (λ (n k : ℕ). gives (n, k)) (omega arith) (omega arith)

  pub split_d : 224 ≤ a → octets_split (a ∷ b ∷ c ∷ d ∷ []) ≡ refuses (0, 0) NoClass
  split_d h = split_of ∙ sym (split_none value (class_none value (omega arith)))

-- an address that splits has four octets
pub split_four : (bytes : List ℕ) (a : Address) (n h : ℕ) → octets_answer bytes ≡ gives a → split_answer a ≡ gives (n, h) → length bytes ≡ 4
split_four bytes (V4 v) n h e f = let w = (number_is bytes (V4 v) e).0 in omega arith
split_four bytes (V6 hi lo) n h e f = let z : ◌≡◌ {A = ℕ} 9 0 = ap (λ (r : Answer (ℕ × ℕ)). r.number) (split_6 hi lo ∙ f) in absurd (omega arith)

-- ---- ranges

-- a good range is that of two addresses
pub range_went_on : (first last old : List ℕ) (f : ℕ × ℕ) → (range_into first last old).answers ≡ gives f
    → let a = (octets_answer first).fields in
    let b = (octets_answer last).fields in
    (octets_answer first ≡ gives a) × (octets_answer last ≡ gives b) × ((range_into first last old).leaves ≡ range_leaves a b old) × (range_answer a b old ≡ gives f)
unfolding range_into range_to
range_went_on first last old f good =
    let a = (octets_answer first).fields in
    let (is-a, on-a, good-a) = outcome_went_on (0, 0) old (octets_answer first) (λ a. range_to a (octets_answer last) old) f good in
    let (is_b, on-b, good-b) = outcome_went_on (0, 0) old (octets_answer last) (λ b. outcome (range_answer a b old) (range_leaves a b old)) f good-a in
    (is-a, is_b, ap (λ o. o.leaves) (on-a ∙ on-b), good-b)

-- what demand 3 says of the buffer
pub range_held : (first last : Address) (old : List ℕ) (f : ℕ × ℕ) → IsAddress last → range_answer first last old ≡ gives f
    → HoldsFewest (width first) (number first) (number last) f old (range_leaves first last old)
range_held first last old f is good =
    subst (λ f. HoldsFewest (width first) (number first) (number last) f old (range_leaves first last old)) (ap (λ r. r.fields) good)
    (ranges.good_answer first last old is (ap (λ r. r.number) good))

pub held_same : (old : List ℕ) (f : ℕ × ℕ) {W W' x x' y y' : ℕ} {left left' : List ℕ} → W ≡ W' → x ≡ x' → y ≡ y' → left ≡ left'
    → HoldsFewest W x y f old left → HoldsFewest W' x' y' f old left'
held_same old f {W} {W'} {x} {x'} {y} {y'} {left} {left'} p q r s =
    let all : ◌≡◌ {A = ℕ × ℕ × ℕ × List ℕ} (W, x, y, left) (W', x', y', left') = λ i. (p i, q i, r i, s i) in
    subst (λ (z : ℕ × ℕ × ℕ × List ℕ). HoldsFewest z.0 z.1 z.2 f old z.3) all

-- when a range of octets is good
pub range_good_octets : (first last old : List ℕ) (a b : Address) → octets_answer first ≡ gives a → octets_answer last ≡ gives b
    → let W = 8 * length first in
    ((range_answer a b old).number ≡ 0)
    ↔ ((length first ≡ length last) × (number_of 256 first ≤ number_of 256 last) × (record_size W * length (range_blocks W (number_of 256 first) (number_of 256 last)) ≤ length old))
range_good_octets first last old a b is-a is_b =
    let (bits-a, x) = number_is first a is-a in
    let (bits-b, y) = number_is last b is_b in
    let size = records_size (width a) (range_blocks (width a) (number a) (number b)) ∙ (λ i. record_size (bits-a i) * length (range_blocks (bits-a i) (x i) (y i))) in
    let good = case_exactly a b old written in
    let bits = one_width a b in (
      λ e. let (same, rises, room) = good.0 e in (omega (arith, bits.0 same), omega arith, omega arith),
      λ r. good.1 (bits.1 (omega (arith, r.0)), omega (arith, r.1), omega (arith, r.2)),
    )
