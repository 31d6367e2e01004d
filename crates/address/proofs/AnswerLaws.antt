-- What a call answers: from a refusal's number, and as a writer of bytes to the start of a lent buffer. Assumes nothing.
use mathlib.Core.Path.{◌≡◌, refl, sym, ap, ◌∙◌}
use mathlib.Core.Logic.{◌↔◌}
use mathlib.Core.Bool.{false}
use mathlib.Core.List.{List, ◌++◌}
use Prim.Native.Nat.{ℕ, ◌≤◌, ◌<◌}
use native.Mathlib.Decide.{dec_lt, ℕ_discrete}
use native.Mathlib.Omega.{arith}
use borrow.Author.Tests.{lt-ltb, le-ltb, ne_eqb}
use lib.Dec.{eqb, lit<, lit≤}
use lib.ListN.{length, take, drop, length-append, length-drop}
use lib.Seq.{take_at, drop_at}
use Rattle.address.specs.declared.Refusal.{Refusal}
use Rattle.address.specs.declared.Refusal.TheVariants.{TextTooLong, Malformed, NoRoom, LengthTooLarge, BitsBeyondLength, NoClass, HostTooLarge, FirstAboveLast, WrongFamily, TooMany}
use Rattle.address.specs.Answers.{Answer, refusal_number, answer, gives, refuses, write_refusal, write_answer, write_leaves}

-- ---- the paper's answer, from a refusal's number

pub number_pos : (e : Refusal) → 0 < refusal_number e
number_pos TextTooLong = lit< tt
number_pos Malformed = lit< tt
number_pos NoRoom = lit< tt
number_pos LengthTooLarge = lit< tt
number_pos BitsBeyondLength = lit< tt
number_pos NoClass = lit< tt
number_pos HostTooLarge = lit< tt
number_pos FirstAboveLast = lit< tt
number_pos WrongFamily = lit< tt
number_pos TooMany = lit< tt

pub number_most : (e : Refusal) → refusal_number e ≤ 10
number_most TextTooLong = lit≤ tt
number_most Malformed = lit≤ tt
number_most NoRoom = lit≤ tt
number_most LengthTooLarge = lit≤ tt
number_most BitsBeyondLength = lit≤ tt
number_most NoClass = lit≤ tt
number_most HostTooLarge = lit≤ tt
number_most FirstAboveLast = lit≤ tt
number_most WrongFamily = lit≤ tt
number_most TooMany = lit≤ tt

pub nonzero : (e : Refusal) → eqb (refusal_number e) 0 ≡ false
nonzero e = ne_eqb (refusal_number e) 0 (let pos = number_pos e in omega arith)

module _ {A : Type 0} (zeros fields : A) (n : ℕ) where
  pub answer_gives : n ≡ 0 → gives fields ≡ answer zeros n fields
  answer_gives h = rw h

  pub answer_refuses : (e : Refusal) → refusal_number e ≡ n → refuses zeros e ≡ answer zeros n fields
  answer_refuses e h = rw (← h, nonzero e)

-- ---- a writer's refusal: 3 stands last

module _ (bytes old : List ℕ) where
  -- where nothing else is refused, the room decides
  pub room_enough : length bytes ≤ length old → write_refusal 0 bytes old ≡ 0
  room_enough h = rw (le-ltb (length old) (length bytes) h)

  pub room_less : length old < length bytes → write_refusal 0 bytes old ≡ 3
  room_less h = rw (lt-ltb (length old) (length bytes) h)

  -- another refusal stands
  pub stands : (n : ℕ) → ¬ (n ≡ 0) → write_refusal n bytes old ≡ n
  stands n h = rw (ne_eqb n 0 h)

  -- what the call is refused by tells what else is refused, and the room
  pub no_refusal : (n : ℕ) → (write_refusal n bytes old ≡ 0) ↔ ((n ≡ 0) × (length bytes ≤ length old))
  no_refusal n = (to, λ p. ap (λ m. write_refusal m bytes old) p.0 ∙ room_enough p.1)
    where
      to : write_refusal n bytes old ≡ 0 → (n ≡ 0) × (length bytes ≤ length old)
      to e = elim (ℕ_discrete n 0) [
        | yes z ↦ elim (dec_lt (length old) (length bytes)) [
          | yes l ↦ absurd (omega (arith, e, ap (λ m. write_refusal m bytes old) z, room_less l))
          | no l ↦ (z, omega (arith, l))
        ]
        | no m ↦ absurd (m (sym (stands n m) ∙ e))
      ]

  pub refusal_3 : (n : ℕ) → ¬ (n ≡ 3) → (write_refusal n bytes old ≡ 3) ↔ ((n ≡ 0) × (length old < length bytes))
  refusal_3 n other = (to, λ p. ap (λ m. write_refusal m bytes old) p.0 ∙ room_less p.1)
    where
      to : write_refusal n bytes old ≡ 3 → (n ≡ 0) × (length old < length bytes)
      to e = elim (ℕ_discrete n 0) [
        | yes z ↦ elim (dec_lt (length old) (length bytes)) [
          | yes l ↦ (z, l)
          | no l ↦ absurd (omega (arith, e, ap (λ m. write_refusal m bytes old) z, room_enough (omega (arith, l))))
        ]
        | no m ↦ absurd (other (sym (stands n m) ∙ e))
      ]

-- ---- what a writer answers and leaves

module _ (bytes old : List ℕ) (n : ℕ) (l : length bytes ≡ n) where
  -- where the bytes do not fit
  pub write_short : length old < n → (refuses 0 NoRoom ≡ write_answer 0 bytes old) × (old ≡ write_leaves 0 bytes old)
  unfolding write_answer write_leaves
  write_short h = (rw (l, lt-ltb (length old) n h), rw (l, lt-ltb (length old) n h))

  -- and where they do
  pub write_fits : n ≤ length old → (new : List ℕ) → new ≡ bytes ++ drop n old → (gives n ≡ write_answer 0 bytes old) × (new ≡ write_leaves 0 bytes old)
  unfolding write_answer write_leaves
  write_fits h new e = (rw (l, le-ltb (length old) n h), rw (e, l, le-ltb (length old) n h))

module _ (n : ℕ) (bytes old : List ℕ) where
  -- a call that another refusal's number refuses
  pub write_other : (e : Refusal) → refusal_number e ≡ n → (refuses 0 e ≡ write_answer n bytes old) × (old ≡ write_leaves n bytes old)
  unfolding write_answer write_leaves
  write_other e h =
      let r : write_refusal n bytes old ≡ refusal_number e = stands bytes old n (omega (arith, number_pos e, h)) ∙ sym h in
      (answer_refuses 0 (length bytes) (write_refusal n bytes old) e (sym r), rw (r, nonzero e))

  -- and one that none does
  pub write_none : n ≡ 0 → {r : Answer ℕ} {new : List ℕ} → (r ≡ write_answer 0 bytes old) × (new ≡ write_leaves 0 bytes old)
      → (r ≡ write_answer n bytes old) × (new ≡ write_leaves n bytes old)
  write_none z w = (w.0 ∙ ap (λ m. write_answer m bytes old) (sym z), w.1 ∙ ap (λ m. write_leaves m bytes old) (sym z))

  -- where nothing else is refused and the bytes fit, the answer is good
  pub write_good : n ≡ 0 → length bytes ≤ length old → write_answer n bytes old ≡ gives (length bytes)
  unfolding write_answer
  write_good z h = rw ((no_refusal bytes old n).1 (z, h))

  -- and where it is good, nothing else is refused
  pub good_no_reason : (k : ℕ) → write_answer n bytes old ≡ gives k → n ≡ 0
  unfolding write_answer
  good_no_reason k e = ((no_refusal bytes old n).0 (ap (λ (r : Answer ℕ). r.number) e)).0

  -- the buffer that it leaves
  pub written_is : (k : ℕ) → write_answer n bytes old ≡ gives k → (length bytes ≡ k) × (k ≤ length old) × (write_leaves n bytes old ≡ bytes ++ drop k old)
  unfolding write_answer write_leaves
  written_is k e =
      let none : write_refusal n bytes old ≡ 0 = ap (λ (r : Answer ℕ). r.number) e in
      let count : length bytes ≡ k = rw none at (ap (λ (r : Answer ℕ). r.fields) e) in
      (count, omega (arith, ((no_refusal bytes old n).0 none).1), rw (none, count))

  pub written_held : (k : ℕ) → write_answer n bytes old ≡ gives k
      → (take k (write_leaves n bytes old) ≡ bytes) × (k ≡ length bytes) × (k ≤ length old) × (drop k (write_leaves n bytes old) ≡ drop k old)
  written_held k e =
      let (l, room, left) = written_is k e in
      (ap (take k) left ∙ take_at bytes (drop k old) k l, sym l, room, ap (drop k) left ∙ drop_at bytes (drop k old) k l)

  -- what is read of the bytes is read of those that the buffer holds
  pub read_held : {B : Type 0} {b : B} (read : List ℕ → B) → read bytes ≡ b → (k : ℕ) → write_answer n bytes old ≡ gives k → read (take k (write_leaves n bytes old)) ≡ b
  read_held read h k e = ap read (written_held k e).0 ∙ h

  pub write_refused : ¬ ((write_answer n bytes old).number ≡ 0) → ((write_answer n bytes old).fields ≡ 0) × (write_leaves n bytes old ≡ old)
  unfolding write_answer write_leaves
  write_refused m = rw (ne_eqb (write_refusal n bytes old) 0 m) (refl, refl)

  pub write_length : length (write_leaves n bytes old) ≡ length old
  unfolding write_answer write_leaves
  write_length = elim (ℕ_discrete (write_refusal n bytes old) 0) [
    | yes e ↦
        let room = ((no_refusal bytes old n).0 e).1 in
        rw e (omega (arith, length-append bytes (drop (length bytes) old), length-drop (length bytes) old))
    | no m ↦ ap length (write_refused m).1
  ]
