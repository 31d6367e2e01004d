-- What is asked of a lent buffer, of each kind of call. Assumes nothing.
use mathlib.Core.Path.{◌≡◌, refl, sym, ap, subst}
use mathlib.Core.Bool.{Bool, true, false, cond}
use mathlib.Core.List.{List, ◌++◌}
use Prim.Native.Nat.{ℕ, ◌≤◌}
use native.Mathlib.Omega.{arith}
use borrow.Author.Tests.{ne_eqb}
use lib.Dec.{eqb}
use lib.ListN.{length, drop}
use lib.Seq.{drop_at}
use Rattle.address.specs.declared.Address.{Address}
use Rattle.address.specs.Answers.{Answer, refusal, answer, gives, write_refusal, write_answer, write_leaves}
use Rattle.address.proofs.AnswerLaws.{write_good}
use Rattle.address.proofs.Claims.{written_held}
use Rattle.octets.specs.Octets.{octets}
use Rattle.c_answers.specs.CAnswers.{besides}
use Rattle.nibharrow.specs.Interface.{Outcome, outcome, when_given, refused_by, and_then, writes, address_into}
use Rattle.nibharrow.specs.Buffers.{Careful, Wrote, Answered, Filled}
use Rattle.nibharrow.proofs.RoundTripLaws.{good_writes, number_went_on}

-- ---- demand 1

module _ {A : Type 0} (zeros : A) (count : A → ℕ) (old : List ℕ) where
  -- an answer by a refusal's number, and bytes at the start of the buffer
  pub judged : (n : ℕ) (fields : A) (bytes : List ℕ) → count fields ≡ length bytes
      → Careful zeros count old (outcome (answer zeros n fields) (cond (eqb n 0) (bytes ++ drop (length bytes) old) old))
  judged n fields bytes e = record { refused = λ h. rw (ne_eqb n 0 (omega arith)) (refl, refl); kept = go (eqb n 0) }
    where
      go : (t : Bool) → let f = cond t fields zeros in drop (count f) (cond t (bytes ++ drop (length bytes) old) old) ≡ drop (count f) old
      go true = rw e (drop_at bytes (drop (length bytes) old) (length bytes) refl)
      go false = refl

  -- a call on the value of another
  pub after : {B : Type 0} (x : Answer B) (f : B → Outcome A) → ((b : B) → Careful zeros count old (f b)) → Careful zeros count old (and_then zeros old x f)
  unfolding when_given
  after x f each = go (eqb x.number 0)
    where
      go : (t : Bool) → Careful zeros count old (cond t (f x.fields) (outcome (refused_by zeros x.number) old))
      go true = each x.fields
      go false = record { refused = λ h. (refl, refl); kept = refl }

module _ (old : List ℕ) where
  pub written : (refused : ℕ) (bytes : List ℕ) → Wrote old (writes refused bytes old)
  unfolding write_answer write_leaves
  written refused bytes = judged 0 (λ n. n) old _ (length bytes) bytes refl

  -- a number beside what a writer answers
  pub beside : (n : ℕ) (refused : ℕ) (bytes : List ℕ) → Answered old (outcome (besides n (write_answer refused bytes old)) (write_leaves refused bytes old))
  unfolding write_answer write_leaves
  beside n refused bytes = go (write_refusal refused bytes old)
    where
      go : (m : ℕ) → Answered old (outcome (besides n (answer 0 m (length bytes))) (cond (eqb m 0) (bytes ++ drop (length bytes) old) old))
      go m = record { refused = λ h. rw (ne_eqb m 0 (omega arith)) (refl, refl); kept = pick (eqb m 0) }
        where
          pick : (t : Bool) → let f = cond {A = ℕ × ℕ} t (n, cond t (length bytes) 0) (0, 0) in drop f.1 (cond t (bytes ++ drop (length bytes) old) old) ≡ drop f.1 old
          pick true = drop_at bytes (drop (length bytes) old) (length bytes) refl
          pick false = refl

-- ---- what the caller holds

-- bytes with room for them
module _ (bytes old : List ℕ) (room : length bytes ≤ length old) where
  pub writes_filled : Filled (length bytes) bytes old (writes 0 bytes old)
  unfolding refusal
  writes_filled =
      let good = write_good 0 bytes old refl room in
      let w = written_held 0 bytes old (length bytes) good in
      record { answered = good; held = w.0; kept = w.3 }

  -- with a number beside them
  pub beside_filled : (n : ℕ) → Filled (n, length bytes) bytes old (outcome (besides n (write_answer 0 bytes old)) (write_leaves 0 bytes old))
  beside_filled n = let w = writes_filled in record { answered = ap (besides n) w.answered; held = w.held; kept = w.kept }

  -- and an address that is given
  pub into_filled : (x : Answer Address) (a : Address) → x ≡ gives a → octets a ≡ bytes → Filled (length bytes) bytes old (address_into x old)
  unfolding address_into when_given
  into_filled x a e f = rw (e, f) writes_filled

-- bytes of which a writer refuses nothing
pub good_filled : {A : Type 0} (fields : A) (refused : ℕ) (bytes old : List ℕ) → (write_answer refused bytes old).number ≡ 0 → (x : Answer A) → x ≡ gives fields
    → Filled fields bytes old (outcome x (write_leaves refused bytes old))
good_filled fields refused bytes old good x e =
    let w = written_held refused bytes old (length bytes) (good_writes refused bytes old good) in
    record { answered = e; held = w.0; kept = w.3 }

-- a text that is written of an address
module _ (old : List ℕ) (x : Answer Address) (refused : Address → ℕ) (text : Address → List ℕ) where
  abbrev texts : Outcome ℕ
  texts = and_then 0 old x (λ a. writes (refused a) (text a) old)

  pub text_held : texts.answers.number ≡ 0 → (a : Address) × (x ≡ gives a) × Filled (length (text a)) (text a) old texts
  text_held good =
      let a = x.fields in
      let (is, on, wrote) = number_went_on 0 old x (λ a. writes (refused a) (text a) old) good in
      let filled = good_filled _ (refused a) (text a) old wrote _ (good_writes (refused a) (text a) old wrote) in
      (a, is, subst (Filled _ (text a) old) (sym on) filled)
