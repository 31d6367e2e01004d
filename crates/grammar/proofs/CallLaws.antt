-- A call whose answers are those of a family, and no others: what follows for any answer, and for a refusal. Assumes nothing.
use mathlib.Core.Path.{◌≡◌, sym, ap, subst}
use mathlib.Core.Logic.{◌↔◌}
use Prim.Native.Nat.{ℕ}
use Rattle.address.specs.declared.Refusal.{Refusal}
use Rattle.address.specs.Answers.{Answer, answer, refuses, refusal_number}
use Rattle.address.proofs.AnswerLaws.{answer_refuses}

module _ {A : Type 0} (Call : Answer A → Type 0) (zeros : A) (n : ℕ) (fields : A)
    (is : Call (answer zeros n fields)) (only : (r : Answer A) → Call r → answer zeros n fields ≡ r) where
  pub answers_exactly : (r : Answer A) → (answer zeros n fields ≡ r) ↔ Call r
  answers_exactly r = (λ e. subst Call e is, only r)

  pub refuses_exactly : (e : Refusal) → (n ≡ refusal_number e) ↔ Call (refuses zeros e)
  refuses_exactly e = (λ h. subst Call (sym (answer_refuses zeros fields n e (sym h))) is, λ c. ap (λ (r : Answer A). r.number) (only (refuses zeros e) c))
