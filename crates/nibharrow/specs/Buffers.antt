-- What is asked of a call that is lent a buffer (01, "Why a call says no" and demand 1), and of what its caller then holds. Assumes nothing.
use Rattle.std.specs.Prelude.{◌≡◌, List, ℕ, ◌<◌, length, take, drop}
use Rattle.address.specs.Answers.{gives}
use Rattle.nibharrow.specs.Interface.{Outcome}

-- Demand 1, of an answer whose fields are `zeros` at zero and count the bytes written by `count`.
pub record Careful {A : Type 0} (zeros : A) (count : A → ℕ) (old : List ℕ) (o : Outcome A) : Type 0 where
  -- "A refusal returns its number with every other field zero, and no byte of a lent buffer differs from before."
  pub refused : 0 < o.answers.number → (o.answers.fields ≡ zeros) × (o.leaves ≡ old)
  -- "A good answer changes only the first bytes it counts; later bytes stay."
  pub kept : drop (count o.answers.fields) o.leaves ≡ drop (count o.answers.fields) old

-- of an answer that is that count, and of one that has it behind another field
abbrev pub Wrote : List ℕ → Outcome ℕ → Type 0
Wrote old = Careful 0 (λ n. n) old

abbrev pub Answered : List ℕ → Outcome (ℕ × ℕ) → Type 0
Answered old = Careful (0, 0) (λ r. r.1) old

-- A good call, of what the caller holds: it answers these fields; as many bytes as these, at the start of its buffer, are these; and "later
-- bytes stay".
pub record Filled {A : Type 0} (fields : A) (bytes old : List ℕ) (o : Outcome A) : Type 0 where
  pub answered : o.answers ≡ gives fields
  pub held : take (length bytes) o.leaves ≡ bytes
  pub kept : drop (length bytes) o.leaves ≡ drop (length bytes) old
