-- Where a strict text goes wrong, over the published grammar, and the call that tells it (02, Req 02). Assumes nothing.
use Rattle.std.specs.Prelude.{◌≡◌, List, ◌++◌, ℕ, ◌≤◌, ◌<◌, length}
use Rattle.address.specs.declared.Address.{Address}
use Rattle.address.specs.declared.Refusal.TheVariants.{TextTooLong, Malformed, WrongFamily}
use Rattle.address.specs.Answers.{Answer, gives, refuses, no_address}
use Rattle.grammar.specs.StrictForm.{StrictForm, Known}

-- "the beginning of some accepted text of the family asked for"
pub record Begins (asked : ℕ) (b : List ℕ) : Type 0 where
  pub ending : List ℕ
  pub address : Address
  pub form : StrictForm asked (b ++ ending) address

-- "the length of the longest beginning of the text that is also" one: the text is cut behind it, and no cut farther behind leaves one
pub record GoesWrong (asked : ℕ) (t : List ℕ) (place : ℕ) : Type 0 where
  pub beginning : List ℕ
  pub rest : List ℕ
  pub is : t ≡ beginning ++ rest
  pub begins : Begins asked beginning
  pub longest : (b r : List ℕ) → t ≡ b ++ r → Begins asked b → length b ≤ length beginning
  pub place_is : length beginning ≡ place

-- what the strict reader answers: the address, or a refusal with an address field of 0.0.0.0 and a place
pub data PlacedCall (asked : ℕ) (t : List ℕ) : Answer (Address × ℕ) → Type 0 where
  -- "Other refusals carry place zero": 9
  unknown : (Known asked → ⊥) → PlacedCall asked t (refuses (no_address, 0) WrongFamily)
  -- and 1
  too_long : Known asked → 64 < length t → PlacedCall asked t (refuses (no_address, 0) TextTooLong)
  -- "refusal 2 shall carry a place"
  not_strict_lem : {place : ℕ} → Known asked → length t ≤ 64 → ((a : Address) → StrictForm asked t a → ⊥) → GoesWrong asked t place → PlacedCall asked t (refuses (no_address, place) Malformed)
  read_strict : {a : Address} → StrictForm asked t a → PlacedCall asked t (gives (a, 0))
