-- Strict text: the address that a published text means, and the call that reads it (01, "Strict text" and "Why a call says no").
-- Assumes nothing.
use Rattle.std.specs.Prelude.{List, [], ◌∷◌, ℕ, ◌+◌, ◌*◌, ◌≤◌, ◌<◌, length}
use Rattle.address.specs.declared.Address.{Address}
use Rattle.address.specs.declared.Address.TheVariants.{V4, V6}
use Rattle.address.specs.declared.Refusal.TheVariants.{TextTooLong, Malformed, WrongFamily}
use Rattle.address.specs.Answers.{Answer, gives, refuses, no_address}
use Rattle.grammar.specs.Rfc3986.{IPv4address, IPv6address}

-- ---- the address, "the first byte highest"

-- four octets are a number of 32 bits
pub data IPv4Text : List ℕ → Address → Type 0 where
  of_octets : {t : List ℕ} {w x y z : ℕ} → IPv4address t (w ∷ x ∷ y ∷ z ∷ []) → IPv4Text t (V4 (((w * 256 + x) * 256 + y) * 256 + z))

-- eight groups are two halves of 64 bits
pub data IPv6Text : List ℕ → Address → Type 0 where
  of_groups : {t : List ℕ} {a b c d e f g h : ℕ} → IPv6address t (a ∷ b ∷ c ∷ d ∷ e ∷ f ∷ g ∷ h ∷ [])
      → IPv6Text t (V6 (((a * 65536 + b) * 65536 + c) * 65536 + d) (((e * 65536 + f) * 65536 + g) * 65536 + h))

-- ---- the family asked for

-- the text is of the family asked for and means the address; "Family 0 means either"
pub data StrictForm : ℕ → List ℕ → Address → Type 0 where
  four : {t : List ℕ} {a : Address} → IPv4Text t a → StrictForm 4 t a
  six : {t : List ℕ} {a : Address} → IPv6Text t a → StrictForm 6 t a
  either_4 : {t : List ℕ} {a : Address} → IPv4Text t a → StrictForm 0 t a
  either_6 : {t : List ℕ} {a : Address} → IPv6Text t a → StrictForm 0 t a

-- "4, 6 or 0"
pub data Known : ℕ → Type 0 where
  for_4 : Known 4
  for_6 : Known 6
  for_either : Known 0

-- ---- the call

-- what reading a text answers, by the family asked for: the address, or a refusal with an address field of 0.0.0.0
pub data StrictCall (asked : ℕ) (t : List ℕ) : Answer Address → Type 0 where
  -- 9: "the family number asked for is not 4, 6 or 0"
  unknown : (Known asked → ⊥) → StrictCall asked t (refuses no_address WrongFamily)
  -- 1: "the text is longer than 64 bytes"
  too_long : Known asked → 64 < length t → StrictCall asked t (refuses no_address TextTooLong)
  -- 2: "the text is not of the form asked for, the empty text included"
  not_strict_lem : Known asked → length t ≤ 64 → ((a : Address) → StrictForm asked t a → ⊥) → StrictCall asked t (refuses no_address Malformed)
  read_strict : {a : Address} → StrictForm asked t a → StrictCall asked t (gives a)
