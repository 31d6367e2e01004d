-- The loose IPv4 form and the call that reads it, to be held beside 01, "Loose IPv4 form", and documents 001 and 003 (`inet_aton`).
-- `rule t v` says that the rule has the text t, and that t means v. A text is the list of its bytes. Nothing is split or searched here.
-- Assumes nothing.
use Rattle.std.specs.Prelude.{List, [], ◌∷◌, ◌++◌, ℕ, ◌+◌, ◌-◌, ◌*◌, ◌≤◌, ◌<◌, length}
use Rattle.address.specs.declared.Address.{Address}
use Rattle.address.specs.declared.Address.TheVariants.{V4}
use Rattle.address.specs.declared.Refusal.TheVariants.{TextTooLong, Malformed}
use Rattle.address.specs.Answers.{Answer, gives, refuses, no_address}
use Rattle.grammar.specs.Rfc3986.{dot, DIGIT, HEXDIG, DigitString}

-- ---- a part

-- an octal digit, %x30-37
pub data OCTDIG : ℕ → ℕ → Type 0 where
  x30-37 : {c : ℕ} → 0x30 ≤ c → c ≤ 0x37 → OCTDIG c (c - 0x30)

-- "A part is
pub data LoosePart : List ℕ → ℕ → Type 0 where
  -- hexadecimal after `0x`
  after_lower_0x : {t : List ℕ} {n : ℕ} → DigitString 16 HEXDIG t n → LoosePart (0x30 ∷ 0x78 ∷ t) n
  -- or `0X` (at least one digit),
  after_upper_0x : {t : List ℕ} {n : ℕ} → DigitString 16 HEXDIG t n → LoosePart (0x30 ∷ 0x58 ∷ t) n
  -- else octal after a leading `0`,
  after_0 : {t : List ℕ} {n : ℕ} → DigitString 8 OCTDIG t n → LoosePart (0x30 ∷ t) n
  -- else decimal.
  else_decimal : {c : ℕ} {t : List ℕ} {n : ℕ} → 0x31 ≤ c → DigitString 10 DIGIT (c ∷ t) n → LoosePart (c ∷ t) n
  -- `0` is zero."
  only_0 : LoosePart (0x30 ∷ []) 0

-- ---- the forms of document 003

-- "One to four parts. [...] Every part but the last is at most 255. The last is at most 255, 65,535, 16,777,215 or 4,294,967,295 where there
-- are four, three, two or one parts, and fills the remaining bytes."
pub data LooseForm : List ℕ → Address → Type 0 where
  -- "a.b.c.d": "Each of the four numeric parts specifies a byte of the address; the bytes are assigned in left-to-right order"
  a·b·c·d : {s t u v : List ℕ} {a b c d : ℕ} → LoosePart s a → a ≤ 255 → LoosePart t b → b ≤ 255 → LoosePart u c → c ≤ 255 → LoosePart v d → d ≤ 255
      → LooseForm (s ++ dot ∷ (t ++ dot ∷ (u ++ dot ∷ v))) (V4 (((a * 256 + b) * 256 + c) * 256 + d))
  -- "a.b.c": "Parts a and b specify the first two bytes [...]. Part c is interpreted as a 16-bit value that defines the rightmost two bytes"
  a·b·c : {s t u : List ℕ} {a b c : ℕ} → LoosePart s a → a ≤ 255 → LoosePart t b → b ≤ 255 → LoosePart u c → c ≤ 65535
      → LooseForm (s ++ dot ∷ (t ++ dot ∷ u)) (V4 ((a * 256 + b) * 65536 + c))
  -- "a.b": "Part a specifies the first byte [...]. Part b is interpreted as a 24-bit value that defines the rightmost three bytes"
  a·b : {s t : List ℕ} {a b : ℕ} → LoosePart s a → a ≤ 255 → LoosePart t b → b ≤ 16777215 → LooseForm (s ++ dot ∷ t) (V4 (a * 16777216 + b))
  -- "a": "The value a is interpreted as a 32-bit value that is stored directly into the binary address"
  only_a : {s : List ℕ} {a : ℕ} → LoosePart s a → a ≤ 4294967295 → LooseForm s (V4 a)

-- ---- the call

-- what reading such a text answers: the address, or a refusal with an address field of 0.0.0.0
pub data LooseCall (t : List ℕ) : Answer Address → Type 0 where
  -- 1: "the text is longer than 64 bytes"
  too_long : 64 < length t → LooseCall t (refuses no_address TextTooLong)
  -- 2: "the text is not of the form asked for"; "Too large is refusal 2."
  not_loose_lem : length t ≤ 64 → ((a : Address) → LooseForm t a → ⊥) → LooseCall t (refuses no_address Malformed)
  -- "Any number of leading zeros is allowed within 64 bytes."
  read_loose : {a : Address} → length t ≤ 64 → LooseForm t a → LooseCall t (gives a)
