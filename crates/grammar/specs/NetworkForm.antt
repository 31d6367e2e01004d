-- The network form, the call that reads it and the one that writes it, to be held beside 01, "Network form", and document 000 (`inet_net_pton`).
-- `rule t v` says that the rule has the text t, and that t means v. A text is the list of its bytes. Nothing is split or searched here.
-- Assumes nothing.
use Rattle.std.specs.Prelude.{◌≡◌, List, [], ◌∷◌, ◌++◌, ℕ, ◌+◌, ◌-◌, ◌*◌, ◌/◌, ◌%◌, ◌^◌, ◌≤◌, ◌<◌, length, take, drop, replicate}
use Rattle.address.specs.declared.Address.{Address}
use Rattle.address.specs.declared.Address.TheVariants.{V4}
use Rattle.address.specs.declared.Refusal.TheVariants.{TextTooLong, Malformed, LengthTooLarge, NoRoom, WrongFamily}
use Rattle.address.specs.Addresses.{family, number}
use Rattle.address.specs.Answers.{Answer, gives, refuses}
use Rattle.octets.specs.Octets.{octets}
use Rattle.grammar.specs.Rfc3986.{dot, DIGIT, HEXDIG, DigitString, dec-octet}

-- "/"
abbrev pub slash : ℕ
slash = 0x2F

-- ---- the bytes given

-- "Hex digits fill half bytes from the left. An odd last digit fills the upper half of its byte, the lower half is zero, and that byte counts
-- as given (our rule)."
pub data HalfBytes : List ℕ → List ℕ → Type 0 where
  no_digits : HalfBytes [] []
  odd_digit : {c x : ℕ} → HEXDIG c x → HalfBytes (c ∷ []) ((x * 16) ∷ [])
  two_digits : {c e x y : ℕ} {t bs : List ℕ} → HEXDIG c x → HEXDIG e y → HalfBytes t bs → HalfBytes (c ∷ e ∷ t) ((x * 16 + y) ∷ bs)

-- "one to four strict decimal parts": document 000's a.b.c.d, a.b.c, a.b and a
pub data DecimalParts : List ℕ → List ℕ → Type 0 where
  a·b·c·d : {s t u v : List ℕ} {a b c d : ℕ} → dec-octet s a → dec-octet t b → dec-octet u c → dec-octet v d
      → DecimalParts (s ++ dot ∷ (t ++ dot ∷ (u ++ dot ∷ v))) (a ∷ b ∷ c ∷ d ∷ [])
  a·b·c : {s t u : List ℕ} {a b c : ℕ} → dec-octet s a → dec-octet t b → dec-octet u c → DecimalParts (s ++ dot ∷ (t ++ dot ∷ u)) (a ∷ b ∷ c ∷ [])
  a·b : {s t : List ℕ} {a b : ℕ} → dec-octet s a → dec-octet t b → DecimalParts (s ++ dot ∷ t) (a ∷ b ∷ [])
  only_a : {s : List ℕ} {a : ℕ} → dec-octet s a → DecimalParts s (a ∷ [])

-- "Either
pub data BytesGiven : List ℕ → List ℕ → Type 0 where
  -- `0x`/
  after_lower_0x : {t bs : List ℕ} → 1 ≤ length t → length t ≤ 8 → HalfBytes t bs → BytesGiven (0x30 ∷ 0x78 ∷ t) bs
  -- `0X` and one to eight hex digits,
  after_upper_0x : {t bs : List ℕ} → 1 ≤ length t → length t ≤ 8 → HalfBytes t bs → BytesGiven (0x30 ∷ 0x58 ∷ t) bs
  -- or one to four strict decimal parts"
  or_decimal : {t bs : List ℕ} → DecimalParts t bs → BytesGiven t bs

-- ---- the size

-- "The text after the slash is read as a part of its own: one to three digits, no leading zero except `0`."
pub data SizePart : List ℕ → ℕ → Type 0 where
  one_to_three : {c : ℕ} {t : List ℕ} {n : ℕ} → 0x31 ≤ c → DigitString 10 DIGIT (c ∷ t) n → length (c ∷ t) ≤ 3 → SizePart (c ∷ t) n
  only_0 : SizePart (0x30 ∷ []) 0

-- "Otherwise it comes from the first byte: 240 and up 32; 224 and up 4; 192 and up 24; 128 and up 16; else 8."
pub data FromFirstByte : ℕ → ℕ → Type 0 where
  240-up : {b : ℕ} → 240 ≤ b → FromFirstByte b 32
  224-up : {b : ℕ} → 224 ≤ b → b < 240 → FromFirstByte b 4
  192-up : {b : ℕ} → 192 ≤ b → b < 224 → FromFirstByte b 24
  128-up : {b : ℕ} → 128 ≤ b → b < 192 → FromFirstByte b 16
  else_8 : {b : ℕ} → b < 128 → FromFirstByte b 8

-- "If that inferred size is 8 or more and less than 8 times the bytes given, it becomes 8 times the bytes given."
pub data InferredSize : List ℕ → ℕ → Type 0 where
  becomes : {b size : ℕ} {bs : List ℕ} → FromFirstByte b size → 8 ≤ size → size < 8 * length (b ∷ bs)
      → InferredSize (b ∷ bs) (8 * length (b ∷ bs))
  -- not 8 or more: "the inferred size 4 is never widened"
  below_8 : {b size : ℕ} {bs : List ℕ} → FromFirstByte b size → size < 8 → InferredSize (b ∷ bs) size
  -- not less
  no_less : {b size : ℕ} {bs : List ℕ} → FromFirstByte b size → 8 * length (b ∷ bs) ≤ size → InferredSize (b ∷ bs) size

-- ---- the bytes written

-- "the size divided by eight, rounded up"
pub data RoundedUp : ℕ → ℕ → Type 0 where
  eighths : {size n : ℕ} → size ≤ 8 * n → 8 * n < size + 8 → RoundedUp size n

-- "The bytes written are the larger of the bytes given and the size divided by eight, rounded up. Missing ones are zero."
pub data BytesWritten : ℕ → List ℕ → List ℕ → Type 0 where
  as_given_lem : {size n : ℕ} {bs : List ℕ} → RoundedUp size n → n ≤ length bs → BytesWritten size bs bs
  zeros_added : {size n : ℕ} {bs : List ℕ} → RoundedUp size n → length bs < n → BytesWritten size bs (bs ++ replicate (n - length bs) 0)

-- ---- the form

-- a text means a size and the bytes written
pub data NetworkForm : List ℕ → ℕ → List ℕ → Type 0 where
  -- "then, if wished, a slash and a size": "The size is the one written."
  with_size : {t u bs ws : List ℕ} {size : ℕ} → BytesGiven t bs → SizePart u size → BytesWritten size bs ws
      → NetworkForm (t ++ slash ∷ u) size ws
  -- "Otherwise"
  without : {t bs ws : List ℕ} {size : ℕ} → BytesGiven t bs → InferredSize bs size → BytesWritten size bs ws → NetworkForm t size ws

-- ---- the call

-- what reading such a text into the lent buffer `old` answers, and the buffer afterwards: "The answer is the size and the number of bytes
-- written." "A refusal returns its number with every other field zero [...], and no byte of a lent buffer differs from before. A good answer
-- changes only the first bytes it counts; later bytes stay."
pub data NetworkCall (t old : List ℕ) : Answer (ℕ × ℕ) → List ℕ → Type 0 where
  -- 1: "the text is longer than 64 bytes"
  too_long : 64 < length t → NetworkCall t old (refuses (0, 0) TextTooLong) old
  -- 2: "the text is not of the form asked for, the empty text included"
  no_network_lem : length t ≤ 64 → ((size : ℕ) (ws : List ℕ) → NetworkForm t size ws → ⊥) → NetworkCall t old (refuses (0, 0) Malformed) old
  -- 4: "Above 32 is refusal 4."
  too_large : {size : ℕ} {ws : List ℕ} → NetworkForm t size ws → 32 < size → NetworkCall t old (refuses (0, 0) LengthTooLarge) old
  -- 3: "the lent buffer is shorter than the bytes the answer needs"
  no_room : {size : ℕ} {ws : List ℕ} → NetworkForm t size ws → size ≤ 32 → length old < length ws → NetworkCall t old (refuses (0, 0) NoRoom) old
  read_network : {size : ℕ} {ws : List ℕ} → NetworkForm t size ws → size ≤ 32 → length ws ≤ length old
      → NetworkCall t old (gives (size, length ws)) (ws ++ drop (length ws) old)

-- ---- writing

-- "bits beyond the size cleared": the first (size) bits of 32 are those of v, and no other bit is one
pub data BitsCleared : ℕ → ℕ → ℕ → Type 0 where
  clears : {size v c : ℕ} → c / 2 ^ (32 - size) ≡ v / 2 ^ (32 - size) → c % 2 ^ (32 - size) ≡ 0 → BitsCleared size v c

-- the text that is written of an address of 32 bits and a size
pub data WrittenNetwork : ℕ → ℕ → List ℕ → Type 0 where
  -- "the first (size/8, rounded up) bytes in decimal with dots, bits beyond the size cleared, a slash and the size"
  first_bytes : {v c size n : ℕ} {t u : List ℕ} → BitsCleared size v c → RoundedUp size n → DecimalParts t (take n (octets (V4 c))) → SizePart u size
      → WrittenNetwork v size (t ++ slash ∷ u)
  -- "Size 0 writes `0/0`."
  size_0 : {v : ℕ} → WrittenNetwork v 0 (0x30 ∷ slash ∷ 0x30 ∷ [])

-- what writing an address and a size into the lent buffer `old` answers, and the buffer afterwards
pub data NetworkWriting (a : Address) (size : ℕ) (old : List ℕ) : Answer ℕ → List ℕ → Type 0 where
  -- 9: "an IPv6 address is handed to [...] the network writer"
  wrong_family : family a ≡ 6 → NetworkWriting a size old (refuses 0 WrongFamily) old
  -- 4: "a length or bit count is above 32"
  size_above : family a ≡ 4 → 32 < size → NetworkWriting a size old (refuses 0 LengthTooLarge) old
  -- 3
  text_above : {t : List ℕ} → family a ≡ 4 → size ≤ 32 → WrittenNetwork (number a) size t → length old < length t
      → NetworkWriting a size old (refuses 0 NoRoom) old
  written_network : {t : List ℕ} → family a ≡ 4 → size ≤ 32 → WrittenNetwork (number a) size t → length t ≤ length old
      → NetworkWriting a size old (gives (length t)) (t ++ drop (length t) old)
