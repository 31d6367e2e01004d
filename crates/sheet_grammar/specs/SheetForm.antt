-- The acidity sheet and the call that respells it, to be held beside 02, Req 09. `rule t v` says that the rule has the text t, and that t means v.
-- A text is the list of its bytes. Nothing is split or searched here. Assumes nothing.
use Rattle.std.specs.Prelude.{◌≡◌, Bool, true, false, List, [], ◌∷◌, ◌++◌, ℕ, suc, ◌≤◌, ◌<◌, length, drop}
use Rattle.address.specs.declared.Address.{Address}
use Rattle.address.specs.declared.Address.TheVariants.{V4, V6}
use Rattle.address.specs.declared.Refusal.TheVariants.{TextTooLong, Malformed, NoRoom, TooMany}
use Rattle.address.specs.Answers.{Answer, gives, refuses}
use Rattle.grammar.specs.Rfc3986.{DIGIT, DigitString}
use Rattle.grammar.specs.StrictForm.{StrictForm}
use Rattle.grammar.specs.NormalForm.{NormalForm}
use Rattle.sheet_lines.specs.declared.Entry.{Entry}

-- "," and the newline
abbrev comma : ℕ
comma = 0x2C

abbrev newline : ℕ
newline = 0x0A

-- ---- a line

-- "the numbers have no leading zero except `0`"
pub data PlainNumber : List ℕ → ℕ → Type 0 where
  no_leading_0 : {c : ℕ} {t : List ℕ} {n : ℕ} → 0x31 ≤ c → DigitString 10 DIGIT (c ∷ t) n → PlainNumber (c ∷ t) n
  only_0 : PlainNumber (0x30 ∷ []) 0

-- "A line is a strict address, a comma, a volume number from 1 to 999,999, a comma, and pH in hundredths from 0 to 1400": without its newline
pub data Line : List ℕ → Entry → Type 0 where
  three_fields : {s t u : List ℕ} {a : Address} {m n : ℕ} → StrictForm 0 s a → PlainNumber t m → 1 ≤ m → m ≤ 999999 → PlainNumber u n → n ≤ 1400
      → Line (s ++ comma ∷ (t ++ comma ∷ u)) (record { address = a; volume = m; ph = n })

-- ---- a sheet

-- lines, each "ended by a newline"; "An empty sheet"
pub data Sheet : List ℕ → List Entry → Type 0 where
  empty : Sheet [] []
  line_ended : {l t : List ℕ} {e : Entry} {es : List Entry} → Line l e → Sheet t es → Sheet (l ++ newline ∷ t) (e ∷ es)

-- no byte is a newline
pub data NoNewline : List ℕ → Type 0 where
  no_byte : NoNewline []
  and_byte : {c : ℕ} {t : List ℕ} → (c ≡ newline → ⊥) → NoNewline t → NoNewline (c ∷ t)

-- how many lines a text has, whatever they hold
pub data Lines : List ℕ → ℕ → Type 0 where
  no_line : Lines [] 0
  one_ended : {l t : List ℕ} {n : ℕ} → NoNewline l → Lines t n → Lines (l ++ newline ∷ t) (suc n)
  -- "A final line without its newline counts as a line"
  unfinished : {c : ℕ} {t : List ℕ} → NoNewline (c ∷ t) → Lines (c ∷ t) 1

-- ---- what is written

-- "It respells each address normally"
pub data WrittenLine : Entry → List ℕ → Type 0 where
  normal_fields : {s t u : List ℕ} {a : Address} {m n : ℕ} → NormalForm s a → PlainNumber t m → PlainNumber u n
      → WrittenLine (record { address = a; volume = m; ph = n }) (s ++ comma ∷ (t ++ comma ∷ u))

pub data WrittenSheet : List Entry → List ℕ → Type 0 where
  no_entry_lem : WrittenSheet [] []
  and_entry : {e : Entry} {es : List Entry} {l t : List ℕ} → WrittenLine e l → WrittenSheet es t → WrittenSheet (e ∷ es) (l ++ newline ∷ t)

-- ---- the order, by rules of its own: nothing is taken from the first definition

-- the first address does not come after the second
pub data NotAfter : Address → Address → Type 0 where
  -- "IPv4 before IPv6"
  ipv4_first : {v hi lo : ℕ} → NotAfter (V4 v) (V6 hi lo)
  -- those of a family "ordered as numbers of 32 or 128 bits, the first byte highest" (01): of 128 bits the upper halves decide, and where they are
  -- equal the lower
  both_ipv4 : {v w : ℕ} → v ≤ w → NotAfter (V4 v) (V4 w)
  upper_below : {hi lo i k : ℕ} → hi < i → NotAfter (V6 hi lo) (V6 i k)
  upper_equal : {hi lo i k : ℕ} → hi ≡ i → lo ≤ k → NotAfter (V6 hi lo) (V6 i k)

-- no entry comes after the next
pub data InAddressOrder : List Entry → Type 0 where
  no_next : InAddressOrder []
  last_one : {e : Entry} → InAddressOrder (e ∷ [])
  then_next : {e f : Entry} {es : List Entry} → NotAfter e.address f.address → InAddressOrder (f ∷ es) → InAddressOrder (e ∷ f ∷ es)

-- no entry has the address
pub data LacksAddress (a : Address) : List Entry → Type 0 where
  none_has : LacksAddress a []
  nor_this : {e : Entry} {es : List Entry} → (e.address ≡ a → ⊥) → LacksAddress a es → LacksAddress a (e ∷ es)

-- "each input line used exactly once", "keeping equal addresses in their old order": each entry written is, of the entries not yet used, the first
-- with its address, and in the end none is left
pub data UsedInTurn : List Entry → List Entry → Type 0 where
  none_left : UsedInTurn [] []
  and_used : {e : Entry} (before after : List Entry) {fs : List Entry} → LacksAddress e.address before → UsedInTurn (before ++ after) fs → UsedInTurn (before ++ e ∷ after) (e ∷ fs)

-- the entries given, and as they are written
pub data Arranged : Bool → List Entry → List Entry → Type 0 where
  -- "Unsorted lines stay in order."
  as_given_lem : {es : List Entry} → Arranged false es es
  -- "on request sorts whole lines by address"
  by_address : {es fs : List Entry} → UsedInTurn es fs → InAddressOrder fs → Arranged true es fs

-- ---- the call

-- what respelling a sheet into the second buffer `old` answers, and that buffer afterwards: the answer is the number of bytes written. "A refusal
-- returns its number with every other field zero [...], and no byte of a lent buffer differs from before. A good answer changes only the first
-- bytes it counts; later bytes stay." (01)
pub data SheetCall (sort : Bool) (t old : List ℕ) : Answer ℕ → List ℕ → Type 0 where
  -- "At most 65,536 bytes in [...]; beyond is refusal 1,
  too_long : 65536 < length t → SheetCall sort t old (refuses 0 TextTooLong) old
  -- [...] and 1,024 lines; beyond is refusal 1, then 10"
  too_many : {k : ℕ} → length t ≤ 65536 → Lines t k → 1024 < k → SheetCall sort t old (refuses 0 TooMany) old
  -- "both before 2": "Any malformed line, an address of more than 64 bytes included, refuses the sheet by 2."
  malformed : {k : ℕ} → length t ≤ 65536 → Lines t k → k ≤ 1024 → ((es : List Entry) → Sheet t es → ⊥) → SheetCall sort t old (refuses 0 Malformed) old
  -- "Output is a second buffer, refusal 3 last."
  no_room : {k : ℕ} {es fs : List Entry} {u : List ℕ} → length t ≤ 65536 → Lines t k → k ≤ 1024 → Sheet t es → Arranged sort es fs → WrittenSheet fs u
      → length old < length u → SheetCall sort t old (refuses 0 NoRoom) old
  sheet_written : {k : ℕ} {es fs : List Entry} {u : List ℕ} → length t ≤ 65536 → Lines t k → k ≤ 1024 → Sheet t es → Arranged sort es fs → WrittenSheet fs u
      → length u ≤ length old → SheetCall sort t old (gives (length u)) (u ++ drop (length u) old)
