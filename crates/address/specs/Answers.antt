-- Answers and refusals (01, "Why a call says no"). Assumes nothing.
use Rattle.std.specs.Prelude.{◌≡◌, ◌≤◌, Bool, true, false, cond, ◌||◌, List, [], ◌∷◌, ◌++◌, ℕ, eqb, ltb, length, drop, Option, Some, None, unwrap_or, Ok, Err, Result, ⊤}
use Rattle.address.specs.declared.Address.{Address}
use Rattle.address.specs.declared.Address.TheVariants.{V4}
use Rattle.address.specs.declared.Block.{Block}
use Rattle.address.specs.declared.Refusal.{Refusal}
use Rattle.address.specs.declared.Refusal.TheVariants.{TextTooLong, Malformed, NoRoom, LengthTooLarge, BitsBeyondLength, NoClass, HostTooLarge, FirstAboveLast, WrongFamily, TooMany}

-- the table's numbers, and 02's: Req 01 has 10, more entries than a call takes
abbrev pub refusal_number : Refusal → ℕ
refusal_number TextTooLong = 1
refusal_number Malformed = 2
refusal_number NoRoom = 3
refusal_number LengthTooLarge = 4
refusal_number BitsBeyondLength = 5
refusal_number NoClass = 6
refusal_number HostTooLarge = 7
refusal_number FirstAboveLast = 8
refusal_number WrongFamily = 9
refusal_number TooMany = 10

-- what a number is taken for: the refusal that has it, for each of 1 to 10 and no other
abbrev pub RefusalOf : ℕ → Result Refusal Refusal → Type 0
RefusalOf n (Ok e) = (1 ≤ n) × (n ≤ 10) × (refusal_number e ≡ n)
RefusalOf n (Err e) = ¬ ((1 ≤ n) × (n ≤ 10)) × (e ≡ Malformed)

-- ---- the order of refusals

-- The number of the first condition that holds, or 0 where none does: a call's conditions, each with its number, in the call's own order.
unfoldable pub first_of : List (ℕ × Bool) → ℕ
first_of [] = 0
first_of (c ∷ cs) = cond c.1 c.0 (first_of cs)

-- whether a condition of that number is listed as holding
unfoldable pub holds : ℕ → List (ℕ × Bool) → Bool
holds n [] = false
holds n (c ∷ cs) = elim (eqb n c.0) [ true ↦ holds n cs || c.1 | false ↦ holds n cs ]

-- the numbers in an order, each with whether a condition of it holds
unfoldable pub in_order : List ℕ → List (ℕ × Bool) → List (ℕ × Bool)
unfolding holds
in_order [] reasons = []
in_order (n ∷ ns) reasons = (n, holds n reasons) ∷ in_order ns reasons

-- A call's refusal where its order is one of numbers: from its conditions, each with its number.
unfoldable pub refusal : List ℕ → List (ℕ × Bool) → ℕ
unfolding first_of in_order
refusal order reasons = first_of (in_order order reasons)

-- "Where several hold, the order is 9, 1, 2, 4, 5, 6, 7, 8, 3."
abbrev pub precedence : List ℕ
precedence = 9 ∷ 1 ∷ 2 ∷ 4 ∷ 5 ∷ 6 ∷ 7 ∷ 8 ∷ 3 ∷ []

-- What a call answers in the paper's terms: the refusal's number, 0 for none, and the other fields.
pub record Answer (A : Type 0) : Type 0 where
  pub number : ℕ
  pub fields : A

-- What the rules answer: "A refusal returns its number with every other field zero." `zeros` are the fields at zero.
abbrev pub answer : {A : Type 0} → A → ℕ → A → Answer A
answer zeros n fields = record { number = n; fields = cond (eqb n 0) fields zeros }

-- what the code answers: the fields, or a refusal
abbrev pub gives : {A : Type 0} → A → Answer A
gives fields = record { number = 0; fields = fields }

abbrev pub refuses : {A : Type 0} → A → Refusal → Answer A
refuses zeros e = record { number = refusal_number e; fields = zeros }

-- "an address field is 0.0.0.0"
abbrev pub no_address : Address
no_address = V4 0

abbrev pub no_block : Block
no_block = record { address = no_address; length = 0 }

-- ---- each answer of the code in the paper's terms

-- the two cases of a type that has a value or a refusal
pub data Cases {A R : Type 0} (value : A → R) (refused : Refusal → R) : R → Type 0 where
  given : (a : A) → Cases value refused (value a)
  not_given : (e : Refusal) → Cases value refused (refused e)

-- a value, or a refusal with these fields
abbrev pub result_answer : {A : Type 0} → A → Result A Refusal → Answer A
result_answer zeros (Ok a) = gives a
result_answer zeros (Err e) = refuses zeros e

abbrev pub reading_answer : Result Address Refusal → Answer Address
reading_answer r = result_answer no_address r

-- the field is the number of bytes written
abbrev pub writing_answer : Result ℕ Refusal → Answer ℕ
writing_answer r = result_answer 0 r

abbrev pub block_answer : Result Block Refusal → Answer Block
block_answer r = result_answer no_block r

-- a check has no field beside the number
abbrev pub check_number : Result ⊤ Refusal → ℕ
check_number (Ok u) = 0
check_number (Err e) = refusal_number e

-- ---- texts

abbrev pub missing : {A : Type 0} → Option A → Bool
missing None = true
missing (Some a) = false

-- What a reader of text answers, from what the text means: 2 where it has no meaning of the form asked for, or another reason.
unfoldable pub read_answer : {A : Type 0} → List ℕ → A → List (ℕ × Bool) → Option A → Answer A
unfolding refusal
read_answer order zeros reasons meaning = answer zeros (refusal order ((2, missing meaning) ∷ reasons)) (unwrap_or meaning zeros)

-- ---- lent buffers

-- The refusal of a call that writes these bytes to the start of a buffer, where its other conditions give the number n: that, or 3 where
-- the buffer is shorter, which is last in every call's order.
abbrev pub write_refusal : ℕ → List ℕ → List ℕ → ℕ
write_refusal n bytes old = cond (eqb n 0) (cond (ltb (length old) (length bytes)) 3 0) n

-- what such a call answers: the number of bytes written
unfoldable pub write_answer : ℕ → List ℕ → List ℕ → Answer ℕ
write_answer n bytes old = answer 0 (write_refusal n bytes old) (length bytes)

-- and what it leaves in the buffer: the bytes and, behind them, what stood there; a refusal alters nothing
unfoldable pub write_leaves : ℕ → List ℕ → List ℕ → List ℕ
write_leaves n bytes old = cond (eqb (write_refusal n bytes old) 0) (bytes ++ drop (length bytes) old) old
