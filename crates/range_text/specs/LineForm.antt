-- The answer to one line of the range program, sentence by sentence (01, "Blocks and ranges"), to be held beside the paper. A line is the list of
-- its bytes before the newline. Nothing is split, searched or walked here. Assumes nothing.
use Rattle.std.specs.Prelude.{◌≡◌, cond, List, [], ◌∷◌, ◌++◌, map, ℕ, ◌+◌, ◌/◌, ◌%◌, ◌≤◌, ◌<◌, ltb, length}
use Rattle.notation.specs.Ascii.{ascii}
use Rattle.cover.specs.Blocks.{Fewest, Range}
use Rattle.address.specs.declared.Address.{Address}
use Rattle.address.specs.declared.Block.{Block}
use Rattle.address.specs.declared.Refusal.{Refusal}
use Rattle.address.specs.declared.Refusal.TheVariants.{TextTooLong, Malformed, FirstAboveLast, WrongFamily}
use Rattle.address.specs.Addresses.{family, width, number, IsAddress}
use Rattle.address.specs.Answers.{refusal_number, gives, refuses, no_address}
use Rattle.address.specs.Blocks.{numbered}
use Rattle.text.specs.Strict.{strict_answer}
use Rattle.blocks.specs.BlockText.{block_text, block_text_answer}

abbrev pub space : ℕ
space = 32

abbrev pub newline : ℕ
newline = 10

-- no byte of the text is b
pub data Free (b : ℕ) : List ℕ → Type 0 where
  no_byte : Free b []
  another : {x : ℕ} {t : List ℕ} → ¬ (x ≡ b) → Free b t → Free b (x ∷ t)

-- no line holds a b
abbrev pub AllFree : ℕ → List (List ℕ) → Type 0
AllFree b [] = Unit {0}
AllFree b (t ∷ ts) = Free b t × AllFree b ts

-- lines, each with its newline behind it
abbrev pub ended : List (List ℕ) → List ℕ
ended [] = []
ended (t ∷ ts) = t ++ newline ∷ ended ts

-- the digits of a number below 100
abbrev pub spelt : ℕ → List ℕ
spelt n = cond (ltb n 10) ((48 + n) ∷ []) ((48 + n / 10) ∷ (48 + n % 10) ∷ [])

-- "`refused N`"
abbrev pub refused_text : Refusal → List ℕ
refused_text e = ascii "refused " ++ spelt (refusal_number e)

-- block values with addresses of that family
abbrev pub OfFamily : ℕ → List Block → Type 0
OfFamily f [] = Unit {0}
OfFamily f (b ∷ bs) = (family b.address ≡ f) × IsAddress b.address × OfFamily f bs

-- "The program takes lines of two strict addresses with one space": s, a space and t
pub record TwoTexts (line s t : List ℕ) : Type 0 where
  pub is : line ≡ s ++ space ∷ t
  pub short : length line ≤ 129
  pub before : Free space s
  pub behind : Free space t

-- what is written for a line
pub data Line : List ℕ → List ℕ → Type 0 where
  -- "A line of more than 129 bytes before its newline is refusal 1."
  too_long : {line : List ℕ} → 129 < length line → Line line (ended (refused_text TextTooLong ∷ []))
  -- "Otherwise a line without exactly one space, the empty line included, is refusal 2": without any,
  no_space : {line : List ℕ} → length line ≤ 129 → Free space line → Line line (ended (refused_text Malformed ∷ []))
  -- or with two or more
  more_spaces : (s t u : List ℕ) → length (s ++ space ∷ (t ++ space ∷ u)) ≤ 129 → Line (s ++ space ∷ (t ++ space ∷ u)) (ended (refused_text Malformed ∷ []))
  -- "Then the first address is read,
  first_refused : {line s t : List ℕ} (e : Refusal) → TwoTexts line s t → strict_answer 0 s ≡ refuses no_address e → Line line (ended (refused_text e ∷ []))
  -- then the second, each of either family, and the first refusal stands;
  second_refused : {line s t : List ℕ} {a : Address} (e : Refusal) → TwoTexts line s t → strict_answer 0 s ≡ gives a → strict_answer 0 t ≡ refuses no_address e
      → Line line (ended (refused_text e ∷ []))
  -- then 9,
  two_families : {line s t : List ℕ} {a b : Address} → TwoTexts line s t → strict_answer 0 s ≡ gives a → strict_answer 0 t ≡ gives b
      → ¬ (family a ≡ family b) → Line line (ended (refused_text WrongFamily ∷ []))
  -- then 8."
  first_above_last : {line s t : List ℕ} {a b : Address} → TwoTexts line s t → strict_answer 0 s ≡ gives a → strict_answer 0 t ≡ gives b
      → family a ≡ family b → number b < number a → Line line (ended (refused_text FirstAboveLast ∷ []))
  -- Else it "writes one block text per line": the blocks of the range, which are the fewest.
  range : {line s t : List ℕ} {a b : Address} (bs : List Block) → TwoTexts line s t → strict_answer 0 s ≡ gives a → strict_answer 0 t ≡ gives b
      → family a ≡ family b → number a ≤ number b → OfFamily (family a) bs → Fewest (width a) (Range (number a) (number b)) (map numbered bs)
      → Line line (ended (map block_text bs))

-- ---- demand 3, of a text

-- a line that asks for a range: two strict addresses of one family with one space, the first not above the last
pub record RangeLine (line : List ℕ) : Type 0 where
  pub before : List ℕ
  pub behind : List ℕ
  pub is : line ≡ before ++ space ∷ behind
  pub first : Address
  pub last : Address
  pub first_read : strict_answer 0 before ≡ gives first
  pub last_read : strict_answer 0 behind ≡ gives last
  pub one_family : family first ≡ family last
  pub rises : number first ≤ number last

-- The text is lines, as many as blocks; each is read as its block, of the range's family; and the blocks are the fewest of the range.
pub record FewestLines (first last : Address) (text : List ℕ) : Type 0 where
  pub lines : List (List ℕ)
  pub blocks : List Block
  pub text_is : text ≡ ended lines
  pub one_line_each : AllFree newline lines
  pub count : length lines ≡ length blocks
  pub read : map block_text_answer lines ≡ map gives blocks
  pub one_family : OfFamily (family first) blocks
  pub fewest : Fewest (width first) (Range (number first) (number last)) (map numbered blocks)
