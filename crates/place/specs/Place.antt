-- Where a strict text goes wrong (02, Req 02). A text is the list of its bytes. Assumes nothing.
use Rattle.std.specs.Prelude.{◌≡◌, Bool, true, false, cond, List, [], ◌∷◌, ◌++◌, ℕ, zero, suc, ◌+◌, ◌≤◌, min, max, eqb, length, take, drop, Option, Some, None}
use Rattle.address.specs.declared.Address.{Address}
use Rattle.address.specs.Answers.{Answer, gives}
use Rattle.digits.specs.Numerals.{part_of, digit_count}
use Rattle.text.specs.Strict.{strict_answer}

-- ---- the place, as the paper says it

-- an accepted text of the family asked for
abbrev pub Accepted : ℕ → List ℕ → Type 0
Accepted family t = (a : Address) × (strict_answer family t ≡ gives a)

-- the first q bytes of the text are "the beginning of some accepted text": some ending makes them one
pub record Beginning (family : ℕ) (t : List ℕ) (q : ℕ) : Type 0 where
  pub within : q ≤ length t
  pub ending : List ℕ
  pub accepted : Accepted family (take q t ++ ending)

-- "the length of the longest beginning of the text that is also the beginning of some accepted text of the family asked for"
pub record LongestBeginning (family : ℕ) (t : List ℕ) (p : ℕ) : Type 0 where
  pub beginning : Beginning family t p
  pub longest : (q : ℕ) → Beginning family t q → q ≤ p

-- ---- the place, computed: how far a text goes on as a rule of strict text has it

-- a piece, of which `front` tells how many bytes are there, and behind it what `rest` tells of; 0 where there is no piece
unfoldable pub piece_then : (List ℕ → ℕ) → (List ℕ → ℕ) → List ℕ → ℕ
piece_then front rest t = cond (eqb (front t) 0) 0 (front t + rest (drop (front t) t))

-- whether a text begins with the byte b
abbrev pub begins : ℕ → List ℕ → Bool
begins b [] = false
begins b (x ∷ t) = eqb x b

-- the byte b, and behind it what `rest` tells of
unfoldable pub byte_then : ℕ → (List ℕ → ℕ) → List ℕ → ℕ
byte_then b rest t = cond (begins b t) (suc (rest (drop 1 t))) 0

-- the end of the text
abbrev pub ends : List ℕ → ℕ
ends t = 0

-- ---- IPv4

abbrev pub present : Option ℕ → Bool
present None = false
present (Some x) = true

-- the length of the longest part that a text begins with, up to n bytes; 0 where there is none
unfoldable pub part_up_to : ℕ → List ℕ → ℕ
part_up_to zero t = 0
part_up_to (suc n) t = cond (present (part_of 255 (take (suc n) t))) (suc n) (part_up_to n t)

abbrev pub part_front : List ℕ → ℕ
part_front t = part_up_to (min 3 (length t)) t

-- a part, and n more parts with single dots
unfoldable pub parts_place : ℕ → List ℕ → ℕ
unfolding piece_then byte_then part_up_to
parts_place zero t = piece_then part_front ends t
parts_place (suc n) t = piece_then part_front (byte_then 46 (parts_place n)) t

-- "exactly four parts with single dots"
abbrev pub dotted_place : List ℕ → ℕ
dotted_place t = parts_place 3 t

-- ---- IPv6

-- "one to four hex digits": how many of them a text begins with
unfoldable pub group_front : List ℕ → ℕ
group_front t = digit_count 16 (take 4 t)

-- behind `::`, where up to n groups have room: none, or some with single colons; "the last two groups may be one strict IPv4 text"
unfoldable pub behind_place : ℕ → List ℕ → ℕ
unfolding piece_then byte_then group_front parts_place
behind_place zero t = 0
behind_place (suc zero) t = piece_then group_front ends t
behind_place (suc (suc n)) t = max (dotted_place t) (piece_then group_front (byte_then 58 (behind_place (suc n))) t)

-- a group, and n more groups with single colons, the last two of which may be one IPv4 text, or with `::` for one or more of them
unfoldable pub groups_place : ℕ → List ℕ → ℕ
unfolding behind_place
groups_place zero t = piece_then group_front ends t
groups_place (suc n) t =
    max (cond (eqb n 0) (dotted_place t) 0)
    (piece_then group_front (byte_then 58 (λ u. max (byte_then 58 (behind_place n) u) (groups_place n u))) t)

-- "eight groups", and `::` may stand first
unfoldable pub eight_place : List ℕ → ℕ
unfolding groups_place
eight_place t = max (byte_then 58 (byte_then 58 (behind_place 7)) t) (groups_place 7 t)

-- ---- both

-- the place in a text of family 4, of family 6, or else of either: the farther of the two
unfoldable pub fault_place : ℕ → List ℕ → ℕ
unfolding eight_place
fault_place family t = max (cond (eqb family 6) 0 (dotted_place t)) (cond (eqb family 4) 0 (eight_place t))

-- ---- what the strict reader answers

-- The address and the place: "refusal 2 shall carry a place", "Other refusals carry place zero", and a good answer has none. Number and
-- address are those of 01.
unfoldable pub placed_answer : ℕ → List ℕ → Answer (Address × ℕ)
unfolding fault_place
placed_answer family t =
    let a = strict_answer family t in
    record { number = a.number; fields = (a.fields, cond (eqb a.number 2) (fault_place family t) 0) }
