-- What is claimed of normal text, and of strict and normal text together (01, "Normal text"; demand 2). Assumes nothing.
use Rattle.std.specs.Prelude.{Some}
use mathlib.Core.Path.{◌≡◌, refl}
use mathlib.Core.Logic.{◌↔◌}
use mathlib.Core.Bool.{false}
use mathlib.Core.List.{List, map}
use Prim.Native.Nat.{ℕ, ◌≤◌, ◌<◌}
use native.Mathlib.Omega.{arith}
use borrow.Author.Tests.{lt-ltb, le-ltb}
use lib.ListN.{length, take}
use Rattle.notation.specs.BigEndian.{AllBelow}
use Rattle.notation.specs.Pieces.{contains}
use Rattle.address.specs.declared.Address.{Address}
use Rattle.address.specs.declared.Address.TheVariants.{V4, V6}
use Rattle.address.specs.Addresses.{IsAddress, family}
use Rattle.address.specs.Answers.{gives, write_answer, write_leaves}
use Rattle.address.proofs.Claims as address
use Rattle.address.proofs.AnswerLaws.{read_held}
use Rattle.digits.specs.Numerals.{lower}
use Rattle.ipv6_text.specs.EightGroups.{eight_of}
use Rattle.text.specs.Strict.{strict_of, strict_answer}
use Rattle.zero_runs.specs.Runs.{ZeroRun, LeftmostLongest}
use Rattle.zero_runs.proofs.RunLaws as runs
use Rattle.normal.specs.Normal.{groups_text, shortened, normal_groups, normal_text}
use Rattle.normal.proofs.BoundLaws.{text_4_most, text_6_most}
use Rattle.normal.proofs.ReadBackLaws.{groups_read, shortened_read, text_read, text_answer, text_6_lacks}
use Rattle.normal.proofs.LowerLaws.{text_lower}

-- ---- lengths

-- "at most 15 bytes", and "At most 39 bytes".
pub at_most_15 : (v : ℕ) → length (normal_text (V4 v)) ≤ 15
at_most_15 = text_4_most

pub at_most_39 : (hi lo : ℕ) → length (normal_text (V6 hi lo)) ≤ 39
at_most_39 = text_6_most

-- ---- writing

-- "The answer is the number of bytes written; refusal 3 exactly if the room is less."
module _ (a : Address) (old : List ℕ) where
  pub good_exactly : (write_answer 0 (normal_text a) old ≡ gives (length (normal_text a))) ↔ (length (normal_text a) ≤ length old)
  good_exactly = let good = address.good_exactly 0 (normal_text a) old in (λ e. (good.0 e).1, λ h. good.1 (refl, h))

  pub room_exactly : ((write_answer 0 (normal_text a) old).number ≡ 3) ↔ (length old < length (normal_text a))
  room_exactly = let room = address.room_exactly 0 (normal_text a) old (λ e. omega (arith, e)) in (λ e. (room.0 e).1, λ h. room.1 (refl, h))

-- ---- reading what was written

-- Demand 2: reading the normal text of an address returns that address, asked for by its family or by 0.
pub read_back : (a : Address) → IsAddress a → (strict_of 0 (normal_text a) ≡ Some a) × (strict_of (family a) (normal_text a) ≡ Some a)
read_back = text_read

pub read_back_answer : (a : Address) → IsAddress a → (strict_answer 0 (normal_text a) ≡ gives a) × (strict_answer (family a) (normal_text a) ≡ gives a)
read_back_answer = text_answer

-- Demand 2, of what the caller holds: the bytes that the buffer holds after a good call, as many as it says, are read as the address.
pub written_read_back : (a : Address) → IsAddress a → (old : List ℕ) (n : ℕ) → write_answer 0 (normal_text a) old ≡ gives n
    → let text = take n (write_leaves 0 (normal_text a) old) in (strict_answer 0 text ≡ gives a) × (strict_answer (family a) text ≡ gives a)
written_read_back a h old n e =
    let back = read_back_answer a h in
    (read_held 0 (normal_text a) old (strict_answer 0) back.0 n e, read_held 0 (normal_text a) old (strict_answer (family a)) back.1 n e)

-- "`::` may stand once for one or more whole zero groups": for any zeros that it stands for the groups are the same, and so are they without it.
module _ (gs : List ℕ) (long : length gs ≡ 8) (small : AllBelow 65536 gs) where
  pub any_zeros : (start n : ℕ) → ZeroRun gs start n → 1 ≤ n → eight_of (shortened start n gs) ≡ Some gs
  any_zeros = shortened_read gs long small

  pub no_zeros : eight_of (groups_text gs) ≡ Some gs
  no_zeros = groups_read gs long small

-- ---- the run that is shortened

-- "the longest run of two or more zero groups becomes `::`. Of two runs equally long the leftmost is shortened.": the leftmost longest run,
-- of which there is one, is shortened where it has two or more groups, and no group is left out where it has not.
module _ (gs : List ℕ) (start n : ℕ) (r : LeftmostLongest gs start n) where
  pub shortens : 2 ≤ n → normal_groups gs ≡ shortened start n gs
  unfolding normal_groups
  shortens h = let e = runs.run_only r in rw (← e.1, ← e.0, le-ltb n 2 h)

  pub stays : n < 2 → normal_groups gs ≡ groups_text gs
  unfolding normal_groups
  stays h = rw (← (runs.run_only r).0, lt-ltb n 2 h)

-- "lower case": written in lower case a normal text is what it was.
pub lower_case_lem : (a : Address) → map lower (normal_text a) ≡ normal_text a
lower_case_lem = text_lower

-- "Hex groups are always written, never the dotted tail."
pub never_dotted : (hi lo : ℕ) → contains 46 (normal_text (V6 hi lo)) ≡ false
never_dotted = text_6_lacks
