-- What is claimed of the answers of the system, as the programs take them. Assumes nothing.
use Rattle.std.specs.Prelude.{Result, Ok, Err, Some, pos}
use Rattle.std.specs.IoError.{error_kind, raw_os_error}
use Rattle.std.specs.declared.io.Error.{Error}
use Rattle.std.specs.declared.io.ErrorKind.TheVariants.{Interrupted}
use mathlib.Core.Path.{◌≡◌}
use mathlib.Core.Logic.{◌⊎◌, ◌↔◌}
use mathlib.Core.Bool.{true, false}
use mathlib.Core.List.{List, [], ◌∷◌}
use Prim.Native.Nat.{ℕ, ◌+◌, ◌≤◌}
use Rattle.notation.specs.Ascii.{ascii}
use Rattle.program_io.specs.declared.Got.TheVariants.{Bytes, Again, Failed}
use Rattle.program_io.specs.Calls.{brought_of, bytes_of, is_stuck, FailedBy, is_dash, single_digit, trouble_text}
use Rattle.program_io.proofs.AnswerLaws as answers

module _ (answer : Result ℕ Error) where
  -- Only a read that did not fail has brought bytes, so that none that failed is taken for the end of the input;
  pub bytes_exactly : (n : ℕ) → (brought_of answer ≡ Bytes n) ↔ (answer ≡ Ok n)
  bytes_exactly = answers.bytes_exactly answer

  -- only one that was interrupted is made again,
  pub again_exactly : (brought_of answer ≡ Again) ↔ ((why : Error) × (answer ≡ Err why) × (error_kind why ≡ Interrupted))
  again_exactly = answers.again_exactly answer

  -- and every other failure is final.
  pub failed_exactly : (why : Error) → (brought_of answer ≡ Failed why) ↔ ((answer ≡ Err why) × (error_kind why ≡ Interrupted → ⊥))
  failed_exactly = answers.failed_exactly answer

  -- A write goes on where it took a byte or was interrupted, and only there.
  pub goes_on_exactly : (is_stuck answer ≡ false) ↔ (bytes_of answer ≡ 0 → (why : Error) × (answer ≡ Err why) × (error_kind why ≡ Interrupted))
  goes_on_exactly = answers.goes_on_exactly answer

  -- It stops where it took no byte, which is told as no failure, or failed and was not interrupted, which is told as the system says.
  pub stops_exactly : (why : Error) → ((is_stuck answer ≡ true) × FailedBy answer why) ↔ (((answer ≡ Ok 0) × (raw_os_error why ≡ Some (pos 0))) ⊎ ((answer ≡ Err why) × (error_kind why ≡ Interrupted → ⊥)))
  stops_exactly = answers.stops_exactly answer

-- Only `-` stands for standard input,
pub dash_exactly : (path : List ℕ) → (is_dash path ≡ true) ↔ (path ≡ ascii "-")
dash_exactly = answers.dash_exactly

-- and only a text of one digit names a descriptor: the digit's.
pub digit_exactly : (text : List ℕ) (d : ℕ) → (single_digit text ≡ Some d) ↔ ((d ≤ 9) × (text ≡ (48 + d) ∷ []))
digit_exactly = answers.digit_exactly

-- Computed.
pub trouble_of_x : trouble_text (ascii "x") ≡ ascii "nibharrow: x"
trouble_of_x = answers.trouble_of_x
