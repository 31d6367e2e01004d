-- What the programs make of the answers of the system. Assumes nothing.
use Rattle.std.specs.Prelude.{◌≡◌, Bool, true, false, cond, not, List, [], ◌∷◌, ◌++◌, ℕ, ◌+◌, ◌-◌, ◌%◌, ◌≤◌, eqb, pos, Result, Ok, Err, Some, None, Option}
use Rattle.std.specs.IoError.{error_kind, raw_os_error}
use Rattle.std.specs.declared.io.Error.{Error}
use Rattle.std.specs.declared.io.ErrorKind.{ErrorKind}
use Rattle.std.specs.declared.io.ErrorKind.TheVariants.{Interrupted}
use Rattle.output.specs.Placing.{Puts}
use Rattle.notation.specs.Ascii.{ascii, within}
use Rattle.program_io.specs.declared.Got.{Got}
use Rattle.program_io.specs.declared.Got.TheVariants.{Bytes, Again, Failed}
use Rattle.program_io.specs.declared.Input.{Input}
use Rattle.program_io.specs.declared.Input.TheVariants.{Standard, File}

-- whether a kind of failure is that the call was interrupted
abbrev pub is_interruption : ErrorKind → Bool
is_interruption Interrupted = true
is_interruption k = false

-- whether a call failed since it was interrupted
abbrev pub is_interrupted : Error → Bool
is_interrupted why = is_interruption (error_kind why)

-- What a read that was answered so has brought: one that was interrupted is made again (POSIX, read).
abbrev pub brought_of : Result ℕ Error → Got
brought_of (Ok n) = Bytes n
brought_of (Err why) = cond (is_interrupted why) Again (Failed why)

-- how many bytes a write that was answered so has taken
abbrev pub bytes_of : Result ℕ Error → ℕ
bytes_of (Ok n) = n
bytes_of (Err why) = 0

-- Whether a write that was answered so has failed: it took no byte, and was not interrupted (POSIX, write).
abbrev pub is_stuck : Result ℕ Error → Bool
is_stuck (Ok n) = eqb n 0
is_stuck (Err why) = not (is_interrupted why)

-- Why a write that was answered so has failed: as the system says, which names no failure of one that took no byte.
abbrev pub FailedBy : Result ℕ Error → Error → Type 0
FailedBy (Ok n) why = raw_os_error why ≡ Some (pos 0)
FailedBy (Err e) why = why ≡ e

-- no more bytes than there was room for
abbrev pub Filled : ℕ → Got → Type 0
Filled size (Bytes n) = n ≤ size
Filled size Again = Unit {0}
Filled size (Failed why) = Unit {0}

-- the one byte `-`
abbrev pub is_dash : List ℕ → Bool
is_dash [] = false
is_dash (x ∷ []) = eqb x 45
is_dash (x ∷ y ∷ t) = false

-- the one byte that is a digit
abbrev pub single_digit : List ℕ → Option ℕ
single_digit [] = None
single_digit (x ∷ []) = cond (within 48 57 x) (Some (x - 48)) None
single_digit (x ∷ y ∷ t) = None

-- an input that is a file, and one that is told by a name that is its own
abbrev pub IsFile : {F : Type 0} → Input F → Type 0
IsFile (Standard input) = ⊥
IsFile (File file) = Unit {0}

unfoldable pub standard_name : List ℕ
unfolding ascii
standard_name = ascii "(standard input)"

abbrev pub NamesStandard : {F : Type 0} → List ℕ → Input F → Type 0
NamesStandard name (Standard input) = name ≡ standard_name
NamesStandard name (File file) = Unit {0}

-- what is written of a status: its digit, and a `p` where nobody reads what the program writes any more
abbrev pub status_text : ℕ → Bool → List ℕ
status_text status broken = (48 + status % 10) ∷ cond broken (112 ∷ []) []

-- what is told of a failure, before the system's words
unfoldable pub trouble_text : List ℕ → List ℕ
unfolding ascii
trouble_text what = ascii "nibharrow: " ++ what

-- what is told behind that, with some words of the system
unfoldable pub reason_text : List ℕ → List ℕ
unfolding ascii
reason_text words = ascii ": " ++ (words ++ ascii "\n")

-- a call that puts it at an index of the buffer
abbrev pub PutsReason : List ℕ → List ℕ → ℕ → ℕ → Type 0
PutsReason old new at next = (words : List ℕ) × Puts old new at next (reason_text words)
