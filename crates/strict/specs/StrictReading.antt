-- The answer of the strict reader in the paper's terms: the refusal's number, the address and the place (02, Req 02). Assumes nothing.
use Rattle.std.specs.Prelude.{ℕ, Ok, Err, Result}
use Rattle.address.specs.declared.Address.{Address}
use Rattle.strict.specs.declared.Fault.{Fault}
use Rattle.address.specs.Answers.{Answer, gives, refuses, no_address}

-- an address has no place, and a refusal no address
abbrev pub strict_reading_answer : Result Address Fault → Answer (Address × ℕ)
strict_reading_answer (Ok a) = gives (a, 0)
strict_reading_answer (Err fault) = refuses (no_address, fault.place) fault.why
