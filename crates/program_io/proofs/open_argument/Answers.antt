-- `program_io::open_argument` meets its contract. Assumes nothing.
use native.Mathlib.Omega.{arith}
use Rattle.notation.specs.Ascii.{ascii}
use Rattle.output.proofs.PlacingLaws.{puts_whole}
use Rattle.program_io.specs.Calls.{standard_name}
use Rattle.program_io.proofs.open_argument.Goals as goal

pub returns-in_default-clause-standard : goal.returns-in_default-clause-standard
unfolding standard_name ascii
returns-in_default-clause-standard g c = (puts_whole c.put_bytes.ensures (omega arith)).1
