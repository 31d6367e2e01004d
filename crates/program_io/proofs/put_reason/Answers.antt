-- `program_io::put_reason` meets its contract. Assumes nothing.
use Rattle.output.proofs.PlacingLaws.{puts_then}
use Rattle.program_io.specs.Calls.{reason_text}
use Rattle.program_io.proofs.put_reason.Goals as goal

pub returns : goal.returns
unfolding reason_text
returns c = (_, puts_then c.put_bytes-behind.ensures (puts_then c.put_bytes-end.ensures c.put_bytes.ensures))
