-- `program_io::put_trouble` meets its contract. Assumes nothing.
use Rattle.output.proofs.PlacingLaws.{puts_then}
use Rattle.program_io.specs.Calls.{trouble_text}
use Rattle.program_io.proofs.put_trouble.Goals as goal

pub returns : goal.returns
unfolding trouble_text
returns c =
    puts_then c.put_bytes-behind.ensures c.put_bytes.ensures
