-- `records::record_size` meets its contract. Assumes nothing.
use Rattle.records.proofs.record_size.Goals as goal

pub returns-in-V4 : goal.returns-in-V4
returns-in-V4 c = rw c.in-V4.is

pub returns-in-V6 : goal.returns-in-V6
returns-in-V6 c = rw c.in-V6.is
