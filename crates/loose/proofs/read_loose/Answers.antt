-- `loose::read_loose` meets its contract. Assumes nothing.
use Rattle.loose.proofs.LooseLaws.{loose_long, loose_read}
use Rattle.loose.proofs.read_loose.Goals as goal

pub returns-then-text-gt64 : goal.returns-then-text-gt64
returns-then-text-gt64 c = loose_long c.args.text.now c.if-text-gt64.true

pub returns : goal.returns
returns c = rw (c.ok_or.ensures.value, c.read_parts.ensures) (loose_read c.args.text.now c.if-text-gt64.false)
