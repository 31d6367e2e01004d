-- `octets::read_octets` meets its contract. Assumes nothing.
use Rattle.octets.proofs.OctetLaws.{read_4, read_6, read_other}
use Rattle.octets.proofs.read_octets.Goals as goal

pub returns-then-bytes-eq4 : goal.returns-then-bytes-eq4
returns-then-bytes-eq4 c = read_4 c.args.bytes.now _ c.if-bytes-eq4.true c.four.ensures

pub returns-then-bytes-eq16 : goal.returns-then-bytes-eq16
returns-then-bytes-eq16 c =
    read_6 c.args.bytes.now _ _ c.if-bytes-eq16.true c.eight.ensures c.eight-then-bytes-eq16.ensures

pub returns : goal.returns
returns c = read_other c.args.bytes.now c.if-bytes-eq4.false c.if-bytes-eq16.false
