-- `records::read_record` meets its contract. Assumes nothing.
use mathlib.Core.Path.{sym, ap, ◌∙◌}
use native.Mathlib.Omega.{arith}
use lib.Seq.{length-take-le}
use Rattle.address.specs.Answers.{reading_answer}
use Rattle.records.proofs.RecordLaws.{record_read, record_none, record_empty, answer_block, answer_none}
use Rattle.records.proofs.read_record.Goals as goal

pub returns-then-n-eq0 : goal.returns-then-n-eq0
returns-then-n-eq0 c =
    let t = c.args.bytes.now in
    answer_none t (record_empty t c.if-n-eq0.true)

pub slice_bounds-read_octets-length : goal.slice_bounds-read_octets-length
slice_bounds-read_octets-length c = sym (length-take-le _ _ (omega arith))

pub returns-in_default : goal.returns-in_default
returns-in_default c =
    let t = c.args.bytes.now in
    answer_none t (record_none t (omega arith) c.in_default.field-0 (ap reading_answer (sym c.in_default.is) ∙ c.read_octets.ensures))

pub returns : goal.returns
returns c =
    let t = c.args.bytes.now in
    c.checked.ensures
    ∙ sym (answer_block t _ (record_read t (omega arith) c.in-Ok.address (ap reading_answer (sym c.in-Ok.is) ∙ c.read_octets.ensures)))
