-- `gather::gather` meets its contract. Assumes nothing.
use mathlib.Core.Path.{sym, ap, ◌∙◌}
use native.Mathlib.Omega.{arith}
use Rattle.notation.proofs.OptionLaws.{passed_on}
use Rattle.lists.specs.Lists.{gathered_blocks}
use Rattle.record_lists.specs.RecordLists.{list_reading_answer}
use Rattle.record_lists.proofs.GoodLaws.{refused_number}
use Rattle.list_answers.proofs.AnswerLaws.{list_refused}
use Rattle.gather.proofs.WriteLaws.{list_listed, list_rises, list_written}
use Rattle.gather.proofs.gather.Goals as goal

pub write_gathered-requires : goal.write_gathered-requires
write_gathered-requires c =
    let s = c in (
      list_listed s.args.family s.args.records.now s.args.out.now _ _ (sym c.read_list.ensures ∙ ap list_reading_answer c.in_ok-count.was) _ c.family_of.ensures (λ i. omega (arith, c.type_inv.records i)),
      list_rises s.args.family s.args.records.now s.args.out.now _ _ (sym c.read_list.ensures ∙ ap list_reading_answer c.in_ok-count.was) _ c.family_of.ensures,
    )

pub returns-in_err-count : goal.returns-in_err-count
returns-in_err-count c =
    let a = c.args in
    rw (passed_on c.from_residual.ensures.1)
    (list_refused a.family a.records.now a.out.now _ c.in_err-count.field-0.0
    (refused_number a.family a.records.now c.in_err-count.field-0.0 (sym c.read_list.ensures ∙ ap list_reading_answer c.in_err-count.was)))

pub returns : goal.returns
returns c =
    let a = c.args in
    list_written a.family a.records.now a.out.now _ _ (sym c.read_list.ensures ∙ ap list_reading_answer c.in_ok-count.was) _ c.family_of.ensures gathered_blocks _ _ c.write_gathered.ensures
