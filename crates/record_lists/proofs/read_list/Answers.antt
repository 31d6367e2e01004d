-- `record_lists::read_list` meets its contract. Assumes nothing.
use mathlib.Core.Path.{◌≡◌, sym, subst, ◌∙◌}
use mathlib.Core.Bool.{true}
use native.Mathlib.Omega.{arith}
use Rattle.record_lists.specs.RecordLists.{is_family}
use Rattle.record_lists.specs.Inner.{IsSize}
use Rattle.record_lists.proofs.AnswerLaws.{family_size, list_unknown, list_partial, list_many, list_length, list_read}
use Rattle.record_lists.proofs.read_list.Goals.{After-family_size-size}
use Rattle.record_lists.proofs.read_list.Goals as goal

pub returns-then-not-is_family : goal.returns-then-not-is_family
returns-then-not-is_family c = list_unknown _ _ (sym c.is_family.ensures ∙ c.if-not-is_family.true)

known : (c : After-family_size-size) → is_family c.args.family ≡ true
known c = sym c.is_family.ensures ∙ c.if-not-is_family.false

pub returns-then-records-size-ne0 : goal.returns-then-records-size-ne0
returns-then-records-size-ne0 c = list_partial _ _ (known (goal.at.returns-then-records-size-ne0 c).After-family_size-size) _ c.family_size-size.ensures c.if-records-size-ne0.true

pub returns-then-n-gt-MOST : goal.returns-then-n-gt-MOST
returns-then-n-gt-MOST c = list_many _ _ (known (goal.at.returns-then-n-gt-MOST c).After-family_size-size) _ c.family_size-size.ensures c.if-records-size-ne0.false (omega (arith, c.if-n-gt-MOST.true))

pub judge_all-requires : goal.judge_all-requires
judge_all-requires c =
    let a = c.args in
    (subst IsSize (sym c.family_size-size.ensures) (family_size a.family), list_length c.family_size-size.result a.records.now c.if-records-size-ne0.false, omega (arith, c.if-n-gt-MOST.false))

pub returns : goal.returns
returns c =
    c.judge_all.ensures ∙ list_read _ _ (known (goal.at.returns c).After-family_size-size) _ c.family_size-size.ensures c.if-records-size-ne0.false (omega (arith, c.if-n-gt-MOST.false))
