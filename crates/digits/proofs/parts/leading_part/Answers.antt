-- `digits::parts::leading_part` meets its contract. Assumes nothing.
use Rattle.std.specs.Prelude.{Some}
use mathlib.Core.Path.{ap, ◌∙◌}
use native.Mathlib.Omega.{arith}
use Rattle.digits.specs.Numerals.{at_most, as_leading}
use Rattle.digits.proofs.PartLaws.{part_none, part_one, part_zero, part_four, part_more}
use Rattle.digits.proofs.parts.leading_part.Goals as goal

pub returns-then-a-gt9 : goal.returns-then-a-gt9
returns-then-a-gt9 c = let a = c.args in part_none a.text.now a.most (omega (arith, c.decimal_at-a.ensures))

pub returns-then-b-gt9 : goal.returns-then-b-gt9
returns-then-b-gt9 c =
    let a = c.args in
    c.at_most.ensures ∙ part_one a.text.now a.most c.decimal_at-a.result c.decimal_at-a.ensures (omega arith) (omega (arith, c.decimal_at-b.ensures))

pub returns-then-a-lt1 : goal.returns-then-a-lt1
returns-then-a-lt1 c =
    let a = c.args in
    part_zero a.text.now a.most c.decimal_at-a.result c.decimal_at-a.ensures (omega arith) c.decimal_at-b.result c.decimal_at-b.ensures (omega arith) (omega arith)

pub returns-then-decimal_at-le9 : goal.returns-then-decimal_at-le9
returns-then-decimal_at-le9 c =
    let a = c.args in
    part_four a.text.now a.most c.decimal_at-a.result c.decimal_at-a.ensures (omega arith) c.decimal_at-b.result c.decimal_at-b.ensures (omega arith) (omega arith) c.decimal_at-c.result c.decimal_at-c.ensures c.choose-count.result c.choose-count.ensures (omega (arith, c.decimal_at.ensures))

pub returns : goal.returns
returns c =
    let a = c.args in
    c.at_most-2.ensures
    ∙ ap (λ v. as_leading (at_most a.most (Some v)) c.choose-count.result) c.choose-value.ensures
    ∙ part_more a.text.now a.most c.decimal_at-a.result c.decimal_at-a.ensures (omega arith) c.decimal_at-b.result c.decimal_at-b.ensures (omega arith) (omega arith) c.decimal_at-c.result c.decimal_at-c.ensures c.choose-count.result c.choose-count.ensures (omega (arith, c.decimal_at.ensures))
