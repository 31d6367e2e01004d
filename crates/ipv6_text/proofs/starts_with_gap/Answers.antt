-- `ipv6_text::starts_with_gap` meets its contract. Assumes nothing.
use mathlib.Core.Path.{sym, ◌∙◌}
use native.Mathlib.Omega.{arith}
use borrow.Author.Tests.{eq-eqb, ne_eqb}
use lib.ListN.{get_or}
use Rattle.ipv6_text.proofs.GapLaws.{gap_short, gap_other, gap_both}
use Rattle.ipv6_text.proofs.starts_with_gap.Goals as goal

pub returns-in-58 : goal.returns-in-58
returns-in-58 c = let t = c.args.text.now in sym (eq-eqb (get_or t 1 0) 58 (omega arith)) ∙ gap_both t (omega arith) (omega arith)

pub returns-in_default : goal.returns-in_default
returns-in_default c = gap_short c.args.text.now (omega arith)

pub returns-in_default-2 : goal.returns-in_default-2
returns-in_default-2 c = let t = c.args.text.now in sym (ne_eqb (get_or t 1 0) 58 (omega arith)) ∙ gap_both t (omega arith) (omega arith)

pub returns-in_default-3 : goal.returns-in_default-3
returns-in_default-3 c = gap_other c.args.text.now (omega arith) (omega arith)
