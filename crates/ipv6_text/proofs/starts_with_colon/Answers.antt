-- `ipv6_text::starts_with_colon` meets its contract. Assumes nothing.
use mathlib.Core.Path.{sym, ◌∙◌}
use native.Mathlib.Omega.{arith}
use borrow.Author.Tests.{eq-eqb, ne_eqb}
use lib.ListN.{get_or}
use Rattle.ipv6_text.proofs.GapLaws.{colon_none, colon_first_lem}
use Rattle.ipv6_text.proofs.starts_with_colon.Goals as goal

pub returns-in-58 : goal.returns-in-58
returns-in-58 c = let t = c.args.text.now in sym (eq-eqb (get_or t 0 0) 58 (omega arith)) ∙ colon_first_lem t (omega arith)

pub returns-in_default : goal.returns-in_default
returns-in_default c = colon_none c.args.text.now (omega arith)

pub returns-in_default-2 : goal.returns-in_default-2
returns-in_default-2 c = let t = c.args.text.now in sym (ne_eqb (get_or t 0 0) 58 (omega arith)) ∙ colon_first_lem t (omega arith)
