-- `sheet_notes::newline` meets its contract. Assumes nothing.
use mathlib.Core.Path.{sym, ap}
use mathlib.Core.Bool.{cond}
use borrow.Author.Rules.{rules}
use borrow.Author.Tests.{eq-eqb, ne_eqb}
use Rattle.sheet_notes.proofs.newline.Goals as goal

pub returns-then-byte-eq10 : goal.returns-then-byte-eq10
returns-then-byte-eq10 c = (ap (λ t. cond t 1 0) (sym (eq-eqb _ 10 c.if-byte-eq10.true)), search rules)

pub returns : goal.returns
returns c = (ap (λ t. cond t 1 0) (sym (ne_eqb _ 10 c.if-byte-eq10.false)), search rules)
