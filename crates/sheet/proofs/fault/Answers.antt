-- `sheet::fault` meets its contract. Assumes nothing.
use native.Mathlib.Omega.{arith}
use borrow.Author.Tests.{lt-ltb, le-ltb}
use lib.ListN.{length}
use Rattle.sheet_answers.specs.Sheets.{sheet_lines}
use Rattle.sheet.proofs.fault.Goals as goal

pub returns-then-count_lines-gt1024 : goal.returns-then-count_lines-gt1024
returns-then-count_lines-gt1024 c =
    rw (lt-ltb 1024 (length (sheet_lines c.args.sheet.now)) (omega (arith, c.count_lines.ensures)))

pub returns : goal.returns
returns c =
    rw (le-ltb 1024 (length (sheet_lines c.args.sheet.now)) (omega (arith, c.count_lines.ensures)))
