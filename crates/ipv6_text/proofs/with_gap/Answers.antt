-- `ipv6_text::with_gap` meets its contract. Assumes nothing.
use native.Mathlib.Omega.{arith}
use Rattle.ipv6_text.proofs.PlaceLaws.{laid_over, laid_beside}
use Rattle.ipv6_text.proofs.with_gap.Goals as goal

pub returns-then-count-gt7 : goal.returns-then-count-gt7
returns-then-count-gt7 c = λ gs xs o l h. laid_over gs xs c.args.count c.args.gap l o h (omega arith)

pub returns : goal.returns
returns c = λ gs xs o l h. laid_beside gs xs c.args.count c.args.gap l o h (omega arith)
