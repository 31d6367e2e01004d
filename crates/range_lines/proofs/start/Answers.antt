use Rattle.range_lines.proofs.start.Goals as goal

pub returns : goal.returns
returns c = let e = c.begin.ensures in λ i. record { begun = e i; line = 1 }
