-- `range_lines::answer_line` meets its contract. Assumes nothing.
use mathlib.Core.Path.{refl, ap, ◌∙◌}
use mathlib.Core.Bool.{not, ◌||◌}
use lib.Dec.{eqb}
use Rattle.range_lines.proofs.answer_line.Goals as goal

pub returns : goal.returns
returns c =
    let done = c.args.done in
    let p = c.put_line-answer.ensures in
    let none = c.begin.ensures in
    let next = c.next_line.ensures in
    record {
      answer = p.puts;
      told = rw (← p.tells) c.put_told-noted.ensures;
      refused = c.also_refused.ensures ∙ ap (λ m. done.refused || not (eqb m 0)) p.tells;
      place = λ i. record { begun = none i; line = next i };
      taken = refl;
    }
