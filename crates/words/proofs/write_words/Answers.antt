-- `words::write_words` meets its contract. Assumes nothing.
use Rattle.std.proofs.Common.{◌≡◌, sym, rules, ◌∙◌}
use Rattle.address.specs.declared.Refusal.TheVariants.{Malformed}
use Rattle.address.specs.Answers.{refuses, writing_answer}
use Rattle.words.proofs.WordsLaws.{words_refused, no_words}
use Rattle.words.proofs.write_words.Goals as goal

pub returns-in_err-refusal : goal.returns-in_err-refusal
returns-in_err-refusal c =
    let none = words_refused c.args.number c.args.out.now (no_words _ c.in_err-refusal.ensures.0) in
    let e : writing_answer c.from_residual.result ≡ refuses 0 Malformed = search rules in
    (e ∙ none.0, none.1)

pub returns : goal.returns
returns c = rw (sym c.in_ok-refusal.ensures.2) c.store_words.ensures
