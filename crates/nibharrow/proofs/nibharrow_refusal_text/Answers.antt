-- `nibharrow::nibharrow_refusal_text` meets its contract. Assumes nothing.
use Rattle.nibharrow.specs.Interface.{words_into}
use Rattle.nibharrow.proofs.InterfaceLaws.{wrote}
use Rattle.nibharrow.proofs.nibharrow_refusal_text.Goals as goal

pub returns : goal.returns
unfolding words_into
returns c =
    wrote _ _ _ c.from.ensures c.write_words.ensures
