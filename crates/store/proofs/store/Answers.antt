-- `store::store` meets its contract. Assumes nothing.
use mathlib.Core.Path.{refl}
use native.Mathlib.Omega.{arith}
use Rattle.address.proofs.AnswerLaws.{write_short, write_fits}
use Rattle.store.proofs.store.Goals as goal

pub returns-then-out-n : goal.returns-then-out-n
returns-then-out-n c = write_short _ _ _ refl c.if-out-n.true

pub returns : goal.returns
returns c = write_fits c.args.text.now _ _ refl (omega arith) _ (rw c.copy_from_slice.ensures.after)
