-- `records::put_byte` meets its contract. Assumes nothing.
use mathlib.Core.Path.{refl}
use mathlib.Core.List.{[], ◌∷◌}
use native.Mathlib.Omega.{arith}
use lib.Seq.{sets-eq}
use Rattle.address.proofs.AnswerLaws.{write_short, write_fits}
use Rattle.records.proofs.put_byte.Goals as goal

pub returns-then-out-lt1 : goal.returns-then-out-lt1
returns-then-out-lt1 c = (write_short (c.args.byte ∷ []) _ 1 refl c.if-out-lt1.true).1

pub returns : goal.returns
returns c =
    let s = c.args in
    (write_fits (s.byte ∷ []) s.out.now 1 refl c.if-out-lt1.false _ (sets-eq (s.byte ∷ []) s.out.now 0 (omega (arith, c.if-out-lt1.false)))).1
