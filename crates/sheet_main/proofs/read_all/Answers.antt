-- `sheet_main::read_all` meets its contract. Assumes nothing.
use native.Mathlib.Omega.{arith}
use mathlib.Core.Path.{sym, ◌∙◌}
use Rattle.sheet_main.proofs.RunLaws.{chain_within, going_start, going_on, going_done, going_full}
use Rattle.sheet_main.proofs.read_all.Goals as goal

pub loop-turns-init : goal.loop-turns-init
loop-turns-init g c = going_start _ c.requires

pub turn-run-requires : goal.turn-run-requires
turn-run-requires g c = let i = c.loop-turns.invariant in (chain_within i.chain, i.size)

pub returns-then-not-goes_on : goal.returns-then-not-goes_on
returns-then-not-goes_on g c =
    going_done c.loop-turns.invariant c.turn-run.ensures (sym c.goes_on.ensures ∙ c.if-not-goes_on.true)

pub loop-turns-preserved : goal.loop-turns-preserved
loop-turns-preserved g c =
    going_on c.loop-turns.invariant c.turn-run.ensures (sym c.goes_on.ensures ∙ c.if-not-goes_on.false) c.turn-run.auto.input

pub returns : goal.returns
returns g c = going_full c.loop-turns.invariant (omega (arith, c.loop-turns.auto.turns-end, c.loop-turns-test.false))
