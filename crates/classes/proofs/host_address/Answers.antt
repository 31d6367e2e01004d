-- `classes::host_address` meets its contract. Assumes nothing.
use borrow.Author.Tests.{lt-ltb, le-ltb}
use Rattle.address.specs.Answers.{refusal}
use Rattle.classes.proofs.host_address.Goals as goal

pub returns-then-most-host : goal.returns-then-most-host
unfolding refusal
returns-then-most-host c = let a = c.args in rw (lt-ltb a.most a.host c.if-most-host.true)

pub returns : goal.returns
unfolding refusal
returns c = let a = c.args in rw (le-ltb a.most a.host c.if-most-host.false)
