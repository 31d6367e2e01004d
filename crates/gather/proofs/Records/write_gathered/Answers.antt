-- `gather::Records::write_gathered` meets its contract. Assumes nothing.
use mathlib.Core.Path.{sym, ap, ◌∙◌}
use native.Mathlib.Omega.{arith}
use lib.Seq.{length-take-le}
use Rattle.notation.proofs.OptionLaws.{passed_on}
use Rattle.address.specs.Answers.{writing_answer}
use Rattle.output.proofs.PlacingLaws.{puts_length}
use Rattle.gather.proofs.BlockLaws.{is_size, size_some}
use Rattle.gather.proofs.PassLaws.{listed_small, gathered_room}
use Rattle.gather.proofs.WriteLaws.{wrote_put, wrote_stored, refused_stored}
use Rattle.gather.proofs.Records.write_gathered.Goals.{After-gather_into-bytes-2, Start}
use Rattle.gather.proofs.Records.write_gathered.Goals as goal

pub nonzero_div-result : goal.nonzero_div-result
nonzero_div-result c = omega (arith, c.size.ensures, (size_some (is_size c.args.self.family)).0)

pub returns-then-self-out : goal.returns-then-self-out
returns-then-self-out c =
    rw c.size.ensures (wrote_put c.requires.0.sized _ _ _ _ c.gather_into-bytes.ensures (omega (arith, gathered_room c.requires.0, c.if-self-out.true)))

pub gather_into-bytes-requires-2 : goal.gather_into-bytes-requires-2
gather_into-bytes-requires-2 c = (c.requires.0, c.requires.1, listed_small c.requires.0)

-- the buffer has room for the gathered list
pub slice_bounds-store-end : goal.slice_bounds-store-end
slice_bounds-store-end c = let p = c.gather_into-bytes-2.ensures in sym (length-take-le _ _ (omega (arith, p.index, puts_length p)))

pub nonzero_div-result-2 : goal.nonzero_div-result-2
nonzero_div-result-2 c = omega (arith, c.size-2.ensures, (size_some (is_size (goal.at.nonzero_div-result-2 c).Start.args.self.family)).0)

pub returns-in_err-store : goal.returns-in_err-store
returns-in_err-store c =
    let s = (goal.at.returns-in_err-store c).After-gather_into-bytes-2 in
    rw (passed_on c.from_residual.ensures.1)
    (refused_stored s.requires.0.sized _ _ _ _ _ c.gather_into-bytes-2.ensures (omega (arith, gathered_room s.requires.0, listed_small s.requires.0))
    c.in_err-store.field-0.0 _ (sym (ap writing_answer c.in_err-store.was) ∙ c.store.ensures.0) c.store.ensures.1)

pub returns : goal.returns
returns c =
    let s = (goal.at.returns c).After-gather_into-bytes-2 in
    rw c.size-2.ensures (wrote_stored s.requires.0.sized _ _ _ _ _ c.gather_into-bytes-2.ensures (omega (arith, gathered_room s.requires.0, listed_small s.requires.0))
    _ _ (sym (ap writing_answer c.in_ok-store.was) ∙ c.store.ensures.0) c.store.ensures.1)
