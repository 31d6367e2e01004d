-- `wide::Wide::saturating_add` meets its contract: the lower halves carry 0 or 1, and the upper ones then fit or do not. Assumes nothing.
use Rattle.std.proofs.Common.{◌^◌, arith}
use Rattle.wide.proofs.Halves.{add_fits, add_full}
use Rattle.wide.proofs.Wide.saturating_add.Goals as goal

pub returns-then-room-bh : goal.returns-then-room-bh
returns-then-room-bh c =
    add_full (2 ^ 64) _ _ _ _ 1 18446744073709551615 (omega arith) (omega arith) (omega arith)

pub returns-then-lo-al : goal.returns-then-lo-al
returns-then-lo-al c =
    add_fits (2 ^ 64) _ _ _ _ 1 _ _ (omega arith) (omega arith) (omega arith) (omega arith)

pub returns-then-room-bh-2 : goal.returns-then-room-bh-2
returns-then-room-bh-2 c =
    add_full (2 ^ 64) _ _ _ _ 0 18446744073709551615 (omega arith) (omega arith) (omega arith)

pub returns : goal.returns
returns c =
    add_fits (2 ^ 64) _ _ _ _ 0 _ _ (omega arith) (omega arith) (omega arith) (omega arith)
