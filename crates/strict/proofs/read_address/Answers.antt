use Rattle.strict.proofs.ReadingLaws.{read_placed, refused_placed}
use Rattle.strict.proofs.read_address.Goals as goal

pub returns-in-Ok : goal.returns-in-Ok
returns-in-Ok c =
    let a = c.args in
    read_placed a.family a.text.now _ c.read_address.ensures _ c.in-Ok.is

pub returns-in-Err : goal.returns-in-Err
returns-in-Err c =
    let a = c.args in
    refused_placed a.family a.text.now _ c.read_address.ensures _ _ c.in-Err.is c.refused_place-place.ensures
