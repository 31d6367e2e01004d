-- `sheet_lines::read_fields` meets its contract. Assumes nothing.
use mathlib.Core.Path.{sym, ◌∙◌}
use Rattle.sheet_lines.proofs.FieldLaws.{address_found}
use Rattle.sheet_lines.proofs.read_fields.Goals as goal

pub returns-in_err-address : goal.returns-in_err-address
returns-in_err-address c =
    rw (c.from_residual.ensures, address_found c.args.address.now _ c.read_address.ensures ∙ sym c.ok.ensures.value ∙ c.in_err-address.was)

pub returns : goal.returns
returns c = rw (address_found c.args.address.now _ c.read_address.ensures ∙ sym c.ok.ensures.value ∙ c.in_ok-address.was) c.read_numbers.ensures
