-- `network::given::hex_bytes` meets its contract. Assumes nothing.
use Rattle.std.specs.Prelude.{Some}
use mathlib.Core.Path.{◌≡◌, sym, ◌∙◌}
use mathlib.Core.Bool.{true, ◌||◌}
use native.Mathlib.Omega.{arith}
use lib.Dec.{leb, eqb}
use lib.ListN.{length, get_or}
use Rattle.digits.specs.Numerals.{bounded_number, leading}
use Rattle.network.proofs.GivenLaws.{hex_nothing, hex_short, hex_any, hex_long, hex_number_lem}
use Rattle.network.proofs.given.hex_bytes.Goals.{Else-not-ends_at, In_ok-value}
use Rattle.network.proofs.given.hex_bytes.Goals as goal

pub returns-in_err-value : goal.returns-in_err-value
returns-in_err-value c = rw c.from_residual.ensures (hex_nothing _ c.in_err-value.ensures)

-- the digits that the text begins with
said : (c : In_ok-value)
    → Some (c.in_ok-value.value, c.in_ok-value.digits) ≡ leading 16 (bounded_number 16 4294967295) c.args.text.now
said c = c.in_ok-value.ensures

pub returns-then-not-ends_at : goal.returns-then-not-ends_at
returns-then-not-ends_at c = hex_short _ _ _ (said (goal.at.returns-then-not-ends_at c).In_ok-value) (sym c.ends_at.ensures ∙ c.if-not-ends_at.true)

-- they end where the text or the piece before the slash ends
ends : (c : Else-not-ends_at) → let t = c.args.text.now in
    let n = c.in_ok-value.digits in
    ((leb (length t) n || eqb (get_or t n 0) 47) ≡ true)
ends c = sym c.ends_at.ensures ∙ c.if-not-ends_at.false

pub returns-then-digits-gt8 : goal.returns-then-digits-gt8
returns-then-digits-gt8 c = hex_long _ _ _ (said (goal.at.returns-then-digits-gt8 c).In_ok-value) (ends (goal.at.returns-then-digits-gt8 c).Else-not-ends_at) (omega arith)

pub overflow_shl-result : goal.overflow_shl-result
overflow_shl-result c = omega (arith, hex_any _ _ _ (said (goal.at.overflow_shl-result c).In_ok-value) (ends (goal.at.overflow_shl-result c).Else-not-ends_at))

pub returns : goal.returns
returns c = hex_number_lem _ _ _ (said (goal.at.returns c).In_ok-value) (ends (goal.at.returns c).Else-not-ends_at) (omega arith)
