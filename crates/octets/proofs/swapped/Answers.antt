-- `octets::swapped` meets its contract. Assumes nothing.
use mathlib.Core.Path.{◌≡◌, sym, ap, ◌∙◌}
use mathlib.Core.List.{reverse}
use Prim.Native.Nat.{◌+◌, ◌*◌, ◌/◌, ◌%◌, ◌^◌, ◌<◌}
use native.Mathlib.Omega.{arith}
use lib.Dec.{lit<}
use Rattle.notation.specs.BigEndian.{number_of}
use Rattle.notation.proofs.DigitLaws.{four_digits, four_number}
use Rattle.octets.proofs.swapped.Goals as goal

pub returns : goal.returns
returns c =
    let v = c.args.v in
    let small : v < 2 ^ 32 = omega arith in
    let sum : v % 256 * 16777216 + v / 256 % 256 * 65536 + v / 65536 % 256 * 256 + v / 16777216 ≡ ((v % 256 * 256 + v / 256 % 256) * 256 + v / 65536 % 256) * 256 + v / 16777216 = omega arith in
    sum ∙ sym (ap (λ l. number_of 256 (reverse l)) (four_digits 256 v small (lit< tt)) ∙ four_number 256 _ _ _ _)
