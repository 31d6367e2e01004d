-- The decimal parts of IPv4 text. Assumes nothing.
use Rattle.std.specs.Prelude.{Some}
use mathlib.Core.Path.{◌≡◌, refl}
use mathlib.Core.List.{List, map}
use Prim.Native.Nat.{ℕ, ◌<◌}
use native.Mathlib.Omega.{arith}
use lib.Dec.{lit≤}
use Rattle.notation.specs.BigEndian.{AllBelow}
use Rattle.notation.specs.Options.{every}
use Rattle.notation.specs.Pieces.{Lacks}
use Rattle.notation.proofs.EveryLaws.{every_written}
use Rattle.digits.specs.Numerals.{digit_of, part_of, decimal}
use Rattle.digits.proofs.NumeralLaws.{no_digit, part_digits, decimal_part}
use Rattle.digits.proofs.FirstPieceLaws.{part_most}

pub every_decimal : (xs : List ℕ) → AllBelow 256 xs → every (part_of 255) (map decimal xs) ≡ Some xs
every_decimal = every_written 256 (part_of 255) decimal λ x h. decimal_part 255 x (omega arith) (omega arith)

pub part_lacks : (p : List ℕ) (x : ℕ) → part_of 255 p ≡ Some x → Lacks 46 p
unfolding digit_of
part_lacks p x e = no_digit 10 46 p (lit≤ tt) refl (part_digits 255 p x e).all

pub part_octet : (p : List ℕ) (x : ℕ) → part_of 255 p ≡ Some x → x < 256
part_octet p x e = omega (arith, part_most 255 p x e)
