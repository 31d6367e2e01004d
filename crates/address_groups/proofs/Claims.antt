-- What is claimed of groups. Assumes nothing.
use mathlib.Core.Path.{◌≡◌, ap₂}
use mathlib.Core.List.{List}
use Prim.Native.Nat.{ℕ, ◌^◌, ◌<◌}
use lib.Dec.{lit<}
use lib.ListN.{length, take, drop}
use Rattle.notation.specs.BigEndian.{AllBelow, number_of}
use Rattle.notation.proofs.DigitLaws.{halves_number, halves_digits}
use Rattle.address.specs.declared.Address.TheVariants.{V6}
use Rattle.address_groups.specs.Groups.{groups_of, groups_address}

-- The groups of two halves give the halves back, and the halves of eight groups the groups.
pub halves_of_groups : (hi lo : ℕ) → hi < 2 ^ 64 → lo < 2 ^ 64 → groups_address (groups_of hi lo) ≡ V6 hi lo
unfolding groups_address groups_of
halves_of_groups hi lo h l = let back = halves_number 65536 4 (lit< tt) hi lo h l in ap₂ V6 back.0 back.1

pub groups_of_halves : (gs : List ℕ) (hi lo : ℕ) → length gs ≡ 8 → AllBelow 65536 gs → groups_address gs ≡ V6 hi lo → groups_of hi lo ≡ gs
unfolding groups_address groups_of
groups_of_halves gs hi lo long small e =
    let h : number_of 65536 (take 4 gs) ≡ hi = cc in
    let l : number_of 65536 (drop 4 gs) ≡ lo = cc in
    rw (← h, ← l) (halves_digits 65536 4 (lit< tt) gs long small)
