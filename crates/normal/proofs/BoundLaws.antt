-- How long a normal text is at most. Assumes nothing.
use mathlib.Core.Path.{◌≡◌, refl}
use mathlib.Core.Bool.{Bool, true, false, cond}
use mathlib.Core.List.{List, ◌∷◌}
use Prim.Native.Nat.{ℕ, ◌+◌, ◌-◌, ◌*◌, ◌≤◌}
use native.Mathlib.Omega.{arith}
use borrow.Author.Tests.{ltb-false}
use lib.Dec.{ltb, lit≤, lit<}
use lib.ListN.{length, take, drop, length-append, length-drop}
use lib.Seq.{length-take-le}
use Rattle.notation.proofs.DigitLaws.{digits_length}
use Rattle.address.specs.declared.Address.{Address}
use Rattle.address.specs.declared.Address.TheVariants.{V4, V6}
use Rattle.address.specs.Addresses.{number}
use Rattle.address_groups.specs.Groups.{groups_of}
use Rattle.digits.proofs.SeparatedNumeralLaws.{numerals_most}
use Rattle.ipv4_text.proofs.DottedLaws.{dotted_most}
use Rattle.zero_runs.specs.Runs.{longest_run, first_run}
use Rattle.zero_runs.proofs.RunLaws.{run_is}
use Rattle.normal.specs.Normal.{groups_text, shortened, normal_groups, normal_text}

pub text_4_most : (v : ℕ) → length (normal_text (V4 v)) ≤ 15
unfolding normal_text
text_4_most = dotted_most

groups_most : (gs : List ℕ) → length (groups_text gs) ≤ 5 * length gs - 1
unfolding groups_text
groups_most = numerals_most 16 4 58 (lit≤ tt) (lit< tt) (lit≤ tt)

-- `::` for two or more groups is shorter than they are
shortened_most : (gs : List ℕ) (s n : ℕ) → length gs ≡ 8 → s + n ≤ 8 → 2 ≤ n → length (shortened s n gs) ≤ 39
unfolding shortened
shortened_most gs s n e h two =
    omega (
      arith,
      length-append (groups_text (take s gs)) (58 ∷ 58 ∷ groups_text (drop (s + n) gs)),
      groups_most (take s gs),
      length-take-le s gs (omega arith),
      groups_most (drop (s + n) gs),
      length-drop (s + n) gs,
    )

pub text_6_most : (hi lo : ℕ) → length (normal_text (V6 hi lo)) ≤ 39
unfolding normal_text groups_of
text_6_most hi lo = go (groups_of hi lo) (digits_length 65536 8 (number (V6 hi lo)))
  where
    go : (gs : List ℕ) → length gs ≡ 8 → length (normal_groups gs) ≤ 39
    go gs e = pick (ltb (longest_run gs) 2) refl
      where
        pick : (b : Bool) → ltb (longest_run gs) 2 ≡ b → length (cond b (groups_text gs) (shortened (first_run (longest_run gs) gs) (longest_run gs) gs)) ≤ 39
        pick true q = omega (arith, groups_most gs)
        pick false q = shortened_most gs (first_run (longest_run gs) gs) (longest_run gs) e (omega (arith, (run_is gs).run.inside)) (ltb-false (longest_run gs) 2 q)

pub text_most : (a : Address) → length (normal_text a) ≤ 39
text_most (V4 v) = omega (arith, text_4_most v)
text_most (V6 hi lo) = text_6_most hi lo
