-- No accepted text is longer than 45 bytes. Assumes nothing.
use mathlib.Core.Path.{◌≡◌, ap}
use mathlib.Core.Logic.{inl, inr}
use mathlib.Core.List.{List}
use Prim.Native.Nat.{ℕ, zero, suc, ◌+◌, ◌*◌, ◌≤◌}
use native.Mathlib.Omega.{arith}
use lib.ListN.{length, length-append}
use Rattle.place.proofs.LongestLaws.{Ends, Either, ByteThen, PieceThen}
use Rattle.place.proofs.FrontLaws.{part_short, Group, group_short}
use Rattle.place.proofs.DottedLaws.{Parts}
use Rattle.place.proofs.GroupsLaws.{AtMost, Behind, Groups, Eight}

ends_length : {w : List ℕ} → Ends w → length w ≡ 0
ends_length e = omega (arith, ap length e)

byte_length : {b : ℕ} {A : List ℕ → Type 0} {w : List ℕ} (m : ByteThen b A w) → length w ≡ suc (length m.rest)
byte_length m = omega (arith, ap length m.is)

piece_length : {P A : List ℕ → Type 0} {w : List ℕ} (m : PieceThen P A w) → length w ≡ length m.piece + length m.rest
piece_length m = omega (arith, ap length m.is, length-append m.piece m.rest)

pub parts_length : (n : ℕ) (w : List ℕ) → Parts n w → length w ≤ 4 * n + 3
parts_length zero w m = omega (arith, piece_length m, part_short m.piece m.good, ends_length m.then)
parts_length (suc n) w m = omega (arith, piece_length m, part_short m.piece m.good, byte_length m.then, parts_length n m.then.rest m.then.then)

some_length : (n : ℕ) (w : List ℕ) → AtMost n w → length w ≤ 5 * n + 10
some_length zero w m = omega (arith, piece_length m, group_short m.piece m.good, ends_length m.then)
some_length (suc n) w (inl m) = omega (arith, parts_length 3 w m)
some_length (suc n) w (inr m) = go m.then (λ u. some_length n u)
  where
    go : Either Ends (ByteThen 58 (AtMost n)) m.rest → ((u : List ℕ) → AtMost n u → length u ≤ 5 * n + 10) → length w ≤ 5 * suc n + 10
    go (inl e) ih = omega (arith, piece_length m, group_short m.piece m.good, ends_length e)
    go (inr b) ih = omega (arith, piece_length m, group_short m.piece m.good, byte_length b, ih b.rest b.then)

behind_length : (n : ℕ) (w : List ℕ) → Behind n w → length w ≤ 5 * n + 5
behind_length zero w e = omega (arith, ends_length e)
behind_length (suc n) w (inl e) = omega (arith, ends_length e)
behind_length (suc n) w (inr m) = omega (arith, some_length n w m)

group_length : (n : ℕ) (w : List ℕ) → PieceThen Group (ByteThen 58 (Either (ByteThen 58 (Behind n)) (Groups n))) w → ((u : List ℕ) → Groups n u → length u ≤ 5 * n + 10) → length w ≤ 5 * suc n + 10
group_length n w m ih = go m.then.then
  where
    go : Either (ByteThen 58 (Behind n)) (Groups n) m.then.rest → length w ≤ 5 * suc n + 10
    go (inl b) = omega (arith, piece_length m, group_short m.piece m.good, byte_length m.then, byte_length b, behind_length n b.rest b.then)
    go (inr g) = omega (arith, piece_length m, group_short m.piece m.good, byte_length m.then, ih m.then.rest g)

groups_length : (n : ℕ) (w : List ℕ) → Groups n w → length w ≤ 5 * n + 10
groups_length zero w m = omega (arith, piece_length m, group_short m.piece m.good, ends_length m.then)
groups_length (suc zero) w (inl m) = omega (arith, parts_length 3 w m)
groups_length (suc zero) w (inr m) = group_length zero w m (groups_length zero)
groups_length (suc (suc n)) w m = group_length (suc n) w m (groups_length (suc n))

pub eight_length : (w : List ℕ) → Eight w → length w ≤ 45
eight_length w (inl m) = omega (arith, byte_length m, byte_length m.then, behind_length 7 m.then.rest m.then.then)
eight_length w (inr m) = omega (arith, groups_length 7 w m)
