-- IPv6 text: how far a text goes on as one. Assumes nothing.
use mathlib.Core.Path.{◌≡◌, refl, ap}
use mathlib.Core.Logic.{inl, inr}
use mathlib.Core.Bool.{false}
use mathlib.Core.List.{List}
use Prim.Native.Nat.{ℕ, zero, suc, ◌≤◌}
use native.Mathlib.Nat.{zero-max}
use native.Mathlib.Omega.{arith}
use borrow.Author.Tests.{ne_eqb}
use lib.Dec.{eqb, lit≤}
use lib.ListN.{length}
use Rattle.digits.specs.Numerals.{digit_of}
use Rattle.digits.proofs.NumeralLaws.{no_digit, group_digits}
use Rattle.notation.specs.Pieces.{Lacks}
use Rattle.place.specs.Place.{behind_place, groups_place, eight_place}
use Rattle.place.proofs.LongestLaws.{Agree, agree_right, Longest, Ends, ends_longest, Either, either_longest, ByteThen, byte_longest, PieceThen, Stops, piece_longest}
use Rattle.place.proofs.FrontLaws.{Group, group_fronts}
use Rattle.place.proofs.DottedLaws.{Parts, parts_longest, lacks_stops, ends_stop}

-- ---- the rule

-- up to n groups and one more, with single colons; the last two may be one IPv4 text
abbrev pub AtMost : ℕ → List ℕ → Type 0
AtMost zero w = PieceThen Group Ends w
AtMost (suc n) w = Either (Parts 3) (PieceThen Group (Either Ends (ByteThen 58 (AtMost n)))) w

-- up to n groups, or none
abbrev pub Behind : ℕ → List ℕ → Type 0
Behind zero w = Ends w
Behind (suc n) w = Either Ends (AtMost n) w

-- n groups and one more, with single colons, or with `::` for one or more of them but the first
abbrev pub Groups : ℕ → List ℕ → Type 0
Groups zero w = PieceThen Group Ends w
Groups (suc zero) w = Either (Parts 3) (PieceThen Group (ByteThen 58 (Either (ByteThen 58 (Behind zero)) (Groups zero)))) w
Groups (suc (suc n)) w = PieceThen Group (ByteThen 58 (Either (ByteThen 58 (Behind (suc n))) (Groups (suc n)))) w

abbrev pub Eight : List ℕ → Type 0
Eight w = Either (ByteThen 58 (ByteThen 58 (Behind 7))) (Groups 7) w

-- ---- how far

or_ends : {A : List ℕ → Type 0} {t : List ℕ} {p : ℕ} → Longest A t p → Longest (Either Ends A) t p
or_ends {A} {t} {p} l = record { text = l.text; accepted = inr l.accepted; agrees = l.agrees; most = most }
  where
    most : (w : List ℕ) (q : ℕ) → Either Ends A w → Agree q t w → q ≤ p
    most w q (inl e) a = omega (arith, agree_right a, ap length e)
    most w q (inr x) a = l.most w q x a

pub group_lacks : (p : List ℕ) → Group p → Lacks 58 p
unfolding digit_of
group_lacks p (x, e) = no_digit 16 58 p (lit≤ tt) refl (group_digits p x e).0.all

colon_stops : (A : List ℕ → Type 0) → Stops Group (ByteThen 58 A)
colon_stops A = lacks_stops 58 Group A group_lacks

end_or_colon_stops : (A : List ℕ → Type 0) → Stops Group (Either Ends (ByteThen 58 A))
end_or_colon_stops A x u (inl e) = ends_stop Group x u e
end_or_colon_stops A x u (inr m) = colon_stops A x u m

some_longest : (n : ℕ) (t : List ℕ) → Longest (AtMost n) t (behind_place (suc n) t)
unfolding behind_place
some_longest zero t = piece_longest group_fronts ends_longest (ends_stop Group) t
some_longest (suc n) t =
    either_longest (parts_longest 3 t) (piece_longest group_fronts (λ u. or_ends (byte_longest 58 (some_longest n) u)) (end_or_colon_stops (AtMost n)) t)

pub behind_longest : (n : ℕ) (t : List ℕ) → Longest (Behind n) t (behind_place n t)
unfolding behind_place
behind_longest zero t = ends_longest t
behind_longest (suc n) t = or_ends (some_longest n t)

pub groups_longest : (n : ℕ) (t : List ℕ) → Longest (Groups n) t (groups_place n t)
unfolding groups_place
groups_longest zero t = piece_longest group_fronts ends_longest (ends_stop Group) t
groups_longest (suc zero) t =
    either_longest (parts_longest 3 t)
    (piece_longest group_fronts (byte_longest 58 (λ u. either_longest (byte_longest 58 (behind_longest zero) u) (groups_longest zero u))) (colon_stops _) t)
groups_longest (suc (suc n)) t =
    let several : eqb (suc n) 0 ≡ false = ne_eqb (suc n) 0 (λ e. omega arith) in
    rw (several, zero-max)
    (piece_longest group_fronts (byte_longest 58 (λ u. either_longest (byte_longest 58 (behind_longest (suc n)) u) (groups_longest (suc n) u))) (colon_stops _) t)

pub eight_longest : (t : List ℕ) → Longest Eight t (eight_place t)
unfolding eight_place
eight_longest t = either_longest (byte_longest 58 (byte_longest 58 (behind_longest 7)) t) (groups_longest 7 t)
