-- The order of addresses as the code tells it, by their parts, and its laws, which `PartialOrd` asks for of any two values: also of those whose parts
-- have more bits than the code's type gives them. Of addresses it is `address_order` (`order_means` of proofs/Claims.antt). Assumes nothing.
use Rattle.std.specs.Prelude.{◌≡◌, ℕ, true, Option, Some, None}
use mathlib.Core.Path.{refl, sym, ap}
use mathlib.Core.Bool.{true≢false}
use borrow.Author.Rules.{rules}
use Rattle.std.specs.Bool.{Decides}
use Rattle.std.specs.Option.{option_map}
use Rattle.std.specs.declared.cmp.Ordering.{Ordering}
use Rattle.std.specs.declared.cmp.Ordering.TheVariants.{Less, Equal, Greater}
use Rattle.std.specs.Ordering.{nat_cmp, ordering_then, ordering_reverse, then_cmp, as_partial_cmp, eq_by_cmp, on, is_eq, is_lt, is_some_and}
use Rattle.std.specs.Cmp.{IsPartialOrder, IsTotalOrder, nat_cmp_total, partial_order_from_total}
use Rattle.std.specs.Cmp.Rules.{comparing}
use Rattle.address.specs.declared.Address.{Address}
use Rattle.address.specs.declared.Address.TheVariants.{V4, V6}

abbrev pub parts_order : Address → Address → Option Ordering
parts_order (V4 v) (V4 w) = Some (nat_cmp v w)
parts_order (V4 v) (V6 hi lo) = None
parts_order (V6 hi lo) (V4 w) = None
parts_order (V6 hi lo) (V6 h l) = Some (ordering_then (nat_cmp hi h) (nat_cmp lo l))

-- the order of two halves each, which is total
abbrev pair_cmp : ℕ × ℕ → ℕ × ℕ → Ordering
pair_cmp = then_cmp (on (λ p. p.0) nat_cmp) (on (λ p. p.1) nat_cmp)

pair_total : IsTotalOrder pair_cmp
pair_total = search (comparing, rules)

pub parts_po : IsPartialOrder (λ a b. is_some_and is_eq (parts_order a b)) parts_order
parts_po = record { antisymm = swap; trans = chain; matches_eq = λ a b. level (parts_order a b); congr = alike }
  where
    narrow : IsPartialOrder (eq_by_cmp nat_cmp) (as_partial_cmp nat_cmp)
    narrow = partial_order_from_total nat_cmp_total

    broad : IsPartialOrder (eq_by_cmp pair_cmp) (as_partial_cmp pair_cmp)
    broad = partial_order_from_total pair_total

    swap : (a b : Address) → parts_order a b ≡ option_map ordering_reverse (parts_order b a)
    swap (V4 v) (V4 w) = narrow.antisymm v w
    swap (V4 v) (V6 hi lo) = refl
    swap (V6 hi lo) (V4 w) = refl
    swap (V6 hi lo) (V6 h l) = broad.antisymm (hi, lo) (h, l)

    chain : (a b c : Address) → parts_order a b ≡ Some Less → parts_order b c ≡ Some Less → parts_order a c ≡ Some Less
    chain (V4 u) (V4 v) (V4 w) p q = narrow.trans u v w p q
    chain (V6 hi lo) (V6 h l) (V6 x y) p q = broad.trans (hi, lo) (h, l) (x, y) p q
    chain (V4 u) (V4 v) (V6 x y) p q = absurd (true≢false (sym (ap (is_some_and is_lt) q)))
    chain (V4 u) (V6 h l) c p q = absurd (true≢false (sym (ap (is_some_and is_lt) p)))
    chain (V6 hi lo) (V4 v) c p q = absurd (true≢false (sym (ap (is_some_and is_lt) p)))
    chain (V6 hi lo) (V6 h l) (V4 w) p q = absurd (true≢false (sym (ap (is_some_and is_lt) q)))

    level : (o : Option Ordering) → Decides (is_some_and is_eq o) (o ≡ Some Equal)
    level None = (λ e. absurd (true≢false (sym e)), λ e. ap (is_some_and is_eq) e)
    level (Some Less) = (λ e. absurd (true≢false (sym e)), λ e. ap (is_some_and is_eq) e)
    level (Some Equal) = (λ e. refl, λ e. refl)
    level (Some Greater) = (λ e. absurd (true≢false (sym e)), λ e. ap (is_some_and is_eq) e)

    alike : (a b c : Address) → is_some_and is_eq (parts_order a b) ≡ true → parts_order a c ≡ parts_order b c
    alike (V4 u) (V4 v) (V4 w) p = narrow.congr u v w p
    alike (V4 u) (V4 v) (V6 x y) p = refl
    alike (V6 hi lo) (V6 h l) (V6 x y) p = broad.congr (hi, lo) (h, l) (x, y) p
    alike (V6 hi lo) (V6 h l) (V4 w) p = refl
    alike (V4 u) (V6 h l) c p = absurd (true≢false (sym p))
    alike (V6 hi lo) (V4 v) c p = absurd (true≢false (sym p))
