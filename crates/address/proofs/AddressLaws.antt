-- The order of two addresses told by tests, and what the type of an address tells. Assumes nothing.
use Rattle.std.specs.Prelude.{Option, Some, None}
use Rattle.std.specs.Ordering.{partial_lt}
use Rattle.std.specs.declared.cmp.Ordering.{Ordering}
use Rattle.std.specs.declared.cmp.Ordering.TheVariants.{Less, Equal, Greater}
use mathlib.Core.Path.{◌≡◌, refl, sym, ap, subst, ◌∙◌}
use mathlib.Core.Logic.{◌↔◌}
use mathlib.Core.Bool.{true, false, ◌&&◌}
use mathlib.Core.List.{[], ◌∷◌}
use Prim.Native.Nat.{◌<◌}
use native.Mathlib.Decide.{dec_lt, ℕ_discrete}
use native.Mathlib.Omega.{arith}
use borrow.Author.Tests.{eq-eqb, ne_eqb, lt-ltb, le-ltb}
use denote.Laws.{Is}
use denote.Enum.Declared.{row}
use denote.Enum.Laws.{val}
use Rattle.std.proofs.lemmas.Grind.{common_steps}
use lib.Dec.{ltb, eqb}
use Rattle.address.specs.declared.Address.{Address}
use Rattle.address.specs.declared.Address.TheVariants.{V4, V6}
use Rattle.address.specs.declared.Block.{Block}
use Rattle.address.specs.Addresses.{family, width, number, IsAddress, address_order, same_address}
use Rattle.address.specs.Blocks.{same_block}
use Rattle.address.specs.Order.{parts_order}
use Rattle.address.specs.contracts.AddressPartialEq.TheImpl as equality
use Rattle.address.specs.contracts.AddressPartialOrd.TheImpl as order
use Rattle.address.specs.contracts.BlockPartialEq.TheImpl as block_equality
use Rattle.address.specs.contracts.Address.{the_type}
use Rattle.address.proofs.Address.TheLaws.{the_laws}

pub order_apart : (a b : Address) → ¬ (family a ≡ family b) → address_order a b ≡ None
order_apart a b n = rw (ne_eqb (family a) (family b) n)

module _ (a b : Address) (e : family a ≡ family b) where
  pub order_below : ltb (number a) (number b) ≡ true → address_order a b ≡ Some Less
  order_below l = rw (eq-eqb (family a) (family b) e, l)

  module _ (l : ltb (number a) (number b) ≡ false) where
    pub order_same : eqb (number a) (number b) ≡ true → address_order a b ≡ Some Equal
    order_same s = rw (eq-eqb (family a) (family b) e, l, s)

    pub order_above : eqb (number a) (number b) ≡ false → address_order a b ≡ Some Greater
    order_above s = rw (eq-eqb (family a) (family b) e, l, s)

-- ---- the order of two addresses told by their families and numbers

abbrev Told : Address → Address → Option Ordering → Type 0
Told a b (Some Less) = (family a ≡ family b) × (number a < number b)
Told a b (Some Equal) = (family a ≡ family b) × (number a ≡ number b)
Told a b (Some Greater) = (family a ≡ family b) × (number b < number a)
Told a b None = ¬ (family a ≡ family b)

tells : (a b : Address) (o : Option Ordering) → Told a b o → address_order a b ≡ o
tells a b (Some Less) h = order_below a b h.0 (lt-ltb (number a) (number b) h.1)
tells a b (Some Equal) h = order_same a b h.0 (le-ltb (number a) (number b) (omega (arith, h.1))) (eq-eqb (number a) (number b) h.1)
tells a b (Some Greater) h = order_above a b h.0 (le-ltb (number a) (number b) (omega (arith, h.1))) (ne_eqb (number a) (number b) (omega (arith, h.1)))
tells a b None n = order_apart a b n

some_order : (a b : Address) → (o : Option Ordering) × Told a b o
some_order a b = elim (ℕ_discrete (family a) (family b)) [
  | yes e ↦ elim (dec_lt (number a) (number b)) [
    | yes l ↦ (Some Less, (e, l))
    | no n ↦ elim (ℕ_discrete (number a) (number b)) [
      | yes q ↦ (Some Equal, (e, q))
      | no m ↦ (Some Greater, (e, omega (arith, n, m)))
    ]
  ]
  | no n ↦ (None, n)
]

pub order_exactly : (a b : Address) (o : Option Ordering) → (address_order a b ≡ o) ↔ Told a b o
order_exactly a b o = (λ e. let s = some_order a b in subst (Told a b) (sym (tells a b s.0 s.1) ∙ e) s.1, tells a b o)

-- ---- an address carries its kind

pub width_follows : (a b : Address) → family a ≡ family b → width a ≡ width b
width_follows (V4 v) (V4 w) e = refl
width_follows (V4 v) (V6 hi lo) e = absurd (omega arith)
width_follows (V6 hi lo) (V4 v) e = absurd (omega arith)
width_follows (V6 hi lo) (V6 h l) e = refl

-- what the type of a parameter tells
pub is_address : (a : Address) → Is (row the_type) a (val the_type the_laws a ∷ []) → IsAddress a
is_address (V4 v) h = omega arith
is_address (V6 hi lo) h = (omega arith, omega arith)

-- ---- the comparisons of the code, which are by the parts

-- the order by the parts is that of the numbers
pub order_means : (a b : Address) → IsAddress a → IsAddress b → parts_order a b ≡ address_order a b
order_means (V4 v) (V4 w) h k = refl
order_means (V4 v) (V6 hi lo) h k = refl
order_means (V6 hi lo) (V4 w) h k = refl
order_means (V6 hi lo) (V6 x y) h k = grind (arith, common_steps, h.0, h.1, k.0, k.1)

-- within a family the lower number is below
pub less_means : (a b : Address) → IsAddress a → IsAddress b → family a ≡ family b → partial_lt order.ghosts.partial_cmp a b ≡ ltb (number a) (number b)
less_means (V4 v) (V4 w) h k e = grind (arith, common_steps)
less_means (V4 v) (V6 hi lo) h k e = absurd (omega arith)
less_means (V6 hi lo) (V4 w) h k e = absurd (omega arith)
less_means (V6 hi lo) (V6 x y) h k e = grind (arith, common_steps, h.0, h.1, k.0, k.1)

pub equal_means : (a b : Address) → IsAddress a → IsAddress b → equality.ghosts.eq a b ≡ same_address a b
equal_means (V4 v) (V4 w) h k = refl
equal_means (V4 v) (V6 hi lo) h k = refl
equal_means (V6 hi lo) (V4 w) h k = refl
equal_means (V6 hi lo) (V6 x y) h k = grind (arith, common_steps, h.0, h.1, k.0, k.1)

pub block_equal_means : (a b : Block) → IsAddress a.address → IsAddress b.address → block_equality.ghosts.eq a b ≡ same_block a b
block_equal_means a b h k = ap (λ t. t && eqb a.length b.length) (equal_means a.address b.address h k)
