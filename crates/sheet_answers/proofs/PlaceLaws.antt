-- The order of addresses: IPv4 before IPv6, and those of a family as their numbers; entries that rise by it. Assumes nothing.
use mathlib.Core.Path.{◌≡◌, refl, sym, ap, ap₂, ◌∙◌}
use mathlib.Core.Logic.{◌⊎◌, inl, inr}
use mathlib.Core.Bool.{Bool, true, false, ◌&&◌, ◌||◌}
use mathlib.Core.List.{List, [], ◌∷◌}
use Prim.Native.Nat.{ℕ, zero, suc, ◌+◌, ◌/◌, ◌%◌, ◌^◌, ◌≤◌, ◌<◌}
use native.Mathlib.Omega.{arith}
use borrow.Author.Tests.{le-leb, lt-leb, leb-true, leb-false}
use lib.Dec.{leb, ltb, eqb, lit<}
use lib.ListN.{length, get_or}
use lib.Pow.{high, low}
use Rattle.address.specs.declared.Address.{Address}
use Rattle.address.specs.declared.Address.TheVariants.{V4, V6}
use Rattle.address.specs.Addresses.{IsAddress, family, number}
use Rattle.stable_sort.specs.Stable.{Rising}
use Rattle.stable_sort.proofs.StableLaws.{rising_at}
use Rattle.sheet_lines.specs.declared.Entry.{Entry}
use Rattle.sheet_lines.specs.Lines.{IsEntry}
use Rattle.sheet_answers.specs.Sheets.{place, entry_place, AllEntries}

shift : (k m n : ℕ) → leb (k + m) (k + n) ≡ leb m n
shift k m n = go (leb m n) refl
  where
    go : (b : Bool) → leb m n ≡ b → leb (k + m) (k + n) ≡ b
    go true e = le-leb (k + m) (k + n) (omega (arith, leb-true m n e))
    go false e = lt-leb (k + m) (k + n) (omega (arith, leb-false m n e))

cancel : (k m n : ℕ) → k + m ≡ k + n → m ≡ n
cancel k m n e = omega arith

pub places : (a b : Address) → IsAddress a → IsAddress b → leb (place a) (place b) ≡ (ltb (family a) (family b) || (eqb (family a) (family b) && leb (number a) (number b)))
places (V4 v) (V4 w) g h = refl
places (V4 v) (V6 hi lo) g h = le-leb (place (V4 v)) (place (V6 hi lo)) (omega arith)
places (V6 hi lo) (V4 w) g h = lt-leb (place (V6 hi lo)) (place (V4 w)) (omega arith)
places (V6 hi lo) (V6 i l) g h = shift (2 ^ 32) (number (V6 hi lo)) (number (V6 i l))

pub place_only : (a b : Address) → IsAddress a → IsAddress b → place a ≡ place b → a ≡ b
place_only (V4 v) (V4 w) g h e = ap V4 e
place_only (V4 v) (V6 hi lo) g h e = absurd (omega arith)
place_only (V6 hi lo) (V4 w) g h e = absurd (omega arith)
place_only (V6 hi lo) (V6 i l) g h e =
    let same = cancel (2 ^ 32) (number (V6 hi lo)) (number (V6 i l)) e in
    ap₂ V6 (sym (high hi 64 g.1) ∙ ap (λ (n : ℕ). n / 2 ^ 64) same ∙ high i 64 h.1) (sym (low hi 64 g.1) ∙ ap (λ (n : ℕ). n % 2 ^ 64) same ∙ low i 64 h.1)

-- ---- entries that rise

pub place_order : (a b : Address) → IsAddress a → IsAddress b → place a ≤ place b → (family a < family b) ⊎ ((family a ≡ family b) × (number a ≤ number b))
place_order (V4 v) (V4 w) g h l = inr (refl, l)
place_order (V4 v) (V6 hi lo) g h l = inl (lit< tt)
place_order (V6 hi lo) (V4 w) g h l = absurd (omega arith)
place_order (V6 hi lo) (V6 i k) g h l = inr (refl, less (2 ^ 32) (number (V6 hi lo)) (number (V6 i k)) l)
  where
    less : (k m n : ℕ) → k + m ≤ k + n → m ≤ n
    less k m n l = omega arith

-- an entry of some
all_at : (es : List Entry) → AllEntries es → (d : Entry) (p : ℕ) → p < length es → IsEntry (get_or es p d)
all_at [] a d p h = absurd (omega arith)
all_at (e ∷ es) a d zero h = a.0
all_at (e ∷ es) a d (suc p) h = all_at es a.1 d p (omega arith)

-- of two entries the later has an address of the higher family, or of the same family and no lower number
pub entries_order : (es : List Entry) → AllEntries es → Rising entry_place es → (d : Entry) (p q : ℕ) → p < q → q < length es
    → let a = (get_or es p d).address in let b = (get_or es q d).address in (family a < family b) ⊎ ((family a ≡ family b) × (number a ≤ number b))
entries_order es all r d p q l h =
    place_order (get_or es p d).address (get_or es q d).address (all_at es all d p (omega arith)).address (all_at es all d q h).address (rising_at entry_place es r d p q l h)
