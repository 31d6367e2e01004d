-- What a list is answered with, told by tests. Assumes nothing.
use mathlib.Core.Path.{◌≡◌, refl, sym, ap, ap₂, subst, ◌∙◌}
use mathlib.Core.Logic.{inl, inr}
use mathlib.Core.Bool.{Bool, true, false, cond}
use mathlib.Core.List.{List}
use Prim.Native.Nat.{ℕ, ◌*◌, ◌/◌, ◌%◌, ◌^◌, ◌≤◌, ◌<◌}
use native.Mathlib.Nat.{div-add-mod}
use native.Mathlib.Omega.{arith}
use borrow.Author.Tests.{ne_eqb, eq-eqb, lt-ltb, le-ltb}
use lib.Dec.{eqb}
use lib.ListN.{length}
use Rattle.address.specs.declared.Refusal.TheVariants.{Malformed, WrongFamily, TooMany}
use Rattle.address.specs.Answers.{refuses}
use Rattle.records.specs.Records.{record_size}
use Rattle.record_lists.specs.RecordLists.{is_family, family_width, most_records, record_count, list_answer}
use Rattle.record_lists.specs.Inner.{IsSize, size_width, records_answer}

-- ---- the width of a family

-- what holds of both widths
by_width : (P : ℕ → Type 0) → P 32 → P 128 → (f : ℕ) → P (family_width f)
by_width P four six f = go (eqb f 4)
  where
    go : (t : Bool) → P (cond t 32 128)
    go true = four
    go false = six

pub family_size : (f : ℕ) → IsSize (record_size (family_width f))
family_size = by_width (λ W. IsSize (record_size W)) (inl refl) (inr refl)

pub family_width_lem : (f : ℕ) → size_width (record_size (family_width f)) ≡ family_width f
family_width_lem = by_width (λ W. size_width (record_size W) ≡ W) refl refl

-- it is whole octets
pub family_octets : (f : ℕ) → 256 ^ (family_width f / 8) ≡ 2 ^ family_width f
family_octets = by_width (λ W. 256 ^ (W / 8) ≡ 2 ^ W) refl refl

-- ---- the answer

pub list_length : (size : ℕ) (bytes : List ℕ) → length bytes % size ≡ 0 → length bytes ≡ size * (length bytes / size)
list_length size bytes w = omega (arith, w, div-add-mod (length bytes) size)

module _ (f : ℕ) (bytes : List ℕ) where
  pub list_unknown : is_family f ≡ false → refuses (0, false) WrongFamily ≡ list_answer f bytes
  unfolding list_answer
  list_unknown u = rw u

  module _ (k : is_family f ≡ true) (size : ℕ) (s : size ≡ record_size (family_width f)) where
    pub list_partial : ¬ (length bytes % size ≡ 0) → refuses (0, false) Malformed ≡ list_answer f bytes
    unfolding list_answer
    list_partial p = rw (k, ne_eqb _ 0 (subst (λ (n : ℕ). ¬ (length bytes % n ≡ 0)) s p))

    module _ (w : length bytes % size ≡ 0) where
      whole : eqb (length bytes % record_size (family_width f)) 0 ≡ true
      whole = eq-eqb _ 0 (ap (λ (n : ℕ). length bytes % n) (sym s) ∙ w)

      pub list_many : most_records < length bytes / size → refuses (0, false) TooMany ≡ list_answer f bytes
      unfolding list_answer
      list_many m = rw (k, whole, lt-ltb most_records (record_count f bytes) (subst (λ (n : ℕ). most_records < length bytes / n) s m))

      pub list_read : length bytes / size ≤ most_records → records_answer (size_width size) (length bytes / size) bytes ≡ list_answer f bytes
      unfolding list_answer records_answer
      list_read m =
          rw (k, whole, le-ltb most_records (record_count f bytes) (subst (λ (n : ℕ). length bytes / n ≤ most_records) s m))
          (ap₂ (λ (W n : ℕ). records_answer W n bytes) (ap size_width s ∙ family_width_lem f) (ap (λ (n : ℕ). length bytes / n) s))
