-- What is claimed of a list put in the order of its keys. Assumes nothing.
use mathlib.Core.Path.{◌≡◌}
use mathlib.Core.Logic.{◌↔◌}
use mathlib.Core.List.{List, map, Permᴰ}
use Prim.Native.Nat.{ℕ, ◌≤◌, ◌<◌}
use lib.ListN.{length, get_or}
use Rattle.stable_sort.specs.Stable.{Rising, with_key, StableSort, sort_by}
use Rattle.stable_sort.specs.Indices.{InOrder}
use Rattle.stable_sort.proofs.StableLaws as laws
use Rattle.stable_sort.proofs.IndexLaws as indices

module _ {A : Type 0} (key : A → ℕ) where
  -- Sorting by insertion is a stable sort, and there is no other.
  pub sorts : (xs : List A) → StableSort key xs (sort_by key xs)
  sorts = laws.sort_is key

  pub only : (xs ys : List A) → StableSort key xs ys → ys ≡ sort_by key xs
  only = laws.sort_only key

  -- It has the elements of the given list, each as often as that.
  pub each_once : {xs ys : List A} → StableSort key xs ys → Permᴰ xs ys
  each_once s = s.each_once

  -- A list that rises and has the same elements of each key, in the same order, is that one: that each element stands in it once follows.
  pub these_suffice : (xs ys : List A) → Rising key ys → ((k : ℕ) → with_key key k ys ≡ with_key key k xs) → StableSort key xs ys
  these_suffice = laws.suffices key

  -- A list rises exactly if no key is above that of a later place.
  pub rising_exactly : (d : A) (xs : List A) → Rising key xs ↔ ((p q : ℕ) → p < q → q < length xs → key (get_or xs p d) ≤ key (get_or xs q d))
  rising_exactly d xs = (λ r. laws.rising_at key xs r d, laws.rising_of key xs d)

  -- A list that rises is sorted already, and so is what was sorted.
  pub risen : (xs : List A) → Rising key xs → sort_by key xs ≡ xs
  risen = laws.sort_rising key

  pub twice : (xs : List A) → sort_by key (sort_by key xs) ≡ sort_by key xs
  twice = laws.sort_twice key

  -- What stands at the indices in the order of their keys, equal keys by their indices, is the list sorted.
  pub by_indices : (d : A) (xs : List A) (l : List ℕ) → InOrder (λ (x : ℕ). key (get_or xs x d)) (length xs) l → map (λ (x : ℕ). get_or xs x d) l ≡ sort_by key xs
  by_indices = indices.order_sorts key
