-- The order of entries: what the rules have is what is sorted, and they have nothing else. Assumes nothing.
use mathlib.Core.Path.{◌≡◌, refl, sym, ap, ◌∙◌}
use mathlib.Core.Bool.{Bool, true, false, cond}
use mathlib.Core.List.Permᴰ
use mathlib.Core.List.{List, [], ◌∷◌, ◌++◌, Permᴰ}
use Prim.Native.Nat.{ℕ}
use native.Mathlib.Decide.{ℕ_discrete}
use native.Mathlib.Omega.{arith}
use borrow.Author.Tests.{leb-false}
use lib.Dec.{leb}
use Rattle.stable_sort.specs.Stable.{Rising, with_key, insert_by, sort_by}
use Rattle.stable_sort.proofs.StableLaws.{from_less, with_no, suffices, with_tail}
use Rattle.sheet_lines.specs.declared.Entry.{Entry}
use Rattle.sheet_lines.specs.Lines.{IsEntry}
use Rattle.sheet_answers.specs.Sheets.{AllEntries, place, entry_place, sorted, arranged}
use Rattle.sheet_answers.proofs.PlaceLaws.{place_only}
use Rattle.sheet_answers.proofs.ArrangedLaws.{perm_all, arranged_all, sorted_is, sorted_only}
use Rattle.sheet_grammar.specs.SheetForm.{InAddressOrder, no_next, last_one, then_next, LacksAddress, none_has, nor_this, UsedInTurn, none_left, and_used, Arranged, as_given_lem, by_address}
use Rattle.sheet_grammar.proofs.AddressOrderLaws.{not_after_place, place_not_after}

-- ---- in order

order_rising : {es : List Entry} → InAddressOrder es → AllEntries es → Rising entry_place es
order_rising no_next all = tt
order_rising last_one all = (tt, tt)
order_rising (then_next {e} {f} {es} n o) all =
    let rest = order_rising {es = f ∷ es} o all.1 in
    let next = not_after_place {a = e.address} {b = f.address} all.0.address all.1.0.address n in
    ((next, from_less entry_place (entry_place e) (entry_place f) es next rest.0), rest)

rising_order : (es : List Entry) → AllEntries es → Rising entry_place es → InAddressOrder es
rising_order [] all r = no_next
rising_order (e ∷ []) all r = last_one
rising_order (e ∷ f ∷ es) all r =
    then_next (place_not_after e.address f.address all.0.address all.1.0.address r.0.0) (rising_order (f ∷ es) all.1 r.1)

-- ---- each used once

pub used_perm : {es fs : List Entry} → UsedInTurn es fs → Permᴰ es fs
used_perm none_left = Permᴰ.nil
used_perm (and_used {e} before after l u) = Permᴰ.trans (Permᴰ.middle e before after) (Permᴰ.cons refl (used_perm u))

-- ---- in their old order

module _ (k : ℕ) where
  abbrev of_place : List Entry → List Entry
  of_place es = with_key entry_place k es

  -- entries of two places may be exchanged
  exchanged : (e f : Entry) (es : List Entry) → ¬ (entry_place f ≡ entry_place e) → of_place (f ∷ e ∷ es) ≡ of_place (e ∷ f ∷ es)
  exchanged e f es n = elim (ℕ_discrete (entry_place f) k) [
    | yes h ↦
        let other : ¬ (entry_place e ≡ k) = λ z. n (h ∙ sym z) in
        with_tail entry_place k f (e ∷ es) es (with_no entry_place k e es other) ∙ sym (with_no entry_place k e (f ∷ es) other)
    | no m ↦ with_no entry_place k f (e ∷ es) m ∙ with_tail entry_place k e es (f ∷ es) (sym (with_no entry_place k f es m))
  ]

  -- so an entry may be put before those of other addresses
  put_before : (e : Entry) → IsEntry e → (before after : List Entry) → AllEntries (before ++ after) → LacksAddress e.address before
      → of_place (before ++ e ∷ after) ≡ of_place (e ∷ (before ++ after))
  put_before e is [] after all l = refl
  put_before e is (f ∷ before) after all (nor_this n l) =
      with_tail entry_place k f (before ++ e ∷ after) (e ∷ (before ++ after)) (put_before e is before after all.1 l)
      ∙ exchanged e f (before ++ after) (λ h. n (place_only f.address e.address all.0.address is.address h))

  used_same : {es fs : List Entry} → UsedInTurn es fs → AllEntries fs → of_place fs ≡ of_place es
  used_same none_left all = refl
  used_same (and_used {e} before after {fs} l u) all =
      with_tail entry_place k e fs (before ++ after) (used_same u all.1)
      ∙ sym (put_before e all.0 before after (perm_all (Permᴰ.symm (used_perm u)) all.1) l)

-- ---- sorted

insert_used : (e : Entry) {es fs : List Entry} → UsedInTurn es fs → UsedInTurn (e ∷ es) (insert_by entry_place e fs)
unfolding insert_by
insert_used e none_left = and_used [] [] none_has none_left
insert_used e (and_used {e = f} before after {fs} l u) = go (leb (entry_place e) (entry_place f)) refl (insert_used e u)
  where
    go : (t : Bool) → leb (entry_place e) (entry_place f) ≡ t → UsedInTurn (e ∷ (before ++ after)) (insert_by entry_place e fs)
        → UsedInTurn (e ∷ (before ++ f ∷ after)) (cond t (e ∷ f ∷ fs) (f ∷ insert_by entry_place e fs))
    go true h v = and_used [] (before ++ f ∷ after) none_has (and_used before after l u)
    go false h v =
        let other : ¬ (e.address ≡ f.address) = λ z. omega (arith, leb-false (entry_place e) (entry_place f) h, ap place z) in
        and_used (e ∷ before) after (nor_this other l) v

sort_used : (es : List Entry) → UsedInTurn es (sort_by entry_place es)
unfolding sort_by
sort_used [] = none_left
sort_used (e ∷ es) = insert_used e (sort_used es)

pub arranged_has : (sort : Bool) (es : List Entry) → AllEntries es → Arranged sort es (arranged sort es)
unfolding sorted
arranged_has true es all = by_address (sort_used es) (rising_order (sorted es) (arranged_all true es all) (sorted_is es).rising)
arranged_has false es all = as_given_lem

pub arranged_only : {sort : Bool} {es fs : List Entry} → Arranged sort es fs → AllEntries es → fs ≡ arranged sort es
arranged_only as_given_lem all = refl
arranged_only (by_address {es} {fs} u o) all =
    let those = perm_all (used_perm u) all in
    sorted_only es fs (suffices entry_place es fs (order_rising o those) (λ k. used_same k u those))
