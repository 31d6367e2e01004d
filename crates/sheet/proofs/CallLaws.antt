-- The order that the sort finds, the rows put in it, and what the call answers. Assumes nothing.
use Rattle.std.specs.Prelude.{None, Some, Option}
use mathlib.Core.Path.{◌≡◌, refl, sym, ap, ◌∙◌, subst}
use mathlib.Core.Logic.{◌⊎◌, inl, inr}
use mathlib.Core.Bool.{Bool, true, false, cond}
use mathlib.Core.List.{List, ◌++◌}
use Prim.Native.Nat.{ℕ, ◌+◌, ◌*◌, ◌^◌, ◌≤◌, ◌<◌}
use native.Mathlib.Decide.{dec_lt}
use native.Mathlib.Omega.{arith}
use borrow.Author.Tests.{ltb-true, ltb-false}
use lib.Dec.{ltb}
use lib.ListN.{length, get_or, set, take}
use lib.Seq.{get_or-take, length-take-le, get_or-set_same, get_or-set_other}
use Rattle.address.specs.declared.Address.TheVariants.{V4}
use Rattle.address.specs.declared.Refusal.TheVariants.{Malformed, TooMany}
use Rattle.address.specs.Answers.{refuses, refusal_number, write_answer, write_leaves}
use Rattle.output.specs.Placing.{Puts}
use Rattle.output.proofs.PlacingLaws.{puts_then, puts_whole}
use Rattle.sort.specs.Order.{key, Before, Ordered, Sorted, Sorting}
use Rattle.sort.proofs.Claims.{room_true}
use Rattle.stable_sort.specs.Indices.{Once, InOrder}
use Rattle.stable_sort.proofs.StableLaws.{perm_length}
use Rattle.stable_sort.proofs.IndexLaws.{order_sorts}
use Rattle.sheet_lines.specs.declared.Entry.{Entry}
use Rattle.sheet_answers.specs.Sheets.{sheet_of, sheet_lines, sheet_text, AllEntries, sorted, arranged}
use Rattle.sheet_answers.specs.SheetAnswers.{most_bytes, most_lines, sheet_refusal, respell_answer, respell_leaves}
use Rattle.sheet_answers.proofs.SheetLaws.{text_most}
use Rattle.sheet_answers.proofs.ArrangedLaws.{arranged_perm, arranged_all}
use Rattle.sheet_answers.proofs.RefusalLaws.{too_many, malformed, not_refused, refused_by_lem, respelled_some}
use Rattle.sheet_answers.proofs.RespellLaws.{entries_all, as_many}
use Rattle.sheet.specs.Inner.{ReadsRows, fault_of, Picks, row_at, picked, entry_number, Sorts, of_family}
use Rattle.sheet.proofs.FamilyLaws.{by_family, sorted_families}
use Rattle.sheet.proofs.PutLaws.{text_append}

-- ---- keys

-- the halves at the first k places are the numbers of the first k rows
abbrev pub Keyed : List ℕ → List ℕ → List Entry → ℕ → Type 0
Keyed hi lo rows k = (i : ℕ) → i < k → get_or hi i 0 * 2 ^ 64 + get_or lo i 0 ≡ entry_number (row_at rows i)

pub keyed_on : (hi lo : List ℕ) (rows : List Entry) (k : ℕ) → Keyed hi lo rows k → k < length hi → k < length lo → (h l : ℕ) → h * 2 ^ 64 + l ≡ entry_number (row_at rows k)
    → Keyed (set hi k h) (set lo k l) rows (k + 1)
keyed_on hi lo rows k f u v h l e i b = elim (dec_lt i k) [
  | yes m ↦
      let other : ¬ (i ≡ k) = λ z. omega arith in
      rw (get_or-set_other hi k i h 0 other, get_or-set_other lo k i l 0 other) (f i m)
  | no m ↦
      let here : i ≡ k = omega arith in
      rw here (rw (get_or-set_same hi k h 0 u, get_or-set_same lo k l 0 v) e)
]

-- ---- in order

module _ (hi lo : List ℕ) (rows : List Entry) (few : length rows ≤ most_lines) (for_hi : length hi ≡ most_lines) (for_lo : length lo ≡ most_lines) (keyed : Keyed hi lo rows (length rows))
    {old order : List ℕ} (places : length old ≡ most_lines) {answer : Bool} (s : Sorting (take (length rows) hi) (take (length rows) lo) old answer order) where
  abbrev n : ℕ
  n = length rows

  halves : (length (take n hi) ≡ n) × (length (take n lo) ≡ n)
  halves = (length-take-le n hi (omega (arith, few, for_hi)), length-take-le n lo (omega (arith, few, for_lo)))

  -- there is room
  done : Sorted (take n hi) (take n lo) old order
  done =
      let h = halves in
      s.done (room_true answer s (record { paired = h.1 ∙ sym h.0; few = omega (arith, few, h.0); placed = omega (arith, few, h.0, places) }))

  ordered : Ordered (take n hi) (take n lo) n order
  ordered = subst (λ (k : ℕ). Ordered (take n hi) (take n lo) k order) halves.0 done.order

  order_size : length order ≡ most_lines
  order_size = done.size ∙ places

  long : length (take n order) ≡ n
  long = length-take-le n order (omega (arith, few, order_size))

  at : (p : ℕ) → p < n → get_or (take n order) p 0 ≡ get_or order p 0
  at p h = get_or-take n order p 0 h

  inside : Picks rows (take n order)
  inside p h = let l : p < n = omega (arith, long) in rw (at p l) (ordered.inside p l)

  number_at : (x : ℕ) → x < n → key (take n hi) (take n lo) x ≡ entry_number (row_at rows x)
  unfolding key
  number_at x h = rw (get_or-take n hi x 0 h, get_or-take n lo x 0 h) (keyed x h)

  once : Once n (take n order)
  once =
      let o = ordered in
      record {
        size = long;
        inside = λ p h. rw (at p h) (o.inside p h);
        each = λ x h. let e = o.each x h in (e.0, e.1, at e.0 e.1 ∙ e.2);
        once = λ p q g h e. o.once p q g h (sym (at p g) ∙ e ∙ at q h);
      }

  in_order : InOrder (λ (x : ℕ). entry_number (row_at rows x)) n (take n order)
  in_order = record { places = once; rising = λ p q g h. turn p q g h (ordered.rising p q g h) }
    where
      turn : (p q : ℕ) → p < q → q < n → Before (take n hi) (take n lo) (get_or order p 0) (get_or order q 0)
          → (entry_number (row_at rows (get_or (take n order) p 0)) < entry_number (row_at rows (get_or (take n order) q 0)))
          ⊎ ((entry_number (row_at rows (get_or (take n order) p 0)) ≡ entry_number (row_at rows (get_or (take n order) q 0))) × (get_or (take n order) p 0 < get_or (take n order) q 0))
      turn p q g h b =
          let l : p < n = omega arith in
          rw (at p l, at q h, ← number_at (get_or order p 0) (ordered.inside p l), ← number_at (get_or order q 0) (ordered.inside q h)) b

  pub order_sorted : Sorts rows (take n order)
  order_sorted =
      record { picks = inside; rising = order_sorts entry_number (record { address = V4 0; volume = 0; ph = 0 }) rows (take n order) in_order }

-- ---- put

-- the rows of IPv4 in that order, and behind them those of IPv6
pub put_families : {rows : List Entry} {order : List ℕ} → AllEntries rows → Sorts rows order → {a b c : List ℕ} {i r : ℕ} → Puts a b 0 i (sheet_text (of_family 4 (picked rows order)))
    → Puts b c i r (sheet_text (of_family 6 (picked rows order))) → Puts a c 0 r (sheet_text (sorted rows))
put_families {rows} {order} valid s {a} {b} {c} {i} {r} p q =
    let es = picked rows order in
    let text : sheet_text (of_family 4 es) ++ sheet_text (of_family 6 es) ≡ sheet_text (sorted rows) =
    sym (text_append (of_family 4 es) (of_family 6 es)) ∙ ap (λ l. sheet_text (by_family l)) s.rising ∙ ap sheet_text (sorted_families rows valid) in
    subst (Puts a c 0 r) text (puts_then p q)

-- the text of all rows fits 53,248 bytes
pub text_whole : (sort : Bool) (rows : List Entry) → length rows ≤ most_lines → AllEntries rows → {old new : List ℕ} {r : ℕ} → 53248 ≤ length old
    → Puts old new 0 r (sheet_text (arranged sort rows)) → take r new ≡ sheet_text (arranged sort rows)
text_whole sort rows few valid {old} {new} {r} room p =
    let most = text_most (arranged sort rows) (arranged_all sort rows valid) in
    let many = perm_length (arranged_perm sort rows) in
    (puts_whole p (omega (arith, few, most, many))).1

-- ---- the call

module _ (t : List ℕ) (rows : List Entry) (short : length t ≤ most_bytes) (r : Option ℕ) (reads : ReadsRows t rows r) where
  -- a sheet that was not read
  pub call_refused : r ≡ None → (sort : Bool) (old : List ℕ)
      → (refuses 0 (fault_of t) ≡ respell_answer sort t old) × (old ≡ respell_leaves sort t old)
  call_refused is sort old =
      refused_by_lem sort t old (fault_of t) (go (ltb most_lines (length (sheet_lines t))) refl (subst (ReadsRows t rows) is reads))
    where
      go : (b : Bool) → ltb most_lines (length (sheet_lines t)) ≡ b → (sheet_of t ≡ None) ⊎ (most_lines < length (sheet_lines t))
          → sheet_refusal t ≡ refusal_number (cond b TooMany Malformed)
      go true q f = too_many t short (ltb-true most_lines (length (sheet_lines t)) q)
      go false q (inl gone) = malformed t short (ltb-false most_lines (length (sheet_lines t)) q) gone
      go false q (inr many) = absurd (omega (arith, ltb-false most_lines (length (sheet_lines t)) q))

  -- one that was
  module _ (n : ℕ) (is : r ≡ Some n) where
    all_read : ReadsRows t rows (Some n)
    all_read = subst (ReadsRows t rows) is reads

    pub call_few : n ≤ most_lines
    call_few = all_read.1

    pub call_valid : AllEntries (take n rows)
    call_valid = entries_all t (take n rows) all_read.0

    pub call_writes : n ≤ length rows → (sort : Bool) (old : List ℕ)
        → let text = sheet_text (arranged sort (take n rows)) in
        (write_answer 0 text old ≡ respell_answer sort t old) × (write_leaves 0 text old ≡ respell_leaves sort t old)
    unfolding respell_answer respell_leaves
    call_writes size sort old =
        let es = take n rows in
        let few : length (sheet_lines t) ≤ most_lines = omega (arith, as_many t es all_read.0, all_read.1, length-take-le n rows size) in
        rw (not_refused t short few es all_read.0, respelled_some sort t es all_read.0) (refl, refl)
