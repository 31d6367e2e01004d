-- The run that is being built and the entries behind it: what they hold, and what `gathered_from` makes of them. Assumes nothing.
use mathlib.Core.Path.{◌≡◌, refl, sym, ◌∙◌, subst}
use mathlib.Core.Logic.{◌⊎◌, inl, inr, ◌↔◌}
use mathlib.Core.Bool.{Bool, true, false, and-eq-true_iff, not-eq-not, true≢false}
use mathlib.Core.List.{List, [], ◌∷◌, ◌++◌, append-nil}
use Prim.Native.Nat.{ℕ, suc, ◌-◌, ◌^◌, ◌≤◌, ◌<◌}
use native.Mathlib.Decide.{dec_le}
use native.Mathlib.Omega.{arith}
use borrow.Author.Tests.{leb-true, eqb-true, le-leb, eq-eqb}
use lib.Dec.{leb, eqb}
use Rattle.cover.specs.Blocks.{Block, IsBlock, Covers, CoveredBy, AllBlocks, Rising, Range, Greedy, done, next, range_blocks, after}
use Rattle.cover.proofs.Interval.{size_pos, after_le, covers_to_within, within_to_covers, covers_first, covers_last}
use Rattle.cover.proofs.Greedy.{rising_tail}
use Rattle.cover.proofs.Range.{range_largest, range_greedy, range_fewest}
use Rattle.lists.specs.Lists.{Entry, blocks, labelled, CoveredAs, here, there, Run, run_of, joins, joined, run_entries, gathered_from}
use Rattle.lists.proofs.Labels.{From, from_lower, rising_from, as_below, as_left, as_right, as_append, as_nothing, labelled_valid, append_valid, labelled_as}
use Rattle.lists.proofs.Chain.{greedy_chain}
use Rattle.lists.proofs.Tidy.{Tidy}

-- ---- a range's blocks before a tidy list

-- the list starts behind the address l, and not right behind it if it starts with the label k
abbrev pub Follows : ℕ → ℕ → List Entry → Type 0
Follows l k [] = Unit {0}
Follows l k (e ∷ es) = (l < e.block.address) × (k ≡ e.label → suc l < e.block.address)

range_then : {W first last a : ℕ} {bs : List Block} (k : ℕ) (ys : List Entry) → Greedy W (Range first last) a bs
    → Tidy W ys → Follows last k ys → Tidy W (labelled k bs ++ ys)
range_then k ys (done e) t u = t
range_then k [] (next n (done e)) t u = tt
range_then {W} {first} {last} k (y ∷ ys) (next {b = b} n (done e)) t u =
    let ends : after W b ≤ suc last = omega (arith, (n.inside (after W b - 1) (covers_last n.block)).1, size_pos W b) in
    (record { behind = omega (arith, u.0); parted = λ p h. omega (arith, u.1 p, h.beside) }, t)
range_then k ys (next n (next m g)) t u = (record { behind = m.above; parted = λ p. (greedy_chain (next n (next m g))).1 }, range_then k ys (next m g) t u)

-- ---- the entries of a run

-- the run has x with the label k
pub record InRun (r : Run) (k x : ℕ) : Type 0 where
  pub label : r.label ≡ k
  pub low : r.first ≤ x
  pub high : x ≤ r.last

module _ (W : ℕ) (r : Run) (below : r.last < 2 ^ W) where
  pub run_valid : AllBlocks W (blocks (run_entries W r))
  run_valid = labelled_valid W r.label (range_blocks W r.first r.last) (range_fewest W r.first r.last below).blocks

  pub run_as : (k x : ℕ) → CoveredAs W (run_entries W r) k x ↔ InRun r k x
  run_as k x = (to, back)
    where
      exact : x < 2 ^ W → Range r.first r.last x ↔ CoveredBy W (range_blocks W r.first r.last) x
      exact = (range_fewest W r.first r.last below).exactly x

      own : CoveredAs W (run_entries W r) k x ↔ ((r.label ≡ k) × CoveredBy W (range_blocks W r.first r.last) x)
      own = labelled_as W r.label (range_blocks W r.first r.last) k x

      to : CoveredAs W (run_entries W r) k x → InRun r k x
      to o =
          let c = own.0 o in
          let i = (exact (as_below o)).1 c.1 in
          record { label = c.0; low = i.0; high = i.1 }

      back : InRun r k x → CoveredAs W (run_entries W r) k x
      back i = own.1 (i.label, (exact (omega (arith, i.high, below))).0 (i.low, i.high))

  pub run_then : (ys : List Entry) → Tidy W ys → Follows r.last r.label ys → Tidy W (run_entries W r ++ ys)
  run_then ys = range_then r.label ys (range_greedy W r.first r.last below)

  pub run_tidy : Tidy W (run_entries W r)
  run_tidy = subst (Tidy W) (append-nil (run_entries W r)) (run_then [] tt tt)

-- ---- what a run and the entries behind it hold

abbrev pub Held : ℕ → Run → List Entry → ℕ → ℕ → Type 0
Held W r es k x = InRun r k x ⊎ CoveredAs W es k x

-- no address of theirs has two labels
abbrev pub OneLabelFrom : ℕ → Run → List Entry → Type 0
OneLabelFrom W r es = (k j x : ℕ) → Held W r es k x → Held W r es j x → k ≡ j

-- a run of addresses of W bits, and rising blocks from its first address on
pub record Pass (W : ℕ) (r : Run) (es : List Entry) : Type 0 where
  pub some : r.first ≤ r.last
  pub below : r.last < 2 ^ W
  pub valid : AllBlocks W (blocks es)
  pub rising : Rising (blocks es)
  pub from : From r.first (blocks es)

module _ {W : ℕ} where
  module _ {e : Entry} (B : IsBlock W e.block) where
    run_covers : {k x : ℕ} → InRun (run_of W e) k x → Covers W e.block x
    run_covers i = within_to_covers B (record { low = i.low; high = omega (arith, i.high, size_pos W e.block) })

    covers_run : {k x : ℕ} → e.label ≡ k → Covers W e.block x → InRun (run_of W e) k x
    covers_run p c = let w = covers_to_within B c in record { label = p; low = w.low; high = omega (arith, w.high) }

  -- a list is the run of its first entry and the others
  pub held_first : (e : Entry) (es : List Entry) → IsBlock W e.block → (k x : ℕ) → CoveredAs W (e ∷ es) k x ↔ Held W (run_of W e) es k x
  held_first e es B k x = (to, λ h. elim h [ inl i ↦ here i.label (run_covers B i) | inr o ↦ there o ])
    where
      to : CoveredAs W (e ∷ es) k x → Held W (run_of W e) es k x
      to (here p c) = inl (covers_run B p c)
      to (there o) = inr o

  pub pass_first : (e : Entry) (es : List Entry) → AllBlocks W (blocks (e ∷ es)) → Rising (blocks (e ∷ es)) → Pass W (run_of W e) es
  pass_first e es B r = record {
    some = omega (arith, size_pos W e.block);
    below = omega (arith, after_le B.0, size_pos W e.block);
    valid = B.1;
    rising = rising_tail e.block (blocks es) r;
    from = rising_from e.block (blocks es) r;
  }

  module _ {r : Run} (e : Entry) (es : List Entry) (P : Pass W r (e ∷ es)) where
    pass_start : Pass W (run_of W e) es
    pass_start = pass_first e es P.valid P.rising

    -- ---- an entry that continues the run
    module _ (same : e.label ≡ r.label) (near : e.block.address ≤ suc r.last) where
      pass_join : Pass W (joined W r e) es
      pass_join = record {
        some = omega (arith, P.some);
        below = omega (arith, P.below, pass_start.below);
        valid = P.valid.1;
        rising = pass_start.rising;
        from = from_lower (blocks es) P.from pass_start.from;
      }

      held_join : (k x : ℕ) → Held W r (e ∷ es) k x ↔ Held W (joined W r e) es k x
      held_join k x = (to, back)
        where
          to : Held W r (e ∷ es) k x → Held W (joined W r e) es k x
          to (inl i) = inl (record { label = i.label; low = i.low; high = omega (arith, i.high) })
          to (inr (here p c)) = let i = covers_run P.valid.0 p c in inl (record { label = sym same ∙ p; low = omega (arith, i.low, P.from); high = omega (arith, i.high) })
          to (inr (there o)) = inr o

          back : Held W (joined W r e) es k x → Held W r (e ∷ es) k x
          back (inl i) = elim (dec_le x r.last) [
            | yes h ↦ inl (record { label = i.label; low = i.low; high = h })
            | no n ↦
                let own : InRun (run_of W e) k x = record { label = same ∙ i.label; low = omega arith; high = omega (arith, i.high) } in
                inr (here (same ∙ i.label) (run_covers P.valid.0 own))
          ]
          back (inr o) = inr (there o)

    -- ---- an entry that starts in the run, with another label
    not_one_label : ¬ (e.label ≡ r.label) → e.block.address ≤ r.last → ¬ OneLabelFrom W r (e ∷ es)
    not_one_label n h a = n (a e.label r.label e.block.address
        (inr (here refl (covers_first P.valid.0))) (inl (record { label = refl; low = P.from; high = h })))

-- ---- the test

module _ (r : Run) (e : Entry) where
  pub joins_iff : joins r e ≡ true ↔ ((e.label ≡ r.label) × (e.block.address ≤ suc r.last))
  joins_iff =
      let both = and-eq-true_iff (eqb e.label r.label) (leb e.block.address (suc r.last)) in (
        λ t. let (s, l) = both.0 t in (eqb-true e.label r.label s, leb-true e.block.address (suc r.last) l),
        λ h. both.1 (eq-eqb e.label r.label h.0, le-leb e.block.address (suc r.last) h.1),
      )

  joins_false : joins r e ≡ false → e.label ≡ r.label → suc r.last < e.block.address
  joins_false t p =
      let far : ¬ (e.block.address ≤ suc r.last) = λ l. true≢false (sym (joins_iff.1 (p, l)) ∙ t) in
      omega arith

  pub joins_no : (e.label ≡ r.label → suc r.last < e.block.address) → joins r e ≡ false
  joins_no far = (not-eq-not {a = joins r e} {b = false}).0 (λ t. let (p, l) = joins_iff.0 t in omega (arith, far p))

-- ---- what `gathered_from` makes of them

-- a list that starts at the address a with the label k
abbrev pub Starts : ℕ → ℕ → List Entry → Type 0
Starts a k [] = ⊥
Starts a k (e ∷ es) = (e.block.address ≡ a) × (e.label ≡ k)

pub record Made (W : ℕ) (r : Run) (es out : List Entry) : Type 0 where
  pub valid : AllBlocks W (blocks out)
  pub covers : (k x : ℕ) → CoveredAs W out k x ↔ Held W r es k x
  pub starts : Starts r.first r.label out
  pub tidy : OneLabelFrom W r es → Tidy W out

run_starts : (W : ℕ) (r : Run) → r.first ≤ r.last → (ys : List Entry) → Starts r.first r.label (run_entries W r ++ ys)
run_starts W r some ys = subst (λ (bs : List Block). Starts r.first r.label (labelled r.label bs ++ ys)) (sym (range_largest W r.last r.first some)) (refl, refl)

made_end : {W : ℕ} {r : Run} → Pass W r [] → Made W r [] (run_entries W r)
made_end {W} {r} P = record {
  valid = run_valid W r P.below;
  covers = λ k x. (λ o. inl ((run_as W r P.below k x).0 o), λ h. elim h [ inl i ↦ (run_as W r P.below k x).1 i | inr o ↦ absurd (as_nothing o) ]);
  starts = subst (Starts r.first r.label) (append-nil (run_entries W r)) (run_starts W r P.some []);
  tidy = λ a. run_tidy W r P.below;
}

made_join : {W : ℕ} {r : Run} (e : Entry) (es : List Entry) {out : List Entry} → Pass W r (e ∷ es) → joins r e ≡ true → Made W (joined W r e) es out → Made W r (e ∷ es) out
made_join {W} {r} e es P t M =
    let (same, near) = (joins_iff r e).0 t in
    let held = held_join e es P same near in
    record {
      valid = M.valid;
      covers = λ k x. (λ o. (held k x).1 ((M.covers k x).0 o), λ h. (M.covers k x).1 ((held k x).0 h));
      starts = M.starts;
      tidy = λ a. M.tidy (λ k j x h i. a k j x ((held k x).1 h) ((held j x).1 i));
    }

-- where no address has two labels, an entry that does not continue the run starts behind it
start_far : {W : ℕ} {r : Run} (e : Entry) (es : List Entry) → Pass W r (e ∷ es) → joins r e ≡ false → OneLabelFrom W r (e ∷ es) → r.last < e.block.address
start_far {r = r} e es P t a = elim (dec_le e.block.address r.last) [
  | yes h ↦ absurd (not_one_label e es P (λ p. omega (arith, joins_false r e t p)) h a)
  | no n ↦ omega arith
]

starts_follows : (l k a j : ℕ) (out : List Entry) → Starts a j out → l < a → (k ≡ j → suc l < a) → Follows l k out
starts_follows l k a j [] s far gap = tt
starts_follows l k a j (e ∷ es) s far gap = (omega (arith, s.0), λ p. omega (arith, s.0, gap (p ∙ s.1)))

made_start : {W : ℕ} {r : Run} (e : Entry) (es out : List Entry) → Pass W r (e ∷ es) → joins r e ≡ false → Made W (run_of W e) es out → Made W r (e ∷ es) (run_entries W r ++ out)
made_start {W} {r} e es out P t M =
    let held = held_first e es P.valid.0 in
    record {
      valid = append_valid W (run_entries W r) out (run_valid W r P.below) M.valid;
      covers = λ k x. (
        λ o. elim (as_append (run_entries W r) o) [ inl l ↦ inl ((run_as W r P.below k x).0 l) | inr m ↦ inr ((held k x).1 ((M.covers k x).0 m)) ],
        λ h. elim h [ inl i ↦ as_left out ((run_as W r P.below k x).1 i) | inr o ↦ as_right (run_entries W r) ((M.covers k x).1 ((held k x).0 o)) ],
      );
      starts = run_starts W r P.some out;
      tidy = λ a.
          let far = start_far e es P t a in
          let rest : Tidy W out = M.tidy (λ k j x h i. a k j x (inr ((held k x).1 h)) (inr ((held j x).1 i))) in
          run_then W r P.below out rest (starts_follows r.last r.label e.block.address e.label out M.starts far (λ p. joins_false r e t (sym p)));
    }

-- ---- the pass over a sorted list

pub from_end : (W : ℕ) (r : Run) → gathered_from W r [] ≡ run_entries W r
unfolding gathered_from
from_end W r = refl

pub from_join : (W : ℕ) (r : Run) (e : Entry) (es : List Entry) → joins r e ≡ true → gathered_from W r (e ∷ es) ≡ gathered_from W (joined W r e) es
unfolding gathered_from
from_join W r e es t = rw (t, gathered_from)

pub from_start : (W : ℕ) (r : Run) (e : Entry) (es : List Entry) → joins r e ≡ false → gathered_from W r (e ∷ es) ≡ run_entries W r ++ gathered_from W (run_of W e) es
unfolding gathered_from
from_start W r e es t = rw (t, gathered_from)

pub made : {W : ℕ} {r : Run} (es : List Entry) → Pass W r es → Made W r es (gathered_from W r es)
made {W} {r} [] P = rw from_end (made_end P)
made {W} {r} (e ∷ es) P = go (joins r e) refl (made {r = joined W r e} es) (made {r = run_of W e} es (pass_start e es P))
  where
    go : (t : Bool) → joins r e ≡ t → (Pass W (joined W r e) es → Made W (joined W r e) es (gathered_from W (joined W r e) es))
        → Made W (run_of W e) es (gathered_from W (run_of W e) es) → Made W r (e ∷ es) (gathered_from W r (e ∷ es))
    go true t join start = rw (from_join W r e es t) (made_join e es P t (join (let (same, near) = (joins_iff r e).0 t in pass_join e es P same near)))
    go false t join start = rw (from_start W r e es t) (made_start e es (gathered_from W (run_of W e) es) P t start)
