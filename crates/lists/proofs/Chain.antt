-- A list of blocks is greedy exactly if each block ends before the next starts, and no two neighbours are the halves of a block. Assumes nothing.
use mathlib.Core.Path.{◌≡◌, sym, ap, ◌∙◌, subst}
use mathlib.Core.Logic.{◌⊎◌, inl, inr, ◌↔◌}
use mathlib.Core.List.{List, [], ◌∷◌}
use Prim.Native.Nat.{ℕ, suc, ◌+◌, ◌-◌, ◌^◌, ◌≤◌, ◌<◌}
use native.Mathlib.Nat.{le_refl, two-pow-succ}
use native.Mathlib.Decide.{dec_le, dec_lt}
use native.Mathlib.Omega.{arith}
use lib.Pow.{pow_mono}
use Rattle.wide.proofs.Aligned.{Aligned, aligned_gap, aligned_mono, aligned_next}
use Rattle.cover.specs.Blocks.{Block, IsBlock, Covers, CoveredBy, AllBlocks, Rising, Exactly, Fewest, Inside, Next, Greedy, done, next, size, after}
use Rattle.cover.proofs.Interval.{size_pos, after_le, covers_to_within, within_to_covers, covers_first}
use Rattle.cover.proofs.Greedy.{uncover, rising_above, greedy_fewest}
use Rattle.lists.proofs.Labels.{From, from_zero}

-- b and c are the lower and the upper half of a block
pub record Halves (W : ℕ) (b c : Block) : Type 0 where
  pub same : b.length ≡ c.length
  pub beside : c.address ≡ after W b
  pub even : Aligned (suc (W - b.length)) b.address

abbrev pub Chain : ℕ → List Block → Type 0
Chain W [] = Unit {0}
Chain W (b ∷ []) = Unit {0}
Chain W (b ∷ c ∷ bs) = (after W b ≤ c.address) × (¬ Halves W b c) × Chain W (c ∷ bs)

module _ (W : ℕ) where
  -- a block before a list that starts behind it, and not right behind it
  pub chain_cons : (b : Block) (bs : List Block) → From (suc (after W b)) bs → Chain W bs → Chain W (b ∷ bs)
  chain_cons b [] l c = tt
  chain_cons b (c ∷ bs) l h = (omega arith, λ m. omega (arith, m.beside), h)

  chain_from : (b : Block) (bs : List Block) → Chain W (b ∷ bs) → From (after W b) bs
  chain_from b [] g = tt
  chain_from b (c ∷ bs) g = g.0

  chain_tail : (b : Block) (bs : List Block) → Chain W (b ∷ bs) → Chain W bs
  chain_tail b [] g = tt
  chain_tail b (c ∷ bs) g = g.2

  chain_rising : (bs : List Block) → Chain W bs → Rising bs
  chain_rising [] g = tt
  chain_rising (b ∷ []) g = tt
  chain_rising (b ∷ c ∷ bs) g = (omega (arith, g.0), chain_rising (c ∷ bs) g.2)

-- ---- a greedy list is a chain: two halves would have been one block

module _ {W : ℕ} {b c : Block} (B : IsBlock W b) (C : IsBlock W c) (h : Halves W b c) where
  -- b is not all addresses, for c lies behind it
  halves_long : 0 < b.length
  halves_long =
      let not_all : ¬ (b.length ≡ 0) = λ e. let all : W - b.length ≡ W = omega arith in omega (arith, h.beside, C.below, ap (λ (j : ℕ). 2 ^ j) all) in
      omega arith

  abbrev whole : Block
  whole = record { address = b.address; length = b.length - 1 }

  whole_exponent : W - (b.length - 1) ≡ suc (W - b.length)
  whole_exponent = omega (arith, halves_long, B.short)

  whole_block : IsBlock W whole
  whole_block = record { below = B.below; short = omega (arith, B.short); aligned = subst (λ (j : ℕ). Aligned j b.address) (sym whole_exponent) h.even }

  whole_covers : (x : ℕ) → Covers W whole x → Covers W b x ⊎ Covers W c x
  whole_covers x p =
      let w = covers_to_within whole_block p in
      let sizes : size W whole ≡ size W b + size W b = ap (λ (j : ℕ). 2 ^ j) whole_exponent ∙ two-pow-succ (W - b.length) in
      let size_c : size W c ≡ size W b = ap (λ (j : ℕ). 2 ^ (W - j)) (sym h.same) in
      elim (dec_lt x (after W b)) [
        | yes l ↦ inl (within_to_covers B (record { low = w.low; high = l }))
        | no n ↦ inr (within_to_covers C (record { low = omega (arith, h.beside); high = omega (arith, w.high, h.beside) }))
      ]

pub greedy_chain : {W : ℕ} {S : ℕ → Type 0} {a : ℕ} {bs : List Block} → Greedy W S a bs → Chain W bs
greedy_chain (done e) = tt
greedy_chain (next n (done e)) = tt
greedy_chain {W} {S} (next {b = b} n (next {b = c} m t)) = (m.above, apart, greedy_chain (next m t))
  where
    apart : ¬ Halves W b c
    apart h =
        let in_whole : Inside W S (whole n.block m.block h) = λ x p. elim (whole_covers n.block m.block h x p) [ inl q ↦ n.inside x q | inr q ↦ m.inside x q ] in
        omega (arith, halves_long n.block m.block h, n.largest (whole n.block m.block h) (whole_block n.block m.block h) (λ i. b.address) in_whole)

-- ---- a chain is greedy

-- the block beside b, of the same length
abbrev beside : ℕ → Block → Block
beside W b = record { address = after W b; length = b.length }

-- Where a larger block c starts at b's address, the block beside b is in it, and b is the lower half of a block.
module _ {W : ℕ} {b c : Block} (B : IsBlock W b) (C : IsBlock W c) (e : c.address ≡ b.address) (l : c.length < b.length) where
  larger_even : Aligned (suc (W - b.length)) b.address
  larger_even = subst (Aligned (suc (W - b.length))) e (aligned_mono c.address (omega (arith, B.short)) C.aligned)

  larger_after : after W b + size W b ≤ after W c
  larger_after =
      let more : 2 ^ suc (W - b.length) ≤ size W c = pow_mono (omega (arith, B.short)) in
      omega (arith, two-pow-succ (W - b.length))

  larger_beside : IsBlock W (beside W b)
  larger_beside = record {
    below = omega (arith, larger_after, after_le C, size_pos W b);
    short = B.short;
    aligned = aligned_next (W - b.length) b.address B.aligned;
  }

  larger_inside : {S : ℕ → Type 0} → Inside W S c → Inside W S (beside W b)
  larger_inside s x h =
      let w = covers_to_within larger_beside h in
      s x (within_to_covers C (record { low = omega (arith, w.low); high = omega (arith, w.high, larger_after) }))

module _ {W : ℕ} {S : ℕ → Type 0} where
  -- no larger block of S starts at b, if the rest of S is greedy and does not begin with the other half
  no_larger : {b : Block} {bs : List Block} → IsBlock W b → Chain W (b ∷ bs) → Greedy W S (after W b) bs
      → (c : Block) → IsBlock W c → c.address ≡ b.address → Inside W S c → ¬ (c.length < b.length)
  no_larger {b} B g (done none) c C e s l =
      let R = larger_beside B C e l in
      none (after W b) (le_refl (after W b)) R.below (larger_inside B C e l s (after W b) (covers_first R))
  no_larger {b} B g (next {b = d} m t) c C e s l =
      let R = larger_beside B C e l in
      let in_r : Inside W S (beside W b) = larger_inside B C e l s in
      let even = larger_even B C e l in
      -- d starts beside b, and is no smaller
      let not_above : ¬ (after W b < d.address) = λ h. m.lowest (after W b) (le_refl (after W b)) h (in_r (after W b) (covers_first R)) in
      let start : d.address ≡ after W b = omega (arith, m.above) in
      let no-smaller = m.largest (beside W b) R (sym start) in_r in
      elim (dec_le b.length d.length) [
        | yes k ↦ g.1 (record { same = omega arith; beside = start; even = even })
        | no k ↦
            let j = suc (W - b.length) in
            let even_after : Aligned j (after W b) = subst (Aligned j) start (aligned_mono d.address (omega (arith, B.short)) m.block.aligned) in
            omega (arith, size_pos W b, aligned_gap j even even_after (omega (arith, size_pos W b)))
      ]

  chain_first : (b : Block) (bs : List Block) (a : ℕ) → a ≤ b.address → AllBlocks W (b ∷ bs) → Chain W (b ∷ bs)
      → ((x : ℕ) → a ≤ x → x < 2 ^ W → S x ↔ CoveredBy W (b ∷ bs) x) → Greedy W S (after W b) bs → Next W S a b
  chain_first b bs a l B g e rest = record {
    block = B.0;
    above = l;
    lowest = λ x k h s. let c = (e x k (omega (arith, B.0.below))).0 s in omega (arith, rising_above W b bs B (chain_rising W (b ∷ bs) g) c.0 x c.1);
    inside = λ x c. (e x (omega (arith, (covers_to_within B.0 c).low)) c.below).1 (0, c);
    largest = λ c C q s. omega (arith, no_larger B.0 g rest c C q s);
  }

  -- a chain that covers exactly S from a on
  chain_greedy : (bs : List Block) (a : ℕ) → From a bs → AllBlocks W bs → Chain W bs
      → ((x : ℕ) → a ≤ x → x < 2 ^ W → S x ↔ CoveredBy W bs x) → Greedy W S a bs
  chain_greedy [] a l B g e = done (λ x k h s. ((e x k h).0 s).1)
  chain_greedy (b ∷ bs) a l B g e =
      let behind : (x : ℕ) → after W b ≤ x → x < 2 ^ W → S x ↔ CoveredBy W bs x = λ x k h. (λ s. uncover b bs x B.0 k ((e x (omega arith) h).0 s), λ c. (e x (omega arith) h).1 (suc c.0, c.1)) in
      let rest = chain_greedy bs (after W b) (chain_from W b bs g) B.1 (chain_tail W b bs g) behind in
      next (chain_first b bs a l B g e rest) rest

-- THEOREM: a chain of blocks is the fewest blocks of what it covers.
pub chain_fewest : {W : ℕ} {S : ℕ → Type 0} (bs : List Block) → AllBlocks W bs → Chain W bs → Exactly W S bs → Fewest W S bs
chain_fewest bs B g e = greedy_fewest (chain_greedy bs 0 (from_zero bs) B g (λ x l. e x))
