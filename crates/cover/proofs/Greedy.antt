-- The fewest blocks of any set are those taken greedily from below, each as large as the set allows. Assumes nothing.
use mathlib.Core.Path.{◌≡◌, refl, sym, ap, ap₂, subst}
use mathlib.Core.Logic.{◌⊎◌, inl, inr}
use mathlib.Core.List.{List, [], ◌∷◌}
use Prim.Native.Nat.{ℕ, zero, suc, ◌-◌, ◌^◌, ◌≤◌, ◌<◌}
use native.Mathlib.Nat.{zero-lt-suc}
use native.Mathlib.Decide.{dec_le, dec_lt}
use native.Mathlib.Omega.{arith}
use lib.Pow.{pow-lt}
use lib.ListN as L
use Rattle.cover.specs.Blocks.{Block, IsBlock, CoversAt, CoveredBy, AllBlocks, Rising, Fewest, Inside, Next, Greedy, done, next, size, after}
use Rattle.cover.proofs.Interval.{block_path, size_pos, after_le, covers_to_within, within_to_covers, covers_first, covers_last, inner_after, outer_start}

-- ---- lists of blocks

pub covered_below : (W : ℕ) (bs : List Block) (i x : ℕ) → CoversAt W bs i x → x < 2 ^ W
covered_below W [] i x c = absurd c
covered_below W (b ∷ bs) zero x c = c.below
covered_below W (b ∷ bs) (suc i) x c = covered_below W bs i x c

-- what lies behind the first block is covered by the others
pub uncover : {W : ℕ} (c : Block) (cs : List Block) (x : ℕ) → IsBlock W c → after W c ≤ x → CoveredBy W (c ∷ cs) x → CoveredBy W cs x
uncover c cs x C l (zero, h) = let w = covers_to_within C h in absurd (omega arith)
uncover c cs x C l (suc i, h) = (i, h)

pub rising_tail : (c : Block) (cs : List Block) → Rising (c ∷ cs) → Rising cs
rising_tail c [] r = tt
rising_tail c (d ∷ cs) r = r.1

-- a rising list covers nothing below its first address
pub rising_above : (W : ℕ) (c : Block) (cs : List Block) → AllBlocks W (c ∷ cs) → Rising (c ∷ cs) → (i x : ℕ) → CoversAt W (c ∷ cs) i x → c.address ≤ x
rising_above W c cs B r zero x h = (covers_to_within B.0 h).low
rising_above W c [] B r (suc i) x h = absurd h
rising_above W c (d ∷ cs) B r (suc i) x h = omega (arith, r.0, rising_above W d cs B.1 r.1 i x h)

-- ---- a greedy list is a rising list of blocks, and covers each address of S from a on once

module _ {W : ℕ} {S : ℕ → Type 0} where
  pub greedy_blocks : {a : ℕ} {bs : List Block} → Greedy W S a bs → AllBlocks W bs
  greedy_blocks (done e) = tt
  greedy_blocks (next n t) = (n.block, greedy_blocks t)

  pub greedy_rising : {a : ℕ} {bs : List Block} → Greedy W S a bs → Rising bs
  greedy_rising (done e) = tt
  greedy_rising (next n (done e)) = tt
  greedy_rising (next n (next m t)) = (omega (arith, m.above), greedy_rising (next m t))

  pub greedy_above : {a : ℕ} {bs : List Block} → Greedy W S a bs → (i x : ℕ) → CoversAt W bs i x → a ≤ x
  greedy_above (done e) i x c = absurd c
  greedy_above (next n t) zero x c = omega (arith, n.above, (covers_to_within n.block c).low)
  greedy_above (next n t) (suc i) x c = omega (arith, n.above, greedy_above t i x c)

  pub greedy_inside : {a : ℕ} {bs : List Block} → Greedy W S a bs → (i x : ℕ) → CoversAt W bs i x → S x
  greedy_inside (done e) i x c = absurd c
  greedy_inside (next n t) zero x c = n.inside x c
  greedy_inside (next n t) (suc i) x c = greedy_inside t i x c

  pub greedy_covers : {a : ℕ} {bs : List Block} → Greedy W S a bs → (x : ℕ) → x < 2 ^ W → S x → a ≤ x → CoveredBy W bs x
  greedy_covers (done e) x h s l = absurd (e x l h s)
  greedy_covers (next {b = b} {bs = bs} n t) x h s l =
      let rest : after W b ≤ x → CoveredBy W bs x = greedy_covers t x h s in
      elim (dec_lt x b.address) [
        | yes k ↦ absurd (n.lowest x l k s)
        | no m ↦ elim (dec_lt x (after W b)) [
          | yes k ↦ (zero, within_to_covers n.block (record { low = omega arith; high = k }))
          | no k ↦ let r = rest (omega arith) in (suc r.0, r.1)
        ]
      ]

  pub greedy_once : {a : ℕ} {bs : List Block} → Greedy W S a bs → (x i j : ℕ) → CoversAt W bs i x → CoversAt W bs j x → i ≡ j
  greedy_once (done e) x i j c d = absurd c
  greedy_once (next n t) x zero zero c d = refl
  greedy_once (next n t) x zero (suc j) c d = omega (arith, (covers_to_within n.block c).high, greedy_above t j x d)
  greedy_once (next n t) x (suc i) zero c d = omega (arith, (covers_to_within n.block d).high, greedy_above t i x c)
  greedy_once (next n t) x (suc i) (suc j) c d = ap suc (greedy_once t x i j c d)

  -- where S has nothing from a up to c, a list that is greedy from c on is greedy from a on
  pub greedy_lower : {a c : ℕ} {bs : List Block} → a ≤ c → ((x : ℕ) → a ≤ x → x < c → ¬ S x) → Greedy W S c bs → Greedy W S a bs
  greedy_lower {a} {c} l gap (done e) = done (λ x k h. elim (dec_lt x c) [ yes m ↦ gap x k m | no n ↦ e x (omega arith) h ])
  greedy_lower {a} {c} l gap (next n t) = next {a = a} (record {
    block = n.block;
    above = omega (arith, n.above);
    lowest = λ x k h. elim (dec_lt x c) [ yes m ↦ gap x k m | no o ↦ n.lowest x (omega arith) h ];
    inside = n.inside;
    largest = n.largest;
  }) t

-- ---- every rival with the same cover is longer

-- no block of the list has addresses on both sides of a
abbrev pub Clear : ℕ → ℕ → List Block → Type 0
Clear W a [] = Unit {0}
Clear W a (c ∷ cs) = ((after W c ≤ a) ⊎ (a ≤ c.address)) × Clear W a cs

clear_zero : (W : ℕ) (cs : List Block) → Clear W 0 cs
clear_zero W [] = tt
clear_zero W (c ∷ cs) = (inr (omega arith), clear_zero W cs)

-- A rival of the greedy list from a on: rising blocks of S, none of them on both sides of a, that cover all of S from a on. It may cover some of S below a too, and may cover an address twice.
record Rival (W : ℕ) (S : ℕ → Type 0) (a : ℕ) (cs : List Block) : Type 0 where
  blocks : AllBlocks W cs
  rising : Rising cs
  clear : Clear W a cs
  inside : (i x : ℕ) → CoversAt W cs i x → S x
  covers : (x : ℕ) → x < 2 ^ W → S x → a ≤ x → CoveredBy W cs x

module _ {W : ℕ} {S : ℕ → Type 0} where
  -- a block of S that starts in the next block b ends in it
  next_holds : {a : ℕ} {b c : Block} → Next W S a b → IsBlock W c → Inside W S c → b.address ≤ c.address → c.address < after W b → after W c ≤ after W b
  next_holds {b = b} {c = c} n C s low high = elim (dec_le b.length c.length) [
    | yes l ↦ inner_after n.block C l high
    | no m ↦ absurd (m (n.largest c C (outer_start n.block C (omega arith) low high) s))
  ]

  clear_next : {a : ℕ} {b : Block} → Next W S a b → (cs : List Block) → AllBlocks W cs → ((i x : ℕ) → CoversAt W cs i x → S x)
      → ((i x : ℕ) → CoversAt W cs i x → b.address ≤ x) → Clear W (after W b) cs
  clear_next n [] C s l = tt
  clear_next {b = b} n (c ∷ cs) C s l = (
    elim (dec_lt c.address (after W b)) [
      | yes h ↦ inl (next_holds n C.0 (s 0) (l 0 c.address (covers_first C.0)) h)
      | no m ↦ inr (omega arith)
    ],
    clear_next n cs C.1 (λ i. s (suc i)) (λ i. l (suc i)),
  )

  -- a first block below a is of no use
  rival_skip : {a : ℕ} {c : Block} {cs : List Block} → Rival W S a (c ∷ cs) → after W c ≤ a → Rival W S a cs
  rival_skip {c = c} {cs = cs} r l = record {
    blocks = r.blocks.1;
    rising = rising_tail c cs r.rising;
    clear = r.clear.1;
    inside = λ i. r.inside (suc i);
    covers = λ x h s k. uncover c cs x r.blocks.0 (omega arith) (r.covers x h s k);
  }

  module _ {a : ℕ} {b c : Block} {cs : List Block} (n : Next W S a b) (r : Rival W S a (c ∷ cs)) (l : a ≤ c.address) where
    -- any other first block starts where the next block b does, and is no larger
    rival_start : c.address ≡ b.address
    rival_start =
        let first = r.covers b.address n.block.below (n.inside b.address (covers_first n.block)) n.above in
        let up = rising_above W c cs r.blocks r.rising first.0 b.address first.1 in
        let down : ¬ (c.address < b.address) = λ h. n.lowest c.address l h (r.inside 0 c.address (covers_first r.blocks.0)) in
        omega arith

    rival_length : b.length ≤ c.length
    rival_length = n.largest c r.blocks.0 rival_start (r.inside 0)

    -- the others rival the greedy list behind b
    rival_next : Rival W S (after W b) cs
    rival_next =
        let e = rival_start in
        let ends = inner_after n.block r.blocks.0 rival_length (omega (arith, size_pos W b)) in
        record {
          blocks = r.blocks.1;
          rising = rising_tail c cs r.rising;
          clear = clear_next n cs r.blocks.1 (λ i. r.inside (suc i)) (λ i x h. omega (arith, rising_above W c cs r.blocks r.rising (suc i) x h));
          inside = λ i. r.inside (suc i);
          covers = λ x h s k. uncover c cs x r.blocks.0 (omega arith) (r.covers x h s (omega (arith, n.above)));
        }

    -- if they are that list, the first block is b: were it smaller, nothing would cover the last address of b
    rival_first : {bs : List Block} → Greedy W S (after W b) bs → cs ≡ bs → c ≡ b
    rival_first {bs} t p = block_path c b rival_start (omega (arith, rival_length, whole))
      where
        x : ℕ
        x = after W b - 1

        pos : 0 < size W b
        pos = size_pos W b

        whole : ¬ (b.length < c.length)
        whole h = lost (r.covers x (omega (arith, after_le n.block, pos)) (n.inside x (covers_last n.block)) (omega (arith, n.above, pos)))
          where
            lost : CoveredBy W (c ∷ cs) x → ⊥
            lost (zero, q) =
                let less : size W c < size W b = pow-lt (omega (arith, r.blocks.0.short)) in
                omega (arith, (covers_to_within r.blocks.0 q).high, rival_start, pos)
            lost (suc i, q) = omega (arith, pos, greedy_above t i x (subst (λ (d : List Block). CoversAt W d i x) p q))

  greedy_shortest : {a : ℕ} (cs bs : List Block) → Greedy W S a bs → Rival W S a cs → (cs ≡ bs) ⊎ (L.length bs < L.length cs)
  greedy_shortest [] [] t r = inl refl
  greedy_shortest [] (b ∷ bs) (next n t) r = absurd (r.covers b.address n.block.below (n.inside b.address (covers_first n.block)) n.above).1
  greedy_shortest (c ∷ cs) [] t r = inr (zero-lt-suc (L.length cs))
  greedy_shortest {a = a} (c ∷ cs) (b ∷ bs) (next n t) r =
      let same = greedy_shortest {a = a} cs (b ∷ bs) (next n t) in
      let rest = greedy_shortest {a = after W b} cs bs t in
      elim r.clear.0 [
        | inl h ↦ elim (same (rival_skip r h)) [ inl e ↦ inr (omega (arith, ap L.length e)) | inr k ↦ inr (omega arith) ]
        | inr l ↦ elim (rest (rival_next n r l)) [ inl e ↦ inl (ap₂ ◌∷◌ (rival_first n r l t e) e) | inr k ↦ inr (omega arith) ]
      ]

-- ---- the theorems

-- THEOREM: a greedy list is the list of the fewest blocks.
pub greedy_fewest : {W : ℕ} {S : ℕ → Type 0} {bs : List Block} → Greedy W S 0 bs → Fewest W S bs
greedy_fewest {W} {S} {bs} t = record {
  blocks = greedy_blocks t;
  rising = greedy_rising t;
  exactly = λ x h. (λ s. greedy_covers t x h s (omega arith), λ c. greedy_inside t c.0 x c.1);
  once = greedy_once t;
  fewest = λ cs C r e. greedy_shortest cs bs t (record {
    blocks = C;
    rising = r;
    clear = clear_zero W cs;
    inside = λ i x c. (e x (covered_below W cs i x c)).1 (i, c);
    covers = λ x h s l. (e x h).0 s;
  });
}

-- THEOREM: a set has one list of the fewest blocks.
pub fewest_unique : {W : ℕ} {S : ℕ → Type 0} {bs cs : List Block} → Fewest W S bs → Fewest W S cs → bs ≡ cs
fewest_unique {bs = bs} {cs = cs} F G =
    elim (F.fewest cs G.blocks G.rising G.exactly) [
      | inl e ↦ sym e
      | inr h ↦ elim (G.fewest bs F.blocks F.rising F.exactly) [ inl e ↦ e | inr k ↦ absurd (omega arith) ]
    ]
