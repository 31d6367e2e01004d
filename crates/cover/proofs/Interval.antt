-- A block is an interval of addresses, and two blocks are nested or disjoint. Assumes nothing.
use mathlib.Core.Path.{◌≡◌, ap, ◌∙◌}
use mathlib.Core.Logic.{◌⊎◌, inl, inr}
use Prim.Native.Nat.{ℕ, ◌-◌, ◌*◌, ◌/◌, ◌^◌, ◌≤◌, ◌<◌}
use native.Mathlib.Nat.{div-mul-le_self, lt-div-mul-add, div-eq_of_lt-le, add-mul, one-mul}
use native.Mathlib.Decide.{dec_le, dec_lt}
use native.Mathlib.Omega.{arith}
use lib.Pow.{pow_pos}
use Rattle.wide.proofs.Aligned.{quotient, aligned_gap, aligned_mono, aligned_next, aligned_pow}
use Rattle.cover.specs.Blocks.{Block, IsBlock, Covers, size, after}

pub record Within (W : ℕ) (b : Block) (x : ℕ) : Type 0 where
  pub low : b.address ≤ x
  pub high : x < after W b

pub block_path : (b c : Block) → b.address ≡ c.address → b.length ≡ c.length → b ≡ c
block_path b c p q = λ i. record { address = p i; length = q i }

pub size_pos : (W : ℕ) (b : Block) → 0 < size W b
size_pos W b = pow_pos (W - b.length)

module _ {W : ℕ} {b : Block} (B : IsBlock W b) where
  -- a block does not wrap
  pub after_le : after W b ≤ 2 ^ W
  after_le = aligned_gap (W - b.length) B.aligned (aligned_pow (omega arith)) B.below

  base : b.address / size W b * size W b ≡ b.address
  base = quotient (size W b) b.address B.aligned

  pub covers_to_within : {x : ℕ} → Covers W b x → Within W b x
  covers_to_within {x} c =
      let p = size W b in
      let e : x / p * p ≡ b.address = ap (λ (q : ℕ). q * p) c.agrees ∙ base in
      record { low = omega (arith, e, div-mul-le_self x p); high = omega (arith, e, lt-div-mul-add {a = x} (size_pos W b)) }

  pub within_to_covers : {x : ℕ} → Within W b x → Covers W b x
  within_to_covers {x} w =
      let p = size W b in
      let q = b.address / p in
      record {
        below = omega (arith, after_le);
        agrees = div-eq_of_lt-le {k = q} p (omega (arith, base)) (omega (arith, base, add-mul q 1 p, one-mul p));
      }

  pub covers_first : Covers W b b.address
  covers_first = within_to_covers (record { low = omega arith; high = omega (arith, size_pos W b) })

  pub covers_last : Covers W b (after W b - 1)
  covers_last = let s = size_pos W b in within_to_covers (record { low = omega arith; high = omega arith })

-- A block c that starts in the block b and is no larger ends in it.
pub inner_after : {W : ℕ} {b c : Block} → IsBlock W b → IsBlock W c → b.length ≤ c.length → c.address < after W b → after W c ≤ after W b
inner_after {W} {b} {c} B C l h =
    let j = W - c.length in
    let smaller : j ≤ W - b.length = omega arith in
    aligned_gap j C.aligned (aligned_mono (after W b) smaller (aligned_next (W - b.length) b.address B.aligned)) h

-- One that is larger starts where b does.
pub outer_start : {W : ℕ} {b c : Block} → IsBlock W b → IsBlock W c → c.length ≤ b.length → b.address ≤ c.address → c.address < after W b → c.address ≡ b.address
outer_start {W} {b} {c} B C l low high =
    let j = W - b.length in
    let larger : j ≤ W - c.length = omega arith in
    elim (dec_lt b.address c.address) [
      | yes h ↦ omega (arith, aligned_gap j B.aligned (aligned_mono c.address larger C.aligned) h)
      | no n ↦ omega arith
    ]

-- all of c is in b
pub record Nested (W : ℕ) (b c : Block) : Type 0 where
  pub low : b.address ≤ c.address
  pub high : after W c ≤ after W b

-- two blocks are disjoint or one is in the other
pub laminar : {W : ℕ} {b c : Block} → IsBlock W b → IsBlock W c → (after W b ≤ c.address) ⊎ (after W c ≤ b.address) ⊎ Nested W b c ⊎ Nested W c b
laminar {W} {b} {c} B C =
    elim (dec_le (after W b) c.address) [
      | yes h ↦ inl h
      | no n ↦ elim (dec_le (after W c) b.address) [
        | yes h ↦ inr (inl h)
        | no m ↦ elim (dec_le b.length c.length) [
          | yes l ↦ inr (inr (inl (holds B C l (omega arith) (omega arith))))
          | no l ↦ inr (inr (inr (holds C B (omega arith) (omega arith) (omega arith))))
        ]
      ]
    ]
  where
    -- the larger of two blocks that meet holds the other
    holds : {b c : Block} → IsBlock W b → IsBlock W c → b.length ≤ c.length → c.address < after W b → b.address < after W c → Nested W b c
    holds {b} {c} B C l p q =
        let high = inner_after B C l p in
        elim (dec_le b.address c.address) [
          | yes h ↦ record { low = h; high = high }
          | no n ↦ record { low = omega (arith, outer_start C B l (omega arith) q); high = high }
        ]

-- ---- the same of what they cover

nested_covers : {W : ℕ} {b c : Block} → IsBlock W b → IsBlock W c → Nested W b c → (x : ℕ) → Covers W c x → Covers W b x
nested_covers B C n x h = let w = covers_to_within C h in within_to_covers B (record { low = omega arith; high = omega arith })

apart_covers : {W : ℕ} {b c : Block} → IsBlock W b → IsBlock W c → after W b ≤ c.address → (x : ℕ) → Covers W b x → Covers W c x → ⊥
apart_covers B C l x h k = let v = covers_to_within B h in let w = covers_to_within C k in omega arith

pub nested_or_apart : {W : ℕ} {b c : Block} → IsBlock W b → IsBlock W c
    → ((x : ℕ) → Covers W c x → Covers W b x) ⊎ ((x : ℕ) → Covers W b x → Covers W c x) ⊎ ((x : ℕ) → Covers W b x → Covers W c x → ⊥)
nested_or_apart B C = elim (laminar B C) [
  | inl l ↦ inr (inr (apart_covers B C l))
  | inr rest ↦ elim rest [
    | inl l ↦ inr (inr (λ x h k. apart_covers C B l x k h))
    | inr nested ↦ elim nested [ inl n ↦ inl (nested_covers B C n) | inr n ↦ inr (inl (nested_covers C B n)) ]
  ]
]
