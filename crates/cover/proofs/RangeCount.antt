-- How many blocks a range has, and how many addresses they hold. Assumes nothing.
use mathlib.Core.Path.{◌≡◌, sym, ap, subst, ◌∙◌}
use mathlib.Core.Logic.{inr}
use mathlib.Core.List.{List, ◌∷◌}
use Prim.Native.Nat.{ℕ, zero, suc, ◌+◌, ◌-◌, ◌*◌, ◌^◌, ◌≤◌, ◌<◌, max}
use native.Mathlib.Nat.{le_refl, zero-add, add-zero, suc-add}
use native.Mathlib.Decide.{dec_le, dec_lt, ℕ_discrete}
use native.Mathlib.Omega.{arith}
use lib.Pow.{pow_pos, pow_mono}
use lib.ListN as L
use Rattle.wide.proofs.Aligned.{Aligned, aligned_dec, aligned_gap, aligned_mono, aligned_nothing, aligned_zero, aligned_next, aligned_back, aligned_pow, aligned_not, aligned_odd}
use Rattle.cover.specs.Blocks.{Block, total, largest, range_blocks}
use Rattle.cover.proofs.Range.{MayStart, block_at, size_block_at, largest_le, largest_may, largest_max, range_done, range_largest, range_step, range_ind}

-- THEOREM: the sizes of a range's blocks add up to last - first + 1.
pub range_total : (W first last : ℕ) → total W (range_blocks W first last) ≡ suc last - first
range_total W first last = range_ind W last (λ a bs. total W bs ≡ suc last - a) (λ a h. omega arith) step first
  where
    step : (a : ℕ) (bs : List Block) → a ≤ last → total W bs ≡ suc last - (a + 2 ^ largest W a last)
        → total W (block_at W a (largest W a last) ∷ bs) ≡ suc last - a
    step a bs h ih =
        let k = largest W a last in
        let room = (largest_may W a last h).room in
        omega (arith, size_block_at W a k (largest_le W a last))

module _ (W last : ℕ) where
  -- the number of blocks from a on
  abbrev count : ℕ → ℕ
  count a = L.length (range_blocks W a last)

  count_done : (a : ℕ) → last < a → count a ≡ 0
  count_done a h = ap L.length (range_done W last a h)

  count_step : (a k : ℕ) → k ≤ W → MayStart a last k → ¬ MayStart a last (suc k) → count a ≡ suc (count (a + 2 ^ k))
  count_step a k l f n = ap L.length (range_step W last a k l f (inr n))

  -- on the way down from a multiple of 2 ^ k, fewer than 2 ^ k addresses are left: at most one block of each smaller size
  count_down : (k a : ℕ) → k ≤ W → Aligned k a → suc last < a + 2 ^ k → count a ≤ k
  count_down zero a l h r = omega (arith, count_done a (omega arith))
  count_down (suc k) a l h r =
      let ak : Aligned k a = aligned_mono a (omega arith) h in
      let same = count_down k a (omega arith) ak in
      let rest = count_down k (a + 2 ^ k) (omega arith) (aligned_next k a ak) in
      elim (dec_lt (suc last) (a + 2 ^ k)) [
        | yes m ↦ omega (arith, same m)
        | no m ↦
            let f : MayStart a last k = record { aligned = ak; room = omega arith } in
            omega (arith, rest (omega arith), count_step a k (omega arith) f (λ g. omega arith))
      ]

  -- on the way up from a to a multiple C of 2 ^ (d + j), less than that away: at most one block of each size from 2 ^ j on
  count_up : (d j a C : ℕ) → d + j ≤ W → Aligned j a → Aligned (d + j) C → a ≤ C → C ≤ suc last → C < a + 2 ^ (d + j) → count a ≤ d + count C
  count_up zero j a C l h k low top near = elim (dec_lt a C) [
    | yes m ↦ absurd (omega (arith, aligned_gap j h (aligned_mono C (omega arith) k) m, ap (λ (x : ℕ). 2 ^ x) (zero-add j)))
    | no n ↦ let e : a ≡ C = omega arith in omega (arith, ap count e)
  ]
  count_up (suc d) j a C l h k low top near =
      let e : d + suc j ≡ suc d + j = omega arith in
      let powers = ap (λ (x : ℕ). 2 ^ x) e in
      elim (dec_lt a C) [
        | yes m ↦ elim (aligned_dec (suc j) a) [
          | yes even ↦ omega (arith, count_up d (suc j) a C (omega arith) even (rw e k) low top (omega arith))
          | no odd ↦
              let gap = aligned_gap j h (aligned_mono C (omega arith) k) m in
              let f : MayStart a last j = record { aligned = h; room = omega arith } in
              let step = count_step a j (omega arith) f (λ g. odd g.aligned) in
              omega (arith, count_up d (suc j) (a + 2 ^ j) C (omega arith) (aligned_odd j a h odd) (rw e k) gap top (omega arith))
        ]
        | no n ↦ let same : a ≡ C = omega arith in omega (arith, ap count same)
      ]

  -- a range that is a block
  count_whole : (m B : ℕ) → m ≤ W → Aligned m B → suc last ≡ B + 2 ^ m → count B ≤ 1
  count_whole m B l h e =
      let k = largest W B last in
      let low : B ≤ last = omega (arith, pow_pos m) in
      let f : MayStart B last m = record { aligned = h; room = omega arith } in
      let more = pow_mono (largest_max W B last m l f) in
      omega (arith, ap L.length (range_largest W last B low), count_done (B + 2 ^ k) (omega arith))

  -- a range inside a block of 2 ^ m addresses from B on
  count_within : (m B a : ℕ) → m ≤ W → Aligned m B → B ≤ a → a ≤ last → suc last ≤ B + 2 ^ m → count a ≤ max 1 (2 * m - 2)
  count_within zero B a l h low some top =
      let e : a ≡ B = omega arith in
      omega (arith, count_whole zero a l (subst (Aligned 0) (sym e) h) (omega arith))
  count_within (suc m) B a l h low some top =
      let C = B + 2 ^ m in
      let h_b : Aligned m B = aligned_mono B (omega arith) h in
      let h_c : Aligned m C = aligned_next m B h_b in
      elim (dec_le (suc last) C) [
        | yes t ↦ omega (arith, count_within m B a (omega arith) h_b low some t)
        | no n ↦ elim (dec_le C a) [
          | yes t ↦ omega (arith, count_within m C a (omega arith) h_c t some (omega arith))
          | no k ↦ elim (ℕ_discrete a B) [
            | yes e ↦ elim (ℕ_discrete (suc last) (B + 2 ^ suc m)) [
              | yes f ↦ omega (arith, ap count e, count_whole (suc m) B l h f)
              | no f ↦ omega (arith, count_down (suc m) a l (subst (Aligned (suc m)) (sym e) h) (omega arith))
            ]
            | no e ↦
                -- up to the middle C, and on from there
                let z = add-zero m in
                let climb = count_up m 0 a C (omega arith) (aligned_nothing a) (rw z h_c) (omega arith) (omega arith) (rw z (omega arith)) in
                elim (ℕ_discrete (suc last) (C + 2 ^ m)) [
                  | yes f ↦ omega (arith, count_whole m C (omega arith) h_c f)
                  | no f ↦ omega (arith, count_down m C (omega arith) h_c (omega arith))
                ]
          ]
        ]
      ]

-- THEOREM: a range has at most 2 W - 2 blocks (one, where W is 0 or 1): 62 for IPv4 and 254 for IPv6. `range_count_reached` has a range that reaches it.
pub range_count : (W first last : ℕ) → last < 2 ^ W → L.length (range_blocks W first last) ≤ max 1 (2 * W - 2)
range_count W first last top = elim (dec_le first last) [
  | yes h ↦ count_within W last W 0 first (le_refl W) (aligned_zero W) (omega arith) h (omega arith)
  | no n ↦ omega (arith, count_done W last first (omega arith))
]

-- ---- all but the first and the last address need that many

module _ (W : ℕ) where
  -- the last address but one
  abbrev top : ℕ
  top = 2 ^ W - 2

  -- from a power of two below the end one block of each smaller size
  reach_down : (i : ℕ) → 0 < i → i ≤ W → count W top (2 ^ W - 2 ^ i) ≡ i
  reach_down i pos l = go i l
    where
      two : 2 ≤ 2 ^ W
      two = pow_mono {i = 1} {j = W} (omega arith)

      go : (j : ℕ) → j ≤ W → count W top (2 ^ W - 2 ^ j) ≡ j
      go zero l = count_done W top (2 ^ W - 1) (omega (arith, two))
      go (suc j) l =
          let a = 2 ^ W - 2 ^ suc j in
          let less = pow_mono {i = suc j} {j = W} l in
          let pos = pow_pos j in
          let next : a + 2 ^ j ≡ 2 ^ W - 2 ^ j = omega arith in
          let whole : a + 2 ^ j + 2 ^ j ≡ 2 ^ W = omega arith in
          let even : Aligned j a = aligned_back j a (aligned_back j (a + 2 ^ j) (rw whole (aligned_pow (omega arith)))) in
          let f : MayStart a top j = record { aligned = even; room = omega (arith, two) } in
          count_step W top a j (omega arith) f (λ g. omega (arith, g.room, two)) ∙ ap suc (ap (count W top) next ∙ go j (omega arith))

  -- up to the middle one block of each size
  reach_up : (d i : ℕ) → suc (d + i) ≡ W → count W top (2 ^ i) ≡ d + count W top (2 ^ (d + i))
  reach_up zero i e = sym (zero-add (count W top (2 ^ (0 + i))) ∙ ap (λ (j : ℕ). count W top (2 ^ j)) (zero-add i))
  reach_up (suc d) i e =
      let less = pow_mono {i = suc (suc i)} {j = W} (omega arith) in
      let pos = pow_pos i in
      let next : 2 ^ i + 2 ^ i ≡ 2 ^ suc i = omega arith in
      let same : d + suc i ≡ suc d + i = omega arith in
      let f : MayStart (2 ^ i) top i = record { aligned = aligned_pow (omega arith); room = omega arith } in
      let step = count_step W top (2 ^ i) i (omega arith) f (λ g. aligned_not i g.aligned) in
      let rest = reach_up d (suc i) (omega arith) in
      step ∙ ap suc (ap (count W top) next ∙ rest ∙ ap (λ (j : ℕ). d + count W top (2 ^ j)) same) ∙ sym (suc-add d (count W top (2 ^ (suc d + i))))

-- THEOREM: and some range has as many.
pub range_count_reached : (W : ℕ) → 2 ≤ W → L.length (range_blocks W 1 (2 ^ W - 2)) ≡ 2 * W - 2
range_count_reached W wide =
    let half = pow_mono {i = 1} {j = W - 1} (omega arith) in
    let e : suc (W - 1 + 0) ≡ W = omega arith in
    let powers : 2 ^ W ≡ 2 ^ suc (W - 1 + 0) = ap (λ (j : ℕ). 2 ^ j) (sym e) in
    let middle : 2 ^ (W - 1 + 0) ≡ 2 ^ W - 2 ^ (W - 1) = ap (λ (j : ℕ). 2 ^ j) (add-zero (W - 1)) ∙ (let q : 2 ^ (W - 1) ≡ 2 ^ W - 2 ^ (W - 1) = omega (arith, ap (λ (j : ℕ). 2 ^ j) (add-zero (W - 1))) in q) in
    let down = reach_down W (W - 1) (omega arith) (omega arith) in
    let up = reach_up W (W - 1) 0 e in
    omega (arith, ap (count W (2 ^ W - 2)) middle)
