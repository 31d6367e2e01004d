-- A range as runs: the blocks of the numbers of a lane are those of the addresses that they stand for. Assumes nothing.
use Rattle.std.proofs.Common.{◌≡◌, ℕ, suc, ◌+◌, ◌-◌, ◌*◌, ◌/◌, ◌%◌, ◌^◌, ◌<◌, ◌≤◌, ◌⊎◌, List, [], ◌∷◌, ◌++◌, sym, refl, ap, ◌∙◌, subst, ap₂, inl, inr, add-zero, lt_irrefl, mul-le-mul_right, mul_assoc, add-mul, lt_of_mul-lt-mul_right, suc-add, one-mul, zero-add, mul-div_cancel, arith, pow_pos, pow_mono, pow-add}
use native.Mathlib.Nat.{mul-mod_left, mod-add-mod}
use native.Mathlib.Decide.{dec_le}
use Rattle.wide.specs.Value.{value}
use Rattle.wide.proofs.Aligned.{Aligned, quotient, aligned_gap, aligned_mono, aligned_pow}
use Rattle.cover.specs.Blocks.{Block, largest, range_blocks}
use Rattle.cover.proofs.Range.{MayStart, block_at, largest_le, largest_may, largest_max, largest_is, range_largest, range_ind}
use Rattle.records.specs.Records.{records_of}
use Rattle.runs.specs.declared.Run.{Run}
use Rattle.runs.specs.Runs.{Lane, Narrow, Lower, Upper, RunIs, lane_of, lane_bits, lane_block, lane_blocks, run_records, FirstRun}
use Rattle.runs.proofs.PartLaws.{pow_cancel, aligned_rest}

-- ---- multiples

aligned_sum : (k a b : ℕ) → Aligned k a → Aligned k b → Aligned k (a + b)
aligned_sum k a b h l = sym (mod-add-mod a (2 ^ k) b) ∙ ap (λ (r : ℕ). (r + b) % 2 ^ k) h ∙ ap (λ (x : ℕ). x % 2 ^ k) (zero-add b) ∙ l

shift : (k s q : ℕ) → q * 2 ^ (k + s) ≡ q * 2 ^ k * 2 ^ s
shift k s q = ap (λ (n : ℕ). q * n) (pow-add 2 k s) ∙ sym (mul_assoc q (2 ^ k) (2 ^ s))

aligned_up : (k s a : ℕ) → Aligned k a → Aligned (k + s) (a * 2 ^ s)
aligned_up k s a h =
    let e : a * 2 ^ s ≡ a / 2 ^ k * 2 ^ (k + s) = sym (shift k s (a / 2 ^ k) ∙ ap (λ (n : ℕ). n * 2 ^ s) (quotient (2 ^ k) a h)) in
    rw e (mul-mod_left (a / 2 ^ k) (2 ^ (k + s)))

aligned_down : (k s a : ℕ) → Aligned (k + s) (a * 2 ^ s) → Aligned k a
aligned_down k s a h =
    let q = a * 2 ^ s / 2 ^ (k + s) in
    let e : q * 2 ^ k * 2 ^ s ≡ a * 2 ^ s = sym (shift k s q) ∙ quotient (2 ^ (k + s)) (a * 2 ^ s) h in
    let f : q * 2 ^ k ≡ a = sym (mul-div_cancel (q * 2 ^ k) (pow_pos s)) ∙ ap (λ (n : ℕ). n / 2 ^ s) e ∙ mul-div_cancel a (pow_pos s) in
    rw (← f) (mul-mod_left q (2 ^ k))

-- what is less by a factor is less
rises_less : (p a c b n : ℕ) → a * p + c * p ≤ n → n < b * p → a + c < b
rises_less p a c b n h l = lt_of_mul-lt-mul_right p (rw add-mul (omega arith))

few_bits : (a k b : ℕ) → b < 2 ^ 64 → a + 2 ^ suc k ≤ suc b → suc k ≤ 64
few_bits a k b h l = pow_cancel (suc k) 64 (omega arith)

-- ---- the blocks of a lane

-- `address` takes the numbers of a lane from lo to b to addresses up to `last`, s bits further up
module _ (W last : ℕ) (l : Lane) (address : ℕ → ℕ) (s lo b : ℕ)
    (sizes : (a k : ℕ) → address (a + 2 ^ k) ≡ address a + 2 ^ (k + s))
    (block : (a k : ℕ) → k ≤ lane_bits l → lane_block l (block_at (lane_bits l) a k) ≡ block_at W (address a) (k + s))
    (same : (a : ℕ) → lo ≤ a → a ≤ b → largest W (address a) last ≡ largest (lane_bits l) a b + s)
    (inside : (a : ℕ) → a ≤ b → address a ≤ last) where
  lane_blocks_lem : (a : ℕ) → lo ≤ a → a ≤ suc b → range_blocks W (address a) last ≡ lane_blocks l (range_blocks (lane_bits l) a b) ++ range_blocks W (address (suc b)) last
  unfolding lane_blocks
  lane_blocks_lem = range_ind (lane_bits l) b P none step
    where
      P : ℕ → List Block → Type 0
      P a bs = lo ≤ a → a ≤ suc b → range_blocks W (address a) last ≡ lane_blocks l bs ++ range_blocks W (address (suc b)) last

      none : (a : ℕ) → b < a → P a []
      none a h low top = let e : a ≡ suc b = omega arith in ap (λ (x : ℕ). range_blocks W (address x) last) e

      step : (a : ℕ) (bs : List Block) → a ≤ b → P (a + 2 ^ largest (lane_bits l) a b) bs → P a (block_at (lane_bits l) a (largest (lane_bits l) a b) ∷ bs)
      step a bs h ih low top =
          let k = largest (lane_bits l) a b in
          let fits = (largest_may (lane_bits l) a b h).room in
          range_largest W last (address a) (inside a h)
          ∙ ap (λ (j : ℕ). block_at W (address a) j ∷ range_blocks W (address a + 2 ^ j) last) (same a low h)
          ∙ ap₂ ◌∷◌ (sym (block a k (largest_le (lane_bits l) a b))) (ap (λ (x : ℕ). range_blocks W x last) (sym (sizes a k)) ∙ ih (omega arith) fits)

-- ---- the lower half

module _ (hi last b : ℕ) (top : b < 2 ^ 64) (fits : hi * 2 ^ 64 + b ≤ last) where
  abbrev lower : ℕ → ℕ
  lower a = hi * 2 ^ 64 + a

  lower_multiple : (k : ℕ) → k ≤ 64 → Aligned k (hi * 2 ^ 64)
  lower_multiple k h = aligned_mono (hi * 2 ^ 64) h (mul-mod_left hi (2 ^ 64))

  lower_may : (a : ℕ) → a ≤ b → MayStart (lower a) last (largest 64 a b)
  lower_may a h =
      let f = largest_may 64 a b h in
      let k = largest 64 a b in
      record { aligned = aligned_sum k (hi * 2 ^ 64) a (lower_multiple k (largest_le 64 a b)) f.aligned; room = omega (arith, f.room) }

  -- no larger block starts there, if its end is the range's, or the half's and the start is not the half's
  lower_not : (a : ℕ) → a ≤ b → (last ≡ hi * 2 ^ 64 + b) ⊎ ((suc b ≡ 2 ^ 64) × (0 < a)) → ¬ MayStart (lower a) last (suc (largest 64 a b))
  lower_not a h (inl e) g =
      let k = largest 64 a b in
      let room : a + 2 ^ suc k ≤ suc b = omega (arith, g.room) in
      let few : suc k ≤ 64 = pow_cancel (suc k) 64 (omega arith) in
      let even : Aligned (suc k) a = aligned_rest (suc k) (hi * 2 ^ 64) a (lower_multiple (suc k) few) g.aligned in
      omega (arith, largest_max 64 a b (suc k) few (record { aligned = even; room = room }))
  lower_not a h (inr (e, pos)) g =
      let k = largest 64 a b in
      let f = (largest_may 64 a b h).room in
      let few : suc k ≤ 64 = elim (dec_le (suc k) 64) [ yes l ↦ l | no n ↦ absurd (omega (arith, pow_mono {i = 64} {j = k} (omega arith))) ] in
      let even : Aligned (suc k) a = aligned_rest (suc k) (hi * 2 ^ 64) a (lower_multiple (suc k) few) g.aligned in
      let room : a + 2 ^ suc k ≤ suc b = rw e (aligned_gap (suc k) even (aligned_pow few) (omega arith)) in
      omega (arith, largest_max 64 a b (suc k) few (record { aligned = even; room = room }))

  lower_same : (lo : ℕ) → (last ≡ hi * 2 ^ 64 + b) ⊎ ((suc b ≡ 2 ^ 64) × (0 < lo)) → (a : ℕ) → lo ≤ a → a ≤ b → largest 128 (lower a) last ≡ largest 64 a b + 0
  lower_same lo c a low h =
      let ends : (last ≡ hi * 2 ^ 64 + b) ⊎ ((suc b ≡ 2 ^ 64) × (0 < a)) = elim c [ inl e ↦ inl e | inr p ↦ inr (p.0, omega (arith, p.1)) ] in
      largest_is 128 (lower a) last (largest 64 a b) (omega (arith, largest_le 64 a b)) (lower_may a h) (inr (lower_not a h ends)) ∙ sym (add-zero (largest 64 a b))

  pub lower_blocks : (lo : ℕ) → lo ≤ b → (last ≡ hi * 2 ^ 64 + b) ⊎ ((suc b ≡ 2 ^ 64) × (0 < lo))
      → range_blocks 128 (hi * 2 ^ 64 + lo) last ≡ lane_blocks (Lower hi) (range_blocks 64 lo b) ++ range_blocks 128 (suc (hi * 2 ^ 64 + b)) last
  lower_blocks lo h c =
      let next : lower (suc b) ≡ suc (hi * 2 ^ 64 + b) = omega arith in
      lane_blocks_lem 128 last (Lower hi) lower 0 lo b sizes block (lower_same lo c) (λ a l. omega arith) lo (omega arith) (omega arith)
      ∙ ap (λ (x : ℕ). lane_blocks (Lower hi) (range_blocks 64 lo b) ++ range_blocks 128 x last) next
    where
      sizes : (a k : ℕ) → lower (a + 2 ^ k) ≡ lower a + 2 ^ (k + 0)
      sizes a k = omega (arith, ap (λ (n : ℕ). 2 ^ n) (add-zero k))

      block : (a k : ℕ) → k ≤ 64 → lane_block (Lower hi) (block_at 64 a k) ≡ block_at 128 (lower a) (k + 0)
      block a k h = let e : 64 + (64 - k) ≡ 128 - (k + 0) = omega arith in ap (λ (n : ℕ). record { address = lower a; length = n }) e

-- ---- the upper half

module _ (last b : ℕ) (top : b < 2 ^ 64) (fits : (b + 1) * 2 ^ 64 ≤ suc last) (short : suc last < (b + 2) * 2 ^ 64) where
  abbrev upper : ℕ → ℕ
  upper a = a * 2 ^ 64

  raised : (k : ℕ) → 2 ^ (k + 64) ≡ 2 ^ k * 2 ^ 64
  raised k = pow-add 2 k 64

  upper_same : (a : ℕ) → 0 ≤ a → a ≤ b → largest 128 (upper a) last ≡ largest 64 a b + 64
  upper_same a low h =
      let k = largest 64 a b in
      let f = largest_may 64 a b h in
      let may : MayStart (upper a) last (k + 64) = record { aligned = aligned_up k 64 a f.aligned; room = omega (arith, f.room, raised k) } in
      largest_is 128 (upper a) last (k + 64) (omega (arith, largest_le 64 a b)) may (inr not)
    where
      not : ¬ MayStart (upper a) last (suc (largest 64 a b + 64))
      not g =
          let k = largest 64 a b in
          let e : suc (k + 64) ≡ suc k + 64 = sym (suc-add k 64) in
          let even : Aligned (suc k) a = aligned_down (suc k) 64 a (subst (λ (j : ℕ). Aligned j (upper a)) e g.aligned) in
          let room : a + 2 ^ suc k ≤ suc b = omega (arith, rises_less (2 ^ 64) a (2 ^ suc k) (b + 2) (suc last) (subst (λ (n : ℕ). upper a + n ≤ suc last) (ap (λ (j : ℕ). 2 ^ j) e ∙ raised (suc k)) g.room) short) in
          let few : suc k ≤ 64 = few_bits a k b top room in
          omega (arith, largest_max 64 a b (suc k) few (record { aligned = even; room = room }))

  pub upper_blocks : (a : ℕ) → a ≤ b → range_blocks 128 (a * 2 ^ 64) last ≡ lane_blocks Upper (range_blocks 64 a b) ++ range_blocks 128 (suc b * 2 ^ 64) last
  upper_blocks a h = lane_blocks_lem 128 last Upper upper 64 0 b sizes block upper_same (λ x l. omega arith) a (omega arith) (omega arith)
    where
      sizes : (x k : ℕ) → upper (x + 2 ^ k) ≡ upper x + 2 ^ (k + 64)
      sizes x k = omega (arith, raised k)

      block : (x k : ℕ) → k ≤ 64 → lane_block Upper (block_at 64 x k) ≡ block_at 128 (upper x) (k + 64)
      block x k h = let e : 64 - k ≡ 128 - (k + 64) = omega arith in ap (λ (n : ℕ). record { address = upper x; length = n }) e

-- ---- IPv4

narrow_same : (bs : List Block) → lane_blocks Narrow bs ≡ bs
unfolding lane_blocks
narrow_same [] = refl
narrow_same (b ∷ bs) = ap (λ r. b ∷ r) (narrow_same bs)

-- a range of IPv4 addresses is one run
pub narrow_records : (first last : ℕ) → run_records Narrow first last ≡ records_of 32 (range_blocks 32 first last)
unfolding run_records
narrow_records first last = ap (records_of 32) (narrow_same (range_blocks 32 first last))

-- ---- the first run of a range

-- one upper half below
back : (p bh : ℕ) → 0 < bh → bh * p ≡ (bh - 1) * p + p
back p bh h = let e : bh ≡ bh - 1 + 1 = omega arith in ap (λ (n : ℕ). n * p) e ∙ add-mul (bh - 1) 1 p ∙ ap (λ (n : ℕ). (bh - 1) * p + n) (one-mul p)

into_high : (p m bh bl : ℕ) → m + 1 ≡ p → 0 < bh → (bh - 1) * p + m ≤ bh * p + bl
into_high p m bh bl e h = omega (arith, back p bh h)

into_fits : (p bh bl : ℕ) → 0 < bh → (bh - 1 + 1) * p ≤ suc (bh * p + bl)
into_fits p bh bl h = omega (arith, back p bh h, add-mul (bh - 1) 1 p, one-mul p)

into_low : (p m ah al bh : ℕ) → al ≤ 0 → ah < bh → ah * p + al ≤ (bh - 1) * p + m
into_low p m ah al bh z h = let up : ah * p ≤ (bh - 1) * p = mul-le-mul_right p (omega arith) in omega arith

into_short : (p m bh bl : ℕ) → m + 1 ≡ p → bl < m → 0 < bh → suc (bh * p + bl) < (bh - 1 + 2) * p
into_short p m bh bl e l h = omega (arith, back p bh h, add-mul (bh - 1) 2 p)

pub low_rises : (p ah al bh bl : ℕ) → bh ≤ ah → ah * p + al ≤ bh * p + bl → al ≤ bl
low_rises p ah al bh bl h l = let up : bh * p ≤ ah * p = mul-le-mul_right p h in omega arith

pub high_rises : (p ah al bh bl : ℕ) → ah * p + al ≤ bh * p + bl → bl < p → ah ≤ bh
high_rises p ah al bh bl l h = elim (dec_le ah bh) [
  | yes k ↦ k
  | no n ↦ let up : (bh + 1) * p ≤ ah * p = mul-le-mul_right p (omega arith) in absurd (omega (arith, add-mul bh 1 p, one-mul p))
]

module _ (ah al bh bl : ℕ) where
  abbrev from : ℕ
  from = ah * 2 ^ 64 + al

  abbrev to : ℕ
  to = bh * 2 ^ 64 + bl

  module _ (alow : al < 2 ^ 64) (blow : bl < 2 ^ 64) (bhigh : bh < 2 ^ 64) where
    pub first_half : from ≤ to → bh ≤ ah → bl - al < 18446744073709551615 → FirstRun 128 from to (Lower ah) al bl to
    first_half rises h less =
        let same : ah ≡ bh = omega arith in
        let all : to ≡ ah * 2 ^ 64 + bl = omega arith in
        record {
          wide = refl;
          rises = omega arith;
          short = less;
          below = blow;
          low = rises;
          high = omega arith;
          blocks = lower_blocks ah to bl blow (omega arith) al (omega arith) (inl all) ∙ ap (λ (x : ℕ). lane_blocks (Lower ah) (range_blocks 64 al bl) ++ range_blocks 128 (suc x) to) (sym all);
        }

    pub first_up : ah < bh → 0 < al → FirstRun 128 from to (Lower ah) al 18446744073709551615 (ah * 2 ^ 64 + 18446744073709551615)
    first_up h pos =
        record {
          wide = refl;
          rises = omega arith;
          short = omega arith;
          below = omega arith;
          low = omega arith;
          high = omega arith;
          blocks = lower_blocks ah to 18446744073709551615 (omega arith) (omega arith) al (omega arith) (inr (refl, pos));
        }

    module _ (zero' : al ≤ 0) where
      start : ah * 2 ^ 64 ≡ from
      start = omega arith

      pub first_over : ah ≤ bh → 18446744073709551615 ≤ bl → bh - ah < 18446744073709551615 → FirstRun 128 from to Upper ah bh to
      first_over h full less =
          let end : suc bh * 2 ^ 64 ≡ suc to = omega arith in
          record {
            wide = refl;
            rises = omega arith;
            short = less;
            below = bhigh;
            low = omega arith;
            high = omega arith;
            blocks = ap (λ (x : ℕ). range_blocks 128 x to) (sym start) ∙ upper_blocks to bh bhigh (omega arith) (omega arith) ah (omega arith)
                ∙ ap (λ (x : ℕ). lane_blocks Upper (range_blocks 64 ah bh) ++ range_blocks 128 x to) end;
          }

      pub first_into : ah < bh → bl < 18446744073709551615 → FirstRun 128 from to Upper ah (bh - 1) ((bh - 1) * 2 ^ 64 + 18446744073709551615)
      first_into h less =
          let end : suc (bh - 1) * 2 ^ 64 ≡ suc ((bh - 1) * 2 ^ 64 + 18446744073709551615) = omega arith in
          record {
            wide = refl;
            rises = omega arith;
            short = omega arith;
            below = omega arith;
            low = into_low (2 ^ 64) 18446744073709551615 ah al bh zero' h;
            high = into_high (2 ^ 64) 18446744073709551615 bh bl refl (omega arith);
            blocks = ap (λ (x : ℕ). range_blocks 128 x to) (sym start) ∙ upper_blocks to (bh - 1) (omega arith) (into_fits (2 ^ 64) bh bl (omega arith)) (into_short (2 ^ 64) 18446744073709551615 bh bl refl less (omega arith)) ah (omega arith)
                ∙ ap (λ (x : ℕ). lane_blocks Upper (range_blocks 64 ah (bh - 1)) ++ range_blocks 128 x to) end;
          }

-- the same of a run that the code answers
pub run_first : {s t : ℕ} {r : Run} {l : Lane} {a b e : ℕ} → RunIs r l a b e → (end : ℕ) → e ≡ end → FirstRun 128 s t l a b end
    → FirstRun 128 s t (lane_of r.longest r.hi) r.first r.last (value r.end)
run_first {s} {t} {r} {l} {a} {b} {e} i end q f =
    subst (λ (x : ℕ). FirstRun 128 s t (lane_of r.longest r.hi) r.first r.last x) (sym (i.end ∙ q))
    (subst (λ (x : ℕ). FirstRun 128 s t (lane_of r.longest r.hi) r.first x end) (sym i.last)
    (subst (λ (x : ℕ). FirstRun 128 s t (lane_of r.longest r.hi) x b end) (sym i.first)
    (subst (λ x. FirstRun 128 s t x a b end) (sym i.lane) f)))

-- ---- all addresses

-- a range that is not all of them does not have all upper halves whole
pub over_short : (ah al bh bl : ℕ) → al ≤ 0 → 18446744073709551615 ≤ bl → bl < 2 ^ 64 → bh < 2 ^ 64 → bh * 2 ^ 64 + bl - (ah * 2 ^ 64 + al) < 2 ^ 128 - 1 → bh - ah < 18446744073709551615
over_short ah al bh bl z full bsmall hsmall less = elim (dec_le 18446744073709551615 (bh - ah)) [
  | no n ↦ omega arith
  | yes h ↦
      let a : ah ≡ 0 = omega arith in
      let c : bh ≡ 18446744073709551615 = omega arith in
      let y : al ≡ 0 = omega arith in
      let w : bl ≡ 18446744073709551615 = omega arith in
      absurd (lt_irrefl (2 ^ 128 - 1) (subst (λ (n : ℕ). n < 2 ^ 128 - 1) (same a y c w) less))
]
  where
    same : ah ≡ 0 → al ≡ 0 → bh ≡ 18446744073709551615 → bl ≡ 18446744073709551615 → bh * 2 ^ 64 + bl - (ah * 2 ^ 64 + al) ≡ 2 ^ 128 - 1
    same a y c w = rw (a, y, c, w)

-- a difference of the whole
pub all_ends : (p a b : ℕ) → 1 < p → b < p → b - a ≡ p - 1 → (a ≡ 0) × (b ≡ p - 1)
all_ends p a b pos h e = (omega arith, omega arith)

pub all_blocks : (a b : ℕ) → a ≡ 0 → b ≡ 2 ^ 128 - 1 → range_blocks 128 a b ≡ record { address = 0; length = 0 } ∷ []
unfolding range_blocks
all_blocks a b e f = rw (e, f)

pub less_all : (p a b : ℕ) → b < p → ¬ (b - a ≡ p - 1) → b - a < p - 1
less_all p a b h n = omega arith
