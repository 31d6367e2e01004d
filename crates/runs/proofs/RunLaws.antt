-- The records of a run, put into a buffer one after the other. Assumes nothing.
use Rattle.std.proofs.Common.{◌≡◌, ℕ, suc, ◌+◌, ◌-◌, ◌*◌, ◌^◌, ◌<◌, ◌≤◌, List, [], ◌∷◌, ◌++◌, length, take, drop, sym, refl, ap, ◌∙◌, subst, append_assoc, append-nil, add-zero, arith, lit≤, length-append, length-drop, take-append-drop, length-take-le, take_all, pow_pos, pow_mono, ne_eqb}
use native.Mathlib.Decide.{ℕ_discrete}
use borrow.Rule.Slice.PartMut.{put_mid, mid_of}
use lib.Count.{count_trailing_zeros, count_leading_zeros}
use Rattle.cover.specs.Blocks.{range_blocks}
use Rattle.cover.proofs.Range.{block_at}
use Rattle.address.specs.Answers.{write_leaves}
use Rattle.address.proofs.AnswerLaws.{write_fits}
use Rattle.address.proofs.BufferLaws.{rest, put_behind}
use Rattle.output.specs.Placing.{placed, Puts}
use Rattle.output.proofs.PlacingLaws.{puts_then, puts_length}
use Rattle.records.specs.Records.{record_size, record_of, records_of}
use Rattle.records.proofs.RecordLaws.{record_length}
use Rattle.runs.specs.Runs.{Lane, Narrow, Lower, Upper, lane_of, lane_bits, lane_width, lane_block, lane_blocks, lane_record, run_records, Parts, RunFits, Walk}
use Rattle.runs.proofs.PartLaws.{top_bits, bits_le, rise_bits, rise_size, rise_next, rise_step, fall_bits, fall_step, fall_next, fall_done}

-- ---- the lanes

pub lane_32 : (longest hi : ℕ) → longest ≡ 32 → lane_of longest hi ≡ Narrow
lane_32 longest hi e = rw e

pub lane_64 : (longest hi : ℕ) → longest ≡ 64 → lane_of longest hi ≡ Upper
lane_64 longest hi e = rw e

pub lane_128 : (longest hi : ℕ) → ¬ (longest ≡ 32) → ¬ (longest ≡ 64) → lane_of longest hi ≡ Lower hi
lane_128 longest hi n m = rw (ne_eqb longest 32 n, ne_eqb longest 64 m)

pub lane_narrow : (l : Lane) (a k : ℕ) → l ≡ Narrow → (record_of 32 (record { address = a; length = 32 - k }) ≡ lane_record l a k) × (32 ≡ lane_width l)
lane_narrow l a k e = subst (λ m. (record_of 32 (record { address = a; length = 32 - k }) ≡ lane_record m a k) × (32 ≡ lane_width m)) (sym e) (refl, refl)

pub lane_lower : (l : Lane) (hi a k : ℕ) → l ≡ Lower hi → k ≤ 64 → (record_of 128 (record { address = hi * 2 ^ 64 + a; length = 128 - k }) ≡ lane_record l a k) × (128 ≡ lane_width l)
lane_lower l hi a k e h =
    let f : 128 - k ≡ 64 + (64 - k) = omega arith in
    subst (λ m. (record_of 128 (record { address = hi * 2 ^ 64 + a; length = 128 - k }) ≡ lane_record m a k) × (128 ≡ lane_width m)) (sym e)
    (ap (λ (n : ℕ). record_of 128 (record { address = hi * 2 ^ 64 + a; length = n })) f, refl)

pub lane_upper : (l : Lane) (a k : ℕ) → l ≡ Upper → (record_of 128 (record { address = a * 2 ^ 64 + 0; length = 64 - k }) ≡ lane_record l a k) × (128 ≡ lane_width l)
lane_upper l a k e =
    subst (λ m. (record_of 128 (record { address = a * 2 ^ 64 + 0; length = 64 - k }) ≡ lane_record m a k) × (128 ≡ lane_width m)) (sym e)
    (ap (λ (n : ℕ). record_of 128 (record { address = n; length = 64 - k })) (add-zero (a * 2 ^ 64)), refl)

pub size_narrow : (longest hi : ℕ) → longest ≡ 32 → record_size (lane_width (lane_of longest hi)) ≡ 5
size_narrow longest hi e = ap (λ l. record_size (lane_width l)) (lane_32 longest hi e)

pub size_wide : (longest hi : ℕ) → ¬ (longest ≡ 32) → record_size (lane_width (lane_of longest hi)) ≡ 17
size_wide longest hi n = elim (ℕ_discrete longest 64) [
  | yes e ↦ ap (λ l. record_size (lane_width l)) (lane_64 longest hi e)
  | no m ↦ ap (λ l. record_size (lane_width l)) (lane_128 longest hi n m)
]

pub lane_most : (l : Lane) → lane_bits l ≤ 64
lane_most Narrow = lit≤ tt
lane_most (Lower hi) = lit≤ tt
lane_most Upper = lit≤ tt

-- ---- one record

pub lane_length : (l : Lane) (a k : ℕ) → length (lane_record l a k) ≡ record_size (lane_width l)
lane_length l a k = record_length (lane_width l) (lane_block l (record { address = a; length = lane_bits l - k }))

-- bytes put into the rest of a buffer, where there is room for them
pub puts_rest : (now ys bytes : List ℕ) (at n : ℕ) → length bytes ≡ n → at + n ≤ length now → ys ≡ write_leaves 0 bytes (mid_of at (length now - at) now)
    → Puts now (put_mid at (length now - at) now ys) at (at + n) bytes
unfolding placed
puts_rest now ys bytes at n size room e =
    let free = mid_of at (length now - at) now in
    let long : n ≤ length free = omega (arith, ap length (rest at now), length-drop at now) in
    let put : ys ≡ bytes ++ drop n free = e ∙ sym (write_fits bytes free n size long (bytes ++ drop n free) refl).1 in
    let after = put_behind at n now now ys (take at now) bytes (length-take-le at now (omega arith)) (sym (take-append-drop at now)) put in
    let shape = append_assoc (take at now) bytes (drop (at + n) now) in
    let all = take at now ++ (bytes ++ drop (at + n) now) in
    let whole : length all ≡ length now =
    length-append (take at now) (bytes ++ drop (at + n) now) ∙ omega (arith, length-take-le at now (omega arith), length-append bytes (drop (at + n) now), length-drop (at + n) now) in
    let same : take (length now) all ≡ all = take_all (length now) all (omega arith) in
    record {
      index = omega arith;
      buffer = after ∙ shape ∙ sym same ∙ ap (λ (m : ℕ). take (length now) (take at now ++ (bytes ++ drop (at + m) now))) (sym size);
    }

-- the rest of a buffer has that room
pub rest_room : (now : List ℕ) (at W U : ℕ) → W ≡ U → at + record_size U ≤ length now → record_size W ≤ length (mid_of at (length now - at) now)
rest_room now at W U e h = subst (λ (n : ℕ). record_size n ≤ length (mid_of at (length now - at) now)) (sym e) (omega (arith, ap length (rest at now), length-drop at now))

-- the same of bytes that are known by another name
pub puts_same : {now ys src bytes : List ℕ} {at n : ℕ} → src ≡ bytes → length bytes ≡ n → at + n ≤ length now → ys ≡ write_leaves 0 src (mid_of at (length now - at) now)
    → Puts now (put_mid at (length now - at) now ys) at (at + n) bytes
puts_same {now} {ys} {src} {bytes} {at} {n} s size room e = puts_rest now ys bytes at n size room (e ∙ ap (λ b. write_leaves 0 b (mid_of at (length now - at) now)) s)

-- ---- one record after the other

module _ (l : Lane) (a last k : ℕ) (e : range_blocks (lane_bits l) a last ≡ block_at (lane_bits l) a k ∷ range_blocks (lane_bits l) (a + 2 ^ k) last) where
  run_step : run_records l a last ≡ lane_record l a k ++ run_records l (a + 2 ^ k) last
  unfolding run_records records_of lane_blocks
  run_step = ap (λ bs. records_of (lane_width l) (lane_blocks l bs)) e

  run_length : length (run_records l a last) ≡ record_size (lane_width l) + length (run_records l (a + 2 ^ k) last)
  run_length = ap length run_step ∙ length-append (lane_record l a k) (run_records l (a + 2 ^ k) last) ∙ ap (λ (n : ℕ). n + length (run_records l (a + 2 ^ k) last)) (lane_length l a k)

run_none : (l : Lane) (a last : ℕ) → range_blocks (lane_bits l) a last ≡ [] → run_records l a last ≡ []
unfolding run_records records_of lane_blocks
run_none l a last e = ap (λ bs. records_of (lane_width l) (lane_blocks l bs)) e

pub fits_small : {l : Lane} {first last at : ℕ} {old : List ℕ} → RunFits l first last at old → last < 2 ^ 64
fits_small {l} f = omega (arith, f.below, pow_mono {i = lane_bits l} {j = 64} (lane_most l))

-- the same run, its last number by another name
pub puts_last : (l : Lane) (first : ℕ) {x y : ℕ} {old new : List ℕ} {at r : ℕ} → x ≡ y → Puts old new at r (run_records l first y) → Puts old new at r (run_records l first x)
puts_last l first {x} {y} {old} {new} {at} {r} e p = subst (λ (n : ℕ). Puts old new at r (run_records l first n)) (sym e) p

pub walk_start : {l : Lane} {first last at : ℕ} {old : List ℕ} {rise fall : ℕ} → RunFits l first last at old → Parts first last rise fall → Walk l first last old at old at first rise fall
walk_start f p = record { below = f.below; parts = p; room = f.room; rest = λ new r q. q }

module _ {l : Lane} {first last : ℕ} {old : List ℕ} {at : ℕ} {now : List ℕ} {next start rise fall : ℕ} (w : Walk l first last old at now next start rise fall)
    (k : ℕ) (e : range_blocks (lane_bits l) start last ≡ block_at (lane_bits l) start k ∷ range_blocks (lane_bits l) (start + 2 ^ k) last) where
  pub walk_room : next + record_size (lane_width l) ≤ length now
  walk_room = omega (arith, w.room, run_length l start last k e)

  module _ {mid : List ℕ} {on : ℕ} (p : Puts now mid next on (lane_record l start k)) where
    pub walk_on : (rise' fall' : ℕ) → Parts (start + 2 ^ k) last rise' fall' → Walk l first last old at mid on (start + 2 ^ k) rise' fall'
    walk_on rise' fall' q = record {
      below = w.below;
      parts = q;
      room = omega (arith, w.room, run_length l start last k e, p.index, lane_length l start k, puts_length p);
      rest = λ new r t. w.rest new r (rw (run_step l start last k e) (puts_then p t));
    }

    pub walk_done : range_blocks (lane_bits l) (start + 2 ^ k) last ≡ [] → Puts old mid at on (run_records l first last)
    walk_done done =
        let one : run_records l start last ≡ lane_record l start k ++ [] = run_step l start last k e ∙ ap (λ r. lane_record l start k ++ r) (run_none l (start + 2 ^ k) last done) in
        w.rest mid on (rw (one, append-nil (lane_record l start k)) p)

-- ---- the two loops, in the code's terms

module _ {l : Lane} {first last : ℕ} {old : List ℕ} {at : ℕ} {now : List ℕ} {next start rise fall : ℕ} (w : Walk l first last old at now next start rise fall)
    (pos : 0 < rise) (small : last < 2 ^ 64) where
  abbrev up : ℕ
  up = count_trailing_zeros 64 start

  up_step : range_blocks (lane_bits l) start last ≡ block_at (lane_bits l) start up ∷ range_blocks (lane_bits l) (start + 2 ^ up) last
  up_step = rise_step w.parts pos 64 small (lane_bits l) w.below

  pub up_bits : up < 64
  up_bits = omega (arith, rise_bits w.parts pos 64 small, bits_le w.parts 64 small)

  pub up_requires : (start < 2 ^ lane_bits l) × (up ≤ lane_bits l) × (next + record_size (lane_width l) ≤ length now)
  up_requires = (omega (arith, w.parts.all, w.below), omega (arith, rise_bits w.parts pos 64 small, bits_le w.parts (lane_bits l) w.below), walk_room w up up_step)

  module _ (size : ℕ) (s : size ≡ 2 ^ up) where
    pub up_size : (size ≤ rise) × (0 < size) × (start + size ≤ last)
    up_size = let h = rise_size w.parts pos 64 small in (omega arith, omega (arith, pow_pos up), omega (arith, w.parts.all, w.parts.some))

    pub up_next : {mid : List ℕ} {on : ℕ} → Puts now mid next on (lane_record l start up) → Walk l first last old at mid on (start + size) (rise - size) fall
    up_next {mid} {on} p =
        subst (λ (n : ℕ). Walk l first last old at mid on (start + n) (rise - n) fall) (sym s) (walk_on w up up_step p (rise - 2 ^ up) fall (rise_next w.parts pos 64 small))

-- the rising part is over
pub walk_top : {l : Lane} {first last : ℕ} {old : List ℕ} {at : ℕ} {now : List ℕ} {next start left fall : ℕ} (top : ℕ) → Walk l first last old at now next start left fall
    → left ≤ 0 → start + left ≡ top → Walk l first last old at now next top 0 fall
walk_top {l} {first} {last} {old} {at} {now} {next} {start} {left} {fall} top w h e =
    let none : left ≡ 0 = omega arith in
    let here : start ≡ top = omega arith in
    subst (λ (x : ℕ). Walk l first last old at now next x 0 fall) here (subst (λ (n : ℕ). Walk l first last old at now next start n fall) none w)

-- what is left of a run is a run
pub walk_fits : {l : Lane} {first last : ℕ} {old : List ℕ} {at : ℕ} {now : List ℕ} {next start fall : ℕ} → Walk l first last old at now next start 0 fall
    → RunFits l first last at old → first ≤ start → RunFits l start last next now
walk_fits w f h = record { rises = omega (arith, w.parts.all, w.parts.some); short = omega (arith, f.short, w.parts.all, w.parts.some); below = w.below; room = w.room }

module _ {l : Lane} {first last : ℕ} {old : List ℕ} {at : ℕ} {now : List ℕ} {next start fall : ℕ} (w : Walk l first last old at now next start 0 fall) (small : fall < 2 ^ 64) where
  abbrev down : ℕ
  down = 63 - count_leading_zeros 64 fall

  pub down_bits : count_leading_zeros 64 fall ≤ 63
  down_bits = (top_bits fall w.parts.some small).0

  down_low : 2 ^ down ≤ fall
  down_low = (top_bits fall w.parts.some small).1

  down_high : fall < 2 ^ suc down
  down_high = (top_bits fall w.parts.some small).2

  down_step : range_blocks (lane_bits l) start last ≡ block_at (lane_bits l) start down ∷ range_blocks (lane_bits l) (start + 2 ^ down) last
  down_step = fall_step w.parts down down_low down_high (lane_bits l) w.below

  pub down_requires : (start < 2 ^ lane_bits l) × (down ≤ lane_bits l) × (next + record_size (lane_width l) ≤ length now)
  down_requires = (omega (arith, w.parts.all, w.parts.some, w.below), fall_bits w.parts down down_low down_high (lane_bits l) w.below, walk_room w down down_step)

  module _ (size : ℕ) (s : size ≡ 2 ^ down) where
    pub down_size : (size ≤ fall) × (0 < size) × (start + size ≤ last + 1)
    down_size = (omega (arith, down_low), omega (arith, pow_pos down), omega (arith, w.parts.all, down_low))

    pub down_next : size < fall → (on : ℕ) → on ≡ start + size → {mid : List ℕ} {next' : ℕ} → Puts now mid next next' (lane_record l start down)
        → Walk l first last old at mid next' on 0 (fall - size)
    down_next more on e {mid} {next'} p =
        let here : on ≡ start + 2 ^ down = omega arith in
        subst (λ (x : ℕ). Walk l first last old at mid next' x 0 (fall - size)) (sym here)
        (subst (λ (n : ℕ). Walk l first last old at mid next' (start + 2 ^ down) 0 (fall - n)) (sym s)
        (walk_on w down down_step p 0 (fall - 2 ^ down) (fall_next w.parts down down_low down_high (omega arith))))

    pub down_done : fall ≤ size → {mid : List ℕ} {on : ℕ} → Puts now mid next on (lane_record l start down) → Puts old mid at on (run_records l first last)
    down_done h p = walk_done w down down_step p (fall_done w.parts down down_low down_high (omega arith) (lane_bits l))
