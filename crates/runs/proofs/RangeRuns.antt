-- A range, run after run: how many blocks, and their records in the buffer. Assumes nothing.
use Rattle.std.proofs.Common.{◌≡◌, ℕ, suc, ◌+◌, ◌-◌, ◌*◌, ◌^◌, ◌<◌, ◌≤◌, min, List, [], ◌∷◌, ◌++◌, length, sym, refl, ap, ◌∙◌, subst, append_assoc, append-nil, arith, lit<, length-append}
use Rattle.cover.specs.Blocks.{Block, range_blocks}
use Rattle.cover.proofs.Range.{range_done}
use Rattle.cover.proofs.Claims.{at_most}
use Rattle.output.specs.Placing.{Puts}
use Rattle.output.proofs.PlacingLaws.{puts_then, puts_length}
use Rattle.records.specs.Records.{record_of, records_of}
use Rattle.records.proofs.RecordLaws.{record_length}
use Rattle.runs.specs.Runs.{Lane, Upper, lane_bits, lane_blocks, lane_record, run_records, RunFits, FirstRun}
use Rattle.runs.proofs.LaneLaws.{all_ends, all_blocks}

-- the address behind the end, which has room among the numbers below p
pub next_exact : (p end last next : ℕ) → next ≡ min (end + 1) (p - 1) → end < last → last < p → next ≡ suc end
next_exact p end last next e l h = omega arith

-- ---- how many blocks

lane_count : (l : Lane) (bs : List Block) → length (lane_blocks l bs) ≡ length bs
unfolding lane_blocks
lane_count l [] = refl
lane_count l (b ∷ bs) = ap suc (lane_count l bs)

module _ {W start last : ℕ} {l : Lane} {a b end : ℕ} (f : FirstRun W start last l a b end) where
  first_count : length (range_blocks W start last) ≡ length (range_blocks (lane_bits l) a b) + length (range_blocks W (suc end) last)
  first_count =
      ap length f.blocks ∙ length-append (lane_blocks l (range_blocks (lane_bits l) a b)) (range_blocks W (suc end) last)
      ∙ ap (λ (n : ℕ). n + length (range_blocks W (suc end) last)) (lane_count l (range_blocks (lane_bits l) a b))

  module _ (first n : ℕ) (i : n + length (range_blocks W start last) ≡ length (range_blocks W first last)) (r : ℕ) (count : (U : ℕ) → b < 2 ^ U → r ≡ length (range_blocks U a b)) where
    pub count_few : 2 ≤ W → last < 2 ^ W → n + r ≤ 2 * W - 2
    count_few two top = omega (arith, first_count, count (lane_bits l) f.below, at_most W first last two top)

    pub count_on : (next : ℕ) → next ≡ suc end → n + r + length (range_blocks W next last) ≡ length (range_blocks W first last)
    count_on next e = rw e (omega (arith, first_count, count (lane_bits l) f.below))

    pub count_done : last ≤ end → n + r ≡ length (range_blocks W first last)
    count_done h = omega (arith, first_count, count (lane_bits l) f.below, ap length (range_done W last (suc end) (omega arith)))

  pub nearer : (next : ℕ) → next ≡ suc end → end < last → last - next < last - start
  nearer next e h = omega (arith, f.low)

-- ---- their records

records_append : (W : ℕ) (bs cs : List Block) → records_of W (bs ++ cs) ≡ records_of W bs ++ records_of W cs
unfolding records_of
records_append W [] cs = refl
records_append W (b ∷ bs) cs = ap (λ r. record_of W b ++ r) (records_append W bs cs) ∙ sym (append_assoc (record_of W b) (records_of W bs) (records_of W cs))

-- From `old` at an index, the blocks before `start` are put and `now` is left: putting the others puts the whole range.
pub record Between (W first last : ℕ) (old : List ℕ) (at : ℕ) (now : List ℕ) (next start : ℕ) : Type 0 where
  pub rises : start ≤ last
  pub room : next + length (records_of W (range_blocks W start last)) ≤ length now
  pub rest : (new : List ℕ) (r : ℕ) → Puts now new next r (records_of W (range_blocks W start last)) → Puts old new at r (records_of W (range_blocks W first last))

module _ {W first last : ℕ} {old : List ℕ} {at : ℕ} {now : List ℕ} {next start : ℕ} (w : Between W first last old at now next start)
    {l : Lane} {a b end : ℕ} (f : FirstRun W start last l a b end) where
  run_first : records_of W (range_blocks W start last) ≡ run_records l a b ++ records_of W (range_blocks W (suc end) last)
  unfolding run_records
  run_first =
      ap (records_of W) f.blocks ∙ records_append W (lane_blocks l (range_blocks (lane_bits l) a b)) (range_blocks W (suc end) last)
      ∙ ap (λ (U : ℕ). records_of U (lane_blocks l (range_blocks (lane_bits l) a b)) ++ records_of W (range_blocks W (suc end) last)) (sym f.wide)

  run_length : length (records_of W (range_blocks W start last)) ≡ length (run_records l a b) + length (records_of W (range_blocks W (suc end) last))
  run_length = ap length run_first ∙ length-append (run_records l a b) (records_of W (range_blocks W (suc end) last))

  pub between_fits : RunFits l a b next now
  between_fits = record { rises = f.rises; short = f.short; below = f.below; room = omega (arith, w.room, run_length) }

  module _ {mid : List ℕ} {on : ℕ} (p : Puts now mid next on (run_records l a b)) where
    pub between_on : (s : ℕ) → s ≡ suc end → end < last → Between W first last old at mid on s
    between_on s e h =
        subst (λ (x : ℕ). Between W first last old at mid on x) (sym e)
        (record {
          rises = h;
          room = omega (arith, w.room, run_length, p.index, puts_length p);
          rest = λ new r t. w.rest new r (rw run_first (puts_then p t));
        })

    pub between_done : last ≤ end → Puts old mid at on (records_of W (range_blocks W first last))
    unfolding records_of
    between_done h =
        let none : records_of W (range_blocks W (suc end) last) ≡ [] = ap (records_of W) (range_done W last (suc end) (omega arith)) in
        let all : records_of W (range_blocks W start last) ≡ run_records l a b = run_first ∙ ap (λ r. run_records l a b ++ r) none ∙ append-nil (run_records l a b) in
        w.rest mid on (rw all p)

pub between_start : {W first last : ℕ} {old : List ℕ} {at : ℕ} → first ≤ last → at + length (records_of W (range_blocks W first last)) ≤ length old → Between W first last old at old at first
between_start h room = record { rises = h; room = room; rest = λ new r p. p }

-- all addresses are one block
module _ (first last : ℕ) (small : last < 2 ^ 128) (e : last - first ≡ 2 ^ 128 - 1) where
  all_range : range_blocks 128 first last ≡ record { address = 0; length = 0 } ∷ []
  all_range = let h = all_ends (2 ^ 128) first last (lit< tt) small e in all_blocks first last h.0 h.1

  pub all_count : 1 ≡ length (range_blocks 128 first last)
  all_count = sym (ap length all_range)

  all_records : records_of 128 (range_blocks 128 first last) ≡ lane_record Upper 0 64
  unfolding records_of
  all_records = ap (records_of 128) all_range ∙ append-nil (lane_record Upper 0 64)

  pub all_room : (at n : ℕ) → at + length (records_of 128 (range_blocks 128 first last)) ≤ n → at + 17 ≤ n
  all_room at n h = omega (arith, ap length all_records ∙ record_length 128 (record { address = 0; length = 0 }))

  pub all_puts : {old new : List ℕ} {at r : ℕ} → Puts old new at r (lane_record Upper 0 64) → Puts old new at r (records_of 128 (range_blocks 128 first last))
  all_puts p = rw all_records p
