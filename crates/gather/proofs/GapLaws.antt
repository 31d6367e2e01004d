-- The gaps between the blocks in order, for the loop's invariant. Assumes nothing.
use Rattle.std.specs.Prelude.{Ok, Err}
use mathlib.Core.Path.{◌≡◌, refl, sym, ap, ap₂, subst, ◌∙◌}
use mathlib.Core.Logic.{inl, inr}
use mathlib.Core.Bool.{Bool, true, false, false≢true}
use mathlib.Core.List.{List, [], ◌∷◌, ◌++◌, append-nil}
use Prim.Native.Nat.{ℕ, suc, ◌+◌, ◌-◌, ◌*◌, ◌/◌, ◌^◌, ◌≤◌, ◌<◌, max}
use native.Mathlib.Nat.{mul_comm, mul-le-mul_right}
use native.Mathlib.Omega.{arith}
use lib.Dec.{leb}
use lib.ListN.{length, length-append}
use lib.Pow.{pow_pos}
use Rattle.wide.specs.Value.{value}
use Rattle.cover.specs.Blocks.{Block, IsBlock, AllBlocks, range_blocks, after}
use Rattle.cover.proofs.Interval.{size_pos}
use Rattle.lists.specs.Lists.{uncovered_blocks}
use Rattle.lists.specs.Inner.{gaps_from}
use Rattle.lists.proofs.Plain.{valid_all}
use Rattle.lists.proofs.Passes.{gaps_start, gaps_end, gaps_next, gaps_none, gaps_past}
use Rattle.lists.proofs.Claims.{uncovered_at_most}
use Rattle.address.specs.declared.Refusal.TheVariants.{NoRoom}
use Rattle.address.specs.Answers.{write_refusal}
use Rattle.address.proofs.AnswerLaws.{answer_refuses, room_less, write_short}
use Rattle.output.specs.Placing.{Puts, PutsAll}
use Rattle.output.proofs.PlacingLaws.{puts_none, puts_then, puts_length, all_room}
use Rattle.records.specs.Records.{read_records, records_of}
use Rattle.records.proofs.RecordLaws.{records_length}
use Rattle.record_lists.specs.Inner.{IsSize, size_width}
use Rattle.record_lists.proofs.ListLaws.{size_back}
use Rattle.record_lists.proofs.GoodLaws.{reads_length}
use Rattle.gather.specs.declared.Span.{Span}
use Rattle.gather.specs.Inner.{outside, Listed, Spans, picks, ordered, InOrder, GapFits, PutsIf, PutsBefore, WritesBlocks, most_uncovered}
use Rattle.gather.proofs.PutLaws.{records_append, records_none}
use Rattle.gather.proofs.WriteLaws.{wrote_put}
use Rattle.gather.proofs.PassLaws.{next_block, picks_length, picks_at, picks_next, picks_done}

-- ---- bytes put or only counted

-- where they are put they have room
abbrev pub Fits : Bool → List ℕ → ℕ → List ℕ → Type 0
Fits write old at bytes = write ≡ true → at + length bytes ≤ length old

pub if_puts : {old new : List ℕ} {at next : ℕ} {bytes : List ℕ} → at + length bytes ≤ length old → Puts old new at next bytes → PutsIf true old new at next bytes
if_puts h p = record { index = omega (arith, p.index); buffer = p.buffer }

puts_if : {old new : List ℕ} {at next : ℕ} {bytes : List ℕ} → at + length bytes ≤ length old → PutsIf true old new at next bytes → Puts old new at next bytes
puts_if h p = record { index = omega (arith, p.index); buffer = p.buffer }

pub if_none : (write : Bool) (old : List ℕ) (at : ℕ) → PutsIf write old old at at []
if_none true old at = record { index = omega arith; buffer = (puts_none old at).buffer }
if_none false old at = record { index = omega arith; buffer = refl }

pub if_length : (write : Bool) {old new : List ℕ} {at next : ℕ} {bytes : List ℕ} → Fits write old at bytes → PutsIf write old new at next bytes → length new ≡ length old
if_length true f p = puts_length (puts_if (f refl) p)
if_length false f p = ap length p.buffer

pub if_then : (write : Bool) {old mid new : List ℕ} {at on next : ℕ} {bytes more : List ℕ} → Fits write old at (bytes ++ more)
    → PutsIf write old mid at on bytes → PutsIf write mid new on next more → PutsIf write old new at next (bytes ++ more)
if_then true {old} {mid} {new} {at} {on} {next} {bytes} {more} f p q =
    let all : at + (length bytes + length more) ≤ length old = omega (arith, f refl, length-append bytes more) in
    let first = puts_if (omega arith) p in
    let second = puts_if (omega (arith, puts_length first, p.index)) q in
    if_puts (f refl) (puts_then first second)
if_then false {bytes = bytes} {more = more} f p q = record { index = omega (arith, p.index, q.index, length-append bytes more); buffer = q.buffer ∙ p.buffer }

-- all or none, where there is room, and the bytes that are counted
pub gap_put : (write : Bool) → write ≡ true → {old new : List ℕ} {at next : ℕ} {bytes : List ℕ} → Fits write old at bytes → PutsAll old new at next bytes → PutsIf write old new at next bytes
gap_put true t f p = if_puts (f refl) (all_room p (f refl))
gap_put false t f p = absurd (false≢true t)

pub gap_counted : (write : Bool) → write ≡ false → (old : List ℕ) (at next : ℕ) (bytes : List ℕ) → next ≡ at + length bytes → PutsIf write old old at next bytes
gap_counted true t old at next bytes e = absurd (false≢true (sym t))
gap_counted false t old at next bytes e = record { index = e; buffer = refl }

-- the last address by another name
pub gap_same : (size : ℕ) (write : Bool) (first x y : ℕ) → x ≡ y → {old new : List ℕ} {at next : ℕ}
    → PutsIf write old new at next (records_of (size_width size) (range_blocks (size_width size) first x)) → PutsIf write old new at next (records_of (size_width size) (range_blocks (size_width size) first y))
gap_same size write first x y e {old} {new} {at} {next} p = subst (λ (n : ℕ). PutsIf write old new at next (records_of (size_width size) (range_blocks (size_width size) first n))) e p

-- so many blocks of so many bytes
pub counted_bytes : {size : ℕ} → IsSize size → (bs : List Block) (n : ℕ) → n ≡ length bs → n * size ≡ length (records_of (size_width size) bs)
counted_bytes {size} s bs n e =
    ap (λ (k : ℕ). k * size) e ∙ mul_comm (length bs) size ∙ ap (λ (k : ℕ). k * length bs) (sym (size_back size s)) ∙ sym (records_length (size_width size) bs)

-- ---- the invariant

-- The first j blocks in the order are passed: what is put from here on, from the address `from` on, completes the list of what is not covered.
pub record Sweeping (size n : ℕ) (write : Bool) (bytes xs old : List ℕ) (j from at : ℕ) (out : List ℕ) : Type 0 where
  pub bound : j ≤ n
  pub below : from < 2 ^ size_width size
  pub same : length out ≡ length old
  pub total : at + length (records_of (size_width size) (gaps_from (size_width size) from (picks (ordered (size_width size) bytes xs) j (n - j))))
      ≡ length (records_of (size_width size) (uncovered_blocks (size_width size) (read_records (size_width size) n bytes)))
  pub goes : (new : List ℕ) (next : ℕ)
      → PutsIf write out new at next (records_of (size_width size) (gaps_from (size_width size) from (picks (ordered (size_width size) bytes xs) j (n - j))))
      → PutsIf write old new 0 next (records_of (size_width size) (uncovered_blocks (size_width size) (read_records (size_width size) n bytes)))

-- how many blocks n records leave uncovered at most
uncovered_few : {size n : ℕ} {bytes : List ℕ} → Listed size n bytes
    → length (uncovered_blocks (size_width size) (read_records (size_width size) n bytes)) ≤ 1 + n * (size_width size - 1)
uncovered_few {size} {n} {bytes} L =
    let W = size_width size in
    let ps = read_records W n bytes in
    subst (λ (m : ℕ). length (uncovered_blocks W ps) ≤ 1 + m * (W - 1)) (reads_length W n bytes) (uncovered_at_most W ps L.valid width_pos)
  where
    width_pos : 1 ≤ size_width size
    width_pos = elim L.sized [ inl e ↦ omega arith | inr e ↦ omega arith ]

bytes_most : (size n k : ℕ) → IsSize size → n ≤ 512 → k ≤ 1 + n * (size_width size - 1) → size * k ≤ 1105425
bytes_most size n k s h l = elim s [
  | inl e ↦ rw e (omega (arith, h, (rw e at l)))
  | inr e ↦ rw e (omega (arith, h, (rw e at l)))
]

module _ {size n : ℕ} {bytes xs : List ℕ} (L : Listed size n bytes) (O : InOrder (size_width size) n bytes xs) (write : Bool) (old : List ℕ)
    (fits : write ≡ true → length (records_of (size_width size) (uncovered_blocks (size_width size) (read_records (size_width size) n bytes))) ≤ length old) where
  abbrev W : ℕ
  W = size_width size

  abbrev g : ℕ → Block
  g = ordered W bytes xs

  abbrev ps : List Block
  ps = read_records W n bytes

  abbrev left : ℕ → List Block
  left j = picks g j (n - j)

  abbrev all : List ℕ
  all = records_of W (uncovered_blocks W ps)

  few : length all ≤ 1105425
  few =
      let k = length (uncovered_blocks W ps) in
      omega (arith, records_length W (uncovered_blocks W ps), ap (λ (m : ℕ). m * k) (size_back size L.sized), bytes_most size n k L.sized L.few (uncovered_few L))

  left_valid : (k : ℕ) → AllBlocks W (left k)
  left_valid k = valid_all W outside (left k) (λ i h.
      let l : i < n - k = omega (arith, picks_length g k (n - k)) in
      subst (IsBlock W) (sym (picks_at g k (n - k) i l)) (next_block L O (k + i) (omega arith)))

  pub sweep_first : (a : ℕ) → a ≡ 0 → Sweeping size n write bytes xs old 0 a 0 old
  sweep_first a z =
      let whole : uncovered_blocks W ps ≡ gaps_from W a (left 0) =
      gaps_start W outside ps L.valid (picks g 0 n) O.members O.rising ∙ ap₂ (λ (x k : ℕ). gaps_from W x (picks g 0 k)) (sym z) (let e : n ≡ n - 0 = omega arith in e) in
      record {
        bound = omega arith;
        below = omega (arith, pow_pos W, z);
        same = refl;
        total = omega (arith, ap (λ bs. length (records_of W bs)) whole);
        goes = λ new next q. subst (λ bs. PutsIf write old new 0 next (records_of W bs)) (sym whole) q;
      }

  module _ {j from at : ℕ} {out : List ℕ} (S : Sweeping size n write bytes xs old j from at out) where
    abbrev rest : List Block
    rest = gaps_from W from (left j)

    -- a part of what is left, put here
    fits_part : (bs cs : List Block) → rest ≡ bs ++ cs → (write ≡ true → at + length (records_of W bs) ≤ length out) × (at + length (records_of W bs) ≤ 1105425)
    fits_part bs cs e =
        let split : length (records_of W rest) ≡ length (records_of W bs) + length (records_of W cs) =
        ap (λ ds. length (records_of W ds)) e ∙ ap length (records_append W bs cs) ∙ length-append (records_of W bs) (records_of W cs) in
        (λ t. omega (arith, fits t, S.total, S.same, split), omega (arith, few, S.total, split))

    pub gap_fits : (first last : ℕ) (cs : List Block) → rest ≡ range_blocks W first last ++ cs → GapFits size write first last at out
    gap_fits first last cs e = let p = fits_part (range_blocks W first last) cs e in record { room = p.0; few = p.1 }

    -- a part is put, and others are left from there on
    put_part : (bs : List Block) {now : List ℕ} {next : ℕ} → PutsIf write out now at next (records_of W bs) → (to : ℕ) → rest ≡ bs ++ gaps_from W to (left (j + 1))
        → j < n → to < 2 ^ W → Sweeping size n write bytes xs old (j + 1) to next now
    put_part bs {now} {next} p to e h l =
        let cs = gaps_from W to (left (j + 1)) in
        let split : records_of W rest ≡ records_of W bs ++ records_of W cs = ap (records_of W) e ∙ records_append W bs cs in
        let room : Fits write out at (records_of W bs ++ records_of W cs) = λ t. omega (arith, fits t, S.total, S.same, ap length split) in
        let part : Fits write out at (records_of W bs) = λ t. omega (arith, room t, length-append (records_of W bs) (records_of W cs)) in
        record {
          bound = omega arith;
          below = l;
          same = if_length write part p ∙ S.same;
          total = omega (arith, S.total, ap length split, length-append (records_of W bs) (records_of W cs), p.index);
          goes = λ new k q. S.goes new k (subst (PutsIf write out new at k) (sym split) (if_then write room p q));
        }

    -- the last part is put
    put_last : (bs : List Block) {now : List ℕ} {next : ℕ} → PutsIf write out now at next (records_of W bs) → rest ≡ bs → PutsIf write old now 0 next all
    put_last bs {now} {next} p e = S.goes now next (subst (λ cs. PutsIf write out now at next (records_of W cs)) (sym e) p)

    module _ (h : j < n) (s : Span) (p : Spans W (g j) s) where
      B : IsBlock W (g j)
      B = next_block L O j h

      more : rest ≡ gaps_from W from (g j ∷ left (j + 1))
      more = ap (gaps_from W from) (picks_next g j n h)

      pub first_below : value s.first < 2 ^ W
      first_below = omega (arith, p.first, B.below)

      gap_next : from < value s.first → rest ≡ range_blocks W from (value s.first - 1) ++ gaps_from W (max from (after W (g j))) (left (j + 1))
      gap_next l =
          let m : after W (g j) ≡ max from (after W (g j)) = omega (arith, p.first, size_pos W (g j)) in
          more ∙ gaps_next W from (g j) (left (j + 1)) (omega (arith, p.first))
          ∙ ap₂ (λ (x y : ℕ). range_blocks W from (x - 1) ++ gaps_from W y (left (j + 1))) (sym p.first) m

      gap_none : value s.first ≤ from → rest ≡ gaps_from W (max from (after W (g j))) (left (j + 1))
      gap_none l = more ∙ gaps_none W from (g j) (left (j + 1)) (omega (arith, p.first))

      pub before_fits : from < value s.first → GapFits size write from (value s.first - 1) at out
      before_fits l = gap_fits from (value s.first - 1) _ (gap_next l)

      -- the gap before the block, or nothing
      pub record Put (now : List ℕ) (next : ℕ) : Type 0 where
        pub blocks : List Block
        pub puts : PutsIf write out now at next (records_of W blocks)
        pub others : rest ≡ blocks ++ gaps_from W (max from (after W (g j))) (left (j + 1))

      pub before_put : {now : List ℕ} {next : ℕ} → PutsBefore size write from (value s.first) out at now next → Put now next
      before_put {now} {next} (inl (l, e, same)) = record {
        blocks = [];
        puts = subst (λ ds. PutsIf write out now at next ds) (sym (records_none W))
            (subst (λ (k : ℕ). PutsIf write out now at k []) (sym e) (subst (λ m. PutsIf write out m at at []) (sym same) (if_none write out at)));
        others = gap_none l;
      }
      before_put (inr (l, q)) = record { blocks = range_blocks W from (value s.first - 1); puts = q; others = gap_next l }

      module _ {now : List ℕ} {next : ℕ} (P : Put now next) where
        -- the block does not reach the last address of all
        pub sweep_next : value s.last < 2 ^ W - 1 → (to : ℕ) → to ≡ max from (suc (value s.last)) → Sweeping size n write bytes xs old (j + 1) to next now
        sweep_next l to e =
            let after_is : max from (after W (g j)) ≡ to = omega (arith, e, p.last, size_pos W (g j)) in
            put_part P.blocks P.puts to (P.others ∙ ap (λ (k : ℕ). P.blocks ++ gaps_from W k (left (j + 1))) after_is) h (omega (arith, e, S.below))

        -- it does: nothing is left
        pub sweep_past : 2 ^ W - 1 ≤ value s.last → PutsIf write old now 0 next all
        sweep_past l =
            let none = gaps_past W (max from (after W (g j))) (left (j + 1)) (left_valid (j + 1)) (omega (arith, p.last, size_pos W (g j), pow_pos W)) in
            put_last P.blocks P.puts (P.others ∙ ap (λ bs. P.blocks ++ bs) none ∙ append-nil P.blocks)

    -- all blocks are passed: the gap behind the last is all that is missing
    module _ (h : n ≤ j) where
      only : rest ≡ range_blocks W from (2 ^ W - 1)
      only = ap (gaps_from W from) (picks_done g j n h) ∙ gaps_end W from

      pub end_fits : GapFits size write from (2 ^ W - 1) at out
      end_fits = gap_fits from (2 ^ W - 1) [] (only ∙ sym (append-nil (range_blocks W from (2 ^ W - 1))))

      pub sweep_end : {now : List ℕ} {next : ℕ} → PutsIf write out now at next (records_of W (range_blocks W from (2 ^ W - 1))) → PutsIf write old now 0 next all
      sweep_end q = put_last (range_blocks W from (2 ^ W - 1)) q only

-- ---- counted first, and then put

module _ {size : ℕ} (s : IsSize size) (bs : List Block) (old mid : List ℕ) (n : ℕ) (counted : PutsIf false old mid 0 n (records_of (size_width size) bs)) where
  pub gaps_short : length mid < n → WritesBlocks (size_width size) bs old (Err NoRoom) mid
  gaps_short h =
      let records = records_of (size_width size) bs in
      let less : length old < length records = omega (arith, h, counted.index, ap length counted.buffer) in
      let z = room_less records old less in
      record { answers = answer_refuses (0, 0) (length bs, length records) (write_refusal 0 records old) NoRoom (sym z); leaves = counted.buffer ∙ (write_short records old (length records) refl less).1 }

  module _ (h : n ≤ length mid) where
    pub gaps_fit : length (records_of (size_width size) bs) ≤ length mid
    gaps_fit = omega (arith, h, counted.index)

    pub gaps_written : (now : List ℕ) (k : ℕ) → PutsIf true mid now 0 k (records_of (size_width size) bs) → WritesBlocks (size_width size) bs old (Ok (n / size, n)) now
    gaps_written now k p =
        let q = puts_if (omega (arith, gaps_fit)) p in
        let same : k ≡ n = omega (arith, p.index, counted.index) in
        subst (λ l. WritesBlocks (size_width size) bs l (Ok (n / size, n)) now) counted.buffer (wrote_put s bs mid n now (subst (λ (m : ℕ). Puts mid now 0 m (records_of (size_width size) bs)) same q) gaps_fit)

-- ---- room for any list

pub ample_4 : {size : ℕ} → size ≡ 5 → (n room : ℕ) → leb ((1 + n * 31) * 5) room ≡ leb (most_uncovered size n) room
ample_4 e n room = rw e

pub ample_6 : {size : ℕ} → size ≡ 17 → (n room : ℕ) → leb ((1 + n * 127) * 17) room ≡ leb (most_uncovered size n) room
ample_6 e n room = rw e

pub ample_fits : {size n : ℕ} {bytes : List ℕ} → Listed size n bytes → (room : ℕ) → most_uncovered size n ≤ room
    → length (records_of (size_width size) (uncovered_blocks (size_width size) (read_records (size_width size) n bytes))) ≤ room
ample_fits {size} {n} {bytes} L room h =
    let bs = uncovered_blocks (size_width size) (read_records (size_width size) n bytes) in
    let few = mul-le-mul_right size (uncovered_few L) in
    omega (arith, h, few, counted_bytes L.sized bs (length bs) refl)

pub ample_written : {size n : ℕ} {bytes : List ℕ} → Listed size n bytes → (old now : List ℕ) (k : ℕ) → most_uncovered size n ≤ length old
    → PutsIf true old now 0 k (records_of (size_width size) (uncovered_blocks (size_width size) (read_records (size_width size) n bytes)))
    → WritesBlocks (size_width size) (uncovered_blocks (size_width size) (read_records (size_width size) n bytes)) old (Ok (k / size, k)) now
ample_written {size} {n} {bytes} L old now k h p =
    let room = ample_fits L (length old) h in
    wrote_put L.sized (uncovered_blocks (size_width size) (read_records (size_width size) n bytes)) old k now (puts_if (omega (arith, room)) p) room
