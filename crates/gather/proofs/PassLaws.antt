-- The pass over the blocks in order, for the loop's invariant. Assumes nothing.
use mathlib.Core.Path.{◌≡◌, refl, sym, ap, ap₂, subst, ◌∙◌}
use mathlib.Core.Logic.{inl, inr}
use mathlib.Core.Bool.{false≢true}
use mathlib.Core.List.{List, [], ◌∷◌, ◌++◌}
use Prim.Native.Nat.{ℕ, zero, suc, ◌+◌, ◌-◌, ◌*◌, ◌^◌, ◌≤◌, ◌<◌}
use native.Mathlib.Nat.{mul_comm, mul-suc, suc-mul, mul-le-mul_left}
use native.Mathlib.Omega.{arith}
use lib.ListN.{length, drop, get_or, length-append}
use lib.Seq.{drop-drop}
use Rattle.wide.specs.Value.{value}
use Rattle.cover.specs.Blocks.{Block, IsBlock, Rising, range_blocks, after}
use Rattle.cover.proofs.Interval.{size_pos, after_le}
use Rattle.lists.specs.Lists.{SameMembers, gathered_blocks}
use Rattle.lists.specs.Inner.{runs_from}
use Rattle.lists.proofs.Plain.{valid_at}
use Rattle.lists.proofs.Passes.{runs_none, runs_start, runs_end, runs_inside, runs_longer, runs_next, runs_room}
use Rattle.output.specs.Placing.{Puts}
use Rattle.output.proofs.PlacingLaws.{puts_none, puts_then, puts_length, puts_room}
use Rattle.records.specs.Records.{record_size, read_record, read_records, records_of}
use Rattle.records.proofs.RecordLaws.{records_length}
use Rattle.record_lists.specs.Inner.{size_width}
use Rattle.record_lists.proofs.ListLaws.{size_back, list_small}
use Rattle.record_lists.proofs.GoodLaws.{reads_length}
use Rattle.gather.specs.declared.Span.{Span}
use Rattle.gather.specs.declared.Run.{Run}
use Rattle.gather.specs.Inner.{outside, record_at, InList, Listed, Spans, picks, place_of, ordered, InOrder, Built, RunFits, run_blocks, Turned, GoesOn, Starts}
use Rattle.gather.proofs.BlockLaws.{range_one}
use Rattle.gather.proofs.PutLaws.{records_append, records_none}

-- ---- the blocks of a list, by their indices

module _ (W : ℕ) where
  pub reads_at : (n : ℕ) (bytes : List ℕ) (i : ℕ) → i < n → get_or (read_records W n bytes) i outside ≡ record_at W bytes i
  unfolding read_records
  reads_at zero bytes i h = absurd (omega arith)
  reads_at (suc n) bytes zero h = ap (λ (k : ℕ). read_record W (drop k bytes)) (let z : 0 ≡ 0 * record_size W = omega arith in z)
  reads_at (suc n) bytes (suc i) h =
      reads_at n (drop (record_size W) bytes) i (omega arith)
      ∙ ap (read_record W) (drop-drop (i * record_size W) (record_size W) bytes ∙ ap (λ (k : ℕ). drop k bytes) (let e : record_size W + i * record_size W ≡ suc i * record_size W = omega (arith, suc-mul i (record_size W)) in e))

pub picks_length : (g : ℕ → Block) (j m : ℕ) → length (picks g j m) ≡ m
unfolding picks
picks_length g j zero = refl
picks_length g j (suc m) = ap suc (picks_length g (suc j) m)

pub picks_at : (g : ℕ → Block) (j m i : ℕ) → i < m → get_or (picks g j m) i outside ≡ g (j + i)
unfolding picks
picks_at g j zero i h = absurd (omega arith)
picks_at g j (suc m) zero h = ap g (let e : j ≡ j + 0 = omega arith in e)
picks_at g j (suc m) (suc i) h = picks_at g (suc j) m i (omega arith) ∙ ap g (let e : suc j + i ≡ j + suc i = omega arith in e)

pub picks_next : (g : ℕ → Block) (j n : ℕ) → j < n → picks g j (n - j) ≡ g j ∷ picks g (j + 1) (n - (j + 1))
unfolding picks
picks_next g j n h =
    ap (picks g j) (let e : n - j ≡ suc (n - (j + 1)) = omega arith in e)
    ∙ ap (λ (k : ℕ). g j ∷ picks g k (n - (j + 1))) (let e : suc j ≡ j + 1 = omega arith in e)

pub picks_done : (g : ℕ → Block) (j n : ℕ) → n ≤ j → picks g j (n - j) ≡ []
unfolding picks
picks_done g j n h = ap (picks g j) (let e : n - j ≡ 0 = omega arith in e)

-- ---- what the pass has of a list

module _ {size n : ℕ} {bytes : List ℕ} (L : Listed size n bytes) where
  abbrev W : ℕ
  W = size_width size

  pub listed_small : length bytes ≤ 8704
  listed_small = omega (arith, L.long, list_small size n L.sized L.few)

  pub in_list : (i : ℕ) → i < n → InList size i bytes
  in_list i h =
      let up = mul-le-mul_left size (let l : suc i ≤ n = omega arith in l) in
      record { sized = L.sized; inside = omega (arith, up, mul-suc size i, mul_comm size i, L.long); small = listed_small }

  pub listed_block : (i : ℕ) → i < n → IsBlock W (record_at W bytes i)
  listed_block i h = subst (IsBlock W) (reads_at W n bytes i h) (valid_at W outside (read_records W n bytes) L.valid i (omega (arith, reads_length W n bytes)))

  -- the gathered list has room where the list has
  pub gathered_room : length (records_of W (gathered_blocks W (read_records W n bytes))) ≤ length bytes
  gathered_room =
      let ps = read_records W n bytes in
      let fewer = mul-le-mul_left (record_size W) (runs_room W ps L.valid) in
      omega (arith, fewer, records_length W (gathered_blocks W ps), ap (λ (k : ℕ). record_size W * k) (reads_length W n bytes), ap (λ (k : ℕ). k * n) (size_back size L.sized), L.long)

-- ---- the invariant

-- The first j blocks in the order are passed: a run is being built, and what is put from here on completes the gathered list.
pub record Passing (size n : ℕ) (bytes xs old : List ℕ) (j : ℕ) (r : Run) (out : List ℕ) : Type 0 where
  pub bound : j ≤ n
  pub built : Built size r
  pub same : length out ≡ length old
  pub room : r.at + length (records_of (size_width size) (runs_from (size_width size) (value r.first) (value r.last) (picks (ordered (size_width size) bytes xs) j (n - j)))) ≤ length out
  pub goes : (new : List ℕ) (next : ℕ)
      → Puts out new r.at next (records_of (size_width size) (runs_from (size_width size) (value r.first) (value r.last) (picks (ordered (size_width size) bytes xs) j (n - j))))
      → Puts old new 0 next (records_of (size_width size) (gathered_blocks (size_width size) (read_records (size_width size) n bytes)))

module _ {size n : ℕ} {bytes xs : List ℕ} (L : Listed size n bytes) (O : InOrder (size_width size) n bytes xs) where
  abbrev U : ℕ
  U = size_width size

  abbrev g : ℕ → Block
  g = ordered U bytes xs

  abbrev ps : List Block
  ps = read_records U n bytes

  abbrev left : ℕ → List Block
  left j = picks g j (n - j)

  pub next_block : (j : ℕ) → j < n → IsBlock U (g j)
  next_block j h = listed_block L (place_of xs j) (O.inside j h)

  -- no block: nothing
  pub pass_none : n ≡ 0 → (old : List ℕ) → Puts old old 0 0 (records_of U (gathered_blocks U ps))
  pass_none z old =
      let none : picks g 0 n ≡ [] = ap (picks g 0) (let e : n ≡ n - 0 = omega arith in e) ∙ picks_done g 0 n (omega arith) in
      let nothing = runs_none U outside ps L.valid (subst (SameMembers outside ps) none O.members) in
      subst (Puts old old 0 0) (sym (ap (records_of U) nothing ∙ records_none U)) (puts_none old 0)

  -- a run of one block
  run_alone : (j : ℕ) → j < n → (r : Run) → value r.first ≡ (g j).address → value r.last ≡ after U (g j) - 1 → r.length ≡ (g j).length → Built size r
  run_alone j h r a l k =
      let B = next_block j h in
      let pos = size_pos U (g j) in
      record {
        range = record { sized = L.sized; rises = omega (arith, a, l); below = omega (arith, l, after_le B) };
        alone = λ e. ap₂ (range_blocks U) a l ∙ range_one (g j) B ∙ ap (λ b. b ∷ []) (λ i. record { address = sym a i; length = sym k i });
      }

  -- the first block starts a run
  pub pass_first : 0 < n → (old : List ℕ) → length bytes ≤ length old → (s : Span) → Spans U (g 0) s → (r : Run) → r.first ≡ s.first → r.last ≡ s.last
      → r.length ≡ s.length → r.at ≡ 0 → Passing size n bytes xs old 1 r old
  pass_first h old room s p r a l k z =
      let first : value r.first ≡ (g 0).address = ap value a ∙ p.first in
      let last : value r.last ≡ after U (g 0) - 1 = ap value l ∙ p.last in
      let all : picks g 0 n ≡ g 0 ∷ left 1 = ap (picks g 0) (let e : n ≡ n - 0 = omega arith in e) ∙ picks_next g 0 n h in
      let whole : gathered_blocks U ps ≡ runs_from U (value r.first) (value r.last) (left 1) =
      runs_start U outside ps L.valid (g 0) (left 1) (subst (SameMembers outside ps) all O.members) (subst Rising all O.rising)
      ∙ ap₂ (λ (x y : ℕ). runs_from U x y (left 1)) (sym first) (sym last) in
      record {
        bound = omega arith;
        built = run_alone 0 h r first last (k ∙ p.length);
        same = refl;
        room = omega (arith, z, ap (λ bs. length (records_of U bs)) whole, gathered_room L);
        goes = λ new next q. subst (λ bs. Puts old new 0 next (records_of U bs)) (sym whole) (subst (λ (i : ℕ). Puts old new i next (records_of U (runs_from U (value r.first) (value r.last) (left 1)))) z q);
      }

  module _ {old : List ℕ} {j : ℕ} {r : Run} {out : List ℕ} (P : Passing size n bytes xs old j r out) where
    abbrev rest : List Block
    rest = runs_from U (value r.first) (value r.last) (left j)

    module _ (h : j < n) (s : Span) (p : Spans U (g j) s) where
      abbrev first : ℕ
      first = value r.first

      abbrev last : ℕ
      last = value r.last

      more : rest ≡ runs_from U first last (g j ∷ left (j + 1))
      more = ap (runs_from U first last) (picks_next g j n h)

      pub below : value s.last < 2 ^ U
      below = omega (arith, p.last, after_le (next_block j h), size_pos U (g j))

      -- where the run ends, the blocks that are left begin with its own
      ends : suc last < value s.first → rest ≡ range_blocks U first last ++ runs_from U (g j).address (after U (g j) - 1) (left (j + 1))
      ends l = more ∙ runs_next U first last (g j) (left (j + 1)) (omega (arith, p.first))

      pub run_room : suc last < value s.first → RunFits size r out
      run_room l =
          let tail = runs_from U (g j).address (after U (g j) - 1) (left (j + 1)) in
          omega (arith, P.room, ap (λ bs. length (records_of U bs)) (ends l), ap length (records_append U (range_blocks U first last) tail), length-append (records_of U (range_blocks U first last)) (records_of U tail))

      -- the same run or a longer one, and nothing put
      stays : (t : Run) (now : List ℕ) → Built size t → t.at ≡ r.at → now ≡ out → rest ≡ runs_from U (value t.first) (value t.last) (left (j + 1)) → Passing size n bytes xs old (j + 1) t now
      stays t now b a e same = record {
        bound = omega arith;
        built = b;
        same = ap length e ∙ P.same;
        room = omega (arith, P.room, a, ap length e, ap (λ bs. length (records_of U bs)) same);
        goes = λ new next q. P.goes new next (subst (λ bs. Puts out new r.at next (records_of U bs)) (sym same)
            (subst (λ l. Puts l new r.at next (records_of U (runs_from U (value t.first) (value t.last) (left (j + 1))))) e
            (subst (λ (i : ℕ). Puts now new i next (records_of U (runs_from U (value t.first) (value t.last) (left (j + 1))))) a q)));
      }

      inside : value s.last ≤ last → rest ≡ runs_from U first last (left (j + 1))
      inside l = more ∙ runs_inside U first last (g j) (left (j + 1)) (omega (arith, p.last, size_pos U (g j)))

      longer : last < value s.last → value s.first ≤ suc last → rest ≡ runs_from U first (after U (g j) - 1) (left (j + 1))
      longer l k = more ∙ runs_longer U first last (g j) (left (j + 1)) (omega (arith, p.first)) (omega (arith, p.last))

      goes_on : (t : Run) (now : List ℕ) → last < value s.last → value s.first ≤ suc last → GoesOn r (value s.last) out t now → Passing size n bytes xs old (j + 1) t now
      goes_on t now l k G =
          let f : value t.first ≡ first = ap value G.first in
          let e : value t.last ≡ after U (g j) - 1 = G.to ∙ p.last in
          stays t now
          (record {
            range = record { sized = L.sized; rises = omega (arith, f, G.to, P.built.range.rises); below = omega (arith, G.to, below) };
            alone = λ y. absurd (false≢true (sym G.alone ∙ y));
          })
          G.at G.same (longer l k ∙ ap₂ (λ (x y : ℕ). runs_from U x y (left (j + 1))) (sym f) (sym e))

      starts : (t : Run) (now : List ℕ) → suc last < value s.first → Starts size r s out t now → Passing size n bytes xs old (j + 1) t now
      starts t now l S =
          let f : value t.first ≡ (g j).address = ap value S.first ∙ p.first in
          let e : value t.last ≡ after U (g j) - 1 = ap value S.last ∙ p.last in
          let own = records_of U (range_blocks U first last) in
          let tail = runs_from U (value t.first) (value t.last) (left (j + 1)) in
          let split : records_of U rest ≡ own ++ records_of U tail =
          ap (records_of U) (ends l ∙ ap₂ (λ (x y : ℕ). range_blocks U first last ++ runs_from U x y (left (j + 1))) (sym f) (sym e)) ∙ records_append U (range_blocks U first last) tail in
          let size_of : r.at + length own + length (records_of U tail) ≤ length out = omega (arith, P.room, ap length split, length-append own (records_of U tail)) in
          let put = (puts_room S.puts (omega arith)).0 in
          record {
            bound = omega arith;
            built = run_alone j h t f e (S.length ∙ p.length);
            same = puts_length S.puts ∙ P.same;
            room = omega (arith, size_of, put, puts_length S.puts);
            goes = λ new next q. P.goes new next (subst (Puts out new r.at next) (sym split) (puts_then S.puts q));
          }

      pub pass_turn : (t : Run) (now : List ℕ) → Turned size r s out t now → Passing size n bytes xs old (j + 1) t now
      pass_turn t now (inl (l, e, same)) = stays t now (subst (Built size) (sym e) P.built) (ap (λ (x : Run). x.at) e) same (inside l ∙ ap (λ (x : Run). runs_from U (value x.first) (value x.last) (left (j + 1))) (sym e))
      pass_turn t now (inr (inl (l, k, G))) = goes_on t now l k G
      pass_turn t now (inr (inr (l, S))) = starts t now l S

    -- all blocks are passed: the last run is all that is missing
    module _ (h : n ≤ j) where
      only : rest ≡ range_blocks U (value r.first) (value r.last)
      only = ap (runs_from U (value r.first) (value r.last)) (picks_done g j n h) ∙ runs_end U (value r.first) (value r.last)

      pub end_room : RunFits size r out
      end_room = omega (arith, P.room, ap (λ bs. length (records_of U bs)) only)

      pub pass_end : (new : List ℕ) (next : ℕ) → Puts out new r.at next (records_of U (run_blocks size r)) → Puts old new 0 next (records_of U (gathered_blocks U ps))
      pass_end new next q = P.goes new next (subst (λ bs. Puts out new r.at next (records_of U bs)) (sym only) q)
