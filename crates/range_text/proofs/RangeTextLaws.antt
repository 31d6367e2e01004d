-- The lines put from records, the text of a range, and which case of the answer a line is. Assumes nothing.
use mathlib.Core.Path.{◌≡◌, refl, sym, ap, ap₂, ◌∙◌}
use mathlib.Core.List.{List, [], ◌∷◌, ◌++◌}
use Prim.Native.Nat.{ℕ, suc, ◌+◌, ◌*◌, ◌/◌, ◌%◌, ◌^◌, ◌≤◌, ◌<◌}
use native.Mathlib.Nat.{div-lt_iff_lt-mul, mod-lt}
use native.Mathlib.Numerals.{add-one}
use native.Mathlib.Decide.{dec_le, ℕ_discrete}
use native.Mathlib.Omega.{arith}
use borrow.Author.Tests.{eq-eqb, ne_eqb, lt-ltb, le-ltb}
use lib.Dec.{lit<}
use lib.ListN.{length, take, drop, length-append}
use lib.Seq.{take_at, drop_at}
use Rattle.std.specs.Prelude.{None}
use Rattle.notation.specs.Pieces.{index_of, split_on}
use Rattle.notation.proofs.PieceLaws.{split_found, split_last, split_first}
use Rattle.notation.proofs.SliceLaws.{tail, to_end}
use Rattle.cover.specs.Blocks as cover
use Rattle.cover.proofs.Claims.{range_is_fewest}
use Rattle.address.specs.declared.Address.{Address}
use Rattle.address.specs.declared.Address.TheVariants.{V4, V6}
use Rattle.address.specs.declared.Block.{Block}
use Rattle.address.specs.declared.Refusal.{Refusal}
use Rattle.address.specs.declared.Refusal.TheVariants.{FirstAboveLast, WrongFamily}
use Rattle.address.specs.Addresses.{family, width, number, IsAddress}
use Rattle.address.specs.Answers.{Answer, refusal_number, gives, refuses, no_address, no_block}
use Rattle.address.specs.Blocks.{numbered}
use Rattle.address.proofs.AddressLaws.{width_follows}
use Rattle.address.proofs.AnswerLaws.{number_pos, nonzero}
use Rattle.address.proofs.Claims.{gives_one, address_below}
use Rattle.output.specs.Placing.{Puts}
use Rattle.output.proofs.PlacingLaws.{puts_then, puts_none, puts_length}
use Rattle.text.specs.Strict.{strict_answer}
use Rattle.blocks.specs.BlockText.{block_text}
use Rattle.records.specs.Records.{record_size, record_of, records_of, record_answer}
use Rattle.records.proofs.RecordLaws.{record_length}
use Rattle.records.proofs.Claims.{read_back_answer}
use Rattle.ranges.specs.Ranges.{blocks_of, range_records, range_answer, range_leaves}
use Rattle.ranges.proofs.RangeLaws.{range_apart, range_falling, range_written}
use Rattle.ranges.proofs.Claims.{enough_310, enough_4318}
use Rattle.range_text.specs.RangeText.{like_block, block_lines, PutsLines, PutsAnswer, answered_with, refused_by, answer_range, answer_read, answer_pieces, answer_line}

-- ---- a block of a family, as a value

like_width : (like : Address) (b : cover.Block) → width (like_block like b).address ≡ width like
like_width (V4 v) b = refl
like_width (V6 hi lo) b = refl

pub like_numbered : (like : Address) (b : cover.Block) → numbered (like_block like b) ≡ b
like_numbered (V4 v) b = refl
like_numbered (V6 hi lo) b =
    let whole : b.address / 2 ^ 64 * 2 ^ 64 + b.address % 2 ^ 64 ≡ b.address = omega arith in
    λ i. record { address = whole i; length = b.length }

pub like_address_lem : (like : Address) (b : cover.Block) → b.address < 2 ^ width like → IsAddress (like_block like b).address
like_address_lem (V4 v) b h = h
like_address_lem (V6 hi lo) b h = ((div-lt_iff_lt-mul (lit< tt)).1 h, mod-lt b.address (lit< tt))

-- its record is read as that value
like_read : (like : Address) (b : cover.Block) → cover.IsBlock (width like) b → record_answer (record_of (width like) b) ≡ gives (like_block like b)
like_read like b h =
    ap record_answer (sym (ap₂ record_of (like_width like b) (like_numbered like b)))
    ∙ read_back_answer (like_block like b) (like_address_lem like b h.below) (rw (like_width like b, like_numbered like b) h)

-- ---- the lines of records

module _ (like : Address) {size : ℕ} (is : size ≡ record_size (width like)) (rest : List ℕ) where
  -- the first of them
  module _ (b : cover.Block) (bs : List cover.Block) (e : rest ≡ records_of (width like) (b ∷ bs)) where
    first_size : length (record_of (width like) b) ≡ size
    first_size = record_length (width like) b ∙ sym is

    first_fits : size ≤ length rest
    unfolding records_of
    first_fits = omega (arith, ap length e, length-append (record_of (width like) b) (records_of (width like) bs), first_size)

    first_answer : cover.IsBlock (width like) b → record_answer (take size rest) ≡ gives (like_block like b)
    unfolding records_of
    first_answer h = ap record_answer (ap (take size) e ∙ take_at (record_of (width like) b) (records_of (width like) bs) size first_size) ∙ like_read like b h

    others : tail size rest ≡ records_of (width like) bs
    unfolding records_of
    others = to_end size rest ∙ ap (drop size) e ∙ drop_at (record_of (width like) b) (records_of (width like) bs) size first_size

  module _ {now : List ℕ} {next : ℕ} where
    -- none is left
    pub lines_none : length rest < size → PutsLines like rest now now next next
    unfolding block_lines
    lines_none h [] all e = puts_none now next
    lines_none h (b ∷ bs) all e = absurd (omega (arith, first_fits b bs e))

    -- none is refused
    pub lines_refused : (x : Refusal) → refuses no_block x ≡ record_answer (take size rest) → PutsLines like rest now now next next
    unfolding block_lines
    lines_refused x r [] all e = puts_none now next
    lines_refused x r (b ∷ bs) all e = absurd (omega (arith, number_pos x, ap (λ a. a.number) (r ∙ first_answer b bs e all.0)))

    -- the line of the first, and then those of the others
    lines_more : size ≤ length rest → {block : Block} → gives block ≡ record_answer (take size rest)
        → {mid new : List ℕ} {behind on : ℕ} → Puts now mid next behind (block_text block) → Puts mid new behind on (10 ∷ [])
        → {end : List ℕ} {r : ℕ} → PutsLines like (tail size rest) new end on r → PutsLines like rest now end next r
    unfolding block_lines records_of
    lines_more h g p q t [] all e = absurd (omega (arith, ap length e))
    lines_more h {block} g p q t (b ∷ bs) all e =
        let read : block ≡ like_block like b = gives_one (g ∙ first_answer b bs e all.0) in
        puts_then (puts_then (rw read at p) q) (t bs all.1 (others b bs e))

-- The lines of some of the records are put, and `rest` are the others: putting their lines puts all. The loop keeps the size of a
-- record and no address, so that this is said of any address whose records have that size.
pub record Walk (size : ℕ) (records old : List ℕ) (at : ℕ) (rest now : List ℕ) (next : ℕ) : Type 0 where
  pub same : length now ≡ length old
  pub more : (like : Address) → size ≡ record_size (width like) → (new : List ℕ) (r : ℕ) → PutsLines like rest now new next r → PutsLines like records old new at r

pub walk_start : {size : ℕ} {records old : List ℕ} {at : ℕ} → Walk size records old at records old at
walk_start = record { same = refl; more = λ like e new r p. p }

pub walk_on : {size : ℕ} {records old : List ℕ} {at : ℕ} {rest now : List ℕ} {next : ℕ} → Walk size records old at rest now next
    → size ≤ length rest → {block : Block} → gives block ≡ record_answer (take size rest)
    → {mid new : List ℕ} {behind on : ℕ} → Puts now mid next behind (block_text block) → Puts mid new behind on (10 ∷ [])
    → Walk size records old at (tail size rest) new on
walk_on {rest} w h g p q = record { same = puts_length q ∙ puts_length p ∙ w.same; more = λ like e new r t. w.more like e new r (lines_more like e rest h g p q t) }

-- ---- the text of a range

module _ (first last : Address) where
  pub text_apart : ¬ (family first ≡ family last) → refused_by 9 ≡ answer_range first last
  unfolding answer_range
  text_apart n = rw (ne_eqb (family first) (family last) n)

  module _ (same : family first ≡ family last) where
    pub text_falling : number last < number first → refused_by 8 ≡ answer_range first last
    unfolding answer_range
    text_falling h = rw (eq-eqb (family first) (family last) same, lt-ltb (number last) (number first) h)

    pub text_rising : number first ≤ number last → answered_with (block_lines first (blocks_of first last)) ≡ answer_range first last
    unfolding answer_range
    text_rising h = rw (eq-eqb (family first) (family last) same, le-ltb (number last) (number first) h)

-- A range is refused, whatever room there is for its records, or rises within one family.
pub data Kind (first last : Address) : Type 0 where
  refused : (x : Refusal) → ((old : List ℕ) → range_answer first last old ≡ refuses (0, 0) x) → refused_by (refusal_number x) ≡ answer_range first last → Kind first last
  rising : family first ≡ family last → number first ≤ number last → answered_with (block_lines first (blocks_of first last)) ≡ answer_range first last → Kind first last

pub kind : (first last : Address) → Kind first last
kind first last = elim (ℕ_discrete (family first) (family last)) [
  | yes e ↦ elim (dec_le (number first) (number last)) [
    | yes l ↦ rising e l (text_rising first last e l)
    | no n ↦
        let l : number last < number first = omega arith in
        refused FirstAboveLast (λ old. sym (range_falling first last old e l).0) (text_falling first last e l)
  ]
  | no n ↦ refused WrongFamily (λ old. sym (range_apart first last old n).0) (text_apart first last n)
]

-- what holds of the ranges of each family
pub either_family : (P : Address → Address → Type 0) → ((v w : ℕ) → IsAddress (V4 w) → P (V4 v) (V4 w)) → ((hi lo h l : ℕ) → IsAddress (V6 h l) → P (V6 hi lo) (V6 h l))
    → (first last : Address) → IsAddress last → family first ≡ family last → P first last
either_family P four six (V4 v) (V4 w) is e = four v w is
either_family P four six (V4 v) (V6 hi lo) is e = absurd (omega arith)
either_family P four six (V6 hi lo) (V4 v) is e = absurd (omega arith)
either_family P four six (V6 hi lo) (V6 h l) is e = six hi lo h l is

-- ---- the text of a range, from what `range_blocks` answers and leaves in a buffer with room for any range

-- the first bytes of the buffer are the records of the range: putting their lines puts its text
pub record Written (first last : Address) (bytes : ℕ) (left : List ℕ) : Type 0 where
  pub fits : bytes ≤ length left
  pub lines : {old new : List ℕ} {at next : ℕ} → PutsLines first (take bytes left) old new at next → PutsAnswer old new at (record { next = next; refused = None }) (answer_range first last)

module _ (first last : Address) (is : IsAddress last) (old : List ℕ) (room : 4318 ≤ length old) where
  enough : family first ≡ family last → length (range_records first last) ≤ length old
  enough = either_family (λ a b. length (range_records a b) ≤ length old) (λ v w h. omega (arith, enough_310 v w h)) (λ hi lo h l k. omega (arith, enough_4318 hi lo h l k)) first last is

  -- 3 is never answered
  pub range_refused : (x : Refusal) → refuses (0, 0) x ≡ range_answer first last old → refused_by (refusal_number x) ≡ answer_range first last
  range_refused x e = elim (kind first last) [
    | refused y a t ↦ ap (λ r. refused_by r.number) (e ∙ a old) ∙ t
    | rising s h t ↦ absurd (omega (arith, number_pos x, ap (λ r. r.number) (e ∙ sym (range_written first last old s h (enough s)).0)))
  ]

  pub range_wrote : (blocks bytes : ℕ) → gives (blocks, bytes) ≡ range_answer first last old → (left : List ℕ) → left ≡ range_leaves first last old → Written first last bytes left
  range_wrote blocks bytes e left l = elim (kind first last) [
    | refused y a t ↦ absurd (omega (arith, number_pos y, ap (λ r. r.number) (e ∙ a old)))
    | rising s h t ↦
        let records = range_records first last in
        let more = drop (length records) old in
        let w = range_written first last old s h (enough s) in
        let all : bytes ≡ length records = ap (λ r. r.fields.1) (e ∙ sym w.0) in
        let whole : left ≡ records ++ more = l ∙ sym w.1 in
        let front : take bytes left ≡ records = ap₂ take all whole ∙ take_at records more (length records) refl in
        let rules = (range_is_fewest (width first) (number first) (number last) (rw (width_follows first last s) (address_below last is))).blocks in
        record { fits = omega (arith, ap length whole, length-append records more); lines = λ p. rw (← t) (record { puts = p (blocks_of first last) rules front; tells = refl }) }
  ]

-- ---- the text of two answers

pub first_refused : (s t : Answer Address) (e : Refusal) → refuses no_address e ≡ s → refused_by (refusal_number e) ≡ answer_read s t
unfolding answer_read
first_refused s t e h = rw (← h, nonzero e)

pub second_refused : (a : Address) (t : Answer Address) (e : Refusal) → refuses no_address e ≡ t → refused_by (refusal_number e) ≡ answer_read (gives a) t
unfolding answer_read
second_refused a t e h = rw (← h, nonzero e)

pub both_read : (a b : Address) (t : Answer Address) → gives b ≡ t → answer_range a b ≡ answer_read (gives a) t
unfolding answer_read
both_read a b t h = rw (← h)

-- ---- the text of a line

module _ (t : List ℕ) where
  pub line_long : 129 < length t → refused_by 1 ≡ answer_line t
  unfolding answer_line
  line_long h = rw (lt-ltb 129 (length t) h)

  module _ (short : length t ≤ 129) where
    pub line_pieces : (ps : List (List ℕ)) → split_on 32 t ≡ ps → answer_pieces ps ≡ answer_line t
    unfolding answer_line
    line_pieces ps e = rw (le-ltb 129 (length t) short, e)

    module _ (i : ℕ) (at : i ≡ index_of 32 t) where
      -- no space
      pub line_none : length t ≤ i → refused_by 2 ≡ answer_line t
      unfolding answer_pieces
      line_none h = line_pieces (t ∷ []) (split_last 32 t (omega arith))

      module _ (h : i < length t) (j : ℕ) (there : j ≡ index_of 32 (tail (i + 1) t)) where
        line_first : split_on 32 t ≡ take i t ∷ split_on 32 (tail (i + 1) t)
        line_first = rw (to_end (i + 1) t, add-one i, at) (split_found 32 t (omega arith))

        -- two spaces or more
        pub line_more : j < length (tail (i + 1) t) → refused_by 2 ≡ answer_line t
        unfolding answer_pieces
        line_more l =
            let r = tail (i + 1) t in
            let s = split_first 32 (drop (suc (index_of 32 r)) r) in
            line_pieces _ (line_first ∙ ap (λ ps. take i t ∷ ps) (split_found 32 r (omega arith) ∙ ap (λ ps. take (index_of 32 r) r ∷ ps) s.1))

        -- one space
        pub line_two : length (tail (i + 1) t) ≤ j → answer_read (strict_answer 0 (take i t)) (strict_answer 0 (tail (i + 1) t)) ≡ answer_line t
        unfolding answer_pieces
        line_two l = line_pieces (take i t ∷ tail (i + 1) t ∷ []) (line_first ∙ ap (λ ps. take i t ∷ ps) (split_last 32 (tail (i + 1) t) (omega arith)))
