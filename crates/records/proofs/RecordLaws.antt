-- A record as the code puts it and reads it, and records read back. Assumes nothing.
use Rattle.std.specs.Prelude.{Some, None}
use mathlib.Core.Path.{◌≡◌, refl, sym, ap, ap₂, ◌∙◌}
use mathlib.Core.Logic.{◌⊎◌, inl, inr}
use mathlib.Core.List.{List, [], ◌∷◌, ◌++◌, append_assoc, append-nil}
use Prim.Native.Nat.{ℕ, suc, ◌+◌, ◌-◌, ◌*◌, ◌/◌, ◌^◌, ◌≤◌, ◌<◌}
use native.Mathlib.Nat.{mul-suc, le_of_eq}
use native.Mathlib.Decide.{ℕ_discrete, dec_le}
use native.Mathlib.Omega.{arith}
use borrow.Author.Tests.{ne_eqb, le-leb, lt-leb}
use lib.Dec.{lit<}
use borrow.Rule.Slice.PartMut.{put_mid, mid_of}
use lib.ListN.{length, take, drop, get_or, length-append, length-drop, take-append-drop}
use lib.Seq.{length-take-le, take_at, take-add, drop_at, drop-drop, get_or_at}
use Rattle.notation.specs.BigEndian.{digits_of, number_of}
use Rattle.notation.proofs.DigitLaws.{digits_length, digits_number, digits_split}
use Rattle.cover.specs.Blocks as cover
use Rattle.address.specs.declared.Address.{Address}
use Rattle.address.specs.declared.Address.TheVariants.{V4, V6}
use Rattle.address.specs.declared.Block.{Block}
use Rattle.address.specs.declared.Refusal.{Refusal}
use Rattle.address.specs.declared.Refusal.TheVariants.{NoRoom, Malformed}
use Rattle.address.specs.Addresses.{IsAddress, family, width, number}
use Rattle.address.specs.Answers.{precedence, Answer, gives, refuses, no_address, no_block, read_answer, write_answer, write_leaves}
use Rattle.address.specs.Blocks.{numbered, block_reasons, block_refusal}
use Rattle.address.proofs.AnswerLaws.{number_pos, write_short, write_fits}
use Rattle.address.proofs.BlockLaws.{read_valid}
use Rattle.address.proofs.BufferLaws.{rest, rest_whole}
use Rattle.octets.specs.Octets.{octets, octets_answer, halves}
use Rattle.octets.proofs.OctetLaws.{octets_length, read_other, leaves_fit, leaves_behind}
use Rattle.octets.proofs.Claims.{octets_read_back}
use Rattle.records.specs.Records.{record_size, record_of, block_record, part_sizes, parts_leave, records_of, read_record, read_records, record_block, record_answer}

-- ---- one record

pub layout : (b : Block) → block_record b ≡ octets b.address ++ b.length ∷ []
unfolding record_of octets
layout b = refl

pub record_length : (W : ℕ) (b : cover.Block) → length (record_of W b) ≡ record_size W
unfolding record_of
record_length W b = length-append (digits_of 256 (W / 8) b.address) (b.length ∷ []) ∙ ap (λ (n : ℕ). n + 1) (digits_length 256 (W / 8) b.address)

pub value_length : (b : Block) → ((family b.address ≡ 4) × (length (block_record b) ≡ 5)) ⊎ ((family b.address ≡ 6) × (length (block_record b) ≡ 17))
value_length b = go b.address (record_length (width b.address) (numbered b))
  where
    go : (a : Address) → length (block_record b) ≡ record_size (width a) → ((family a ≡ 4) × (length (block_record b) ≡ 5)) ⊎ ((family a ≡ 6) × (length (block_record b) ≡ 17))
    go (V4 v) e = inl (refl, e)
    go (V6 hi lo) e = inr (refl, e)

-- ---- parts, put one behind the other

parts_stop : (n : ℕ) (ns bytes old : List ℕ) → length old < n → old ≡ parts_leave (n ∷ ns) bytes old
unfolding parts_leave
parts_stop n ns bytes old h = rw (lt-leb n (length old) h)

parts_on : (p : List ℕ) (ns bytes old : List ℕ) (n : ℕ) → length p ≡ n → n ≤ length old → p ++ parts_leave ns bytes (drop n old) ≡ parts_leave (n ∷ ns) (p ++ bytes) old
unfolding parts_leave
parts_on p ns bytes old n l h = rw (le-leb n (length old) h, take_at p bytes n l, drop_at p bytes n l)

-- a last byte has room or not
parts_last : (x : ℕ) (old : List ℕ) → write_leaves 0 (x ∷ []) old ≡ parts_leave (1 ∷ []) (x ∷ []) old
unfolding parts_leave
parts_last x old = elim (dec_le 1 (length old)) [
  | yes h ↦ sym (write_fits (x ∷ []) old 1 refl h ((x ∷ []) ++ drop 1 old) refl).1 ∙ parts_on (x ∷ []) [] [] old 1 refl h
  | no n ↦ sym (write_short (x ∷ []) old 1 refl (omega arith)).1 ∙ parts_stop 1 [] (x ∷ []) old (omega arith)
]

abbrev total : List ℕ → ℕ
total [] = 0
total (n ∷ ns) = n + total ns

-- parts that all have room are the bytes
parts_whole : (ns bytes old : List ℕ) → total ns ≡ length bytes → length bytes ≤ length old → parts_leave ns bytes old ≡ bytes ++ drop (length bytes) old
unfolding parts_leave
parts_whole [] bytes old e h = ap (λ r. r ++ drop (length r) old) (sym (None bytes (sym e)))
  where
    None : (l : List ℕ) → length l ≡ 0 → l ≡ []
    None [] e = refl
    None (x ∷ l) e = absurd (omega arith)
parts_whole (n ∷ ns) bytes old e h =
    let front = length-take-le n bytes (omega arith) in
    let more = drop n bytes in
    let size = length-drop n bytes in
    let count : n + length more ≡ length bytes = omega arith in
    sym (parts_on (take n bytes) ns more old n front (omega arith) ∙ ap (λ r. parts_leave (n ∷ ns) r old) (take-append-drop n bytes))
    ∙ ap (λ r. take n bytes ++ r) (parts_whole ns more (drop n old) (omega arith) (omega (arith, length-drop n old)))
    ∙ sym (append_assoc (take n bytes) more (drop (length more) (drop n old)))
    ∙ ap₂ ◌++◌ (take-append-drop n bytes) (drop-drop (length more) n old ∙ ap (λ (k : ℕ). drop k old) count)

-- whatever the room, the first of the bytes are put, and those behind them stay
parts_cut : (ns bytes old : List ℕ) → total ns ≤ length bytes → (m : ℕ) × (m ≤ length old) × (parts_leave ns bytes old ≡ take m bytes ++ drop m old)
unfolding parts_leave
parts_cut [] bytes old h = (0, omega arith, refl)
parts_cut (n ∷ ns) bytes old h = elim (dec_le n (length old)) [
  | no l ↦ (0, omega arith, sym (parts_stop n ns bytes old (omega arith)))
  | yes l ↦
      let front = length-take-le n bytes (omega arith) in
      let more = drop n bytes in
      let (m, k, e) = parts_cut ns more (drop n old) (omega (arith, length-drop n bytes)) in (
        n + m,
        omega (arith, length-drop n old),
        sym (parts_on (take n bytes) ns more old n front l ∙ ap (λ r. parts_leave (n ∷ ns) r old) (take-append-drop n bytes))
            ∙ ap (λ r. take n bytes ++ r) e
            ∙ sym (append_assoc (take n bytes) (take m more) (drop m (drop n old)))
            ∙ ap₂ ◌++◌ (sym (take-add n m bytes)) (drop-drop m n old),
      )
]

-- bytes put into the rest of a buffer, behind p
rest_leaves : (n : ℕ) (old mid ys p q : List ℕ) → length p ≡ n → mid ≡ p ++ drop n old → ys ≡ write_leaves 0 q (mid_of n (length mid - n) mid)
    → put_mid n (length mid - n) mid ys ≡ p ++ write_leaves 0 q (drop n old)
rest_leaves n old mid ys p q l e f =
    let front : take n mid ≡ p = ap (take n) e ∙ take_at p (drop n old) n l in
    let back : drop n mid ≡ drop n old = ap (drop n) e ∙ drop_at p (drop n old) n l in
    let put : ys ≡ write_leaves 0 q (drop n old) = f ∙ ap (write_leaves 0 q) (rest n mid ∙ back) in
    ap (λ t. take n mid ++ (ys ++ t)) (rest_whole n mid) ∙ ap (λ t. take n mid ++ t) (append-nil ys ∙ put) ∙ ap (λ t. t ++ write_leaves 0 q (drop n old)) front

-- ---- the record of a block value, part by part

module _ (b : Block) (old : List ℕ) where
  abbrev address : Address
  address = b.address

  abbrev last : List ℕ
  last = b.length ∷ []

  -- what the code leaves, in the contract's terms
  abbrev filled : List ℕ
  filled = parts_leave (part_sizes address) (block_record b) old

  module _ (v : ℕ) (e : address ≡ V4 v) where
    abbrev octets4 : List ℕ
    octets4 = digits_of 256 4 v

    filled_4 : parts_leave (4 ∷ 1 ∷ []) (octets4 ++ last) old ≡ filled
    unfolding record_of
    filled_4 = ap (λ a. parts_leave (part_sizes a) (record_of (width a) (record { address = number a; length = b.length })) old) (sym e)

    pub fill_none_4 : length old < 4 → old ≡ filled
    fill_none_4 h = parts_stop 4 (1 ∷ []) (octets4 ++ last) old h ∙ filled_4

    pub fill_4 : 4 ≤ length old → (mid ys : List ℕ) → mid ≡ write_leaves 0 octets4 old → ys ≡ write_leaves 0 last (mid_of 4 (length mid - 4) mid)
        → put_mid 4 (length mid - 4) mid ys ≡ filled
    fill_4 h mid ys p q =
        rest_leaves 4 old mid ys octets4 last (digits_length 256 4 v) (leaves_fit octets4 old mid 4 (digits_length 256 4 v) h p) q
        ∙ ap (λ r. octets4 ++ r) (parts_last b.length (drop 4 old))
        ∙ parts_on octets4 (1 ∷ []) last old 4 (digits_length 256 4 v) h
        ∙ filled_4

  module _ (hi lo : ℕ) (e : address ≡ V6 hi lo) (small : lo < 2 ^ 64) where
    abbrev upper : List ℕ
    upper = digits_of 256 8 hi

    abbrev lower : List ℕ
    lower = digits_of 256 8 lo

    filled_6 : parts_leave (8 ∷ 8 ∷ 1 ∷ []) (upper ++ (lower ++ last)) old ≡ filled
    unfolding record_of
    filled_6 =
        ap (λ r. parts_leave (8 ∷ 8 ∷ 1 ∷ []) r old) (sym (append_assoc upper lower last) ∙ ap (λ o. o ++ last) (sym (digits_split 256 (lit< tt) 8 8 hi lo small)))
        ∙ ap (λ a. parts_leave (part_sizes a) (record_of (width a) (record { address = number a; length = b.length })) old) (sym e)

    pub fill_none_6 : length old < 8 → old ≡ filled
    fill_none_6 h = parts_stop 8 (8 ∷ 1 ∷ []) (upper ++ (lower ++ last)) old h ∙ filled_6

    pub fill_half_6 : 8 ≤ length old → (mid : List ℕ) → mid ≡ write_leaves 0 upper old → length mid < 16 → mid ≡ filled
    fill_half_6 h mid p short =
        let front = leaves_fit upper old mid 8 (digits_length 256 8 hi) h p in
        let few : length (drop 8 old) < 8 = omega (arith, ap length front, length-append upper (drop 8 old), digits_length 256 8 hi) in
        front
        ∙ ap (λ r. upper ++ r) (parts_stop 8 (1 ∷ []) (lower ++ last) (drop 8 old) few)
        ∙ parts_on upper (8 ∷ 1 ∷ []) (lower ++ last) old 8 (digits_length 256 8 hi) h
        ∙ filled_6

    pub fill_6 : 16 ≤ length old → (one ys two zs : List ℕ) → one ≡ write_leaves 0 upper old → ys ≡ write_leaves 0 lower (mid_of 8 (length one - 8) one)
        → two ≡ put_mid 8 (length one - 8) one ys → zs ≡ write_leaves 0 last (mid_of 16 (length two - 16) two)
        → put_mid 16 (length two - 16) two zs ≡ filled
    fill_6 h one ys two zs p q t r =
        let both : two ≡ (upper ++ lower) ++ drop 16 old = t ∙ leaves_behind 8 8 old one ys upper lower (digits_length 256 8 hi) (digits_length 256 8 lo) h p q in
        let long : length (upper ++ lower) ≡ 16 = length-append upper lower ∙ ap₂ (λ (m n : ℕ). m + n) (digits_length 256 8 hi) (digits_length 256 8 lo) in
        rest_leaves 16 old two zs (upper ++ lower) last long both r
        ∙ append_assoc upper lower (write_leaves 0 last (drop 16 old))
        ∙ ap (λ s. upper ++ (lower ++ s)) (parts_last b.length (drop 16 old) ∙ ap (parts_leave (1 ∷ []) last) (sym (drop-drop 8 8 old)))
        ∙ ap (λ s. upper ++ s) (parts_on lower (1 ∷ []) last (drop 8 old) 8 (digits_length 256 8 lo) (omega (arith, length-drop 8 old)))
        ∙ parts_on upper (8 ∷ 1 ∷ []) (lower ++ last) old 8 (digits_length 256 8 hi) (omega arith)
        ∙ filled_6

-- a record that has room is put whole, and of any other the first bytes
sizes_add : (a : Address) → total (part_sizes a) ≡ record_size (width a)
sizes_add (V4 v) = refl
sizes_add (V6 hi lo) = refl

pub fill_cut : (b : Block) (old : List ℕ) → (m : ℕ) × (m ≤ length old) × (parts_leave (part_sizes b.address) (block_record b) old ≡ take m (block_record b) ++ drop m old)
fill_cut b old = parts_cut (part_sizes b.address) (block_record b) old (le_of_eq (sizes_add b.address ∙ sym (record_length (width b.address) (numbered b))))

pub fill_whole : (b : Block) (old : List ℕ) → record_size (width b.address) ≤ length old → parts_leave (part_sizes b.address) (block_record b) old ≡ write_leaves 0 (block_record b) old
fill_whole b old h =
    let size = record_length (width b.address) (numbered b) in
    parts_whole (part_sizes b.address) (block_record b) old (sizes_add b.address ∙ sym size) (omega arith)
    ∙ (write_fits (block_record b) old (length (block_record b)) refl (omega arith) _ refl).1

-- a record that has no room, and one that has it
module _ (b : Block) (old : List ℕ) where
  pub put_short : length old < record_size (width b.address) → (refuses 0 NoRoom ≡ write_answer 0 (block_record b) old) × (old ≡ write_leaves 0 (block_record b) old)
  put_short = write_short (block_record b) old (record_size (width b.address)) (record_length (width b.address) (numbered b))

  pub put_fits : (n : ℕ) → n ≡ record_size (width b.address) → n ≤ length old → (new : List ℕ) → new ≡ parts_leave (part_sizes b.address) (block_record b) old
      → (gives n ≡ write_answer 0 (block_record b) old) × (new ≡ write_leaves 0 (block_record b) old)
  put_fits n e h new w = (
    (write_fits (block_record b) old n (record_length (width b.address) (numbered b) ∙ sym e) h (block_record b ++ drop n old) refl).0,
    w ∙ fill_whole b old (omega arith),
  )

-- ---- a record as the code reads it

answer_4 : (ds : List ℕ) → length ds ≡ 4 → octets_answer ds ≡ gives (V4 (number_of 256 ds))
unfolding octets_answer
answer_4 ds l = rw l

answer_16 : (ds : List ℕ) → length ds ≡ 16 → octets_answer ds ≡ gives (halves 256 8 ds)
unfolding octets_answer
answer_16 ds l = rw l

module _ (bs : List ℕ) where
  -- the block with that address whose length is the last byte
  abbrev last_length : Address → Block
  last_length a = record { address = a; length = get_or bs (length bs - 1) 0 }

  front_length : (n : ℕ) → length bs ≡ suc n → length (take n bs) ≡ n
  front_length n l = length-take-le n bs (omega arith)

  -- the answer that the octets before the last byte have
  front_answer : (n : ℕ) → length bs ≡ suc n → (r : Answer Address) → r ≡ octets_answer (take (length bs - 1) bs) → r ≡ octets_answer (take n bs)
  front_answer n l r e = let m : length bs - 1 ≡ n = omega arith in e ∙ ap (λ (k : ℕ). octets_answer (take k bs)) m

  record_5 : length bs ≡ 5 → record_block bs ≡ Some (last_length (V4 (number_of 256 (take 4 bs))))
  unfolding record_block
  record_5 l = rw l

  record_17 : length bs ≡ 17 → record_block bs ≡ Some (last_length (halves 256 8 (take 16 bs)))
  unfolding record_block
  record_17 l = rw l

  -- other bytes are no record
  pub record_other : ¬ (length bs ≡ 5) → ¬ (length bs ≡ 17) → record_block bs ≡ None
  unfolding record_block
  record_other n m = rw (ne_eqb (length bs) 5 n, ne_eqb (length bs) 17 m)

  other_answer : 0 < length bs → ¬ (length bs ≡ 5) → ¬ (length bs ≡ 17) → octets_answer (take (length bs - 1) bs) ≡ refuses no_address Malformed
  other_answer h n m =
      let l : length (take (length bs - 1) bs) ≡ length bs - 1 = length-take-le (length bs - 1) bs (omega arith) in
      sym (read_other (take (length bs - 1) bs) (λ e. n (omega (arith, e))) λ e. m (omega (arith, e)))

  module _ (h : 0 < length bs) where
    -- octets that are an address, before the last byte
    pub record_read : (a : Address) → gives a ≡ octets_answer (take (length bs - 1) bs) → record_block bs ≡ Some (last_length a)
    record_read a e = elim (ℕ_discrete (length bs) 5) [
      | yes l ↦ record_5 l ∙ ap (λ x. Some (last_length x)) (sym (ap (λ r. r.fields) (front_answer 4 l (gives a) e ∙ answer_4 (take 4 bs) (front_length 4 l))))
      | no n ↦ elim (ℕ_discrete (length bs) 17) [
        | yes l ↦ record_17 l ∙ ap (λ x. Some (last_length x)) (sym (ap (λ r. r.fields) (front_answer 16 l (gives a) e ∙ answer_16 (take 16 bs) (front_length 16 l))))
        | no m ↦ let z : ◌≡◌ {A = ℕ} 0 2 = ap (λ r. r.number) (e ∙ other_answer h n m) in absurd (omega arith)
      ]
    ]

    pub record_none : (r : Refusal) → refuses no_address r ≡ octets_answer (take (length bs - 1) bs) → record_block bs ≡ None
    record_none r e =
        let given : (a : Address) → refuses no_address r ≡ gives a → record_block bs ≡ None = λ a q. absurd (let z = ap (λ x. x.number) q in omega (arith, number_pos r)) in
        elim (ℕ_discrete (length bs) 5) [
          | yes l ↦ given (V4 (number_of 256 (take 4 bs))) (front_answer 4 l (refuses no_address r) e ∙ answer_4 (take 4 bs) (front_length 4 l))
          | no n ↦ elim (ℕ_discrete (length bs) 17) [
            | yes l ↦ given (halves 256 8 (take 16 bs)) (front_answer 16 l (refuses no_address r) e ∙ answer_16 (take 16 bs) (front_length 16 l))
            | no m ↦ record_other n m
          ]
        ]

  -- ---- the answer

  pub answer_block : (b : Block) → record_block bs ≡ Some b → record_answer bs ≡ read_answer precedence no_block (block_reasons b) (Some b)
  unfolding record_answer
  answer_block b e = rw e

  pub answer_none : record_block bs ≡ None → refuses no_block Malformed ≡ record_answer bs
  unfolding record_answer
  answer_none e = rw e

pub record_empty : (bs : List ℕ) → length bs ≡ 0 → record_block bs ≡ None
unfolding record_block
record_empty bs l = rw l

-- ---- the record of a block value, read

pub value_back : (b : Block) → IsAddress b.address → record_block (block_record b) ≡ Some b
unfolding octets record_of
value_back b h =
    let a = b.address in
    let bs = block_record b in
    let long = record_length (width a) (numbered b) in
    let at : length bs - 1 ≡ width a / 8 = omega arith in
    let front : take (length bs - 1) bs ≡ octets a = ap (λ (n : ℕ). take n bs) at ∙ take_at (octets a) (b.length ∷ []) (width a / 8) (octets_length a) in
    let last : get_or bs (length bs - 1) 0 ≡ b.length = ap (λ (n : ℕ). get_or bs n 0) at ∙ get_or_at (octets a) b.length [] 0 (width a / 8) (octets_length a) in
    record_read bs (omega arith) a (sym (ap octets_answer front ∙ octets_read_back a h)) ∙ ap (λ (n : ℕ). Some (record { address = a; length = n })) last

pub answer_back : (b : Block) → IsAddress b.address → block_refusal b ≡ 0 → record_answer (block_record b) ≡ gives b
answer_back b h v = answer_block (block_record b) b (value_back b h) ∙ sym (read_valid b v)

-- ---- records, end to end

pub records_length : (W : ℕ) (bs : List cover.Block) → length (records_of W bs) ≡ record_size W * length bs
unfolding records_of
records_length W [] = omega arith
records_length W (b ∷ bs) = omega (arith, length-append (record_of W b) (records_of W bs), record_length W b, records_length W bs, mul-suc (record_size W) (length bs))

-- W bits are whole octets
module _ (W : ℕ) (whole : 256 ^ (W / 8) ≡ 2 ^ W) where
  record_back : (b : cover.Block) → b.address < 2 ^ W → (rest : List ℕ) → read_record W (record_of W b ++ rest) ≡ b
  unfolding record_of read_record
  record_back b h rest =
      let k = W / 8 in
      let ds = digits_of 256 k b.address in
      let long = digits_length 256 k b.address in
      let front : (ds ++ b.length ∷ []) ++ rest ≡ ds ++ b.length ∷ rest = append_assoc ds (b.length ∷ []) rest in
      let address : number_of 256 (take k (ds ++ b.length ∷ rest)) ≡ b.address = ap (number_of 256) (take_at ds (b.length ∷ rest) k long) ∙ digits_number 256 (lit< tt) k b.address (omega arith) in
      let last : get_or (ds ++ b.length ∷ rest) k 0 ≡ b.length = get_or_at ds b.length rest 0 k long in
      rw front λ i. record { address = address i; length = last i }

  pub records_back : (bs : List cover.Block) → cover.AllBlocks W bs → (rest : List ℕ) → read_records W (length bs) (records_of W bs ++ rest) ≡ bs
  unfolding read_records records_of
  records_back [] h rest = refl
  records_back (b ∷ bs) h rest =
      let more = records_of W bs ++ rest in
      let split : (record_of W b ++ records_of W bs) ++ rest ≡ record_of W b ++ more = append_assoc (record_of W b) (records_of W bs) rest in
      let behind : drop (record_size W) (record_of W b ++ more) ≡ more = drop_at (record_of W b) more (record_size W) (record_length W b) in
      ap (λ l. read_record W l ∷ read_records W (length bs) (drop (record_size W) l)) split
      ∙ ap₂ ◌∷◌ (record_back b h.0.below more) (ap (read_records W (length bs)) behind ∙ records_back bs h.1 rest)
