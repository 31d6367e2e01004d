-- Bytes read as a list of records: the form that they have, and what reading answers. Assumes nothing.
use mathlib.Core.Path.{◌≡◌, refl, sym, ap, ap₂, subst, ◌∙◌}
use mathlib.Core.Logic.{◌⊎◌, inl, inr, ◌↔◌}
use mathlib.Core.Bool.{Bool, true, false, ◌&&◌, false≢true}
use mathlib.Core.List.{List, [], ◌∷◌, ◌++◌, append_assoc, append-nil}
use Prim.Native.Nat.{ℕ, zero, suc, ◌+◌, ◌-◌, ◌*◌, ◌/◌, ◌%◌, ◌^◌, ◌≤◌, ◌<◌}
use native.Mathlib.Nat.{mul-suc, mul-zero, mul-mod_right, mod-one, div-eq_of_eq-mul_right}
use native.Mathlib.Numerals.{add-one}
use native.Mathlib.Decide.{dec_le, dec_lt, ℕ_discrete}
use native.Mathlib.Omega.{arith}
use borrow.Author.Tests.{eqb-true, leb-true, le-leb, lt-ltb, le-ltb, ne_eqb, eq-eqb}
use lib.Dec.{eqb, leb, lit<}
use lib.ListN.{length, take, drop, get_or, length-append, length-drop}
use lib.Seq.{length-take-le, split_at, take_all, take_at, take-add, take-suc, drop_at, get_or_at}
use Rattle.notation.specs.BigEndian.{AllBelow, digits_of, number_of}
use Rattle.notation.proofs.DigitLaws.{below_take, below_drop, number_digits}
use Rattle.cover.specs.Blocks.{Block, size, IsBlock, AllBlocks, Rising}
use Rattle.address.specs.declared.Refusal.{Refusal}
use Rattle.address.specs.declared.Refusal.TheVariants.{LengthTooLarge, BitsBeyondLength, TooMany}
use Rattle.address.specs.Answers.{Answer, gives, refuses, refusal_number, first_of}
use Rattle.address.proofs.AnswerLaws.{number_pos, answer_refuses}
use Rattle.records.specs.Records.{record_size, record_of, records_of, read_record, read_records}
use Rattle.records.proofs.Claims.{records_read_back, records_size}
use Rattle.record_lists.specs.RecordLists.{is_family, family_width, most_records, record_count, list_blocks, is_rising, record_reasons, records_reasons, list_refusal, list_answer}
use Rattle.record_lists.specs.ListForm.{Family, four, six, Records, no_record, address_length, Breaks, length_above, bits_beyond_lem, FirstBad, here, later, Rises, rising, falling, ListCall, no_family, part_record, too_many, bad_record, all_blocks}
use Rattle.record_lists.proofs.AnswerLaws.{family_octets, list_unknown, list_partial, list_many}
use Rattle.record_lists.proofs.GoodLaws.{block_fine, blocks_fine, address_below, reads_length, list_whole, fine_answer}
use Rattle.record_lists.proofs.ListLaws.{first_good, first_bad}

-- ---- families

-- what holds of a family's sizes
pub at_family : {f k W : ℕ} (P : ℕ → ℕ → Type 0) → Family f k W → P k W → P (family_width f / 8) (family_width f)
at_family P four p = p
at_family P six p = p

pub known : {f k W : ℕ} → Family f k W → is_family f ≡ true
known four = refl
known six = refl

pub two_families : {f k W : ℕ} → Family f k W → ((f ≡ 4) × (k ≡ 4) × (W ≡ 32)) ⊎ ((f ≡ 6) × (k ≡ 16) × (W ≡ 128))
two_families four = inl (refl, refl, refl)
two_families six = inr (refl, refl, refl)

pub family_of : (f : ℕ) → is_family f ≡ true → Family f (family_width f / 8) (family_width f)
family_of f e = go (eqb f 4) refl
  where
    go : (t : Bool) → eqb f 4 ≡ t → Family f (family_width f / 8) (family_width f)
    go true h = subst (λ (g : ℕ). Family g (family_width g / 8) (family_width g)) (sym (eqb-true f 4 h)) four
    go false h = subst (λ (g : ℕ). Family g (family_width g / 8) (family_width g)) (sym (eqb-true f 6 (rw h at e))) six

unknown : (f : ℕ) → ((k W : ℕ) → Family f k W → ⊥) → is_family f ≡ false
unknown f n = go (is_family f) refl
  where
    go : (t : Bool) → is_family f ≡ t → t ≡ false
    go true e = absurd (n (family_width f / 8) (family_width f) (family_of f e))
    go false e = refl

-- ---- what the bytes hold

module _ (W : ℕ) where
  pub records_length : {bytes : List ℕ} {bs : List Block} → Records (W / 8) bytes bs → length bytes ≡ record_size W * length bs
  records_length no_record = sym (mul-zero (record_size W))
  records_length (address_length octets n {rest} {bs} l r) = omega (arith, length-append octets (n ∷ rest), l, records_length r, mul-suc (record_size W) (length bs))

  -- and what is read of them
  pub records_read : {bytes : List ℕ} {bs : List Block} → Records (W / 8) bytes bs → read_records W (length bs) bytes ≡ bs
  unfolding read_records
  records_read no_record = refl
  records_read (address_length octets n {rest} {bs} l r) =
      let address = ap (number_of 256) (take_at octets (n ∷ rest) (W / 8) l) in
      let last = get_or_at octets n rest 0 (W / 8) l in
      let long : length (octets ++ n ∷ []) ≡ record_size W = length-append octets (n ∷ []) ∙ ap (λ (k : ℕ). k + 1) l in
      let behind : drop (record_size W) (octets ++ n ∷ rest) ≡ rest = ap (drop (record_size W)) (sym (append_assoc octets (n ∷ []) rest)) ∙ drop_at (octets ++ n ∷ []) rest (record_size W) long in
      ap₂ ◌∷◌ (λ i. record { address = address i; length = last i }) (ap (read_records W (length bs)) behind ∙ records_read r)

  -- so many bytes hold what is read of them
  pub reads_records : (n : ℕ) (bytes : List ℕ) → length bytes ≡ record_size W * n → Records (W / 8) bytes (read_records W n bytes)
  unfolding read_records
  reads_records zero [] l = no_record
  reads_records zero (x ∷ bytes) l = absurd (omega (arith, l, mul-zero (record_size W)))
  reads_records (suc n) bytes l =
      let size = mul-suc (record_size W) n in
      let behind : length (drop (record_size W) bytes) ≡ record_size W * n = omega (arith, length-drop (record_size W) bytes, l, size) in
      let front : length (take (W / 8) bytes) ≡ W / 8 = length-take-le (W / 8) bytes (omega (arith, l, size)) in
      let next : suc (W / 8) ≡ record_size W = omega arith in
      let split = split_at bytes (W / 8) 0 (omega (arith, l, size)) ∙ ap (λ (k : ℕ). take (W / 8) bytes ++ get_or bytes (W / 8) 0 ∷ drop k bytes) next in
      subst (λ l. Records (W / 8) l (read_records W (suc n) bytes)) (sym split) (address_length (take (W / 8) bytes) (get_or bytes (W / 8) 0) front (reads_records n (drop (record_size W) bytes) behind))

  -- a record written again, and all of them
  record_again : (bytes : List ℕ) → AllBelow 256 bytes → record_size W ≤ length bytes → record_of W (read_record W bytes) ≡ take (record_size W) bytes
  unfolding record_of read_record
  record_again bytes small h =
      let ds = take (W / 8) bytes in
      let long : length ds ≡ W / 8 = length-take-le (W / 8) bytes (omega arith) in
      let same : digits_of 256 (W / 8) (number_of 256 ds) ≡ ds = ap (λ (k : ℕ). digits_of 256 k (number_of 256 ds)) (sym long) ∙ number_digits 256 (lit< tt) ds (below_take 256 (W / 8) bytes small) in
      ap (λ os. os ++ get_or bytes (W / 8) 0 ∷ []) same ∙ sym (take-suc bytes (W / 8) 0 (omega arith)) ∙ ap (λ (k : ℕ). take k bytes) (sym (add-one (W / 8)))

  pub records_again : (n : ℕ) (bytes : List ℕ) → AllBelow 256 bytes → record_size W * n ≤ length bytes → records_of W (read_records W n bytes) ≡ take (record_size W * n) bytes
  unfolding records_of read_records
  records_again zero bytes small h = ap (λ (k : ℕ). take k bytes) (sym (mul-zero (record_size W)))
  records_again (suc n) bytes small h =
      let size = mul-suc (record_size W) n in
      let all : record_size W + record_size W * n ≡ record_size W * suc n = omega (arith, size) in
      let rest = drop (record_size W) bytes in
      ap₂ ◌++◌ (record_again bytes small (omega (arith, size))) (records_again n rest (below_drop 256 (record_size W) bytes small) (omega (arith, size, length-drop (record_size W) bytes)))
      ∙ sym (take-add (record_size W) (record_size W * n) bytes) ∙ ap (λ (k : ℕ). take k bytes) all

  -- bytes that hold blocks are the records of these
  pub records_written : {bytes : List ℕ} {bs : List Block} → AllBelow 256 bytes → Records (W / 8) bytes bs → bytes ≡ records_of W bs
  records_written {bytes} {bs} small r =
      let l = records_length r in
      sym (ap (records_of W) (sym (records_read r)) ∙ records_again (length bs) bytes small (omega (arith, l)) ∙ take_all (record_size W * length bs) bytes (omega (arith, l)))

  pub written_records : 256 ^ (W / 8) ≡ 2 ^ W → (bs : List Block) → AllBlocks W bs → Records (W / 8) (records_of W bs) bs
  written_records whole bs h =
      let bytes = records_of W bs in
      let back : read_records W (length bs) bytes ≡ bs = ap (read_records W (length bs)) (sym (append-nil bytes)) ∙ records_read_back W whole bs h [] in
      subst (Records (W / 8) bytes) back (reads_records (length bs) bytes (records_size W bs))

-- ---- whether they rise

and_both : (p q : Bool) → (p && q) ≡ true → (p ≡ true) × (q ≡ true)
and_both true q e = (refl, e)
and_both false q e = absurd (false≢true e)

rising_told : (bs : List Block) → is_rising bs ≡ true → Rising bs
unfolding is_rising
rising_told [] e = tt
rising_told (b ∷ []) e = tt
rising_told (b ∷ c ∷ bs) e = let (up, rest) = and_both (leb b.address c.address) (is_rising (c ∷ bs)) e in (leb-true b.address c.address up, rising_told (c ∷ bs) rest)

rising_tells : (bs : List Block) → Rising bs → is_rising bs ≡ true
unfolding is_rising
rising_tells [] h = refl
rising_tells (b ∷ []) h = refl
rising_tells (b ∷ c ∷ bs) h = rw (le-leb b.address c.address h.0) (rising_tells (c ∷ bs) h.1)

pub rising_is : (bs : List Block) (t : Bool) → is_rising bs ≡ t → (t ≡ true) ↔ Rising bs
rising_is bs t e = (λ u. rising_told bs (e ∙ u), λ h. sym e ∙ rising_tells bs h)

pub rises : (bs : List Block) → Rises bs (is_rising bs)
rises bs = go (is_rising bs) refl
  where
    go : (t : Bool) → is_rising bs ≡ t → Rises bs t
    go true e = rising (rising_told bs e)
    go false e = falling λ h. false≢true (sym e ∙ rising_tells bs h)

rises_is : {bs : List Block} {t : Bool} → Rises bs t → is_rising bs ≡ t
rises_is {bs} (rising h) = rising_tells bs h
rises_is {bs} (falling n) = go (is_rising bs) refl
  where
    go : (t : Bool) → is_rising bs ≡ t → t ≡ false
    go true e = absurd (n (rising_told bs e))
    go false e = refl

-- ---- the first bad record

module _ (W : ℕ) where
  breaks_number : {b : Block} {e : Refusal} → Breaks W b e → first_of (record_reasons W b) ≡ refusal_number e
  unfolding first_of
  breaks_number {b} (length_above h) = rw (lt-ltb W b.length h)
  breaks_number {b} (bits_beyond_lem h n) = rw (le-ltb W b.length h, ne_eqb (b.address % size W b) 0 n)

  -- a length above the width leaves no bit beyond it
  pub no_bits_beyond : (b : Block) → W < b.length → b.address % 2 ^ (W - b.length) ≡ 0
  no_bits_beyond b h = let none : W - b.length ≡ 0 = omega arith in ap (λ (k : ℕ). b.address % 2 ^ k) none ∙ mod-one b.address

  pub bad_number : {bs : List Block} {e : Refusal} → FirstBad W bs e → first_of (records_reasons W bs) ≡ refusal_number e
  bad_number (here {b} {bs} {e} k) = first_bad W b bs (refusal_number e) (number_pos e) (breaks_number k)
  bad_number (later {b} {bs} h k) = first_good W b bs (block_fine W b h) ∙ bad_number k

  -- it is one whose records before it are blocks
  pub bad_split : {bs : List Block} {e : Refusal} → FirstBad W bs e
      → (before : List Block) × (b : Block) × (behind : List Block) × (bs ≡ before ++ b ∷ behind) × AllBlocks W before × Breaks W b e
  bad_split (here {b} {bs} k) = ([], b, bs, refl, tt, k)
  bad_split (later {b} h k) = let (before, c, behind, all, hs, broken) = bad_split k in (b ∷ before, c, behind, ap (λ l. b ∷ l) all, (h, hs), broken)

  pub split_bad : (before : List Block) (b : Block) (behind : List Block) (e : Refusal) → AllBlocks W before → Breaks W b e → FirstBad W (before ++ b ∷ behind) e
  split_bad [] b behind e h k = here k
  split_bad (a ∷ before) b behind e h k = later h.0 (split_bad before b behind e h.1 k)

  -- one record is a block or breaks a rule
  judged : (b : Block) → b.address < 2 ^ W → IsBlock W b ⊎ ((e : Refusal) × Breaks W b e)
  judged b h = elim (dec_le b.length W) [
    | no n ↦ inr (LengthTooLarge, length_above (omega arith))
    | yes l ↦ elim (ℕ_discrete (b.address % 2 ^ (W - b.length)) 0) [ yes z ↦ inl (record { below = h; short = l; aligned = z }) | no n ↦ inr (BitsBeyondLength, bits_beyond_lem l n) ]
  ]

  pub all_judged : 256 ^ (W / 8) ≡ 2 ^ W → (n : ℕ) (bytes : List ℕ) → AllBelow 256 bytes → AllBlocks W (read_records W n bytes) ⊎ ((e : Refusal) × FirstBad W (read_records W n bytes) e)
  unfolding read_records
  all_judged whole zero bytes small = inl tt
  all_judged whole (suc n) bytes small =
      elim (judged (read_record W bytes) (address_below W whole bytes small)) [
        | inr (e, k) ↦ inr (e, here k)
        | inl h ↦ elim (all_judged whole n (drop (record_size W) bytes) (below_drop 256 (record_size W) bytes small)) [
          | inl hs ↦ inl (h, hs)
          | inr (e, k) ↦ inr (e, later h k)
        ]
      ]

-- ---- the call

module _ (f : ℕ) (bytes : List ℕ) where
  abbrev W : ℕ
  W = family_width f

  -- so many records
  pub count_is : (n : ℕ) → length bytes ≡ record_size W * n → (length bytes % record_size W ≡ 0) × (record_count f bytes ≡ n)
  count_is n l = (ap (λ (k : ℕ). k % record_size W) l ∙ mul-mod_right (record_size W) n, div-eq_of_eq-mul_right (let pos : 0 < record_size W = omega arith in pos) l)

  -- whole records are those of the blocks
  pub list_written : AllBelow 256 bytes → length bytes % record_size W ≡ 0 → bytes ≡ records_of W (list_blocks f bytes)
  unfolding list_blocks
  list_written small w = records_written W small (reads_records W (record_count f bytes) bytes (list_whole f bytes w))

  pub list_refusal_lem : is_family f ≡ true → length bytes % record_size W ≡ 0 → record_count f bytes ≤ most_records
      → list_refusal f bytes ≡ first_of (records_reasons W (list_blocks f bytes))
  unfolding list_refusal
  list_refusal_lem k w m = rw (k, eq-eqb _ 0 w, le-ltb most_records (record_count f bytes) m)

  -- a list that holds these
  module _ (bs : List Block) (r : Records (W / 8) bytes bs) where
    held_count : (length bytes % record_size W ≡ 0) × (record_count f bytes ≡ length bs)
    held_count = count_is (length bs) (records_length W r)

    pub held_blocks : list_blocks f bytes ≡ bs
    unfolding list_blocks
    held_blocks = ap (λ (n : ℕ). read_records W n bytes) held_count.1 ∙ records_read W r

  module _ (k : is_family f ≡ true) (bs : List Block) (r : Records (W / 8) bytes bs) (m : length bs ≤ most_records) where
    held_refusal : list_refusal f bytes ≡ first_of (records_reasons W bs)
    held_refusal =
        let (w, c) = held_count bs r in
        list_refusal_lem k w (subst (λ (n : ℕ). n ≤ most_records) (sym c) m) ∙ ap (λ cs. first_of (records_reasons W cs)) (held_blocks bs r)

    held_bad : (e : Refusal) → first_of (records_reasons W bs) ≡ refusal_number e → list_answer f bytes ≡ refuses (0, false) e
    unfolding list_answer
    held_bad e h = sym (answer_refuses (0, false) (record_count f bytes, is_rising (list_blocks f bytes)) _ e (sym (held_refusal ∙ h)))

    pub held_fine : AllBlocks W bs → list_refusal f bytes ≡ 0
    held_fine h = held_refusal ∙ blocks_fine W bs h

    pub held_good : AllBlocks W bs → (t : Bool) → Rises bs t → list_answer f bytes ≡ gives (length bs, t)
    held_good h t u = fine_answer f bytes (held_fine h) ∙ ap₂ (λ (n : ℕ) p. gives (n, p)) (held_count bs r).1 (ap is_rising (held_blocks bs r) ∙ rises_is u)

  many : is_family f ≡ true → (n : ℕ) → length bytes ≡ record_size W * n → most_records < n → list_answer f bytes ≡ refuses (0, false) TooMany
  many k n l m = let (w, c) = count_is n l in sym (list_many f bytes k (record_size W) refl w (subst (λ (n : ℕ). most_records < n) (sym c) m))

  pub call_answers : {r : Answer (ℕ × Bool)} → ListCall f bytes r → list_answer f bytes ≡ r
  call_answers (no_family n) = sym (list_unknown f bytes (unknown f n))
  call_answers (part_record y p) =
      let none = at_family (λ k W. (n : ℕ) → length bytes ≡ (k + 1) * n → ⊥) y p in
      sym (list_partial f bytes (known y) (record_size W) refl λ z. none (record_count f bytes) (list_whole f bytes z))
  call_answers (too_many {n = n} y l m) = many (known y) n (at_family (λ k W. length bytes ≡ (k + 1) * n) y l) (omega (arith, m))
  call_answers (bad_record {bs = bs} {e} y r m b) =
      let (held, bad) = at_family (λ k W. Records k bytes bs × FirstBad W bs e) y (r, b) in
      held_bad (known y) bs held m e (bad_number W bad)
  call_answers (all_blocks {bs = bs} {t} y r m h u) =
      let (held, good) = at_family (λ k W. Records k bytes bs × AllBlocks W bs) y (r, h) in
      held_good (known y) bs held m good t u

  of : {r : Answer (ℕ × Bool)} → ListCall f bytes r → ListCall f bytes (list_answer f bytes)
  of c = subst (ListCall f bytes) (sym (call_answers c)) c

  -- a whole number of records, not too many
  found : AllBelow 256 bytes → Family f (W / 8) W → length bytes ≡ record_size W * record_count f bytes → record_count f bytes ≤ 512 → ListCall f bytes (list_answer f bytes)
  found small y l m =
      let n = record_count f bytes in
      let r = reads_records W n bytes l in
      let few : length (read_records W n bytes) ≤ 512 = subst (λ (k : ℕ). k ≤ 512) (sym (reads_length W n bytes)) m in
      elim (all_judged W (family_octets f) n bytes small) [
        | inl h ↦ of (all_blocks y r few h (rises (read_records W n bytes)))
        | inr (e, b) ↦ of (bad_record y r few b)
      ]

  pub answers_call : AllBelow 256 bytes → ListCall f bytes (list_answer f bytes)
  answers_call small = go (is_family f) refl
    where
      go : (t : Bool) → is_family f ≡ t → ListCall f bytes (list_answer f bytes)
      go false e = of (no_family λ k W y. false≢true (sym e ∙ known y))
      go true e =
          let y = family_of f e in
          elim (ℕ_discrete (length bytes % record_size W) 0) [
            | no n ↦ of (part_record y λ k l. n (count_is k l).0)
            | yes w ↦ elim (dec_lt 512 (record_count f bytes)) [
              | yes m ↦ of (too_many y (list_whole f bytes w) m)
              | no m ↦ found small y (list_whole f bytes w) (omega (arith, m))
            ]
          ]
