-- What the text of a block is read as, what its reader answers, and how long the text is at most. Assumes nothing.
use Rattle.std.specs.Prelude.{Option, Some, None, unwrap_or, Ok, Err, Result, ok_or}
use mathlib.Core.Path.{◌≡◌, refl, sym, ap, ap₂, subst, ◌∙◌}
use mathlib.Core.Bool.{Bool, true, false, cond}
use mathlib.Core.List.{List, ◌∷◌, ◌++◌}
use Prim.Native.Nat.{ℕ, suc, ◌+◌, ◌≤◌, ◌<◌}
use native.Mathlib.Numerals.{add-one}
use native.Mathlib.Omega.{arith}
use borrow.Author.Tests.{lt-ltb, le-ltb}
use lib.Dec.{eqb, ltb, lit≤, lit<}
use lib.ListN.{length, take, drop, length-append}
use lib.Seq.{length-take-le}
use Rattle.notation.specs.Pieces.{contains, index_of, Lacks}
use Rattle.notation.proofs.OptionLaws.{impossible, same_value}
use Rattle.notation.proofs.PieceLaws.{index_contains, index_lacks, around}
use Rattle.notation.proofs.SeparatedLaws.{lacks_append}
use Rattle.notation.proofs.SliceLaws.{tail, to_end}
use Rattle.address.specs.declared.Address.{Address}
use Rattle.address.specs.declared.Address.TheVariants.{V4, V6}
use Rattle.address.specs.declared.Block.{Block}
use Rattle.address.specs.declared.Refusal.{Refusal}
use Rattle.address.specs.declared.Refusal.TheVariants.{TextTooLong, Malformed, LengthTooLarge}
use Rattle.address.specs.Addresses.{width}
use Rattle.address.specs.Answers.{precedence, Answer, gives, refuses, no_block, reading_answer, read_answer}
use Rattle.address.specs.Blocks.{block_reasons}
use Rattle.address.proofs.Claims.{one_reading}
use Rattle.digits.specs.Numerals.{digit_of, part_of, as_leading, decimal}
use Rattle.digits.proofs.NumeralLaws.{no_digit, part_digits, numeral_length}
use Rattle.digits.proofs.FirstPieceLaws.{as_number, as_nothing}
use Rattle.text.specs.Strict.{strict_of, strict_answer}
use Rattle.text.proofs.ByteLaws.{strict_lacks}
use Rattle.notation.proofs.OptionLaws.{ok_is, err_is}
use Rattle.text.proofs.StrictLaws.{strict_read}
use Rattle.normal.specs.Normal.{normal_text}
use Rattle.normal.proofs.BoundLaws as normal
use Rattle.blocks.specs.BlockText.{with_length, block_of, block_text_answer, block_text}

-- ---- what is answered

pub width_most : (a : Address) → width a ≤ 128
width_most (V4 v) = lit≤ tt
width_most (V6 hi lo) = lit≤ tt

module _ (t : List ℕ) where
  pub answer_long : 64 < length t → refuses no_block TextTooLong ≡ block_text_answer t
  unfolding block_text_answer read_answer
  answer_long h = rw (lt-ltb 64 (length t) h)

  module _ (short : length t ≤ 64) where
    pub answer_malformed : block_of t ≡ None → refuses no_block Malformed ≡ block_text_answer t
    unfolding block_text_answer read_answer
    answer_malformed h = rw (h, le-ltb 64 (length t) short)

    module _ (b : Block) (h : block_of t ≡ Some b) where
      -- a length above 128 is above either width
      answer_large : 128 < b.length → refuses no_block LengthTooLarge ≡ block_text_answer t
      unfolding block_text_answer read_answer
      answer_large l = rw (h, le-ltb 64 (length t) short, lt-ltb (width b.address) b.length (omega (arith, width_most b.address)))

      -- a text that has the form has the block's own refusals alone
      pub answer_checked : read_answer precedence no_block (block_reasons b) (Some b) ≡ block_text_answer t
      unfolding block_text_answer read_answer
      answer_checked = rw (h, le-ltb 64 (length t) short)

-- ---- what a text means

-- what the reader of addresses answers where the text is not too long
reading_is : (r : Result Address Refusal) (t : List ℕ) → length t ≤ 64 → reading_answer r ≡ strict_answer 0 t → r ≡ ok_or (strict_of 0 t) Malformed
reading_is r t short h = one_reading r (ok_or (strict_of 0 t) Malformed) (h ∙ sym (strict_read 0 t refl short))

with_none : (o : Option Address) → with_length o None ≡ None
with_none None = refl
with_none (Some a) = refl

module _ (t : List ℕ) (s : ℕ) (at : s ≡ index_of 47 t) where
  block_none : length t ≤ s → block_of t ≡ None
  unfolding block_of
  block_none l = rw (index_lacks 47 t (omega arith))

  block_slash : s < length t → block_of t ≡ with_length (strict_of 0 (take s t)) (part_of 999 (tail (s + 1) t))
  unfolding block_of
  block_slash l = rw (to_end (s + 1) t, add-one s, at, index_contains 47 t (omega arith))

-- what the reader has found: the slash, and a text that is not too long
module _ (t : List ℕ) (s : ℕ) (at : s ≡ index_of 47 t) (short : length t ≤ 64) where
  pub no_slash : length t ≤ s → refuses no_block Malformed ≡ block_text_answer t
  no_slash l = answer_malformed t short (block_none t s at l)

  module _ (l : s < length t) where
    address_is : (r : Result Address Refusal) → reading_answer r ≡ strict_answer 0 (take s t) → r ≡ ok_or (strict_of 0 (take s t)) Malformed
    address_is r = reading_is r (take s t) (omega (arith, length-take-le s t (omega arith)))

    pub no_address_lem : (e : Refusal) → reading_answer (Err e) ≡ strict_answer 0 (take s t) → refuses no_block Malformed ≡ block_text_answer t
    no_address_lem e h = answer_malformed t short (block_slash t s at l ∙ rw (err_is (strict_of 0 (take s t)) Malformed (address_is (Err e) h)))

    pub no_length : (k : ℕ) → None ≡ as_leading (part_of 999 (tail (s + 1) t)) k → refuses no_block Malformed ≡ block_text_answer t
    no_length k h = answer_malformed t short (block_slash t s at l ∙ rw (as_nothing (part_of 999 (tail (s + 1) t)) k h) (with_none (strict_of 0 (take s t))))

    module _ (a : Address) (h : reading_answer (Ok a) ≡ strict_answer 0 (take s t)) (n k m : ℕ) (e : Some (n, k) ≡ as_leading (part_of 999 (tail (s + 1) t)) m) where
      abbrev found : Block
      found = record { address = a; length = n }

      block_is : block_of t ≡ Some found
      block_is = block_slash t s at l ∙ ap₂ with_length (ok_is (strict_of 0 (take s t)) Malformed (address_is (Ok a) h)) (as_number (part_of 999 (tail (s + 1) t)) n k m e).0

      pub length_large : 128 < n → refuses no_block LengthTooLarge ≡ block_text_answer t
      length_large = answer_large t short found block_is

      pub block_checked : {r : Answer Block} → r ≡ read_answer precedence no_block (block_reasons found) (Some found) → r ≡ block_text_answer t
      block_checked c = c ∙ answer_checked t short found block_is

-- ---- the text

-- 39 bytes of the address, the slash, and three digits
pub text_most : (b : Block) → length (block_text b) ≤ 43
unfolding block_text
text_most b =
    omega (
      arith,
      length-append (normal_text b.address) (47 ∷ decimal b.length),
      normal.text_most b.address,
      numeral_length 10 3 b.length (lit≤ tt) (lit< tt) (lit≤ tt),
    )

-- ---- a text that has a meaning

with_says : (o : Option Address) (n : Option ℕ) (b : Block) → with_length o n ≡ Some b → (o ≡ Some b.address) × (n ≡ Some b.length)
with_says None n b e = impossible e
with_says (Some a) None b e = impossible e
with_says (Some a) (Some n) b e = let is = same_value e in (ap (λ (c : Block). Some c.address) is, ap (λ (c : Block). Some c.length) is)

-- an address, a slash and a length
pub block_parts : (t : List ℕ) (b : Block) → block_of t ≡ Some b
    → let before = take (index_of 47 t) t in
    let behind = drop (suc (index_of 47 t)) t in
    (before ++ 47 ∷ behind ≡ t) × (strict_of 0 before ≡ Some b.address) × (part_of 999 behind ≡ Some b.length)
unfolding block_of
block_parts t b e = go (contains 47 t) refl e
  where
    before : List ℕ
    before = take (index_of 47 t) t

    behind : List ℕ
    behind = drop (suc (index_of 47 t)) t

    go : (p : Bool) → contains 47 t ≡ p → cond p (with_length (strict_of 0 before) (part_of 999 behind)) None ≡ Some b
        → (before ++ 47 ∷ behind ≡ t) × (strict_of 0 before ≡ Some b.address) × (part_of 999 behind ≡ Some b.length)
    go true q k = let s = with_says (strict_of 0 before) (part_of 999 behind) b k in (around 47 t q, s.0, s.1)
    go false q k = impossible k

-- what is read has a meaning
block_meant : (t : List ℕ) (b : Block) → block_text_answer t ≡ gives b → (c : Block) × (block_of t ≡ Some c)
unfolding block_text_answer read_answer
block_meant t b e = go (block_of t) (ltb 64 (length t)) (ap (λ r. r.number) e)
  where
    go : (o : Option Block) (l : Bool) → (read_answer precedence no_block ((1, l) ∷ block_reasons (unwrap_or o no_block)) o).number ≡ 0 → (c : Block) × (o ≡ Some c)
    go None true h = let z : ◌≡◌ {A = ℕ} 1 0 = h in absurd (omega arith)
    go None false h = let z : ◌≡◌ {A = ℕ} 2 0 = h in absurd (omega arith)
    go (Some c) l h = (c, refl)

-- so that it holds hex digits, dots, colons and slashes alone
pub read_lacks : (c : ℕ) → digit_of c ≡ 16 → eqb 46 c ≡ false → eqb 58 c ≡ false → eqb 47 c ≡ false → (t : List ℕ) (b : Block) → block_text_answer t ≡ gives b → Lacks c t
unfolding contains
read_lacks c digit dot colon slash t b e =
    let m = block_meant t b e in
    let (is, address, size) = block_parts t m.0 m.1 in
    let before = take (index_of 47 t) t in
    let behind = drop (suc (index_of 47 t)) t in
    let left = strict_lacks c digit dot colon 0 before m.0.address address in
    let right = no_digit 10 c behind (lit≤ tt) digit (part_digits 999 behind m.0.length size).all in
    subst (Lacks c) is (lacks_append c before (47 ∷ behind) left (rw slash right))
