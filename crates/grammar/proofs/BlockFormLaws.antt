-- Block text: what the form has is what is read, and what reading answers. Assumes nothing.
use Rattle.std.specs.Prelude.{Option, Some, None}
use mathlib.Core.Path.{◌≡◌, refl, sym, ap₂, subst, ◌∙◌}
use mathlib.Core.List.{List, ◌∷◌, ◌++◌}
use Prim.Native.Nat.{ℕ, ◌-◌, ◌%◌, ◌^◌, ◌≤◌}
use native.Mathlib.Decide.{dec_le, ℕ_discrete}
use native.Mathlib.Omega.{arith}
use borrow.Author.Tests.{eq-eqb, ne_eqb}
use lib.ListN.{length}
use Rattle.notation.specs.Pieces.{Lacks}
use Rattle.notation.proofs.SeparatedLaws.{seam}
use Rattle.notation.proofs.OptionLaws.{impossible, nothing_there}
use Rattle.address.specs.declared.Address.{Address}
use Rattle.address.specs.declared.Address.TheVariants.{V4}
use Rattle.address.specs.declared.Block.{Block}
use Rattle.address.specs.declared.Refusal.TheVariants.{TextTooLong, Malformed, LengthTooLarge, BitsBeyondLength}
use Rattle.address.specs.Addresses.{IsAddress, width, number}
use Rattle.address.specs.Answers.{precedence, Answer, gives, no_block, read_answer}
use Rattle.address.specs.Blocks.{block_reasons}
use Rattle.address.proofs.BlockLaws.{refusal_length, refusal_bits, refusal_neither, read_valid, read_refused}
use Rattle.address.proofs.Claims.{gives_one, gives_refuses}
use Rattle.digits.specs.Numerals.{digit_of, decimal}
use Rattle.digits.proofs.NumeralLaws.{decimal_part}
use Rattle.text.specs.Strict.{strict_of}
use Rattle.text.proofs.ByteLaws.{strict_lacks}
use Rattle.blocks.specs.BlockText.{block_of, block_text_answer, block_text}
use Rattle.blocks.proofs.BlockTextLaws.{block_parts, answer_long, answer_malformed, answer_checked}
use Rattle.grammar.specs.StrictForm.{IPv4Text, StrictForm, either_4, either_6}
use Rattle.grammar.specs.BlockForm.{BlockForm, prefix, BlockCall, too_long, not_block, length_above, bits_beyond_lem, read_block, WrittenBlock, normal_prefix}
use Rattle.grammar.proofs.NumberLaws.{size_reads, reads_size, size_999, size_spelling}
use Rattle.grammar.proofs.LengthLaws.{block_most}
use Rattle.grammar.proofs.StrictFormLaws.{form_reads, reads_0, text_spelling}
use Rattle.grammar.proofs.NormalFormLaws.{normal_written, written_normal}

abbrev value : Address → ℕ → Block
value a n = record { address = a; length = n }

-- ---- the form

-- no slash stands in an address
strict_slash : (t : List ℕ) (a : Address) → strict_of 0 t ≡ Some a → Lacks 47 t
unfolding digit_of
strict_slash t a e = strict_lacks 47 refl refl refl 0 t a e

pub block_reads : {t : List ℕ} {a : Address} {n : ℕ} → BlockForm t a n → block_of t ≡ Some (record { address = a; length = n })
unfolding block_of
block_reads (prefix {t} {u} {a} {n} s p) =
    let e = form_reads s in
    let w = seam 47 t u (strict_slash t a e) in
    rw (w.0, w.1, w.2, e, size_reads 999 p (size_999 p))

pub reads_block : (t : List ℕ) (b : Block) → block_of t ≡ Some b → BlockForm t b.address b.length
reads_block t b e =
    let (is, address, size) = block_parts t b e in
    subst (λ u. BlockForm u b.address b.length) is (prefix (reads_0 _ b.address address) (reads_size 999 _ b.length size).0)

-- ---- the call

module _ (t : List ℕ) where
  module _ {a : Address} {n : ℕ} (f : BlockForm t a n) where
    checked : {r : Answer Block} → r ≡ read_answer precedence no_block (block_reasons (value a n)) (Some (value a n)) → r ≡ block_text_answer t
    checked e = e ∙ answer_checked t (omega (arith, block_most f)) (value a n) (block_reads f)

  pub call_answers : {r : Answer Block} → BlockCall t r → block_text_answer t ≡ r
  call_answers (too_long l) = sym (answer_long t l)
  call_answers (not_block l f) = sym (answer_malformed t l (nothing_there (block_of t) (λ b e. f b.address b.length (reads_block t b e))))
  call_answers (length_above {a} {n} f l) = sym (checked f (read_refused (value a n) LengthTooLarge (sym (refusal_length (value a n) l))))
  call_answers (bits_beyond_lem {a} {n} f l z) = sym (checked f (read_refused (value a n) BitsBeyondLength (sym (refusal_bits (value a n) l (ne_eqb _ 0 z)))))
  call_answers (read_block {a} {n} f l z) = sym (checked f (read_valid (value a n) (refusal_neither (value a n) l (eq-eqb _ 0 z))))

  of : {r : Answer Block} → BlockCall t r → BlockCall t (block_text_answer t)
  of c = subst (BlockCall t) (sym (call_answers c)) c

  pub answers_call : BlockCall t (block_text_answer t)
  answers_call = elim (dec_le (length t) 64) [ yes l ↦ go l (block_of t) refl | no l ↦ of (too_long (omega arith)) ]
    where
      found : {a : Address} {n : ℕ} → BlockForm t a n → BlockCall t (block_text_answer t)
      found {a} {n} f = elim (dec_le n (width a)) [
        | yes l ↦ elim (ℕ_discrete (number a % 2 ^ (width a - n)) 0) [ yes z ↦ of (read_block f l z) | no z ↦ of (bits_beyond_lem f l z) ]
        | no l ↦ of (length_above f (omega arith))
      ]

      go : length t ≤ 64 → (o : Option Block) → block_of t ≡ o → BlockCall t (block_text_answer t)
      go l None e = of (not_block l (λ a n f. impossible (sym e ∙ block_reads f)))
      go l (Some b) e = found (reads_block t b e)

  -- what a call that gives a block has found
  pub gives_form : {r : Answer Block} (b : Block) → BlockCall t r → r ≡ gives b
      → BlockForm t b.address b.length × (b.length ≤ width b.address) × (number b.address % 2 ^ (width b.address - b.length) ≡ 0)
  gives_form b (too_long l) e = absurd (gives_refuses TextTooLong (sym e))
  gives_form b (not_block l f) e = absurd (gives_refuses Malformed (sym e))
  gives_form b (length_above f l) e = absurd (gives_refuses LengthTooLarge (sym e))
  gives_form b (bits_beyond_lem f l z) e = absurd (gives_refuses BitsBeyondLength (sym e))
  gives_form b (read_block {a} {n} f l z) e =
      subst (λ (c : Block). BlockForm t c.address c.length × (c.length ≤ width c.address) × (number c.address % 2 ^ (width c.address - c.length) ≡ 0)) (gives_one e) (f, l, z)

-- ---- one spelling

-- an IPv4 text is one where the address is
is_ipv4 : {t : List ℕ} {v : ℕ} → StrictForm 0 t (V4 v) → IPv4Text t (V4 v)
is_ipv4 (either_4 h) = h
is_ipv4 (either_6 h) = elim h [ ]

pub block_spelling : {t : List ℕ} {v n : ℕ} → BlockForm t (V4 v) n → block_text (value (V4 v) n) ≡ t
unfolding block_text
block_spelling (prefix s p) = ap₂ (λ a b. a ++ 47 ∷ b) (text_spelling (is_ipv4 s)) (size_spelling p)

-- ---- writing

pub block_text_is : {a : Address} {n : ℕ} {t : List ℕ} → WrittenBlock a n t → block_text (value a n) ≡ t
unfolding block_text
block_text_is (normal_prefix h p) = ap₂ (λ a b. a ++ 47 ∷ b) (normal_written h) (size_spelling p)

pub block_text_has : (b : Block) → IsAddress b.address → b.length ≤ 999 → WrittenBlock b.address b.length (block_text b)
unfolding block_text
block_text_has b is l = normal_prefix (written_normal b.address is) (reads_size 999 (decimal b.length) b.length (decimal_part 999 b.length l (omega arith))).0
