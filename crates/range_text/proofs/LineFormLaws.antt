-- A line's answer and the paper's sentences: which of them a line meets, and what its answer then is. Assumes nothing.
use Rattle.std.specs.Prelude.{Option, Some, None, ok_or}
use mathlib.Core.Path.{◌≡◌, refl, sym, ap, ap₂, subst, ◌∙◌}
use mathlib.Core.Logic.{◌⊎◌, inl, inr}
use mathlib.Core.Bool.{Bool, true, false, cond, false≢true}
use mathlib.Core.List.{List, [], ◌∷◌, ◌++◌, map}
use Prim.Native.Nat.{ℕ, suc, ◌≤◌}
use native.Mathlib.Decide.{dec_le, dec_lt, ℕ_discrete}
use native.Mathlib.Omega.{arith}
use borrow.Author.Tests.{eq-eqb, ne_eqb}
use lib.Dec.{eqb}
use lib.ListN.{length}
use lib.Pow.{high, low}
use lib.Seq.{append_snoc}
use Rattle.notation.specs.Ascii.{ascii}
use Rattle.notation.specs.Pieces.{contains, on_first, split_on, separated, Lacks}
use Rattle.notation.proofs.PieceLaws.{split_first}
use Rattle.notation.proofs.SeparatedLaws.{lacks_cons, split_lacks, split_separated}
use Rattle.cover.specs.Blocks as cover
use Rattle.cover.proofs.Claims.{range_is_fewest, one_fewest}
use Rattle.address.specs.declared.Address.{Address}
use Rattle.address.specs.declared.Address.TheVariants.{V4, V6}
use Rattle.address.specs.declared.Block.{Block}
use Rattle.address.specs.declared.Refusal.{Refusal}
use Rattle.address.specs.declared.Refusal.TheVariants.{TextTooLong, Malformed, NoRoom, LengthTooLarge, BitsBeyondLength, NoClass, HostTooLarge, FirstAboveLast, WrongFamily, TooMany}
use Rattle.address.specs.Addresses.{family, width, number, IsAddress}
use Rattle.address.specs.Answers.{refusal_number, gives, refuses, no_address, reading_answer}
use Rattle.address.specs.Blocks.{numbered}
use Rattle.address.proofs.AddressLaws.{width_follows}
use Rattle.address.proofs.Claims.{address_below}
use Rattle.digits.specs.Numerals.{numeral}
use Rattle.text.specs.Strict.{strict_of, strict_answer}
use Rattle.text.proofs.StrictLaws.{strict_long, strict_read, strict_gives}
use Rattle.text.proofs.MeaningLaws.{strict_address}
use Rattle.blocks.specs.BlockText.{block_text}
use Rattle.ranges.specs.Ranges.{blocks_of}
use Rattle.range_text.specs.RangeText.{answered_with, refused_by, like_address, like_block, block_lines, answer_range, answer_read, answer_pieces, answer_line, line_text}
use Rattle.range_text.specs.LineForm.{space, Free, no_byte, another, ended, refused_text, OfFamily, TwoTexts, RangeLine, Line, too_long, no_space, more_spaces, two_families, first_above_last, range}
use Rattle.range_text.specs.LineForm as form
use Rattle.range_text.proofs.RangeTextLaws.{like_numbered, like_address_lem, text_apart, text_falling, text_rising, first_refused, second_refused, both_read, line_long, line_pieces}

-- ---- bytes that do not stand in a text

pub free_lacks : {b : ℕ} {t : List ℕ} → Free b t → Lacks b t
unfolding contains
free_lacks no_byte = refl
free_lacks {b} (another {x} n f) = rw (ne_eqb x b n) (free_lacks f)

pub lacks_free : (b : ℕ) (t : List ℕ) → Lacks b t → Free b t
lacks_free b [] h = no_byte
lacks_free b (x ∷ t) h = let l = lacks_cons b x t h in another (λ e. false≢true (sym l.0 ∙ eq-eqb x b e)) (lacks_free b t l.1)

-- a text up to the first b and behind it, or free of b
pub first_byte : (b : ℕ) (t : List ℕ) → Free b t ⊎ ((s : List ℕ) × (u : List ℕ) × (t ≡ s ++ b ∷ u) × Free b s)
first_byte b [] = inl no_byte
first_byte b (x ∷ t) = elim (ℕ_discrete x b) [
  | yes e ↦ inr ([], t, ap (λ y. y ∷ t) e, no_byte)
  | no n ↦ elim (first_byte b t) [
    | inl f ↦ inl (another n f)
    | inr p ↦ inr (x ∷ p.0, p.1, ap (λ u. x ∷ u) p.2, another n p.3)
  ]
]

-- a separator more is a piece more
more_pieces : (b : ℕ) (s t : List ℕ) → suc (length (split_on b t)) ≤ length (split_on b (s ++ b ∷ t))
unfolding split_on on_first
more_pieces b [] t = rw (eq-eqb b b refl) (omega arith)
more_pieces b (x ∷ s) t = go (eqb x b) (split_on b (s ++ b ∷ t)) (more_pieces b s t)
  where
    go : (e : Bool) (ps : List (List ℕ)) → suc (length (split_on b t)) ≤ length ps → suc (length (split_on b t)) ≤ length (cond e ([] ∷ ps) (on_first x ps))
    go true ps h = omega arith
    go false [] h = omega arith
    go false (p ∷ ps) h = h

-- ---- the refusal's line

refused_spelt : (e : Refusal) → (refused_by (refusal_number e)).text ≡ ended (refused_text e ∷ [])
unfolding refused_by ascii numeral
refused_spelt TextTooLong = refl
refused_spelt Malformed = refl
refused_spelt NoRoom = refl
refused_spelt LengthTooLarge = refl
refused_spelt BitsBeyondLength = refl
refused_spelt NoClass = refl
refused_spelt HostTooLarge = refl
refused_spelt FirstAboveLast = refl
refused_spelt WrongFamily = refl
refused_spelt TooMany = refl

-- ---- an address text

-- it is read or refused
data Judged (t : List ℕ) : Type 0 where
  good : (a : Address) → strict_answer 0 t ≡ gives a → Judged t
  bad : (e : Refusal) → strict_answer 0 t ≡ refuses no_address e → Judged t

judged : (t : List ℕ) → Judged t
judged t = elim (dec_le (length t) 64) [
  | yes h ↦ go (strict_of 0 t) (sym (strict_read 0 t refl h))
  | no n ↦ bad TextTooLong (sym (strict_long 0 t refl (omega arith)))
]
  where
    go : (o : Option Address) → strict_answer 0 t ≡ reading_answer (ok_or o Malformed) → Judged t
    go None e = bad Malformed e
    go (Some a) e = good a e

pub given_address : (t : List ℕ) (a : Address) → strict_answer 0 t ≡ gives a → IsAddress a
given_address t a e = strict_address 0 t a (strict_gives 0 t refl a e).1

-- ---- block values of one family

like_family : (like : Address) (b : cover.Block) → family (like_block like b).address ≡ family like
like_family (V4 v) b = refl
like_family (V6 hi lo) b = refl

address_back : (like a : Address) → family a ≡ family like → IsAddress a → like_address like (number a) ≡ a
address_back (V4 v) (V4 w) e h = refl
address_back (V4 v) (V6 hi lo) e h = absurd (omega arith)
address_back (V6 hi lo) (V4 v) e h = absurd (omega arith)
address_back (V6 hi lo) (V6 up low') e h = ap₂ V6 (high up 64 h.1) (low up 64 h.1)

like_back : (like : Address) (b : Block) → family b.address ≡ family like → IsAddress b.address → like_block like (numbered b) ≡ b
like_back like b e h = let p = address_back like b.address e h in λ i. record { address = p i; length = b.length }

-- the lines of their numbers are their texts
lines_spelt : (like : Address) (bs : List Block) → OfFamily (family like) bs → block_lines like (map numbered bs) ≡ ended (map block_text bs)
unfolding block_lines
lines_spelt like [] h = refl
lines_spelt like (b ∷ bs) h =
    ap₂ (λ c l. (block_text c ++ 10 ∷ []) ++ l) (like_back like b h.0 h.1) (lines_spelt like bs h.2) ∙ append_snoc (block_text b) 10 (ended (map block_text bs))

-- every list of blocks is that of block values of the family
pub values : Address → List cover.Block → List Block
values like bs = map (like_block like) bs

pub values_numbered : (like : Address) (bs : List cover.Block) → map numbered (values like bs) ≡ bs
unfolding values
values_numbered like [] = refl
values_numbered like (b ∷ bs) = ap₂ (λ c cs. c ∷ cs) (like_numbered like b) (values_numbered like bs)

pub values_family : (like : Address) (bs : List cover.Block) → cover.AllBlocks (width like) bs → OfFamily (family like) (values like bs)
unfolding values
values_family like [] h = tt
values_family like (b ∷ bs) h = (like_family like b, like_address_lem like b h.0.below, values_family like bs h.1)

-- ---- from the sentence to the answer

many_pieces : (ps : List (List ℕ)) → 3 ≤ length ps → answer_pieces ps ≡ refused_by 2
unfolding answer_pieces
many_pieces [] h = refl
many_pieces (p ∷ []) h = refl
many_pieces (p ∷ q ∷ []) h = absurd (omega arith)
many_pieces (p ∷ q ∷ r ∷ ps) h = refl

some_piece : (b : ℕ) (t : List ℕ) → 1 ≤ length (split_on b t)
some_piece b t = rw (split_first b t).1 (omega arith)

module _ {line s t : List ℕ} (w : TwoTexts line s t) where
  two_texts : answer_line line ≡ answer_read (strict_answer 0 s) (strict_answer 0 t)
  unfolding separated answer_pieces
  two_texts = sym (line_pieces line w.short (s ∷ t ∷ []) (ap (split_on 32) w.is ∙ split_separated 32 (s ∷ t ∷ []) (omega arith) (free_lacks w.before, (free_lacks w.behind, tt))))

  first_says : (e : Refusal) → strict_answer 0 s ≡ refuses no_address e → answer_line line ≡ refused_by (refusal_number e)
  first_says e h = two_texts ∙ sym (first_refused (strict_answer 0 s) (strict_answer 0 t) e (sym h))

  module _ (a : Address) (h : strict_answer 0 s ≡ gives a) where
    second_says : (e : Refusal) → strict_answer 0 t ≡ refuses no_address e → answer_line line ≡ refused_by (refusal_number e)
    second_says e k = two_texts ∙ ap (λ r. answer_read r (strict_answer 0 t)) h ∙ sym (second_refused a (strict_answer 0 t) e (sym k))

    module _ (b : Address) (k : strict_answer 0 t ≡ gives b) where
      both_say : answer_line line ≡ answer_range a b
      both_say = two_texts ∙ ap (λ r. answer_read r (strict_answer 0 t)) h ∙ sym (both_read a b (strict_answer 0 t) (sym k))

      pub range_fewest : family a ≡ family b → cover.Fewest (width a) (cover.Range (number a) (number b)) (blocks_of a b)
      range_fewest same = range_is_fewest (width a) (number a) (number b) (rw (width_follows a b same) (address_below b (given_address t b k)))

-- what a sentence says of a line: it is refused by a number, or asks for a range and is answered with blocks
pub data Says (line text : List ℕ) : Type 0 where
  refused : (e : Refusal) → answer_line line ≡ refused_by (refusal_number e) → text ≡ ended (refused_text e ∷ []) → Says line text
  answered : RangeLine line → answer_line line ≡ answered_with text → Says line text

pub line_says : {line text : List ℕ} → Line line text → Says line text
unfolding answer_pieces
line_says (too_long {line} h) = refused TextTooLong (sym (line_long line h)) refl
line_says (no_space {line} h f) = refused Malformed (sym (line_pieces line h (line ∷ []) (split_lacks 32 line (free_lacks f)))) refl
line_says (more_spaces s t u h) =
    let line = s ++ 32 ∷ (t ++ 32 ∷ u) in
    let many : 3 ≤ length (split_on 32 line) = omega (arith, more_pieces 32 s (t ++ 32 ∷ u), more_pieces 32 t u, some_piece 32 u) in
    refused Malformed (sym (line_pieces line h (split_on 32 line) refl) ∙ many_pieces (split_on 32 line) many) refl
line_says (form.first_refused e w h) = refused e (first_says w e h) refl
line_says (form.second_refused {a} e w h k) = refused e (second_says w a h e k) refl
line_says (two_families {a} {b} w h k n) = refused WrongFamily (both_say w a h b k ∙ sym (text_apart a b n)) refl
line_says (first_above_last {a} {b} w h k e l) = refused FirstAboveLast (both_say w a h b k ∙ sym (text_falling a b e l)) refl
line_says (range {line} {s} {t} {a} {b} bs w h k e l all few) =
    answered
    (record { before = s; behind = t; is = w.is; first = a; last = b; first_read = h; last_read = k; one_family = e; rises = l })
    (both_say w a h b k ∙ sym (text_rising a b e l) ∙ ap answered_with (ap (block_lines a) (one_fewest (range_fewest w a h b k e) few) ∙ lines_spelt a bs all))

pub line_answers : {line text : List ℕ} → Line line text → line_text line ≡ text
line_answers l = elim (line_says l) [
  | refused e a t ↦ ap (λ x. x.text) a ∙ refused_spelt e ∙ sym t
  | answered r a ↦ ap (λ x. x.text) a
]

-- ---- from the line to the sentence

two_line : {line s t : List ℕ} → TwoTexts line s t → (text : List ℕ) × Line line text
two_line {line} {s} {t} w = elim (judged s) [
  | bad e h ↦ (ended (refused_text e ∷ []), form.first_refused e w h)
  | good a h ↦ elim (judged t) [
    | bad e k ↦ (ended (refused_text e ∷ []), form.second_refused e w h k)
    | good b k ↦ elim (ℕ_discrete (family a) (family b)) [
      | no n ↦ (ended (refused_text WrongFamily ∷ []), two_families w h k n)
      | yes e ↦ elim (dec_lt (number b) (number a)) [
        | yes l ↦ (ended (refused_text FirstAboveLast ∷ []), first_above_last w h k e l)
        | no l ↦
            let bs = values a (blocks_of a b) in
            let few = range_fewest w a h b k e in (
              ended (map block_text bs),
              range bs w h k e (omega arith) (values_family a (blocks_of a b) few.blocks) (rw (values_numbered a (blocks_of a b)) few),
            )
      ]
    ]
  ]
]

pub some_line : (line : List ℕ) → (text : List ℕ) × Line line text
some_line line = elim (dec_le (length line) 129) [
  | no n ↦ (ended (refused_text TextTooLong ∷ []), too_long {line = line} (omega (arith, n)))
  | yes h ↦ elim (first_byte space line) [
    | inl f ↦ (ended (refused_text Malformed ∷ []), no_space h f)
    | inr p ↦ elim (first_byte space p.1) [
      | inl f ↦ two_line (record { is = p.2; short = h; before = p.3; behind = f })
      | inr q ↦
          let e : line ≡ p.0 ++ space ∷ (q.0 ++ space ∷ q.1) = p.2 ∙ ap (λ u. p.0 ++ space ∷ u) q.2 in (
            ended (refused_text Malformed ∷ []),
            subst (λ l. Line l (ended (refused_text Malformed ∷ []))) (sym e) (more_spaces p.0 q.0 q.1 (subst (λ l. length l ≤ 129) e h)),
          )
    ]
  ]
]
