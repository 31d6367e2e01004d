-- The lines of an answer, read again as block texts. Assumes nothing.
use mathlib.Core.Path.{◌≡◌, refl, sym, ap, ap₂, subst, ◌∙◌}
use mathlib.Core.Logic.{◌⊎◌, inl, inr}
use mathlib.Core.Bool.{cond}
use mathlib.Core.List.{List, [], ◌∷◌, ◌++◌, map}
use Prim.Native.Nat.{ℕ, suc, ◌+◌, ◌-◌, ◌*◌}
use native.Mathlib.Omega.{arith}
use lib.Dec.{eqb}
use lib.ListN.{length, get_or, length-append}
use Rattle.notation.specs.Ascii.{ascii}
use Rattle.notation.specs.Pieces.{contains, Lacks}
use Rattle.notation.proofs.SeparatedLaws.{lacks_append}
use Rattle.cover.specs.Blocks as cover
use Rattle.address.specs.declared.Address.{Address}
use Rattle.address.specs.declared.Block.{Block}
use Rattle.address.specs.declared.Refusal.{Refusal}
use Rattle.address.specs.declared.Refusal.TheVariants.{TextTooLong, Malformed, NoRoom, LengthTooLarge, BitsBeyondLength, NoClass, HostTooLarge, FirstAboveLast, WrongFamily, TooMany}
use Rattle.address.specs.Addresses.{family, width, number}
use Rattle.address.specs.Answers.{refusal_number, gives}
use Rattle.address.specs.Blocks.{numbered}
use Rattle.address.proofs.AddressLaws.{width_follows}
use Rattle.address.proofs.AnswerLaws.{number_pos}
use Rattle.address.proofs.Claims.{one_number}
use Rattle.digits.specs.Numerals.{digit_of}
use Rattle.text.specs.Strict.{strict_answer}
use Rattle.text.proofs.StrictLaws.{strict_gives}
use Rattle.text.proofs.ByteLaws.{strict_lacks}
use Rattle.blocks.specs.BlockText.{block_text, block_text_answer}
use Rattle.blocks.proofs.BlockTextLaws.{read_lacks}
use Rattle.blocks.proofs.Claims.{read_back_answer}
use Rattle.ranges.specs.Ranges.{blocks_of}
use Rattle.range_text.specs.RangeText.{refused_by, line_text, line_number}
use Rattle.range_text.specs.LineForm.{space, newline, Free, AllFree, ended, refused_text, OfFamily, TwoTexts, Line, range, RangeLine, FewestLines}
use Rattle.range_text.proofs.LineFormLaws.{lacks_free, values, values_numbered, values_family, range_fewest, Says, refused, answered, line_says, line_answers}

-- ---- the line of a refusal

-- it holds a space, so that it is not read as a block
refused_spaced : (e : Refusal) → Lacks 32 (refused_text e) → ⊥
unfolding contains ascii
refused_spaced e h = let z : ◌≡◌ {A = ℕ} 0 1 = cc in omega arith

pub refused_unread : (e : Refusal) (b : Block) → block_text_answer (refused_text e) ≡ gives b → ⊥
unfolding digit_of
refused_unread e b h = refused_spaced e (read_lacks 32 refl refl refl refl (refused_text e) b h)

-- ---- the texts of blocks

pub texts_read : (f : Address) (bs : List Block) → OfFamily (family f) bs → cover.AllBlocks (width f) (map numbered bs) → map block_text_answer (map block_text bs) ≡ map gives bs
texts_read f [] h k = refl
texts_read f (b ∷ bs) h k =
    ap₂ (λ r rs. r ∷ rs) (read_back_answer b h.1 (rw (width_follows b.address f h.0) k.0)) (texts_read f bs h.2 k.1)

texts_free : (f : Address) (bs : List Block) → OfFamily (family f) bs → cover.AllBlocks (width f) (map numbered bs) → AllFree newline (map block_text bs)
unfolding digit_of
texts_free f [] h k = tt
texts_free f (b ∷ bs) h k =
    let read = read_back_answer b h.1 (rw (width_follows b.address f h.0) k.0) in
    (lacks_free newline (block_text b) (read_lacks 10 refl refl refl refl (block_text b) b read), texts_free f bs h.2 k.1)

texts_count : (bs : List Block) → length (map block_text bs) ≡ length bs
texts_count [] = refl
texts_count (b ∷ bs) = ap suc (texts_count bs)

-- ---- the line of two addresses

spaceless : (t : List ℕ) (c : Address) → strict_answer 0 t ≡ gives c → Free space t
unfolding digit_of
spaceless t c e = lacks_free space t (strict_lacks 32 refl refl refl 0 t c (strict_gives 0 t refl c e).1)

module _ {line : List ℕ} (r : RangeLine line) where
  two_addresses : TwoTexts line r.before r.behind
  two_addresses =
      record {
        is = r.is;
        short = omega (
          arith,
          ap length r.is,
          length-append r.before (space ∷ r.behind),
          (strict_gives 0 r.before refl r.first r.first_read).0,
          (strict_gives 0 r.behind refl r.last r.last_read).0,
        );
        before = spaceless r.before r.first r.first_read;
        behind = spaceless r.behind r.last r.last_read;
      }

  pub fewest_lines : FewestLines r.first r.last (line_text line)
  fewest_lines =
      let w = two_addresses in
      let a = r.first in
      let b = r.last in
      let cs = blocks_of a b in
      let bs = values a cs in
      let on : cover.Fewest (width a) (cover.Range (number a) (number b)) cs = range_fewest w a r.first_read b r.last_read r.one_family in
      let few : cover.Fewest (width a) (cover.Range (number a) (number b)) (map numbered bs) = rw (values_numbered a cs) on in
      let all = values_family a cs on.blocks in
      record {
        lines = map block_text bs;
        blocks = bs;
        text_is = line_answers (range bs w r.first_read r.last_read r.one_family r.rises all few);
        one_line_each = texts_free a bs all few.blocks;
        count = texts_count bs;
        read = texts_read a bs all few.blocks;
        one_family = all;
        fewest = few;
      }

  -- and the line holds no newline
  pub line_free : Free newline line
  unfolding digit_of contains
  line_free =
      subst (Free newline) (sym r.is) (
      lacks_free newline (r.before ++ space ∷ r.behind) (
      lacks_append 10 r.before (space ∷ r.behind)
      (strict_lacks 10 refl refl refl 0 r.before r.first (strict_gives 0 r.before refl r.first r.first_read).1)
      (strict_lacks 10 refl refl refl 0 r.behind r.last (strict_gives 0 r.behind refl r.last r.last_read).1)
      )
      )

-- ---- a range's lines, or a refusal's

pub range_or_refused : {line text : List ℕ} → Line line text → RangeLine line ⊎ ((e : Refusal) × (text ≡ ended (refused_text e ∷ [])))
range_or_refused l = elim (line_says l) [ refused e a t ↦ inr (e, t) | answered r a ↦ inl r ]

-- lines that are read hold no space, and a refusal's does
lines_lack : (ts : List (List ℕ)) (bs : List Block) → map block_text_answer ts ≡ map gives bs → Lacks 32 (ended ts)
unfolding contains digit_of
lines_lack [] bs e = refl
lines_lack (t ∷ ts) [] e = let z : ◌≡◌ {A = ℕ} 0 1 = cc in absurd (omega arith)
lines_lack (t ∷ ts) (b ∷ bs) e =
    let here : block_text_answer t ≡ gives b = cc in
    let more : map block_text_answer ts ≡ map gives bs = cc in
    lacks_append 32 t (10 ∷ ended ts) (read_lacks 32 refl refl refl refl t b here) (lines_lack ts bs more)

pub not_both : (a b : Address) (text : List ℕ) → FewestLines a b text → (e : Refusal) → text ≡ ended (refused_text e ∷ []) → ⊥
unfolding contains ascii
not_both a b text f e h = let l : Lacks 32 (ended (refused_text e ∷ [])) = ap (contains 32) (sym h ∙ f.text_is) ∙ lines_lack f.lines f.blocks f.read in let z : ◌≡◌ {A = ℕ} 0 1 = cc in omega arith

-- ---- the number of a line's refusal

-- a refusal's line tells its number
refused_number : (n : ℕ) → (refused_by n).number ≡ n
unfolding refused_by
refused_number n = refl

-- the number of one digit or two behind "refused "
number_in : List ℕ → ℕ
number_in t = cond (eqb (get_or t 9 0) newline) (get_or t 8 0 - 48) ((get_or t 8 0 - 48) * 10 + (get_or t 9 0 - 48))

number_in_lem : (e : Refusal) → number_in (ended (refused_text e ∷ [])) ≡ refusal_number e
unfolding ascii number_in
number_in_lem TextTooLong = refl
number_in_lem Malformed = refl
number_in_lem NoRoom = refl
number_in_lem LengthTooLarge = refl
number_in_lem BitsBeyondLength = refl
number_in_lem NoClass = refl
number_in_lem HostTooLarge = refl
number_in_lem FirstAboveLast = refl
number_in_lem WrongFamily = refl
number_in_lem TooMany = refl

one_refusal : (d e : Refusal) → ended (refused_text d ∷ []) ≡ ended (refused_text e ∷ []) → refusal_number d ≡ refusal_number e
one_refusal d e h = sym (number_in_lem d) ∙ ap number_in h ∙ number_in_lem e

module _ {line : List ℕ} (s : Says line (line_text line)) where
  pub number_told : (e : Refusal) → line_number line ≡ refusal_number e → line_text line ≡ ended (refused_text e ∷ [])
  number_told e n = elim s [
    | refused d a t ↦ t ∙ ap (λ x. ended (refused_text x ∷ [])) (one_number d e (sym (ap (λ x. x.number) a ∙ refused_number (refusal_number d)) ∙ n))
    | answered r a ↦ absurd (omega (arith, number_pos e, ap (λ x. x.number) a, n))
  ]

  pub told_number : (e : Refusal) → line_text line ≡ ended (refused_text e ∷ []) → line_number line ≡ refusal_number e
  told_number e h = elim s [
    | refused d a t ↦ ap (λ x. x.number) a ∙ refused_number (refusal_number d) ∙ one_refusal d e (sym t ∙ h)
    | answered r a ↦ absurd (not_both r.first r.last (line_text line) (fewest_lines r) e h)
  ]

  pub zero_range : line_number line ≡ 0 → RangeLine line
  zero_range n = elim s [
    | refused d a t ↦ absurd (omega (arith, number_pos d, ap (λ x. x.number) a, refused_number (refusal_number d), n))
    | answered r a ↦ r
  ]

  pub range_zero : RangeLine line → line_number line ≡ 0
  range_zero r = elim s [
    | refused d a t ↦ absurd (not_both r.first r.last (line_text line) (fewest_lines r) d t)
    | answered q a ↦ ap (λ x. x.number) a
  ]
