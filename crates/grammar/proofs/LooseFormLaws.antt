-- Loose text: what the form has is what is read, and what reading answers. Assumes nothing.
use Rattle.std.specs.Prelude.{Option, Some, None, option_map, ok_or}
use mathlib.Core.Path.{◌≡◌, refl, sym, ap, subst, ◌∙◌}
use mathlib.Core.Bool.{Bool, true, false, cond}
use mathlib.Core.List.{List, []}
use Prim.Native.Nat.{ℕ, ◌^◌, ◌≤◌, ◌<◌}
use native.Mathlib.Decide.{dec_le}
use native.Mathlib.Omega.{arith}
use borrow.Author.Tests.{lt-ltb, ltb-true}
use lib.Dec.{ltb}
use lib.ListN.{length}
use Rattle.notation.specs.BigEndian.{number_of}
use Rattle.notation.specs.Pieces.{split_on, separated}
use Rattle.notation.specs.Options.{every}
use Rattle.notation.proofs.DigitLaws.{four_number}
use Rattle.notation.proofs.SeparatedLaws.{split_separated, separated_split}
use Rattle.notation.proofs.EveryLaws.{Reads, done, more, every_reads, reads_each, reads_so}
use Rattle.notation.proofs.OptionLaws.{impossible, same_value, nothing_there}
use Rattle.address.specs.declared.Address.{Address}
use Rattle.address.specs.declared.Address.TheVariants.{V4}
use Rattle.address.specs.declared.Refusal.TheVariants.{TextTooLong, Malformed}
use Rattle.address.specs.Answers.{Answer, gives, reading_answer}
use Rattle.address.proofs.Claims.{gives_one, gives_refuses}
use Rattle.digits.specs.Numerals.{digit_of}
use Rattle.loose.specs.Loose.{loose_part, octets_from, combined, loose_of, loose_answer}
use Rattle.loose.proofs.LooseLaws.{address_after, loose_long, loose_read}
use Rattle.loose.proofs.Claims.{strict_is_loose}
use Rattle.loose.proofs.FormLaws.{one_part, two_parts, three_parts, four_parts, no_fifth}
use Rattle.grammar.specs.LooseForm.{LooseForm, a·b·c·d, a·b·c, a·b, only_a, LooseCall, too_long, not_loose_lem, read_loose}
use Rattle.grammar.specs.StrictForm.{IPv4Text, of_octets}
use Rattle.grammar.proofs.DottedLaws.{address_reads}
use Rattle.grammar.proofs.LoosePartLaws.{part_reads, reads_part}
use Rattle.grammar.proofs.ByteLaws.{part_lacks}

-- ---- the form is read

pub loose_pieces : {ps : List (List ℕ)} {xs : List ℕ} → Reads loose_part ps xs → 0 < length ps → loose_of (separated 46 ps) ≡ address_after 0 (octets_from 4 xs)
unfolding loose_of digit_of
loose_pieces {ps} {xs} r any =
    let split = split_separated 46 ps any (reads_each (λ p x e. part_lacks 46 refl refl refl (reads_part p x e)) r) in
    let read : every loose_part ps ≡ Some xs = reads_so (λ p x e. e) r in
    rw (split, read)

pub form_reads : {t : List ℕ} {a : Address} → LooseForm t a → loose_of t ≡ Some a
unfolding separated
form_reads (only_a {a = a} g l) = loose_pieces (more (part_reads g) done) (omega arith) ∙ one_part a ∙ rw (lt-ltb a (2 ^ 32) (omega arith))
form_reads (a·b {a = a} {b = b} g k h l) =
    loose_pieces (more (part_reads g) (more (part_reads h) done)) (omega arith) ∙ two_parts a b ∙ rw (lt-ltb a 256 (omega arith), lt-ltb b (2 ^ 24) (omega arith))
form_reads (a·b·c {a = a} {b = b} {c = c} g k h l i m) =
    loose_pieces (more (part_reads g) (more (part_reads h) (more (part_reads i) done))) (omega arith)
    ∙ three_parts a b c
    ∙ rw (lt-ltb a 256 (omega arith), lt-ltb b 256 (omega arith), lt-ltb c (2 ^ 16) (omega arith))
form_reads (a·b·c·d {a = a} {b = b} {c = c} {d = d} g k h l i m j n) =
    loose_pieces (more (part_reads g) (more (part_reads h) (more (part_reads i) (more (part_reads j) done)))) (omega arith)
    ∙ four_parts a b c d
    ∙ rw (lt-ltb a 256 (omega arith), lt-ltb b 256 (omega arith), lt-ltb c 256 (omega arith), lt-ltb d 256 (omega arith))

-- ---- what is read is of the form

pub kept : {a : Address} (x m : ℕ) (o : Option Address) → cond (ltb x m) o None ≡ Some a → (x < m) × (o ≡ Some a)
kept {a} x m o e = go (ltb x m) refl e
  where
    go : (p : Bool) → ltb x m ≡ p → cond p o None ≡ Some a → (x < m) × (o ≡ Some a)
    go true q k = (ltb-true x m q, k)
    go false q k = impossible k

pieces_loose : {ps : List (List ℕ)} {xs : List ℕ} {v : Address} → Reads loose_part ps xs → address_after 0 (octets_from 4 xs) ≡ Some v → LooseForm (separated 46 ps) v
unfolding separated octets_from
pieces_loose done e = impossible e
pieces_loose {v = v} (more {p} {x = a} g done) e =
    let i = kept a (2 ^ 32) (Some (V4 a)) (sym (one_part a) ∙ e) in
    subst (LooseForm p) (same_value i.1) (only_a (reads_part p a g) (omega (arith, i.0)))
pieces_loose {v = v} (more {p} {x = a} g (more {p = q} {x = b} h done)) e =
    let i = kept a 256 _ (sym (two_parts a b) ∙ e) in
    let j = kept b (2 ^ 24) _ i.1 in
    subst (LooseForm _) (same_value j.1) (a·b (reads_part p a g) (omega (arith, i.0)) (reads_part q b h) (omega (arith, j.0)))
pieces_loose {v = v} (more {p} {x = a} g (more {p = q} {x = b} h (more {p = r} {x = c} k done))) e =
    let i = kept a 256 _ (sym (three_parts a b c) ∙ e) in
    let j = kept b 256 _ i.1 in
    let l = kept c (2 ^ 16) _ j.1 in
    subst (LooseForm _) (same_value l.1) (a·b·c (reads_part p a g) (omega (arith, i.0)) (reads_part q b h) (omega (arith, j.0)) (reads_part r c k) (omega (arith, l.0)))
pieces_loose {v = v} (more {p} {x = a} g (more {p = q} {x = b} h (more {p = r} {x = c} k (more {p = s} {x = d} m done)))) e =
    let i = kept a 256 _ (sym (four_parts a b c d) ∙ e) in
    let j = kept b 256 _ i.1 in
    let l = kept c 256 _ j.1 in
    let n = kept d 256 _ l.1 in
    subst (LooseForm _) (same_value n.1)
    (a·b·c·d (reads_part p a g) (omega (arith, i.0)) (reads_part q b h) (omega (arith, j.0)) (reads_part r c k) (omega (arith, l.0)) (reads_part s d m) (omega (arith, n.0)))
pieces_loose (more {x = a} g (more {x = b} h (more {x = c} k (more {x = d} m (more {x = f} {xs = xs} n r))))) e = impossible (sym (no_fifth a b c d f xs) ∙ e)

pub reads_form : (t : List ℕ) (a : Address) → loose_of t ≡ Some a → LooseForm t a
unfolding loose_of
reads_form t a e = go (every loose_part (split_on 46 t)) refl e
  where
    go : (o : Option (List ℕ)) → every loose_part (split_on 46 t) ≡ o → option_map (λ bs. V4 (number_of 256 bs)) (combined o) ≡ Some a → LooseForm t a
    go None q k = impossible k
    go (Some xs) q k = subst (λ s. LooseForm s a) (separated_split 46 t) (pieces_loose (every_reads loose_part (split_on 46 t) xs q) k)

-- a strict text
pub strict_form : {t : List ℕ} {a : Address} → IPv4Text t a → LooseForm t a
strict_form (of_octets {t} {w} {x} {y} {z} h) =
    reads_form t _ (strict_is_loose t _ (address_reads h) ∙ ap (λ (n : ℕ). Some (V4 n)) (four_number 256 w x y z))

-- ---- the call

module _ (t : List ℕ) where
  -- of a text that is not too long, by what it means
  answered : (o : Option Address) → length t ≤ 64 → loose_of t ≡ o → loose_answer t ≡ reading_answer (ok_or o Malformed)
  answered o l e = sym (loose_read t l) ∙ ap (λ o. reading_answer (ok_or o Malformed)) e

  form_answer : {a : Address} → length t ≤ 64 → LooseForm t a → loose_answer t ≡ gives a
  form_answer l g = answered (Some _) l (form_reads g)

  pub call_answers : {r : Answer Address} → LooseCall t r → loose_answer t ≡ r
  call_answers (too_long h) = sym (loose_long t h)
  call_answers (not_loose_lem l n) = answered None l (nothing_there (loose_of t) (λ a e. n a (reads_form t a e)))
  call_answers (read_loose l g) = form_answer l g

  pub answers_call : LooseCall t (loose_answer t)
  answers_call = elim (dec_le (length t) 64) [
    | yes l ↦ go l (loose_of t) refl
    | no n ↦ subst (LooseCall t) (loose_long t (omega arith)) (too_long (omega arith))
  ]
    where
      go : length t ≤ 64 → (o : Option Address) → loose_of t ≡ o → LooseCall t (loose_answer t)
      go l None q = subst (LooseCall t) (sym (answered None l q)) (not_loose_lem l (λ a g. impossible (sym q ∙ form_reads g)))
      go l (Some a) q = let g = reads_form t a q in subst (LooseCall t) (sym (form_answer l g)) (read_loose l g)

  -- what a call that gives an address has found
  pub gives_form : {r : Answer Address} (a : Address) → LooseCall t r → r ≡ gives a → (length t ≤ 64) × LooseForm t a
  gives_form a (too_long h) e = absurd (gives_refuses TextTooLong (sym e))
  gives_form a (not_loose_lem l m) e = absurd (gives_refuses Malformed (sym e))
  gives_form a (read_loose l g) e = (l, subst (LooseForm t) (gives_one e) g)
