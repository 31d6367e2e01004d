-- Any spelling of groups is read as its numbers, with `::` for any of the zeros. Assumes nothing.
use Rattle.std.specs.Prelude.{Some}
use mathlib.Core.Path.{◌≡◌, refl, sym, ap, ◌∙◌}
use mathlib.Core.Bool.{Bool, true, false}
use mathlib.Core.List.{List, [], ◌∷◌, ◌++◌, append_assoc, append-nil}
use Prim.Native.Nat.{ℕ, suc, ◌+◌, ◌-◌, ◌≤◌, ◌<◌}
use native.Mathlib.Omega.{arith}
use borrow.Author.Tests.{eq-eqb, le-leb, lt-ltb, le-ltb}
use lib.Dec.{eqb, ltb, lit≤}
use lib.ListN.{length, replicate, length-append}
use lib.Seq.{take-append_seam, drop-append-add}
use Rattle.notation.specs.Pieces.{separated, split_on, Lacks, Each}
use Rattle.notation.specs.Options.{every}
use Rattle.notation.proofs.SeparatedLaws.{lacks_cons, split_separated, separated_cons}
use Rattle.notation.proofs.EveryLaws.{Reads, done, more, every_reads, reads_each}
use Rattle.digits.specs.Numerals.{digit_of, group_of}
use Rattle.digits.proofs.NumeralLaws.{no_digit, group_digits}
use Rattle.ipv6_text.specs.EightGroups.{pieces_of, side_of, gap_of, eight_of}

-- ---- the first `::`

-- a group's bytes: at least one, and no colon
record Group (p : List ℕ) : Type 0 where
  lacks : Lacks 58 p
  any : 0 < length p

group_piece : (p : List ℕ) (x : ℕ) → group_of p ≡ Some x → Group p
unfolding digit_of
group_piece p x e = let d = (group_digits p x e).0 in record { lacks = no_digit 16 58 p (lit≤ tt) refl d.all; any = d.any }

gap_step : (x : ℕ) (t : List ℕ) → eqb x 58 ≡ false → gap_of (x ∷ t) ≡ suc (gap_of t)
unfolding gap_of
gap_step x [] n = refl
gap_step x (y ∷ t) n = rw n

pub gap_piece : (p t : List ℕ) → Lacks 58 p → gap_of (p ++ t) ≡ length p + gap_of t
gap_piece [] t h = omega arith
gap_piece (x ∷ p) t h = let l = lacks_cons 58 x p h in omega (arith, gap_step x (p ++ t) l.0, gap_piece p t l.1)

-- a colon before groups
gap_colon : (p : List ℕ) (ps : List (List ℕ)) (t : List ℕ) → Group p → gap_of (58 ∷ (separated 58 (p ∷ ps) ++ t)) ≡ suc (gap_of (separated 58 (p ∷ ps) ++ t))
unfolding gap_of
gap_colon [] ps t g = absurd (omega (arith, g.any))
gap_colon (x ∷ p) ps t g = rw (separated_cons 58 x p ps) (rw (lacks_cons 58 x p g.lacks).0)

gap_join : (p s t : List ℕ) → Lacks 58 p → gap_of (58 ∷ (s ++ t)) ≡ suc (gap_of (s ++ t)) → gap_of (s ++ t) ≡ length s + gap_of t
    → gap_of ((p ++ 58 ∷ s) ++ t) ≡ length (p ++ 58 ∷ s) + gap_of t
gap_join p s t h c ih = rw (append_assoc p (58 ∷ s) t) (omega (arith, gap_piece p (58 ∷ (s ++ t)) h, length-append p (58 ∷ s)))

gap_separated : (ps : List (List ℕ)) (t : List ℕ) → Each Group ps → gap_of (separated 58 ps ++ t) ≡ length (separated 58 ps) + gap_of t
unfolding separated
gap_separated [] t g = omega arith
gap_separated (p ∷ []) t g = gap_piece p t g.0.lacks
gap_separated (p ∷ q ∷ ps) t g = gap_join p (separated 58 (q ∷ ps)) t g.0.lacks (gap_colon q ps t g.1.0) (gap_separated (q ∷ ps) t g.1)

-- ---- groups on one side of `::`

pieces_read : (d : Bool) {ps : List (List ℕ)} {xs : List ℕ} → Reads group_of ps xs → pieces_of d ps ≡ Some xs
unfolding pieces_of
pieces_read d done = refl
pieces_read d (more e done) = rw e
pieces_read d (more e (more f r)) = rw (e, pieces_read d (more f r))

side_read : (d : Bool) {ps : List (List ℕ)} {xs : List ℕ} → Reads group_of ps xs → side_of d (separated 58 ps) ≡ Some xs
unfolding side_of separated
side_read d done = refl
side_read d (more {p = []} {x} e r) = absurd (omega (arith, (group_piece [] x e).any))
side_read d (more {p = c ∷ p} {ps} e r) =
    let begins = separated_cons 58 c p ps in
    let all = more e r in
    ap (side_of d) begins
    ∙ ap (λ t. pieces_of d (split_on 58 t)) (sym begins)
    ∙ ap (pieces_of d) (split_separated 58 ((c ∷ p) ∷ ps) (omega arith) (reads_each (λ q y f. (group_piece q y f).lacks) all))
    ∙ pieces_read d all

-- ---- IPv6

-- groups with single colons
pub eight_spelling : (ps : List (List ℕ)) (gs : List ℕ) → every group_of ps ≡ Some gs → length gs ≡ 8 → eight_of (separated 58 ps) ≡ Some gs
unfolding eight_of
eight_spelling ps gs e h =
    let r = every_reads group_of ps gs e in
    let t = separated 58 ps in
    let gap : gap_of t ≡ length t + gap_of [] = rw append-nil at (gap_separated ps [] (reads_each group_piece r)) in
    rw (le-ltb (gap_of t) (length t) (omega arith), side_read true r, eq-eqb (length gs) 8 h)

-- and with `::` for one or more zeros
pub gap_spelling : (ls rs : List (List ℕ)) (xs ys : List ℕ) → every group_of ls ≡ Some xs → every group_of rs ≡ Some ys → length xs + length ys ≤ 7
    → eight_of (separated 58 ls ++ (58 ∷ 58 ∷ separated 58 rs)) ≡ Some (xs ++ (replicate (8 - (length xs + length ys)) 0 ++ ys))
unfolding eight_of
gap_spelling ls rs xs ys e f h =
    let l = separated 58 ls in
    let r : List ℕ = 58 ∷ 58 ∷ separated 58 rs in
    let left = every_reads group_of ls xs e in
    let gap : gap_of (l ++ r) ≡ length l = gap_separated ls r (reads_each group_piece left) ∙ omega arith in
    let test : ltb (length l) (length (l ++ r)) ≡ true = lt-ltb (length l) (length (l ++ r)) (omega (arith, length-append l r)) in
    rw (
      gap,
      test,
      take-append_seam l r,
      drop-append-add l r 2,
      side_read false left,
      side_read true (every_reads group_of rs ys f),
      le-leb (length xs + length ys) 7 h,
    )
