-- Eight groups, or two sides of `::`: the texts, and what is read of them. Assumes nothing.
use Rattle.std.specs.Prelude.{Option, Some, None}
use mathlib.Core.Path.{◌≡◌, refl, subst, subst₂, ◌∙◌}
use mathlib.Core.Bool.{Bool, true, false, cond}
use mathlib.Core.List.{List, [], ◌∷◌, ◌++◌, append-nil}
use Prim.Native.Nat.{ℕ, ◌+◌, ◌-◌, ◌≤◌, ◌<◌}
use native.Mathlib.Omega.{arith}
use borrow.Author.Tests.{eq-eqb, eqb-true, le-leb, leb-true, lt-ltb, le-ltb, ltb-true}
use lib.Dec.{eqb, leb, ltb}
use lib.ListN.{length, take, drop, replicate, length-append, length-replicate}
use lib.Seq.{take-append_seam, drop-append-add}
use Rattle.notation.proofs.OptionLaws.{impossible}
use Rattle.ipv6_text.specs.EightGroups.{side_of, gap_of, filled, eight, eight_of}
use Rattle.ipv6_text.proofs.GapLaws.{gap_text}
use Rattle.grammar.specs.Rfc3986.{with_zeros}
use Rattle.grammar.proofs.SideLaws.{Run, Side, nothing, groups, side_reads, reads_side, side_gap}

pub data Eight : List ℕ → List ℕ → Type 0 where
  full : {t gs : List ℕ} → Run true t gs → length gs ≡ 8 → Eight t gs
  around : {s r ws xs : List ℕ} → Side false s ws → Side true r xs → length ws + length xs ≤ 7 → Eight (s ++ 58 ∷ 58 ∷ r) (with_zeros ws xs)

pub eight_reads : {t gs : List ℕ} → Eight t gs → eight_of t ≡ Some gs
unfolding eight_of
eight_reads (full {t} {gs} r e) =
    let gap : gap_of t ≡ length t + gap_of [] = rw append-nil at (side_gap (groups r) []) in
    rw (le-ltb (gap_of t) (length t) (omega arith), side_reads (groups r), eq-eqb (length gs) 8 e)
eight_reads (around {s} {r} {ws} {xs} left right few) =
    let u : List ℕ = 58 ∷ 58 ∷ r in
    let gap : gap_of (s ++ u) ≡ length s = side_gap left u ∙ omega arith in
    let test : ltb (length s) (length (s ++ u)) ≡ true = lt-ltb (length s) (length (s ++ u)) (omega (arith, length-append s u)) in
    rw (gap, test, take-append_seam s u, drop-append-add s u 2, side_reads left, side_reads right, le-leb (length ws + length xs) 7 few)

all_run : {t gs : List ℕ} → Side true t gs → length gs ≡ 8 → Eight t gs
all_run nothing e = absurd (omega arith)
all_run (groups r) e = full r e

pub reads_eight : (t gs : List ℕ) → eight_of t ≡ Some gs → Eight t gs
unfolding eight_of
reads_eight t gs e = go (ltb (gap_of t) (length t)) refl (side_of false (take (gap_of t) t)) refl (side_of true (drop (gap_of t + 2) t)) refl (side_of true t) refl e
  where
    two_sides : (ws xs : List ℕ) → gap_of t < length t → side_of false (take (gap_of t) t) ≡ Some ws → side_of true (drop (gap_of t + 2) t) ≡ Some xs
        → (b : Bool) → leb (length ws + length xs) 7 ≡ b → cond b (Some (with_zeros ws xs)) None ≡ Some gs → Eight t gs
    two_sides ws xs h p q true l k =
        let is : with_zeros ws xs ≡ gs = cc in
        subst₂ Eight (gap_text t h) is (around (reads_side false (take (gap_of t) t) ws p) (reads_side true (drop (gap_of t + 2) t) xs q) (leb-true (length ws + length xs) 7 l))
    two_sides ws xs h p q false l k = impossible k

    one_side : (xs : List ℕ) → side_of true t ≡ Some xs → (b : Bool) → eqb (length xs) 8 ≡ b → cond b (Some xs) None ≡ Some gs → Eight t gs
    one_side xs p true l k = let is : xs ≡ gs = cc in subst (Eight t) is (all_run (reads_side true t xs p) (eqb-true (length xs) 8 l))
    one_side xs p false l k = impossible k

    go : (c : Bool) → ltb (gap_of t) (length t) ≡ c
        → (l : Option (List ℕ)) → side_of false (take (gap_of t) t) ≡ l
        → (r : Option (List ℕ)) → side_of true (drop (gap_of t + 2) t) ≡ r
        → (s : Option (List ℕ)) → side_of true t ≡ s
        → cond c (filled l r) (eight s) ≡ Some gs → Eight t gs
    go true c None p r q s u k = impossible k
    go true c (Some ws) p None q s u k = impossible k
    go true c (Some ws) p (Some xs) q s u k = two_sides ws xs (ltb-true (gap_of t) (length t) c) p q (leb (length ws + length xs) 7) refl k
    go false c l p r q None u k = impossible k
    go false c l p r q (Some xs) u k = one_side xs u (eqb (length xs) 8) refl k

pub eight_length : {t gs : List ℕ} → Eight t gs → length gs ≡ 8
eight_length (full r e) = e
eight_length (around {ws = ws} {xs = xs} left right few) =
    let n = 8 - (length ws + length xs) in
    omega (arith, length-append ws (replicate n 0 ++ xs), length-append (replicate n 0) xs, length-replicate {A = ℕ} n 0)
