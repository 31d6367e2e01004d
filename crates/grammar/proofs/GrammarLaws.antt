-- The nine alternatives of IPv6 text are eight groups, or two sides of `::`. Assumes nothing.
use Rattle.std.specs.Prelude.{Some}
use mathlib.Core.Path.{◌≡◌, refl, ap}
use mathlib.Core.Bool.{Bool, true, false}
use mathlib.Core.List.{List, [], ◌∷◌, ◌++◌, append_assoc}
use Prim.Native.Nat.{ℕ, zero, suc, ◌+◌, ◌-◌, ◌≤◌, ◌<◌}
use native.Mathlib.Omega.{arith}
use lib.ListN.{length, length-append}
use Rattle.ipv6_text.specs.EightGroups.{eight_of}
use Rattle.grammar.specs.Rfc3986.{h16, ls32, h16:h16, ipv4_tail, n-h16:, zero_times, once_more, UpTo, left_out, there, with_zeros, IPv6address, alternative_1, alternative_2, alternative_3, alternative_4, alternative_5, alternative_6, alternative_7, alternative_8, alternative_9}
use Rattle.grammar.proofs.SideLaws.{Run, last, tail, next, Side, nothing, groups}
use Rattle.grammar.proofs.EightLaws.{Eight, full, around, eight_reads, reads_eight}

-- ---- what the grammar has is a run

times_run : {d : Bool} {n : ℕ} {t u xs ys : List ℕ} → n-h16: n t xs → Run d u ys → Run d (t ++ u) (xs ++ ys)
times_run zero_times r = r
times_run {u = u} (once_more {t = t} {u = s} h c) r = rw (append_assoc t (58 ∷ s) u) (next h (times_run c r))

times_length : {n : ℕ} {t xs : List ℕ} → n-h16: n t xs → length xs ≡ n
times_length zero_times = refl
times_length (once_more h c) = ap suc (times_length c)

ls32_run : {t gs : List ℕ} → ls32 t gs → Run true t gs
ls32_run (h16:h16 h k) = next h (last k)
ls32_run (ipv4_tail v) = tail v

ls32_length : {t gs : List ℕ} → ls32 t gs → length gs ≡ 2
ls32_length (h16:h16 h k) = refl
ls32_length (ipv4_tail v) = refl

up_to_side : {n : ℕ} {t gs : List ℕ} → UpTo n t gs → Side false t gs
up_to_side left_out = nothing
up_to_side (there k c h) = groups (times_run c (last h))

up_to_length : {n : ℕ} {t gs : List ℕ} → UpTo n t gs → length gs ≤ suc n
up_to_length left_out = omega arith
up_to_length (there {xs = xs} {x = x} k c h) = omega (arith, length-append xs (x ∷ []), times_length c)

module _ {n m : ℕ} {s t u ws xs ys : List ℕ} (before : UpTo n s ws) (c : n-h16: m t xs) (l : ls32 u ys) (few : n + m ≤ 4) where
  alternative : Eight (s ++ 58 ∷ 58 ∷ (t ++ u)) (with_zeros ws (xs ++ ys))
  alternative = around (up_to_side before) (groups (times_run c (ls32_run l))) (omega (arith, up_to_length before, length-append xs ys, times_length c, ls32_length l))

has_eight : {t gs : List ℕ} → IPv6address t gs → Eight t gs
has_eight (alternative_1 {xs = xs} {ys = ys} c l) = full (times_run c (ls32_run l)) (omega (arith, length-append xs ys, times_length c, ls32_length l))
has_eight (alternative_2 {xs = xs} {ys = ys} c l) = around nothing (groups (times_run c (ls32_run l))) (omega (arith, length-append xs ys, times_length c, ls32_length l))
has_eight (alternative_3 b c l) = alternative b c l (omega arith)
has_eight (alternative_4 b c l) = alternative b c l (omega arith)
has_eight (alternative_5 b c l) = alternative b c l (omega arith)
has_eight (alternative_6 b c l) = alternative b c l (omega arith)
has_eight (alternative_7 b l) = around (up_to_side b) (groups (ls32_run l)) (omega (arith, up_to_length b, ls32_length l))
has_eight (alternative_8 b h) = around (up_to_side b) (groups (last h)) (omega (arith, up_to_length b))
has_eight (alternative_9 b) = around (up_to_side b) nothing (omega (arith, up_to_length b))

-- ---- a run is what the grammar has

-- n( h16 ":" ) ls32
data Long : ℕ → List ℕ → List ℕ → Type 0 where
  long : {n : ℕ} {t u xs ys : List ℕ} → n-h16: n t xs → ls32 u ys → Long n (t ++ u) (xs ++ ys)

long_next : {n : ℕ} {t u xs : List ℕ} {x : ℕ} → h16 t x → Long n u xs → Long (suc n) (t ++ 58 ∷ u) (x ∷ xs)
long_next {t = t} h (long {t = s} {u = u} c l) = rw (← append_assoc t (58 ∷ s) u) (long (once_more h c) l)

run_any : {d : Bool} {t gs : List ℕ} → Run d t gs → 0 < length gs
run_any (last h) = omega arith
run_any (tail v) = omega arith
run_any (next h r) = omega arith

run_long : {t gs : List ℕ} → Run true t gs → (n : ℕ) → length gs ≡ suc (suc n) → Long n t gs
run_long (last h) n e = absurd (omega arith)
run_long (tail v) zero e = long zero_times (ipv4_tail v)
run_long (tail v) (suc n) e = absurd (omega arith)
run_long (next h (last k)) zero e = long zero_times (h16:h16 h k)
run_long (next h (tail v)) zero e = absurd (omega arith)
run_long (next h (next k r)) zero e = absurd (omega (arith, run_any r))
run_long (next h r) (suc n) e = long_next h (run_long r n (omega arith))

-- n( h16 ":" ) h16
data Short : ℕ → List ℕ → List ℕ → Type 0 where
  short : {n : ℕ} {t u xs : List ℕ} {x : ℕ} → n-h16: n t xs → h16 u x → Short n (t ++ u) (xs ++ x ∷ [])

short_next : {n : ℕ} {t u xs : List ℕ} {x : ℕ} → h16 t x → Short n u xs → Short (suc n) (t ++ 58 ∷ u) (x ∷ xs)
short_next {t = t} h (short {t = s} {u = u} c k) = rw (← append_assoc t (58 ∷ s) u) (short (once_more h c) k)

run_short : {t gs : List ℕ} → Run false t gs → (n : ℕ) → length gs ≡ suc n → Short n t gs
run_short (last h) zero e = short zero_times h
run_short (last h) (suc n) e = absurd (omega arith)
run_short (next h r) zero e = absurd (omega (arith, run_any r))
run_short (next h r) (suc n) e = short_next h (run_short r n (omega arith))

short_up_to : {k : ℕ} {t gs : List ℕ} → Short k t gs → (n : ℕ) → k ≤ n → UpTo n t gs
short_up_to (short c h) n l = there l c h

side_up_to : {t gs : List ℕ} → Side false t gs → (n : ℕ) → length gs ≤ suc n → UpTo n t gs
side_up_to nothing n l = left_out
side_up_to (groups {gs = gs} r) n l = let any = run_any r in short_up_to (run_short r (length gs - 1) (omega arith)) n (omega arith)

-- six groups and two more
full_has : {t gs : List ℕ} → Long 6 t gs → IPv6address t gs
full_has (long c l) = alternative_1 c l

no_groups : {s ws : List ℕ} → Side false s ws → length ws ≤ 0 → (r xs : List ℕ) → IPv6address (58 ∷ 58 ∷ r) (with_zeros [] xs) → IPv6address (s ++ 58 ∷ 58 ∷ r) (with_zeros ws xs)
no_groups nothing l r xs a = a
no_groups (groups r) l s xs a = absurd (omega (arith, run_any r))

zero_has : {s t u ws xs ys : List ℕ} → n-h16: 0 t xs → UpTo 4 s ws → ls32 u ys → IPv6address (s ++ 58 ∷ 58 ∷ (t ++ u)) (with_zeros ws (xs ++ ys))
zero_has zero_times b l = alternative_7 b l

long_has : {n : ℕ} {s r ws xs : List ℕ} → Side false s ws → Long n r xs → length ws + length xs ≤ 7 → IPv6address (s ++ 58 ∷ 58 ∷ r) (with_zeros ws xs)
long_has {s = s} {ws = ws} left (long {n} {t} {u} {xs} {ys} c l) few = go n c (omega (arith, length-append xs ys, times_length c, ls32_length l))
  where
    go : (m : ℕ) → n-h16: m t xs → length ws + m ≤ 5 → IPv6address (s ++ 58 ∷ 58 ∷ (t ++ u)) (with_zeros ws (xs ++ ys))
    go zero c k = zero_has c (side_up_to left 4 (omega arith)) l
    go (suc zero) c k = alternative_6 (side_up_to left 3 (omega arith)) c l
    go (suc (suc zero)) c k = alternative_5 (side_up_to left 2 (omega arith)) c l
    go (suc (suc (suc zero))) c k = alternative_4 (side_up_to left 1 (omega arith)) c l
    go (suc (suc (suc (suc zero)))) c k = alternative_3 (side_up_to left 0 (omega arith)) c l
    go (suc (suc (suc (suc (suc zero))))) c k = no_groups left (omega arith) (t ++ u) (xs ++ ys) (alternative_2 c l)
    go (suc (suc (suc (suc (suc (suc m)))))) c k = absurd (omega arith)

run_has : {s r ws xs : List ℕ} → Side false s ws → Run true r xs → length ws + length xs ≤ 7 → IPv6address (s ++ 58 ∷ 58 ∷ r) (with_zeros ws xs)
run_has left (last h) few = alternative_8 (side_up_to left 5 (omega arith)) h
run_has {xs = xs} left (tail v) few = long_has left (long zero_times (ipv4_tail v)) few
run_has {xs = xs} left (next {xs = ys} h r) few = let any = run_any r in long_has left (run_long (next h r) (length ys - 1) (omega arith)) few

eight_has : {t gs : List ℕ} → Eight t gs → IPv6address t gs
eight_has (full r e) = full_has (run_long r 6 e)
eight_has (around left nothing few) = alternative_9 (side_up_to left 6 (omega arith))
eight_has (around left (groups r) few) = run_has left r few

-- ---- what the grammar has is what is read

pub grammar_reads : {t gs : List ℕ} → IPv6address t gs → eight_of t ≡ Some gs
grammar_reads a = eight_reads (has_eight a)

pub reads_grammar : (t gs : List ℕ) → eight_of t ≡ Some gs → IPv6address t gs
reads_grammar t gs e = eight_has (reads_eight t gs e)
