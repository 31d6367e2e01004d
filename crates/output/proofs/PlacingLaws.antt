-- Bytes put into a buffer one after the other; what does not fit is left out. Assumes nothing.
use mathlib.Core.Path.{◌≡◌, refl, sym, ap, ap₂, subst, ◌∙◌}
use mathlib.Core.Bool.{Bool, true, false, cond}
use mathlib.Core.List.{List, [], ◌∷◌, ◌++◌}
use Prim.Native.Nat.{ℕ, zero, suc, ◌+◌, ◌-◌, ◌≤◌, ◌<◌}
use native.Mathlib.Nat.{add-zero, suc-add}
use native.Mathlib.Numerals.{add-one, unary_clauses}
use native.Mathlib.Omega.{arith}
use borrow.Author.Tests.{le-leb, lt-leb}
use lib.ListN.{length, take, drop, get_or, set, length-append, length-drop, take-append-drop}
use lib.Seq.{take-suc, take-length, take-take, take_all, take-append_seam, length-take-le}
use Rattle.output.specs.Placing.{placed, behind, Puts, fits_at, PutsAll}

-- ---- placing, one byte of the buffer after the other

-- before the index, and at it
step : (s : List ℕ) (i x : ℕ) (l : List ℕ) → placed s (suc i) (x ∷ l) ≡ x ∷ placed s i l
unfolding placed
step s i x l = rw (suc-add i (length s))

over : (b : ℕ) (s : List ℕ) (x : ℕ) (l : List ℕ) → placed (b ∷ s) 0 (x ∷ l) ≡ b ∷ placed s 0 l
unfolding placed
over b s x l = simp unary_clauses

-- no bytes, one byte, and no room
nothing : (i : ℕ) (l : List ℕ) → placed [] i l ≡ l
unfolding placed
nothing i l = rw (add-zero i, take-append-drop i l, take-length l)

one : (b i : ℕ) (l : List ℕ) → placed (b ∷ []) i l ≡ set l i b
unfolding placed
one b i [] = refl
one b zero (x ∷ l) = over b [] x l ∙ ap (λ r. b ∷ r) (nothing 0 l)
one b (suc i) (x ∷ l) = step (b ∷ []) i x l ∙ ap (λ r. x ∷ r) (one b i l)

full : (s : List ℕ) (i : ℕ) (l : List ℕ) → length l ≤ i → placed s i l ≡ l
unfolding placed
full s i [] h = refl
full s zero (x ∷ l) h = absurd (omega arith)
full s (suc i) (x ∷ l) h = step s i x l ∙ ap (λ r. x ∷ r) (full s i l (omega arith))

same_length : (s : List ℕ) (i : ℕ) (l : List ℕ) → length (placed s i l) ≡ length l
unfolding placed
same_length s i [] = refl
same_length [] i (x ∷ l) = ap length (nothing i (x ∷ l))
same_length (b ∷ s) zero (x ∷ l) = ap length (over b s x l) ∙ ap suc (same_length s 0 l)
same_length (b ∷ s) (suc i) (x ∷ l) = ap length (step (b ∷ s) i x l) ∙ ap suc (same_length (b ∷ s) i l)

-- what is put where the bytes before it end
both : (s u : List ℕ) (i : ℕ) (l : List ℕ) → placed u (behind s i l) (placed s i l) ≡ placed (s ++ u) i l
unfolding placed
both s u i [] = refl
both [] u i (x ∷ l) = let here : behind [] i (x ∷ l) ≡ i = omega arith in ap₂ (placed u) here (nothing i (x ∷ l))
both (b ∷ s) u zero (x ∷ l) =
    let next : behind (b ∷ s) 0 (x ∷ l) ≡ suc (behind s 0 l) = omega arith in
    ap₂ (placed u) next (over b s x l)
    ∙ step u (behind s 0 l) b (placed s 0 l)
    ∙ ap (λ r. b ∷ r) (both s u 0 l)
    ∙ sym (over b (s ++ u) x l)
both (b ∷ s) u (suc i) (x ∷ l) =
    let next : behind (b ∷ s) (suc i) (x ∷ l) ≡ suc (behind (b ∷ s) i l) = omega arith in
    ap₂ (placed u) next (step (b ∷ s) i x l)
    ∙ step u (behind (b ∷ s) i l) x (placed (b ∷ s) i l)
    ∙ ap (λ r. x ∷ r) (both (b ∷ s) u i l)
    ∙ sym (step (b ∷ s ++ u) i x l)

-- what stands before the index and behind the bytes that are put, and these
before : (s : List ℕ) (i : ℕ) (l : List ℕ) → take i (placed s i l) ≡ take i l
unfolding placed
before s zero l = refl
before s (suc i) [] = refl
before s (suc i) (x ∷ l) = ap (take (suc i)) (step s i x l) ∙ ap (λ r. x ∷ r) (before s i l)

beyond : (s : List ℕ) (i : ℕ) (l : List ℕ) → drop (behind s i l) (placed s i l) ≡ drop (behind s i l) l
unfolding placed
beyond s i [] = refl
beyond [] i (x ∷ l) = ap (drop (behind [] i (x ∷ l))) (nothing i (x ∷ l))
beyond (b ∷ s) zero (x ∷ l) =
    let next : behind (b ∷ s) 0 (x ∷ l) ≡ suc (behind s 0 l) = omega arith in
    ap₂ drop next (over b s x l) ∙ beyond s 0 l ∙ ap (λ (n : ℕ). drop n (x ∷ l)) (sym next)
beyond (b ∷ s) (suc i) (x ∷ l) =
    let next : behind (b ∷ s) (suc i) (x ∷ l) ≡ suc (behind (b ∷ s) i l) = omega arith in
    ap₂ drop next (step (b ∷ s) i x l) ∙ beyond (b ∷ s) i l ∙ ap (λ (n : ℕ). drop n (x ∷ l)) (sym next)

there : (s : List ℕ) (i : ℕ) (l : List ℕ) → take (behind s i l - i) (drop i (placed s i l)) ≡ take (behind s i l - i) s
unfolding placed
there s i [] = let none : behind s i [] - i ≡ 0 = omega arith in rw none
there [] i (x ∷ l) = let none : behind [] i (x ∷ l) - i ≡ 0 = omega arith in rw none
there (b ∷ s) zero (x ∷ l) =
    let next : behind (b ∷ s) 0 (x ∷ l) - 0 ≡ suc (behind s 0 l - 0) = omega arith in
    ap₂ take next (over b s x l) ∙ ap (λ r. b ∷ r) (there s 0 l) ∙ ap (λ (n : ℕ). take n (b ∷ s)) (sym next)
there (b ∷ s) (suc i) (x ∷ l) =
    let next : behind (b ∷ s) (suc i) (x ∷ l) - suc i ≡ behind (b ∷ s) i l - i = omega arith in
    ap₂ (λ (n : ℕ) r. take n (drop (suc i) r)) next (step (b ∷ s) i x l) ∙ there (b ∷ s) i l ∙ ap (λ (n : ℕ). take n (b ∷ s)) (sym next)

-- ---- calls that put

-- no bytes
pub puts_none : (l : List ℕ) (i : ℕ) → Puts l l i i []
puts_none l i = record { index = omega arith; buffer = sym (nothing i l) }

-- one byte, with room for it, and any bytes with none
pub puts_byte : (l : List ℕ) (i b : ℕ) → i < length l → Puts l (set l i b) i (i + 1) (b ∷ [])
puts_byte l i b h = record { index = omega arith; buffer = sym (one b i l) }

pub puts_full : (l : List ℕ) (i : ℕ) (s : List ℕ) → length l ≤ i → Puts l l i i s
puts_full l i s h = record { index = omega arith; buffer = sym (full s i l h) }

module _ {a b : List ℕ} {i j : ℕ} {s : List ℕ} (p : Puts a b i j s) where
  -- the buffer keeps its length
  pub puts_length : length b ≡ length a
  puts_length = ap length p.buffer ∙ same_length s i a

  -- every byte before the index and behind those that are put stays
  pub puts_before : take i b ≡ take i a
  puts_before = ap (take i) p.buffer ∙ before s i a

  pub puts_behind : drop j b ≡ drop j a
  puts_behind = ap₂ drop p.index p.buffer ∙ beyond s i a ∙ ap (λ (n : ℕ). drop n a) (sym p.index)

  pub puts_there : take (j - i) (drop i b) ≡ take (j - i) s
  puts_there =
      ap₂ (λ (n : ℕ) r. take (n - i) (drop i r)) p.index p.buffer
      ∙ there s i a
      ∙ ap (λ (n : ℕ). take (n - i) s) (sym p.index)

  -- bytes that have room
  pub puts_room : i + length s ≤ length a → (j ≡ i + length s) × (b ≡ take i a ++ (s ++ drop (i + length s) a))
  unfolding placed
  puts_room h =
      let rest = drop (i + length s) a in
      let all = take i a ++ (s ++ rest) in
      let front = length-take-le i a (omega arith) in
      let long : length all ≤ length a = omega (arith, length-append (take i a) (s ++ rest), length-append s rest, length-drop (i + length s) a) in
      (omega (arith, p.index), p.buffer ∙ take_all (length a) all long)

  -- one call after another
  pub puts_then : {c : List ℕ} {k : ℕ} {u : List ℕ} → Puts b c j k u → Puts a c i k (s ++ u)
  puts_then {c} {k} {u} q =
      record {
        index = omega (arith, p.index, q.index, puts_length, length-append s u);
        buffer = q.buffer ∙ ap₂ (placed u) p.index p.buffer ∙ both s u i a;
      }

-- the first n of the bytes are put: one more; and all of them, where there are or fit no more
module _ {a b : List ℕ} {i j : ℕ} (s : List ℕ) (n : ℕ) (p : Puts a b i j (take n s)) where
  pub puts_next : n < length s → j < length b → Puts a (set b j (get_or s n 0)) i (j + 1) (take (n + 1) s)
  puts_next h room = rw (add-one n, take-suc s n 0 h) (puts_then p (puts_byte b j (get_or s n 0) room))

  pub puts_all : length s ≤ n → Puts a b i j s
  puts_all h = subst (Puts a b i j) (take_all n s h) p

  pub puts_cut : length b ≤ j → Puts a b i j s
  puts_cut h = subst (Puts a b i j) (take-append-drop n s) (puts_then p (puts_full b j (drop n s) h))

-- bytes that fit at the start of the buffer
pub puts_whole : {a b : List ℕ} {n : ℕ} {s : List ℕ} → Puts a b 0 n s → length s ≤ length a → (n ≡ length s) × (take n b ≡ s)
unfolding placed
puts_whole {a} {b} {n} {s} p h =
    let e : n ≡ length s = omega (arith, p.index) in (
      e,
      rw (p.buffer, e, take-take _ _ _ h, take-append_seam),
    )

-- ---- all or none

-- bytes that have room, and were put
pub all_put : {a b : List ℕ} {i j : ℕ} {s : List ℕ} → Puts a b i j s → i + length s ≤ length a → PutsAll a b i j s
all_put {a} {b} {i} {j} {s} p h =
    let yes = le-leb (i + length s) (length a) h in
    let put : j ≡ i + length s = omega (arith, p.index) in
    record { index = rw yes put; buffer = rw yes p.buffer }

module _ {a b : List ℕ} {i j : ℕ} {s : List ℕ} (p : PutsAll a b i j s) where
  pub all_room : i + length s ≤ length a → Puts a b i j s
  all_room h =
      let yes = le-leb (i + length s) (length a) h in
      let put : j ≡ i + length s = p.index ∙ ap (λ t. cond t (i + length s) i) yes in
      record { index = omega arith; buffer = p.buffer ∙ ap (λ t. cond t (placed s i a) a) yes }

  pub all_kept : length a < i + length s → (j ≡ i) × (b ≡ a)
  all_kept h =
      let no = lt-leb (i + length s) (length a) h in
      (p.index ∙ ap (λ t. cond t (i + length s) i) no, p.buffer ∙ ap (λ t. cond t (placed s i a) a) no)

-- bytes that have no room
pub all_short : (l : List ℕ) (i : ℕ) (s : List ℕ) → length l < i + length s → PutsAll l l i i s
all_short l i s h = let no = lt-leb (i + length s) (length l) h in record { index = rw no; buffer = rw no }

-- no bytes
pub all_nothing : (l : List ℕ) (i : ℕ) → PutsAll l l i i []
all_nothing l i = go (fits_at [] i l) refl
  where
    go : (t : Bool) → fits_at [] i l ≡ t → PutsAll l l i i []
    go true e = record { index = rw e (sym (add-zero i)); buffer = rw e (sym (nothing i l)) }
    go false e = record { index = rw e; buffer = rw e }
