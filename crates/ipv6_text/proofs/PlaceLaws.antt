-- Groups in their places. Assumes nothing.
use Rattle.std.specs.Prelude.{Option, Some, None, option_map}
use mathlib.Core.Path.{◌≡◌, refl, sym, ap, ◌∙◌}
use mathlib.Core.Bool.{Bool, true, false, cond}
use mathlib.Core.List.{List, [], ◌∷◌, ◌++◌, append-nil, append_assoc}
use Prim.Native.Nat.{ℕ, zero, suc, ◌+◌, ◌-◌, ◌%◌, ◌≤◌, ◌<◌}
use native.Mathlib.Decide.{dec_le}
use native.Mathlib.Omega.{arith}
use borrow.Author.Tests.{ne_eqb, eq-eqb, le-leb, lt-leb, leb-true, leb-false}
use lib.Dec.{leb}
use lib.ListN.{length, take, drop, get_or, set, replicate, length-append, length-take, length-drop, length-set, length-replicate, get_or-replicate, drop_of_length-le, get_or-append, take-append-drop}
use lib.Seq.{drop-cons, take_all, take-take, take_at, drop_at, length-take-le, get_or-take, get_or-drop, get_or-append-add}
use Rattle.notation.specs.BigEndian.{digits_of}
use Rattle.notation.specs.Options.{joined}
use Rattle.notation.proofs.OptionLaws.{impossible}
use Rattle.ipv4_text.specs.Dotted.{dotted_of}
use Rattle.ipv6_text.specs.declared.Layout.{Layout}
use Rattle.ipv6_text.specs.Inner.{up_to8, held, HoldsGroups, expanded, LaidOut}
use Rattle.ipv6_text.specs.EightGroups.{tail_of, filled, eight}
use Rattle.ipv6_text.proofs.GroupLaws.{one_more}

-- ---- groups one after the other

tail_length : (t ys : List ℕ) → tail_of t ≡ Some ys → length ys ≡ 2
unfolding tail_of digits_of
tail_length t ys = go (dotted_of t)
  where
    go : (o : Option ℕ) → option_map (digits_of 65536 2) o ≡ Some ys → length ys ≡ 2
    go None q = impossible q
    go (Some v) q = let k : digits_of 65536 2 v ≡ ys = cc in ap length (sym k)

up_to : (xs : List ℕ) → length xs ≤ 8 → up_to8 (Some xs) ≡ Some xs
up_to xs h = rw (le-leb (length xs) 8 h)

over : (xs : List ℕ) → 8 < length xs → up_to8 (Some xs) ≡ None
over xs h = rw (lt-leb (length xs) 8 h)

holds_first : (gs xs : List ℕ) (n : ℕ) → length gs ≡ 8 → n ≤ 8 → take n gs ≡ xs → HoldsGroups gs n (Some xs)
holds_first gs xs n e h p =
    let long : length xs ≡ n = ap length (sym p) ∙ length-take-le n gs (omega arith) in
    record { places = e; groups = rw (le-leb n 8 h, p) (sym (up_to xs (omega arith))) }

pub holds_none : (gs : List ℕ) (n : ℕ) (o : Option (List ℕ)) → length gs ≡ 8 → 8 < n → up_to8 o ≡ None → HoldsGroups gs n o
holds_none gs n o e h p = record { places = e; groups = rw (lt-leb n 8 h) (sym p) }

-- what they tell
module _ (gs ys : List ℕ) (n : ℕ) (h : HoldsGroups gs n (Some ys)) where
  told : (a b : Bool) → leb n 8 ≡ a → leb (length ys) 8 ≡ b → cond a (Some (take n gs)) None ≡ cond b (Some ys) None → (n ≤ 8 → take n gs ≡ ys) × (8 < n → 8 < length ys)
  told true true p q e = (λ k. cc, λ k. absurd (omega (arith, leb-true n 8 p)))
  told true false p q e = let z : ◌≡◌ {A = ℕ} 0 1 = cc in absurd (omega arith)
  told false true p q e = impossible e
  told false false p q e = (λ k. absurd (omega (arith, leb-false n 8 p)), λ k. leb-false (length ys) 8 q)

  pub holds_some : n ≤ 8 → take n gs ≡ ys
  holds_some = (told (leb n 8) (leb (length ys) 8) refl refl h.groups).0

  pub holds_many : 8 < n → 8 < length ys
  holds_many = (told (leb n 8) (leb (length ys) 8) refl refl h.groups).1

pub holds_refused : (gs : List ℕ) (n : ℕ) → HoldsGroups gs n None → 8 < n
holds_refused gs n h = go (leb n 8) refl h.groups
  where
    go : (b : Bool) → leb n 8 ≡ b → cond b (Some (take n gs)) None ≡ None → 8 < n
    go true p e = let z : ◌≡◌ {A = ℕ} 0 1 = cc in absurd (omega arith)
    go false p e = leb-false n 8 p

-- and others behind them
module _ (gs : List ℕ) (n : ℕ) (e : length gs ≡ 8) where
  pub none_more : n ≤ 8 → HoldsGroups gs n (joined (Some (take n gs)) (Some []))
  none_more h = holds_first gs (take n gs ++ []) n e h (sym (append-nil (take n gs)))

  pub one_held : (x : ℕ) → n < 8 → HoldsGroups (set gs n x) (n + 1) (joined (Some (take n gs)) (Some (x ∷ [])))
  one_held x h = holds_first (set gs n x) (take n gs ++ x ∷ []) (n + 1) (length-set gs n x ∙ e) (omega arith) (one_more gs n x e h)

  pub two_held : (x y : ℕ) → n < 7 → HoldsGroups (set (set gs n x) (n + 1) y) (n + 2) (joined (Some (take n gs)) (Some (x ∷ y ∷ [])))
  two_held x y h =
      let a : length (set gs n x) ≡ 8 = length-set gs n x ∙ e in
      let b : n + 2 ≡ n + 1 + 1 = omega arith in
      holds_first (set (set gs n x) (n + 1) y) (take n gs ++ x ∷ y ∷ []) (n + 2) (length-set (set gs n x) (n + 1) y ∙ a) (omega arith)
      (ap (λ k. take k (set (set gs n x) (n + 1) y)) b ∙ one_more (set gs n x) (n + 1) y a (omega arith) ∙ ap (λ s. s ++ y ∷ []) (one_more gs n x e (omega arith)) ∙ append_assoc (take n gs) (x ∷ []) (y ∷ []))

  -- no room for them
  pub over_eight : (o : Option (List ℕ)) → ((ys : List ℕ) → o ≡ Some ys → 8 < n + length ys) → n ≤ 8 → HoldsGroups gs 9 (joined (Some (take n gs)) o)
  over_eight o m h = holds_none gs 9 (joined (Some (take n gs)) o) e (omega arith) (go o m)
    where
      go : (o : Option (List ℕ)) → ((ys : List ℕ) → o ≡ Some ys → 8 < n + length ys) → up_to8 (joined (Some (take n gs)) o) ≡ None
      go None m = refl
      go (Some ys) m = over (take n gs ++ ys) (omega (arith, m ys refl, length-append (take n gs) ys, length-take-le n gs (omega arith)))

  pub tail_over : (t : List ℕ) → 6 < n → n ≤ 8 → HoldsGroups gs 9 (joined (Some (take n gs)) (tail_of t))
  tail_over t h = over_eight (tail_of t) λ ys q. omega (arith, tail_length t ys q)

-- ---- all eight places

module _ (n gap : ℕ) (gs : List ℕ) (e : length gs ≡ 8) (o : gap ≤ n) (h : n ≤ 8) where
  front : length (take gap gs) ≡ gap
  front = length-take-le gap gs (omega arith)

  zeros : length (replicate {A = ℕ} (8 - n) 0) ≡ 8 - n
  zeros = length-replicate {A = ℕ} (8 - n) 0

  pub front_group : (k : ℕ) → k < gap → get_or gs k 0 ≡ get_or (expanded n gap gs) k 0
  front_group k l = sym (get_or-append (take gap gs) (replicate (8 - n) 0 ++ drop gap (take n gs)) 0 k (omega (arith, front)) ∙ get_or-take gap gs k 0 l)

  behind : (j : ℕ) → get_or (expanded n gap gs) (gap + j) 0 ≡ get_or (replicate (8 - n) 0 ++ drop gap (take n gs)) j 0
  behind j = ap (λ k. get_or (expanded n gap gs) (k + j) 0) (sym front) ∙ get_or-append-add (take gap gs) (replicate (8 - n) 0 ++ drop gap (take n gs)) j 0

  pub zero_group : (k : ℕ) → gap ≤ k → k < gap + (8 - n) → 0 ≡ get_or (expanded n gap gs) k 0
  zero_group k a l =
      let i : k ≡ gap + (k - gap) = omega arith in
      sym (ap (λ k. get_or (expanded n gap gs) k 0) i ∙ behind (k - gap)
      ∙ get_or-append (replicate (8 - n) 0) (drop gap (take n gs)) 0 (k - gap) (omega (arith, zeros)) ∙ get_or-replicate (8 - n) (k - gap) 0 0 (omega arith))

  back : (j : ℕ) → gap + j < n → get_or gs (gap + j) 0 ≡ get_or (expanded n gap gs) (gap + ((8 - n) + j)) 0
  back j l =
      sym (behind ((8 - n) + j) ∙ ap (λ z. get_or (replicate (8 - n) 0 ++ drop gap (take n gs)) (z + j) 0) (sym zeros) ∙ get_or-append-add (replicate (8 - n) 0) (drop gap (take n gs)) j 0
      ∙ get_or-drop gap (take n gs) j 0 ∙ get_or-take n gs (gap + j) 0 l)

  pub back_group : (k : ℕ) → gap + (8 - n) ≤ k → k < 8 → get_or gs ((k + n) % 8) 0 ≡ get_or (expanded n gap gs) k 0
  back_group k a l =
      let i : gap + ((8 - n) + (k - gap - (8 - n))) ≡ k = omega arith in
      let m : (k + n) % 8 ≡ gap + (k - gap - (8 - n)) = omega arith in
      ap (λ z. get_or gs z 0) m ∙ back (k - gap - (8 - n)) (omega arith) ∙ ap (λ z. get_or (expanded n gap gs) z 0) i

  pub expanded_length : length (expanded n gap gs) ≡ 8
  expanded_length = simp length-append (omega (arith, front, zeros, length-drop gap (take n gs), length-take n gs))

listed : ℕ → ℕ → List ℕ → List ℕ
listed zero k l = []
listed (suc m) k l = get_or l k 0 ∷ listed m (suc k) l

listed_drop : (m k : ℕ) (l : List ℕ) → k + m ≡ length l → listed m k l ≡ drop k l
unfolding listed
listed_drop zero k l h = let e : length l ≤ k = omega arith in sym (drop_of_length-le l e)
listed_drop (suc m) k l h = ap (λ r. get_or l k 0 ∷ r) (listed_drop m (suc k) l (omega arith)) ∙ sym (drop-cons l k 0 (omega arith))

pub eight_listed : (l : List ℕ) → length l ≡ 8
    → get_or l 0 0 ∷ get_or l 1 0 ∷ get_or l 2 0 ∷ get_or l 3 0 ∷ get_or l 4 0 ∷ get_or l 5 0 ∷ get_or l 6 0 ∷ get_or l 7 0 ∷ [] ≡ l
unfolding listed
eight_listed l h = listed_drop 8 0 l (omega arith)

expanded_full : (gap : ℕ) (gs : List ℕ) → length gs ≡ 8 → expanded 8 gap gs ≡ gs
expanded_full gap gs e = let k : length gs ≤ 8 = omega arith in rw (take_all 8 gs k) (take-append-drop gap gs)

-- ---- layouts

eight_up_to : (o : Option (List ℕ)) → eight (up_to8 o) ≡ eight o
eight_up_to None = refl
eight_up_to (Some xs) = go (leb (length xs) 8) refl
  where
    go : (t : Bool) → leb (length xs) 8 ≡ t → eight (cond t (Some xs) None) ≡ eight (Some xs)
    go true p = refl
    go false p = rw (ne_eqb (length xs) 8 (omega (arith, leb-false (length xs) 8 p)))

-- with no `::`
module _ (gs : List ℕ) (n : ℕ) (o : Option (List ℕ)) (h : HoldsGroups gs n o) where
  eight_is : eight o ≡ eight (held n gs)
  eight_is = sym (ap eight h.groups ∙ eight_up_to o)

  pub laid_whole : n ≡ 8 → LaidOut gs (Some (record { count = 8; gap = 8 })) (eight o)
  laid_whole e =
      let k : length gs ≤ 8 = omega (arith, h.places) in
      let all : eight (held n gs) ≡ Some gs = ap (λ m. eight (held m gs)) e ∙ ap (λ s. eight (Some s)) (take_all 8 gs k) ∙ rw (eq-eqb (length gs) 8 h.places) in
      record { places = h.places; order = (omega arith, omega arith); groups = ap Some (expanded_full 8 gs h.places) ∙ sym (eight_is ∙ all) }

  pub laid_none : (n ≡ 8 → ⊥) → LaidOut gs None (eight o)
  laid_none d = record { places = h.places; order = tt; groups = sym (eight_is ∙ go (leb n 8) refl) }
    where
      go : (b : Bool) → leb n 8 ≡ b → eight (cond b (Some (take n gs)) None) ≡ None
      go true p = rw (ne_eqb (length (take n gs)) 8 λ s. d (omega (arith, h.places, length-take n gs, leb-true n 8 p)))
      go false p = refl

-- with `::` behind the groups xs
module _ (gs xs : List ℕ) (n gap : ℕ) (l : length xs ≡ gap) where
  pub laid_over : (o : Option (List ℕ)) → HoldsGroups gs n (joined (Some xs) o) → 7 < n → LaidOut gs None (filled (Some xs) o)
  laid_over None h m = record { places = h.places; order = tt; groups = refl }
  laid_over (Some ys) h m =
      let many : 7 < length xs + length ys = elim (dec_le n 8) [
        | yes k ↦ omega (arith, ap length (holds_some gs (xs ++ ys) n h k), h.places, length-take n gs, length-append xs ys)
        | no k ↦ omega (arith, holds_many gs (xs ++ ys) n h (omega arith), length-append xs ys)
      ] in
      record { places = h.places; order = tt; groups = sym (rw (lt-leb (length xs + length ys) 7 many)) }

  pub laid_beside : (o : Option (List ℕ)) → HoldsGroups gs n (joined (Some xs) o) → n ≤ 7 → LaidOut gs (Some (record { count = n; gap = gap })) (filled (Some xs) o)
  laid_beside None h m = absurd (omega (arith, holds_refused gs n h))
  laid_beside (Some ys) h m =
      let p = holds_some gs (xs ++ ys) n h (omega arith) in
      let long : length xs + length ys ≡ n = omega (arith, ap length p, h.places, length-take n gs, length-append xs ys) in
      let left : take gap gs ≡ xs = sym (take-take gap n gs (omega arith)) ∙ ap (take gap) p ∙ take_at xs ys gap l in
      let right : drop gap (take n gs) ≡ ys = ap (drop gap) p ∙ drop_at xs ys gap l in
      record { places = h.places; order = (omega arith, omega arith); groups = rw (long, le-leb n 7 m, left, right) }

-- eight groups stand in their places
pub layout_full : (gs : List ℕ) (l : Layout) (o : Option (List ℕ)) → LaidOut gs (Some l) o → l.count ≡ 8 → o ≡ Some gs
layout_full gs l o h e = sym h.groups ∙ ap (λ n. Some (expanded n l.gap gs)) e ∙ ap Some (expanded_full l.gap gs h.places)
