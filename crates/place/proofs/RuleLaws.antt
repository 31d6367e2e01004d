-- What is read as eight groups, the rule of IPv6 text accepts. Assumes nothing.
use Rattle.std.specs.Prelude.{Option, Some, None, option_map}
use mathlib.Core.Path.{◌≡◌, refl, sym, ap, subst, ◌∙◌}
use mathlib.Core.Logic.{◌⊎◌, inl, inr}
use mathlib.Core.Bool.{Bool, true, false, cond, ◌&&◌}
use mathlib.Core.List.{List, [], ◌∷◌, ◌++◌, append_assoc, append-nil}
use Prim.Native.Nat.{ℕ, zero, suc, ◌+◌, ◌-◌, ◌≤◌, ◌<◌}
use native.Mathlib.Omega.{arith}
use borrow.Author.Tests.{eqb-true, leb-true, ltb-true}
use lib.Dec.{eqb, leb, ltb}
use lib.ListN.{length, take, drop, replicate}
use Rattle.notation.specs.BigEndian.{digits_of}
use Rattle.notation.proofs.DigitLaws.{digits_length}
use Rattle.digits.specs.Numerals.{group_of}
use Rattle.notation.specs.Pieces.{index_of, split_on, separated}
use Rattle.notation.proofs.PieceLaws.{split_first}
use Rattle.notation.specs.Options.{joined, single}
use Rattle.ipv4_text.specs.Dotted.{dotted_of}
use Rattle.notation.specs.Options.{or_else}
use Rattle.ipv6_text.specs.EightGroups.{tail_of, pieces_of, side_of, gap_of, filled, eight, eight_of}
use Rattle.place.proofs.LongestLaws.{Ends, PieceThen}
use Rattle.place.proofs.FrontLaws.{Group}
use Rattle.place.proofs.DottedLaws.{dotted_rule, separated_split}
use Rattle.place.proofs.GroupsLaws.{AtMost, Behind, Groups, Eight}

nothing : {A : Type 0} {a : A} {P : Type 0} → None ≡ Some a → P
nothing e = let z : ◌≡◌ {A = ℕ} 0 1 = cc in absurd (omega arith)

-- ---- what a reading of pieces says

record More (o : Option ℕ) (os : Option (List ℕ)) (gs : List ℕ) : Type 0 where
  first : ℕ
  others : List ℕ
  is_first : o ≡ Some first
  are_others : os ≡ Some others
  are : first ∷ others ≡ gs

joined_is : (o : Option ℕ) (os : Option (List ℕ)) (gs : List ℕ) → joined (single o) os ≡ Some gs → More o os gs
joined_is None os gs e = nothing e
joined_is (Some x) None gs e = nothing e
joined_is (Some x) (Some hs) gs e = record { first = x; others = hs; is_first = refl; are_others = refl; are = cc }

-- the last piece: a group, or an IPv4 text
record Tail (p gs : List ℕ) : Type 0 where
  value : ℕ
  read : dotted_of p ≡ Some value
  two : length gs ≡ 2

last_is : (d : Bool) (p gs : List ℕ) → or_else (single (group_of p)) (cond d (tail_of p) None) ≡ Some gs → (Group p × (length gs ≡ 1)) ⊎ (Tail p gs × (d ≡ true))
unfolding tail_of
last_is d p gs e = go (group_of p) refl d (dotted_of p) refl e
  where
    go : (o : Option ℕ) → group_of p ≡ o → (d : Bool) (v : Option ℕ) → dotted_of p ≡ v
        → or_else (single o) (cond d (option_map (digits_of 65536 2) v) None) ≡ Some gs → (Group p × (length gs ≡ 1)) ⊎ (Tail p gs × (d ≡ true))
    go (Some x) q d v r k = let s : x ∷ [] ≡ gs = cc in inl ((x, q), sym (ap length s))
    go None q true (Some v) r k =
        let s : digits_of 65536 2 v ≡ gs = cc in
        inr (record { value = v; read = r; two = sym (ap length s) ∙ digits_length 65536 2 v }, refl)
    go None q true None r k = nothing k
    go None q false v r k = nothing k

pieces_any : (d : Bool) (p : List ℕ) (ps : List (List ℕ)) (gs : List ℕ) → pieces_of d (p ∷ ps) ≡ Some gs → 0 < length gs
unfolding pieces_of
pieces_any d p [] gs e = go (last_is d p gs e)
  where
    go : (Group p × (length gs ≡ 1)) ⊎ (Tail p gs × (d ≡ true)) → 0 < length gs
    go (inl h) = omega arith
    go (inr h) = omega (arith, h.0.two)
pieces_any d p (q ∷ ps) gs e = let m = joined_is (group_of p) (pieces_of d (q ∷ ps)) gs e in omega (arith, ap length m.are)

-- ---- the rule

last_group : (p : List ℕ) → Group p → PieceThen Group Ends p
last_group p g = record { piece = p; rest = []; good = g; then = refl; is = append-nil p }

some_last : (n : ℕ) (p : List ℕ) → Group p → AtMost n p
some_last zero p g = last_group p g
some_last (suc n) p g = inr (record { piece = p; rest = []; good = g; then = inl refl; is = append-nil p })

some_more : (n : ℕ) (p w : List ℕ) → Group p → AtMost n w → AtMost (suc n) (p ++ 58 ∷ w)
some_more n p w g h = inr (record { piece = p; rest = 58 ∷ w; good = g; then = inr (record { rest = w; then = h; is = refl }); is = refl })

some_dotted : (n : ℕ) (p gs : List ℕ) → Tail p gs → length gs ≤ suc n → AtMost n p
some_dotted zero p gs t h = absurd (omega (arith, t.two))
some_dotted (suc n) p gs t h = inl (dotted_rule p t.value t.read)

pieces_some : (n : ℕ) (p : List ℕ) (ps : List (List ℕ)) (gs : List ℕ) → pieces_of true (p ∷ ps) ≡ Some gs → length gs ≤ suc n → AtMost n (separated 58 (p ∷ ps))
unfolding pieces_of separated
pieces_some n p [] gs e h = go (last_is true p gs e)
  where
    go : (Group p × (length gs ≡ 1)) ⊎ (Tail p gs × (true ≡ true)) → AtMost n p
    go (inl g) = some_last n p g.0
    go (inr t) = some_dotted n p gs t.0 h
pieces_some zero p (q ∷ ps) gs e h =
    let m = joined_is (group_of p) (pieces_of true (q ∷ ps)) gs e in
    absurd (omega (arith, ap length m.are, pieces_any true q ps m.others m.are_others))
pieces_some (suc n) p (q ∷ ps) gs e h =
    let m = joined_is (group_of p) (pieces_of true (q ∷ ps)) gs e in
    some_more n p (separated 58 (q ∷ ps)) (m.first, m.is_first) (pieces_some n q ps m.others m.are_others (omega (arith, ap length m.are)))

-- all the pieces of a text
split_some : (t : List ℕ) (F : List (List ℕ) → Type 0) → ((p : List ℕ) (ps : List (List ℕ)) → separated 58 (p ∷ ps) ≡ t → F (p ∷ ps)) → F (split_on 58 t)
split_some t F f =
    let s = split_first 58 t in
    subst F (sym s.1) (f (take (index_of 58 t) t) s.0 (ap (separated 58) (sym s.1) ∙ separated_split 58 t))

side_behind : (n : ℕ) (t gs : List ℕ) → side_of true t ≡ Some gs → length gs ≤ n → Behind n t
unfolding side_of
side_behind zero [] gs e h = refl
side_behind (suc n) [] gs e h = inl refl
side_behind zero (c ∷ t) gs e h =
    split_some (c ∷ t) (λ qs. pieces_of true qs ≡ Some gs → Behind zero (c ∷ t)) (λ p ps s k. absurd (omega (arith, pieces_any true p ps gs k))) e
side_behind (suc n) (c ∷ t) gs e h =
    inr (split_some (c ∷ t) (λ qs. pieces_of true qs ≡ Some gs → AtMost n (c ∷ t)) (λ p ps s k. subst (AtMost n) s (pieces_some n p ps gs k h)) e)

groups_more : (n : ℕ) (p w : List ℕ) → Group p → Groups n w → Groups (suc n) (p ++ 58 ∷ w)
groups_more zero p w g h = inr (record { piece = p; rest = 58 ∷ w; good = g; then = record { rest = w; then = inr h; is = refl }; is = refl })
groups_more (suc n) p w g h = record { piece = p; rest = 58 ∷ w; good = g; then = record { rest = w; then = inr h; is = refl }; is = refl }

groups_gap : (n : ℕ) (p w : List ℕ) → Group p → Behind n w → Groups (suc n) (p ++ (58 ∷ 58 ∷ w))
groups_gap zero p w g h =
    inr (record { piece = p; rest = 58 ∷ 58 ∷ w; good = g; then = record { rest = 58 ∷ w; then = inl (record { rest = w; then = h; is = refl }); is = refl }; is = refl })
groups_gap (suc n) p w g h =
    record { piece = p; rest = 58 ∷ 58 ∷ w; good = g; then = record { rest = 58 ∷ w; then = inl (record { rest = w; then = h; is = refl }); is = refl }; is = refl }

groups_dotted : (n : ℕ) (p gs : List ℕ) → Tail p gs → length gs ≡ suc n → Groups n p
groups_dotted zero p gs t h = absurd (omega (arith, t.two))
groups_dotted (suc zero) p gs t h = inl (dotted_rule p t.value t.read)
groups_dotted (suc (suc n)) p gs t h = absurd (omega (arith, t.two))

groups_last : (n : ℕ) (p : List ℕ) → Group p → 1 ≡ suc n → Groups n p
groups_last zero p g h = last_group p g
groups_last (suc n) p g h = absurd (omega arith)

-- eight groups without `::`
pieces_groups : (n : ℕ) (p : List ℕ) (ps : List (List ℕ)) (gs : List ℕ) → pieces_of true (p ∷ ps) ≡ Some gs → length gs ≡ suc n → Groups n (separated 58 (p ∷ ps))
unfolding pieces_of separated
pieces_groups n p [] gs e h = go (last_is true p gs e)
  where
    go : (Group p × (length gs ≡ 1)) ⊎ (Tail p gs × (true ≡ true)) → Groups n p
    go (inl g) = groups_last n p g.0 (omega arith)
    go (inr t) = groups_dotted n p gs t.0 h
pieces_groups zero p (q ∷ ps) gs e h =
    let m = joined_is (group_of p) (pieces_of true (q ∷ ps)) gs e in
    absurd (omega (arith, ap length m.are, pieces_any true q ps m.others m.are_others))
pieces_groups (suc n) p (q ∷ ps) gs e h =
    let m = joined_is (group_of p) (pieces_of true (q ∷ ps)) gs e in
    groups_more n p (separated 58 (q ∷ ps)) (m.first, m.is_first) (pieces_groups n q ps m.others m.are_others (omega (arith, ap length m.are)))

-- groups before `::`, and what stands behind it
pieces_around : (n m : ℕ) (p : List ℕ) (ps : List (List ℕ)) (gs r : List ℕ) → pieces_of false (p ∷ ps) ≡ Some gs → Behind m r → length gs + m ≡ n
    → Groups n (separated 58 (p ∷ ps) ++ (58 ∷ 58 ∷ r))
unfolding pieces_of separated
pieces_around n m p [] gs r e b h = go (last_is false p gs e)
  where
    go : (Group p × (length gs ≡ 1)) ⊎ (Tail p gs × (false ≡ true)) → Groups n (p ++ (58 ∷ 58 ∷ r))
    go (inl g) = let s : suc m ≡ n = omega arith in subst (λ n. Groups n (p ++ (58 ∷ 58 ∷ r))) s (groups_gap m p r g.0 b)
    go (inr t) = let f = t.1 in let z : ◌≡◌ {A = ℕ} 0 1 = cc in absurd (omega arith)
pieces_around zero m p (q ∷ ps) gs r e b h =
    let w = joined_is (group_of p) (pieces_of false (q ∷ ps)) gs e in
    absurd (omega (arith, ap length w.are))
pieces_around (suc n) m p (q ∷ ps) gs r e b h =
    let w = joined_is (group_of p) (pieces_of false (q ∷ ps)) gs e in
    let s = separated 58 (q ∷ ps) in
    subst (Groups (suc n)) (sym (append_assoc p (58 ∷ s) (58 ∷ 58 ∷ r)))
    (groups_more n p (s ++ (58 ∷ 58 ∷ r)) (w.first, w.is_first) (pieces_around n m q ps w.others r w.are_others b (omega (arith, ap length w.are))))

-- ---- eight groups

-- a text at its first `::`
gap_at : (t : List ℕ) → gap_of t < length t → take (gap_of t) t ++ (58 ∷ 58 ∷ drop (gap_of t + 2) t) ≡ t
unfolding gap_of
gap_at [] h = absurd (omega arith)
gap_at (x ∷ []) h = absurd (omega arith)
gap_at (x ∷ y ∷ t) h = go (eqb x 58) refl (eqb y 58) refl h (gap_at (y ∷ t))
  where
    step : (g : ℕ) → take g (y ∷ t) ++ (58 ∷ 58 ∷ drop (g + 2) (y ∷ t)) ≡ y ∷ t → take (suc g) (x ∷ y ∷ t) ++ (58 ∷ 58 ∷ drop (suc g + 2) (x ∷ y ∷ t)) ≡ x ∷ y ∷ t
    step g ih =
        let e : suc g + 2 ≡ suc (g + 2) = omega arith in
        rw e (ap (λ l. x ∷ l) ih)

    go : (p : Bool) → eqb x 58 ≡ p → (q : Bool) → eqb y 58 ≡ q → let g = cond (p && q) zero (suc (gap_of (y ∷ t))) in
        g < suc (suc (length t)) → (gap_of (y ∷ t) < suc (length t) → take (gap_of (y ∷ t)) (y ∷ t) ++ (58 ∷ 58 ∷ drop (gap_of (y ∷ t) + 2) (y ∷ t)) ≡ y ∷ t)
        → take g (x ∷ y ∷ t) ++ (58 ∷ 58 ∷ drop (g + 2) (x ∷ y ∷ t)) ≡ x ∷ y ∷ t
    go true e true f k ih = rw (eqb-true x 58 e, eqb-true y 58 f)
    go true e false f k ih = step (gap_of (y ∷ t)) (ih (omega arith))
    go false e q f k ih = step (gap_of (y ∷ t)) (ih (omega arith))

side_around : (l r xs ys : List ℕ) → side_of false l ≡ Some xs → side_of true r ≡ Some ys → length xs + length ys ≤ 7 → Eight (l ++ (58 ∷ 58 ∷ r))
unfolding side_of
side_around [] r xs ys e f h = inl (record { rest = 58 ∷ r; then = record { rest = r; then = side_behind 7 r ys f (omega arith); is = refl }; is = refl })
side_around (c ∷ l) r xs ys e f h =
    inr (split_some (c ∷ l) (λ qs. pieces_of false qs ≡ Some xs → Groups 7 ((c ∷ l) ++ (58 ∷ 58 ∷ r)))
    (λ p ps s k. subst (λ u. Groups 7 (u ++ (58 ∷ 58 ∷ r))) s (pieces_around 7 (7 - length xs) p ps xs r k (side_behind (7 - length xs) r ys f (omega arith)) (omega arith))) e)

side_whole : (t gs : List ℕ) → side_of true t ≡ Some gs → length gs ≡ 8 → Eight t
unfolding side_of
side_whole [] gs e h = absurd (let s : [] ≡ gs = cc in omega (arith, ap length s))
side_whole (c ∷ t) gs e h =
    inr (split_some (c ∷ t) (λ qs. pieces_of true qs ≡ Some gs → Groups 7 (c ∷ t)) (λ p ps s k. subst (Groups 7) s (pieces_groups 7 p ps gs k h)) e)

filled_few : (xs ys gs : List ℕ) → filled (Some xs) (Some ys) ≡ Some gs → length xs + length ys ≤ 7
filled_few xs ys gs e = go (leb (length xs + length ys) 7) refl e
  where
    go : (b : Bool) → leb (length xs + length ys) 7 ≡ b → cond b (Some (xs ++ (replicate (8 - (length xs + length ys)) 0 ++ ys))) None ≡ Some gs → length xs + length ys ≤ 7
    go true q k = leb-true (length xs + length ys) 7 q
    go false q k = nothing k

eight_count : (xs gs : List ℕ) → eight (Some xs) ≡ Some gs → length xs ≡ 8
eight_count xs gs e = go (eqb (length xs) 8) refl e
  where
    go : (b : Bool) → eqb (length xs) 8 ≡ b → cond b (Some xs) None ≡ Some gs → length xs ≡ 8
    go true q k = eqb-true (length xs) 8 q
    go false q k = nothing k

pub eight_rule : (t gs : List ℕ) → eight_of t ≡ Some gs → Eight t
unfolding eight_of
eight_rule t gs e = go (ltb (gap_of t) (length t)) refl (side_of false l) refl (side_of true r) refl (side_of true t) refl e
  where
    l : List ℕ
    l = take (gap_of t) t

    r : List ℕ
    r = drop (gap_of t + 2) t

    go : (c : Bool) → ltb (gap_of t) (length t) ≡ c → (a : Option (List ℕ)) → side_of false l ≡ a → (b : Option (List ℕ)) → side_of true r ≡ b
        → (s : Option (List ℕ)) → side_of true t ≡ s → cond c (filled a b) (eight s) ≡ Some gs → Eight t
    go true c None p b q s u k = nothing k
    go true c (Some xs) p None q s u k = nothing k
    go true c (Some xs) p (Some ys) q s u k = subst Eight (gap_at t (ltb-true (gap_of t) (length t) c)) (side_around l r xs ys p q (filled_few xs ys gs k))
    go false c a p b q None u k = nothing k
    go false c a p b q (Some xs) u k = side_whole t xs u (eight_count xs gs k)
