-- Loose text read part after part: what is left to read after some parts, and how the last part ends it. Assumes nothing.
use Rattle.std.specs.Prelude.{Option, Some, None, option_map, ok_or}
use mathlib.Core.Path.{◌≡◌, refl, sym, ap, ap₂, ◌∙◌}
use mathlib.Core.Bool.{Bool, true, false, cond}
use mathlib.Core.List.{List, [], ◌∷◌}
use Prim.Native.Nat.{ℕ, zero, suc, ◌+◌, ◌-◌, ◌*◌, ◌^◌, ◌%◌, ◌≤◌, ◌<◌}
use native.Mathlib.Nat.{pow-le-pow_right}
use native.Mathlib.Numerals.{add-one}
use native.Mathlib.Omega.{arith}
use borrow.Author.Tests.{lt-ltb, le-ltb, ltb-true, leb-false}
use lib.Arith.{digits_lt}
use lib.Dec.{ltb, leb, lit<}
use lib.ListN.{length, take, drop, get_or}
use lib.Pow.{pow-add}
use lib.Seq.{take_all}
use Rattle.notation.specs.BigEndian.{digits_of, number_from, number_of}
use Rattle.notation.specs.Pieces.{index_of, split_on}
use Rattle.notation.specs.Options.{joined, single, every}
use Rattle.notation.proofs.DigitLaws.{bits_power, digits_length, digits_number, from_shift}
use Rattle.notation.proofs.PieceLaws.{split_found, split_last, split_first}
use Rattle.notation.proofs.SliceLaws.{to_end}
use Rattle.wide.proofs.Halves.{one_shifted}
use Rattle.address.specs.declared.Address.{Address}
use Rattle.address.specs.declared.Address.TheVariants.{V4}
use Rattle.address.specs.declared.Refusal.TheVariants.{TextTooLong, Malformed}
use Rattle.address.specs.Answers.{precedence, refuses, no_address, reading_answer, read_answer}
use Rattle.digits.specs.Numerals.{at_most}
use Rattle.digits.proofs.FirstPieceLaws.{at_most_says}
use Rattle.loose.specs.Inner.{leading_loose}
use Rattle.loose.specs.Loose.{loose_part, octets_from, combined, loose_of, loose_answer}
use Rattle.loose.proofs.PartLaws.{first, first_part, found_nothing, found_last, found_more, found_other}

-- ---- the last part

-- the address of octets that write v and a last part x, which fills the octets that are left
abbrev pub last_part : ℕ → ℕ → ℕ → Option Address
last_part v x left = cond (ltb x (256 ^ left)) (Some (V4 (v * 256 ^ left + x))) None

-- the room that the code computes
pub shifted : (left : ℕ) → left ≤ 4 → 1 * 2 ^ (8 * left) % 2 ^ 64 ≡ 256 ^ left
shifted left h = one_shifted (8 * left) (omega arith) ∙ sym (bits_power 8 left)

module _ (v x left : ℕ) where
  pub last_fits : left ≤ 4 → v < 256 ^ (4 - left) → x < 256 ^ left → v * 256 ^ left + x < 2 ^ 32
  last_fits h k l =
      let all : 4 - left + left ≡ 4 = omega arith in
      let room : 256 ^ (4 - left) * 256 ^ left ≡ 256 ^ 4 = sym (pow-add 256 (4 - left) left) ∙ ap (λ (n : ℕ). 256 ^ n) all in
      omega (arith, digits_lt {q = v} {m = 256 ^ (4 - left)} {r = x} {c = 256 ^ left} k l)

  pub last_refused : 256 ^ left ≤ x → None ≡ last_part v x left
  last_refused h = rw (le-ltb x (256 ^ left) h)

  pub last_read : x < 256 ^ left → Some (V4 (v * 256 ^ left + x)) ≡ last_part v x left
  last_read h = rw (lt-ltb x (256 ^ left) h)

-- ---- parts as octets

-- the octets of numbers that fill k of them
abbrev filling : ℕ → Option (List ℕ) → Option (List ℕ)
filling k None = None
filling k (Some xs) = octets_from k xs

-- the address of octets that write v and more octets
abbrev pub address_after : ℕ → Option (List ℕ) → Option Address
address_after v o = option_map (λ bs. V4 (number_from 256 v bs)) o

-- what is left to read: octets that write v, and parts that fill the octets that are left
pub loose_from : ℕ → ℕ → List (List ℕ) → Option Address
loose_from left v ps = address_after v (filling left (every loose_part ps))

pub loose_start : (t : List ℕ) → loose_of t ≡ loose_from 4 0 (split_on 46 t)
unfolding loose_of loose_from
loose_start t = go (every loose_part (split_on 46 t))
  where
    go : (o : Option (List ℕ)) → option_map (λ bs. V4 (number_of 256 bs)) (combined o) ≡ address_after 0 (filling 4 o)
    go None = refl
    go (Some xs) = refl

-- a fifth part
pub loose_over : (v : ℕ) (ps : List (List ℕ)) → loose_from 0 v ps ≡ None
unfolding loose_from octets_from
loose_over v ps = go (every loose_part ps)
  where
    go : (o : Option (List ℕ)) → address_after v (filling 0 o) ≡ None
    go None = refl
    go (Some xs) = refl

-- ---- the octets of a number and more

-- a number of more than 32 bits fits no four octets
octets_large : (k x : ℕ) (ys : List ℕ) → k ≤ 4 → 4294967295 < x → octets_from k (x ∷ ys) ≡ None
unfolding octets_from
octets_large zero x ys h l = refl
octets_large (suc k) x [] h l = let most : 256 ^ suc k ≤ 256 ^ 4 = pow-le-pow_right (omega arith) h in rw (le-ltb x (256 ^ suc k) (omega arith))
octets_large (suc k) x (y ∷ ys) h l = rw (le-ltb x 256 (omega arith))

-- the last number
pub octets_last : (k v x : ℕ) → address_after v (octets_from (suc k) (x ∷ [])) ≡ last_part v x (suc k)
unfolding octets_from
octets_last k v x = go (ltb x (256 ^ suc k)) refl
  where
    go : (b : Bool) → ltb x (256 ^ suc k) ≡ b → address_after v (cond b (Some (digits_of 256 (suc k) x)) None) ≡ cond b (Some (V4 (v * 256 ^ suc k + x))) None
    go true e =
        let ds = digits_of 256 (suc k) x in
        let same = digits_number 256 (lit< tt) (suc k) x (ltb-true x (256 ^ suc k) e) in
        ap (λ (n : ℕ). Some (V4 n)) (from_shift 256 v ds ∙ ap₂ (λ (n y : ℕ). v * 256 ^ n + y) (digits_length 256 (suc k) x) same)
    go false e = refl

-- a number that is not the last
pub octets_more : (k v x y : ℕ) (ys : List ℕ) → address_after v (octets_from (suc k) (x ∷ y ∷ ys)) ≡ cond (ltb x 256) (address_after (v * 256 + x) (octets_from k (y ∷ ys))) None
unfolding octets_from number_from
octets_more k v x y ys = go (ltb x 256) (octets_from k (y ∷ ys))
  where
    go : (b : Bool) (o : Option (List ℕ)) → address_after v (cond b (option_map (λ bs. x ∷ bs) o) None) ≡ cond b (address_after (v * 256 + x) o) None
    go true None = refl
    go true (Some bs) = refl
    go false o = refl

-- ---- one part

module _ (left v : ℕ) (p : List ℕ) (ps : List (List ℕ)) where
  part_none : loose_part p ≡ None → loose_from left v (p ∷ ps) ≡ None
  unfolding loose_from every
  part_none h = rw h

  -- a part that no octets hold
  part_large : (x : ℕ) → loose_part p ≡ Some x → left ≤ 4 → 4294967295 < x → loose_from left v (p ∷ ps) ≡ None
  unfolding loose_from every
  part_large x h k l = rw h (go (every loose_part ps))
    where
      go : (o : Option (List ℕ)) → address_after v (filling left (joined (Some (x ∷ [])) o)) ≡ None
      go None = refl
      go (Some ys) = ap (address_after v) (octets_large left x ys k l)

  part_bad : left ≤ 4 → at_most 4294967295 (loose_part p) ≡ None → loose_from left v (p ∷ ps) ≡ None
  part_bad k h = go (loose_part p) refl h
    where
      large : (x : ℕ) (b : Bool) → leb x 4294967295 ≡ b → cond b (Some x) None ≡ None → 4294967295 < x
      large x true e q = let z : ◌≡◌ {A = ℕ} 0 1 = cc in absurd (omega arith)
      large x false e q = leb-false x 4294967295 e

      go : (o : Option ℕ) → loose_part p ≡ o → at_most 4294967295 o ≡ None → loose_from left v (p ∷ ps) ≡ None
      go None e q = part_none e
      go (Some x) e q = part_large x e k (large x (leb x 4294967295) refl q)

part_last : (k v : ℕ) (p : List ℕ) (x : ℕ) → loose_part p ≡ Some x → loose_from (suc k) v (p ∷ []) ≡ last_part v x (suc k)
unfolding loose_from every
part_last k v p x h = rw h (octets_last k v x)

cond_none : (b : Bool) → ◌≡◌ {A = Option Address} (cond b None None) None
cond_none true = refl
cond_none false = refl

part_more : (k v : ℕ) (p q : List ℕ) (qs : List (List ℕ)) (x : ℕ) → loose_part p ≡ Some x
    → loose_from (suc k) v (p ∷ q ∷ qs) ≡ cond (ltb x 256) (loose_from k (v * 256 + x) (q ∷ qs)) None
unfolding loose_from every
part_more k v p q qs x h = rw h (go (loose_part q) (every loose_part qs))
  where
    go : (o : Option ℕ) (os : Option (List ℕ))
        → address_after v (filling (suc k) (joined (Some (x ∷ [])) (joined (single o) os))) ≡ cond (ltb x 256) (address_after (v * 256 + x) (filling k (joined (single o) os))) None
    go None os = sym (cond_none (ltb x 256))
    go (Some y) None = sym (cond_none (ltb x 256))
    go (Some y) (Some ys) = octets_more k v x y ys

-- ---- the first part of what is left

module _ (left v : ℕ) (t : List ℕ) where
  first_bad : left ≤ 4 → first_part t ≡ None → loose_from left v (split_on 46 t) ≡ None
  first_bad k h = rw (split_first 46 t).1 (part_bad left v (first t) (split_first 46 t).0 k h)

  pub loose_nothing : left ≤ 4 → None ≡ leading_loose t → loose_from left v (split_on 46 t) ≡ None
  loose_nothing k h = first_bad k (found_nothing t h)

  pub loose_other : (x e : ℕ) → Some (x, e) ≡ leading_loose t → left ≤ 4 → e < length t → (get_or t e 0 ≡ 46 → ⊥) → loose_from left v (split_on 46 t) ≡ None
  loose_other x e h k l d = first_bad k (found_other t x e h l d)

module _ (left v : ℕ) (pos : 0 < left) (t : List ℕ) (x e : ℕ) (h : Some (x, e) ≡ leading_loose t) where
  one_more : left ≡ suc (left - 1)
  one_more = omega arith

  -- the last part
  pub loose_end : length t ≤ e → loose_from left v (split_on 46 t) ≡ last_part v x left
  loose_end l =
      let p = found_last t x e h l in
      let whole : first t ≡ t = take_all (index_of 46 t) t (omega (arith, p.1)) in
      let is : loose_part t ≡ Some x = ap loose_part (sym whole) ∙ (at_most_says 4294967295 x (loose_part (first t)) p.0).0 in
      ap₂ (λ (n : ℕ) ps. loose_from n v ps) one_more (split_last 46 t (omega (arith, p.1))) ∙ part_last (left - 1) v t x is ∙ ap (last_part v x) (sym one_more)

  module _ (l : e < length t) (d : get_or t e 0 ≡ 46) where
    abbrev rest : List ℕ
    rest = take (length t - (e + 1)) (drop (e + 1) t)

    part : loose_part (first t) ≡ Some x
    part = (at_most_says 4294967295 x (loose_part (first t)) (found_more t x e h l d).0).0

    -- a dot, and more parts behind it
    pieces : split_on 46 t ≡ first t ∷ split_on 46 rest
    pieces = let p = found_more t x e h l d in rw (to_end (e + 1) t, add-one e, ← p.1) (split_found 46 t (omega (arith, p.1)))

    next : loose_from left v (split_on 46 t) ≡ cond (ltb x 256) (loose_from (left - 1) (v * 256 + x) (split_on 46 rest)) None
    next =
        let more = split_first 46 rest in
        ap₂ (λ (n : ℕ) ps. loose_from n v ps) one_more (pieces ∙ ap (λ ps. first t ∷ ps) more.1)
        ∙ part_more (left - 1) v (first t) (first rest) more.0 x part
        ∙ ap (λ ps. cond (ltb x 256) (loose_from (left - 1) (v * 256 + x) ps) None) (sym more.1)

    pub loose_more : x ≤ 255 → loose_from left v (split_on 46 t) ≡ loose_from (left - 1) (v * 256 + x) (split_on 46 rest)
    loose_more s = next ∙ rw (lt-ltb x 256 (omega arith))

    pub loose_large : 255 < x → loose_from left v (split_on 46 t) ≡ None
    loose_large s = next ∙ rw (le-ltb x 256 s)

-- ---- the answer

module _ (t : List ℕ) where
  pub loose_long : 64 < length t → refuses no_address TextTooLong ≡ loose_answer t
  unfolding loose_answer
  loose_long h = rw (lt-ltb 64 (length t) h)

  pub loose_read : length t ≤ 64 → reading_answer (ok_or (loose_of t) Malformed) ≡ loose_answer t
  unfolding loose_answer read_answer
  loose_read h = rw (le-ltb 64 (length t) h) (go (loose_of t))
    where
      go : (o : Option Address) → reading_answer (ok_or o Malformed) ≡ read_answer precedence no_address ((1, false) ∷ []) o
      go None = refl
      go (Some a) = refl
