-- The first 130 bytes of a line, kept one after the other. Assumes nothing.
use mathlib.Core.Path.{◌≡◌, sym, ap, ◌∙◌}
use mathlib.Core.List.{List, [], ◌∷◌, ◌++◌, append_assoc, append-nil}
use Prim.Native.Nat.{ℕ, suc, ◌+◌, ◌≤◌, ◌<◌, min}
use native.Mathlib.Numerals.{add-one}
use native.Mathlib.Omega.{arith}
use lib.ListN.{length, take, drop, get_or, set, length-append, length-set, length-take, take-append-drop}
use lib.Seq.{take_all, take-suc, take-suc-set, take-append-le}
use Rattle.range_lines.specs.Feeding.{kept}

pub kept_all : (l : List ℕ) → length l ≤ 130 → kept l ≡ l
kept_all l h = take_all 130 l h

-- ---- what has been kept

-- the first n of 130 places hold p and the first i bytes of more, as far as there is room
pub record Keeps (p more bytes : List ℕ) (n i : ℕ) : Type 0 where
  pub inside : i ≤ length more
  pub places : length bytes ≡ 130
  pub holds : take (min n 130) bytes ≡ kept (p ++ take i more)

pub keeps_start : (more bytes : List ℕ) (n : ℕ) → length bytes ≡ 130 → Keeps (take (min n 130) bytes) more bytes n 0
keeps_start more bytes n e =
    record {
      inside = omega arith;
      places = e;
      holds = sym (ap kept (append-nil (take (min n 130) bytes)) ∙ kept_all (take (min n 130) bytes) (omega (arith, length-take (min n 130) bytes)));
    }

module _ (p more bytes : List ℕ) (n i : ℕ) (k : Keeps p more bytes n i) where
  -- how much of the line there is so far
  done_far : min (length (p ++ take i more)) 130 ≡ min n 130
  done_far = omega (arith, k.places, ap length k.holds, length-take (min n 130) bytes, length-take 130 (p ++ take i more))

  pub keeps_more : i < length more → n < 130 → Keeps p more (set bytes n (get_or more i 0)) (n + 1) (i + 1)
  keeps_more h r =
      let x = get_or more i 0 in
      let l = p ++ take i more in
      let short : length l ≡ n = omega (arith, done_far) in
      let here : min n 130 ≡ n = omega arith in
      let next : min (n + 1) 130 ≡ suc n = omega arith in
      let line : p ++ take (i + 1) more ≡ l ++ x ∷ [] = rw (add-one i, take-suc more i 0 h) (sym (append_assoc p (take i more) (x ∷ []))) in
      let before : take n bytes ≡ l = ap (λ m. take m bytes) (sym here) ∙ k.holds ∙ kept_all l (omega arith) in
      record {
        inside = omega arith;
        places = length-set bytes n x ∙ k.places;
        holds = ap (λ m. take m (set bytes n x)) next
            ∙ take-suc-set bytes n x (omega (arith, k.places))
            ∙ ap (λ q. q ++ x ∷ []) before
            ∙ sym (ap kept line ∙ kept_all (l ++ x ∷ []) (omega (arith, length-append l (x ∷ []))));
      }

  -- no room is left
  pub keeps_full : 130 ≤ n → take 130 bytes ≡ kept (p ++ more)
  keeps_full h =
      let l = p ++ take i more in
      let here : min n 130 ≡ 130 = omega arith in
      let line : p ++ more ≡ l ++ drop i more = ap (λ m. p ++ m) (sym (take-append-drop i more)) ∙ sym (append_assoc p (take i more) (drop i more)) in
      ap (λ m. take m bytes) (sym here) ∙ k.holds ∙ sym (ap kept line ∙ take-append-le 130 l (drop i more) (omega (arith, done_far)))

  -- no bytes are left
  pub keeps_end : length more ≤ i → take (min n 130) bytes ≡ kept (p ++ more)
  keeps_end h = k.holds ∙ ap (λ m. kept (p ++ m)) (take_all i more h)
