-- What a second write leaves, into the rest of a buffer behind a first one. Assumes nothing.
use mathlib.Core.Path.{◌≡◌, sym, ap, ◌∙◌}
use mathlib.Core.List.{List, [], ◌++◌, append_assoc, append-nil}
use Prim.Native.Nat.{ℕ, ◌+◌, ◌-◌}
use native.Mathlib.Nat.{le_of_eq}
use borrow.Rule.Slice.PartMut.{put_mid, mid_of, post_of}
use lib.ListN.{length, take, drop, length-drop, drop_of_length-le}
use lib.Seq.{take_all, take_at, drop_at, drop-drop}

-- the rest of a buffer from n on, as a callee that is lent `&mut out[n..]` has it
pub rest : (n : ℕ) (xs : List ℕ) → mid_of n (length xs - n) xs ≡ drop n xs
rest n xs = take_all (length xs - n) (drop n xs) (le_of_eq (length-drop n xs))

pub rest_whole : (n : ℕ) (xs : List ℕ) → post_of n (length xs - n) xs ≡ []
rest_whole n xs = drop_of_length-le (drop n xs) (le_of_eq (length-drop n xs))

-- p was put at the start of xs, and then q behind it
pub put_behind : (n m : ℕ) (xs ys zs p q : List ℕ) → length p ≡ n → ys ≡ p ++ drop n xs → zs ≡ q ++ drop m (mid_of n (length ys - n) ys)
    → put_mid n (length ys - n) ys zs ≡ (p ++ q) ++ drop (n + m) xs
put_behind n m xs ys zs p q l e f =
    let front : take n ys ≡ p = ap (take n) e ∙ take_at p (drop n xs) n l in
    let back : drop n ys ≡ drop n xs = ap (drop n) e ∙ drop_at p (drop n xs) n l in
    let tail : zs ≡ q ++ drop (n + m) xs = f ∙ ap (λ t. q ++ drop m t) (rest n ys ∙ back) ∙ ap (λ t. q ++ t) (drop-drop m n xs) in
    ap (λ t. take n ys ++ (zs ++ t)) (rest_whole n ys) ∙ ap (λ t. take n ys ++ t) (append-nil zs ∙ tail) ∙ ap (λ t. t ++ (q ++ drop (n + m) xs)) front ∙ sym (append_assoc p q (drop (n + m) xs))
