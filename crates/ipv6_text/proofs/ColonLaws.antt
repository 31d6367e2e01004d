-- An IPv4 text has no colon, and an IPv6 text has one. Assumes nothing.
use Rattle.std.specs.Prelude.{Option, Some, None, option_map}
use mathlib.Core.Path.{◌≡◌, refl, sym, ap, ◌∙◌}
use mathlib.Core.Bool.{Bool, true, false}
use mathlib.Core.List.{List, [], ◌∷◌, append-nil}
use Prim.Native.Nat.{ℕ, suc, ◌+◌}
use native.Mathlib.Omega.{arith}
use borrow.Author.Tests.{le-ltb}
use lib.Dec.{lit≤}
use lib.ListN.{length}
use Rattle.notation.specs.BigEndian.{digits_of}
use Rattle.notation.specs.Pieces.{contains, Lacks}
use Rattle.notation.specs.Options.{single, or_else}
use Rattle.notation.proofs.SeparatedLaws.{split_lacks}
use Rattle.digits.specs.Numerals.{digit_of, group_of}
use Rattle.ipv4_text.specs.Dotted.{dotted_of}
use Rattle.ipv4_text.proofs.DottedLaws.{dotted_lacks}
use Rattle.ipv6_text.specs.EightGroups.{pieces_of, gap_of, eight, eight_of}
use Rattle.ipv6_text.proofs.SpellingLaws.{gap_piece}

pub dotted_no_colon : (t : List ℕ) (v : ℕ) → dotted_of t ≡ Some v → contains 58 t ≡ false
unfolding digit_of
dotted_no_colon = dotted_lacks 58 (lit≤ tt) refl

pub colon_not_dotted : (t : List ℕ) → contains 58 t ≡ true → dotted_of t ≡ None
colon_not_dotted t h = go (dotted_of t) refl
  where
    go : (o : Option ℕ) → dotted_of t ≡ o → o ≡ None
    go None e = refl
    go (Some v) e = let z : ◌≡◌ {A = ℕ} 0 1 = cc (dotted_no_colon t v e) in absurd (omega arith)

-- one piece is one group, or two
last_few : (p : List ℕ) → eight (pieces_of true (p ∷ [])) ≡ None
unfolding pieces_of digits_of
last_few p = go (group_of p) (dotted_of p)
  where
    go : (o u : Option ℕ) → eight (or_else (single o) (option_map (digits_of 65536 2) u)) ≡ None
    go None None = refl
    go None (Some v) = refl
    go (Some x) u = refl

no_colon_not_eight : (t : List ℕ) → Lacks 58 t → eight_of t ≡ None
unfolding eight_of
no_colon_not_eight [] h = refl
no_colon_not_eight (c ∷ t) h =
    let gap : gap_of (c ∷ t) ≡ suc (length t) + gap_of [] = ap gap_of (sym (append-nil (c ∷ t))) ∙ gap_piece (c ∷ t) [] h in
    rw (le-ltb (gap_of (c ∷ t)) (suc (length t)) (omega arith), split_lacks 58 (c ∷ t) h) (last_few (c ∷ t))

pub eight_colon : (t gs : List ℕ) → eight_of t ≡ Some gs → contains 58 t ≡ true
eight_colon t gs e = go (contains 58 t) refl
  where
    go : (b : Bool) → contains 58 t ≡ b → b ≡ true
    go true h = refl
    go false h = let n = no_colon_not_eight t h in let z : ◌≡◌ {A = ℕ} 0 1 = cc in absurd (omega arith)
