-- Which bytes a strict text holds: hex digits, dots and colons. Assumes nothing.
use Rattle.std.specs.Prelude.{Option, Some, None, option_map}
use mathlib.Core.Path.{◌≡◌, refl, subst}
use mathlib.Core.Bool.{Bool, true, false, cond}
use mathlib.Core.List.{List, [], ◌∷◌}
use Prim.Native.Nat.{ℕ, ◌+◌, ◌<◌}
use native.Mathlib.Omega.{arith}
use borrow.Author.Tests.{ltb-true}
use lib.Dec.{eqb, ltb, lit≤}
use lib.ListN.{length, take, drop}
use Rattle.notation.specs.BigEndian.{digits_of}
use Rattle.notation.specs.Pieces.{contains, split_on, Lacks, Each}
use Rattle.notation.specs.Options.{joined, single, or_else}
use Rattle.notation.proofs.OptionLaws.{impossible}
use Rattle.notation.proofs.SeparatedLaws.{lacks_append, lacks_split}
use Rattle.address.specs.declared.Address.{Address}
use Rattle.address.specs.declared.Address.TheVariants.{V4}
use Rattle.address_groups.specs.Groups.{groups_address}
use Rattle.digits.specs.Numerals.{digit_of, group_of}
use Rattle.digits.proofs.NumeralLaws.{no_digit, group_digits}
use Rattle.ipv4_text.specs.Dotted.{dotted_of}
use Rattle.ipv4_text.proofs.DottedLaws.{dotted_lacks}
use Rattle.ipv6_text.specs.EightGroups.{tail_of, pieces_of, side_of, gap_of, filled, eight, eight_of}
use Rattle.ipv6_text.proofs.GapLaws.{gap_text}
use Rattle.text.specs.Strict.{strict_of}

-- a byte that is no hex digit, no dot and no colon
module _ (b : ℕ) (digit : digit_of b ≡ 16) (dot : eqb 46 b ≡ false) (colon : eqb 58 b ≡ false) where
  group_lacks : (p : List ℕ) (x : ℕ) → group_of p ≡ Some x → Lacks b p
  group_lacks p x e = no_digit 16 b p (lit≤ tt) digit (group_digits p x e).0.all

  tail_lacks : (p gs : List ℕ) → tail_of p ≡ Some gs → Lacks b p
  unfolding tail_of
  tail_lacks p gs e = go (dotted_of p) refl e
    where
      go : (o : Option ℕ) → dotted_of p ≡ o → option_map (digits_of 65536 2) o ≡ Some gs → Lacks b p
      go None q k = impossible k
      go (Some v) q k = dotted_lacks b (omega (arith, digit)) dot p v q

  last_lacks : (dotted : Bool) (p gs : List ℕ) → or_else (single (group_of p)) (cond dotted (tail_of p) None) ≡ Some gs → Lacks b p
  last_lacks dotted p gs e = go (group_of p) refl dotted e
    where
      go : (o : Option ℕ) → group_of p ≡ o → (d : Bool) → or_else (single o) (cond d (tail_of p) None) ≡ Some gs → Lacks b p
      go (Some x) q d k = group_lacks p x q
      go None q true k = tail_lacks p gs k
      go None q false k = impossible k

  pieces_lack : (dotted : Bool) (ps : List (List ℕ)) (gs : List ℕ) → pieces_of dotted ps ≡ Some gs → Each (Lacks b) ps
  unfolding pieces_of
  pieces_lack dotted [] gs e = tt
  pieces_lack dotted (p ∷ []) gs e = (last_lacks dotted p gs e, tt)
  pieces_lack dotted (p ∷ q ∷ ps) gs e = go (group_of p) refl (pieces_of dotted (q ∷ ps)) refl e (pieces_lack dotted (q ∷ ps))
    where
      go : (o : Option ℕ) → group_of p ≡ o → (os : Option (List ℕ)) → pieces_of dotted (q ∷ ps) ≡ os → joined (single o) os ≡ Some gs
          → ((hs : List ℕ) → pieces_of dotted (q ∷ ps) ≡ Some hs → Each (Lacks b) (q ∷ ps)) → Lacks b p × Each (Lacks b) (q ∷ ps)
      go None f os r k ih = impossible k
      go (Some x) f None r k ih = impossible k
      go (Some x) f (Some hs) r k ih = (group_lacks p x f, ih hs r)

  side_lacks : (dotted : Bool) (t gs : List ℕ) → side_of dotted t ≡ Some gs → Lacks b t
  unfolding side_of contains
  side_lacks dotted [] gs e = refl
  side_lacks dotted (c ∷ t) gs e = lacks_split 58 b colon (c ∷ t) (pieces_lack dotted (split_on 58 (c ∷ t)) gs e)

  -- a text that lacks the byte on both sides of `::`
  gap_lacks : (t : List ℕ) → gap_of t < length t → Lacks b (take (gap_of t) t) → Lacks b (drop (gap_of t + 2) t) → Lacks b t
  unfolding contains
  gap_lacks t h l r = subst (Lacks b) (gap_text t h) (lacks_append b (take (gap_of t) t) (58 ∷ 58 ∷ drop (gap_of t + 2) t) l (rw colon r))

  eight_lacks : (t gs : List ℕ) → eight_of t ≡ Some gs → Lacks b t
  unfolding eight_of
  eight_lacks t gs e = go (ltb (gap_of t) (length t)) refl (side_of false (take (gap_of t) t)) refl (side_of true (drop (gap_of t + 2) t)) refl (side_of true t) refl e
    where
      go : (c : Bool) → ltb (gap_of t) (length t) ≡ c
          → (l : Option (List ℕ)) → side_of false (take (gap_of t) t) ≡ l
          → (r : Option (List ℕ)) → side_of true (drop (gap_of t + 2) t) ≡ r
          → (s : Option (List ℕ)) → side_of true t ≡ s
          → cond c (filled l r) (eight s) ≡ Some gs → Lacks b t
      go true c None p r q s u k = impossible k
      go true c (Some xs) p None q s u k = impossible k
      go true c (Some xs) p (Some ys) q s u k =
          gap_lacks t (ltb-true (gap_of t) (length t) c) (side_lacks false (take (gap_of t) t) xs p) (side_lacks true (drop (gap_of t + 2) t) ys q)
      go false c l p r q None u k = impossible k
      go false c l p r q (Some xs) u k = side_lacks true t xs u

  pub strict_lacks : (family : ℕ) (t : List ℕ) (a : Address) → strict_of family t ≡ Some a → Lacks b t
  unfolding strict_of
  strict_lacks family t a e = go (eqb family 6) (eqb family 4) (dotted_of t) refl (eight_of t) refl e
    where
      six : (p : Bool) (o : Option (List ℕ)) → eight_of t ≡ o → cond p None (option_map groups_address o) ≡ Some a → Lacks b t
      six true o q k = impossible k
      six false None q k = impossible k
      six false (Some gs) q k = eight_lacks t gs q

      go : (p q : Bool) (d : Option ℕ) → dotted_of t ≡ d → (o : Option (List ℕ)) → eight_of t ≡ o
          → or_else (cond p None (option_map V4 d)) (cond q None (option_map groups_address o)) ≡ Some a → Lacks b t
      go true q d r o u k = six q o u k
      go false q None r o u k = six q o u k
      go false q (Some v) r o u k = dotted_lacks b (omega (arith, digit)) dot t v r
