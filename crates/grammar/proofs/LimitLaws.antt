-- Loose text: the limits of its parts, the octets that they fill, and leading zeros. Assumes nothing.
use Rattle.std.specs.Prelude.{Some}
use mathlib.Core.Path.{◌≡◌, sym, subst, ◌∙◌}
use mathlib.Core.List.{List, [], ◌∷◌, ◌++◌}
use mathlib.Core.Logic.{◌↔◌}
use Prim.Native.Nat.{ℕ, suc, ◌+◌, ◌*◌, ◌/◌, ◌%◌, ◌^◌, ◌≤◌, ◌<◌}
use native.Mathlib.Omega.{arith}
use lib.ListN.{length, replicate}
use Rattle.notation.specs.Pieces.{separated}
use Rattle.notation.proofs.DigitLaws.{four_digits}
use Rattle.notation.proofs.EveryLaws.{Reads, done, more}
use Rattle.notation.proofs.OptionLaws.{impossible, same_value}
use Rattle.address.specs.declared.Address.{Address}
use Rattle.address.specs.declared.Address.TheVariants.{V4}
use Rattle.octets.specs.Octets.{octets}
use Rattle.octets.proofs.OctetLaws.{octets_4}
use Rattle.loose.specs.Loose.{loose_part, octets_from}
use Rattle.loose.proofs.LooseLaws.{address_after}
use Rattle.loose.proofs.FormLaws.{one_part, two_parts, three_parts, four_parts, no_fifth}
use Rattle.grammar.specs.Rfc3986.{HEXDIG, digit, x30-39, DigitString}
use Rattle.grammar.specs.LooseForm.{OCTDIG, x30-37, LoosePart, after_lower_0x, after_upper_0x, after_0, LooseForm, a·b·c·d, a·b·c, a·b, only_a}
use Rattle.grammar.proofs.DigitStringLaws.{same_16, zeros_before}
use Rattle.grammar.proofs.LoosePartLaws.{same_8, part_reads}
use Rattle.grammar.proofs.LooseFormLaws.{loose_pieces, form_reads, kept}

-- ---- limits

module _ {ps : List (List ℕ)} {xs : List ℕ} (r : Reads loose_part ps xs) (any : 0 < length ps) (v : Address) (h : LooseForm (separated 46 ps) v) where
  read_so : address_after 0 (octets_from 4 xs) ≡ Some v
  read_so = sym (loose_pieces r any) ∙ form_reads h

pub limit_1 : {s : List ℕ} {a : ℕ} → LoosePart s a → (v : Address) → LooseForm s v ↔ ((a ≤ 4294967295) × (v ≡ V4 a))
unfolding separated
limit_1 {s} {a} g v = (λ h. to h, λ k. subst (LooseForm s) (sym k.1) (only_a g k.0))
  where
    to : LooseForm s v → (a ≤ 4294967295) × (v ≡ V4 a)
    to h =
        let i = kept a (2 ^ 32) (Some (V4 a)) (sym (one_part a) ∙ read_so (more (part_reads g) done) (omega arith) v h) in
        (omega (arith, i.0), sym (same_value i.1))

pub limit_2 : {s t : List ℕ} {a b : ℕ} → LoosePart s a → LoosePart t b → (v : Address) → LooseForm (s ++ 46 ∷ t) v ↔ ((a ≤ 255) × (b ≤ 16777215) × (v ≡ V4 (a * 16777216 + b)))
unfolding separated
limit_2 {s} {t} {a} {b} f g v = (λ h. to h, λ k. subst (LooseForm (s ++ 46 ∷ t)) (sym k.2) (a·b f k.0 g k.1))
  where
    to : LooseForm (s ++ 46 ∷ t) v → (a ≤ 255) × (b ≤ 16777215) × (v ≡ V4 (a * 16777216 + b))
    to h =
        let i = kept a 256 _ (sym (two_parts a b) ∙ read_so (more (part_reads f) (more (part_reads g) done)) (omega arith) v h) in
        let j = kept b (2 ^ 24) _ i.1 in
        (omega (arith, i.0), omega (arith, j.0), sym (same_value j.1))

pub limit_3 : {s t u : List ℕ} {a b c : ℕ} → LoosePart s a → LoosePart t b → LoosePart u c → (v : Address)
    → LooseForm (s ++ 46 ∷ (t ++ 46 ∷ u)) v ↔ ((a ≤ 255) × (b ≤ 255) × (c ≤ 65535) × (v ≡ V4 ((a * 256 + b) * 65536 + c)))
unfolding separated
limit_3 {s} {t} {u} {a} {b} {c} e f g v = (λ h. to h, λ k. subst (LooseForm (s ++ 46 ∷ (t ++ 46 ∷ u))) (sym k.3) (a·b·c e k.0 f k.1 g k.2))
  where
    to : LooseForm (s ++ 46 ∷ (t ++ 46 ∷ u)) v → (a ≤ 255) × (b ≤ 255) × (c ≤ 65535) × (v ≡ V4 ((a * 256 + b) * 65536 + c))
    to h =
        let i = kept a 256 _ (sym (three_parts a b c) ∙ read_so (more (part_reads e) (more (part_reads f) (more (part_reads g) done))) (omega arith) v h) in
        let j = kept b 256 _ i.1 in
        let k = kept c (2 ^ 16) _ j.1 in
        (omega (arith, i.0), omega (arith, j.0), omega (arith, k.0), sym (same_value k.1))

pub limit_4 : {s t u w : List ℕ} {a b c d : ℕ} → LoosePart s a → LoosePart t b → LoosePart u c → LoosePart w d → (v : Address)
    → LooseForm (s ++ 46 ∷ (t ++ 46 ∷ (u ++ 46 ∷ w))) v ↔ ((a ≤ 255) × (b ≤ 255) × (c ≤ 255) × (d ≤ 255) × (v ≡ V4 (((a * 256 + b) * 256 + c) * 256 + d)))
unfolding separated
limit_4 {s} {t} {u} {w} {a} {b} {c} {d} e f g m v =
    (λ h. to h, λ k. subst (LooseForm (s ++ 46 ∷ (t ++ 46 ∷ (u ++ 46 ∷ w)))) (sym k.4) (a·b·c·d e k.0 f k.1 g k.2 m k.3))
  where
    to : LooseForm (s ++ 46 ∷ (t ++ 46 ∷ (u ++ 46 ∷ w))) v → (a ≤ 255) × (b ≤ 255) × (c ≤ 255) × (d ≤ 255) × (v ≡ V4 (((a * 256 + b) * 256 + c) * 256 + d))
    to h =
        let q = read_so (more (part_reads e) (more (part_reads f) (more (part_reads g) (more (part_reads m) done)))) (omega arith) v h in
        let i = kept a 256 _ (sym (four_parts a b c d) ∙ q) in
        let j = kept b 256 _ i.1 in
        let k = kept c 256 _ j.1 in
        let l = kept d 256 _ k.1 in
        (omega (arith, i.0), omega (arith, j.0), omega (arith, k.0), omega (arith, l.0), sym (same_value l.1))

pub limit_5 : {s t u w x : List ℕ} {a b c d e : ℕ} → LoosePart s a → LoosePart t b → LoosePart u c → LoosePart w d → LoosePart x e → (v : Address)
    → LooseForm (s ++ 46 ∷ (t ++ 46 ∷ (u ++ 46 ∷ (w ++ 46 ∷ x)))) v → ⊥
unfolding separated
limit_5 {a = a} {b = b} {c = c} {d = d} {e = e} f g h i j v l =
    let q = read_so (more (part_reads f) (more (part_reads g) (more (part_reads h) (more (part_reads i) (more (part_reads j) done))))) (omega arith) v l in
    impossible (sym (no_fifth a b c d e []) ∙ q)

-- ---- octets

octets_of : (v : ℕ) → v < 4294967296 → octets (V4 v) ≡ v / 16777216 ∷ v / 65536 % 256 ∷ v / 256 % 256 ∷ v % 256 ∷ []
octets_of v h = octets_4 v ∙ four_digits 256 v h (omega arith)

list_4 : {w x y z a b c d : ℕ} → w ≡ a → x ≡ b → y ≡ c → z ≡ d → w ∷ x ∷ y ∷ z ∷ [] ≡ a ∷ b ∷ c ∷ d ∷ []
list_4 e f g h = rw (e, f, g, h)

pub fill_1 : (a : ℕ) → a ≤ 4294967295 → octets (V4 a) ≡ a / 16777216 ∷ a / 65536 % 256 ∷ a / 256 % 256 ∷ a % 256 ∷ []
fill_1 a h = octets_of a (omega arith)

pub fill_2 : (a b : ℕ) → a ≤ 255 → b ≤ 16777215 → octets (V4 (a * 16777216 + b)) ≡ a ∷ b / 65536 ∷ b / 256 % 256 ∷ b % 256 ∷ []
fill_2 a b h k = octets_of (a * 16777216 + b) (omega arith) ∙ list_4 (omega arith) (omega arith) (omega arith) (omega arith)

pub fill_3 : (a b c : ℕ) → a ≤ 255 → b ≤ 255 → c ≤ 65535 → octets (V4 ((a * 256 + b) * 65536 + c)) ≡ a ∷ b ∷ c / 256 ∷ c % 256 ∷ []
fill_3 a b c h k l = octets_of ((a * 256 + b) * 65536 + c) (omega arith) ∙ list_4 (omega arith) (omega arith) (omega arith) (omega arith)

pub fill_4 : (a b c d : ℕ) → a ≤ 255 → b ≤ 255 → c ≤ 255 → d ≤ 255 → octets (V4 (((a * 256 + b) * 256 + c) * 256 + d)) ≡ a ∷ b ∷ c ∷ d ∷ []
fill_4 a b c d h k l m = octets_of (((a * 256 + b) * 256 + c) * 256 + d) (omega arith) ∙ list_4 (omega arith) (omega arith) (omega arith) (omega arith)

-- ---- leading zeros

pub one_value : {p : List ℕ} {m n : ℕ} → LoosePart p m → LoosePart p n → m ≡ n
one_value g h = let e = part_reads g in let f = part_reads h in cc

only : {p : List ℕ} {n : ℕ} → LoosePart p n → (m : ℕ) → LoosePart p m ↔ (m ≡ n)
only {p} g m = (λ h. one_value h g, λ e. subst (LoosePart p) (sym e) g)

module _ {t : List ℕ} {n : ℕ} (k : ℕ) where
  pub octal_zeros : DigitString 8 OCTDIG t n → (m : ℕ) → LoosePart (replicate (suc k) 48 ++ t) m ↔ (m ≡ n)
  octal_zeros g = only (after_0 (zeros_before same_8 (x30-37 {c = 48} (omega arith) (omega arith)) k g))

  hex_digits : DigitString 16 HEXDIG t n → DigitString 16 HEXDIG (replicate k 48 ++ t) n
  hex_digits g = zeros_before same_16 (digit (x30-39 {c = 48} (omega arith) (omega arith))) k g

  pub hex_zeros_lower_x : DigitString 16 HEXDIG t n → (m : ℕ) → LoosePart (48 ∷ 120 ∷ (replicate k 48 ++ t)) m ↔ (m ≡ n)
  hex_zeros_lower_x g = only (after_lower_0x (hex_digits g))

  pub hex_zeros_upper_x : DigitString 16 HEXDIG t n → (m : ℕ) → LoosePart (48 ∷ 88 ∷ (replicate k 48 ++ t)) m ↔ (m ≡ n)
  hex_zeros_upper_x g = only (after_upper_0x (hex_digits g))
