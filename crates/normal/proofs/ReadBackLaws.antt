-- What a normal text is read as: its numbers, wherever `::` stands for zeros. Assumes nothing.
use Rattle.std.specs.Prelude.{Some}
use mathlib.Core.Path.{◌≡◌, refl, ap, ◌∙◌}
use mathlib.Core.Bool.{Bool, true, false, cond}
use mathlib.Core.List.{List, ◌∷◌, ◌++◌, map}
use Prim.Native.Nat.{ℕ, ◌+◌, ◌-◌, ◌≤◌}
use native.Mathlib.Omega.{arith}
use borrow.Author.Tests.{ltb-false}
use lib.Dec.{eqb, ltb, lit<, lit≤}
use lib.ListN.{length, take, drop, replicate, length-drop, take-append-drop}
use lib.Seq.{length-take-le, drop-drop}
use Rattle.notation.specs.BigEndian.{AllBelow, digits_of}
use Rattle.notation.specs.Pieces.{contains, Lacks}
use Rattle.notation.specs.Options.{every}
use Rattle.notation.proofs.DigitLaws.{digits_length, digits_below, below_take, below_drop}
use Rattle.notation.proofs.SeparatedLaws.{lacks_append}
use Rattle.notation.proofs.EveryLaws.{every_written}
use Rattle.address.specs.declared.Address.{Address}
use Rattle.address.specs.declared.Address.TheVariants.{V4, V6}
use Rattle.address.specs.Addresses.{IsAddress, family, number}
use Rattle.address.specs.Answers.{gives}
use Rattle.address_groups.specs.Groups.{groups_of, groups_address}
use Rattle.address_groups.proofs.Claims.{halves_of_groups}
use Rattle.digits.specs.Numerals.{digit_of, group_of, hex}
use Rattle.digits.proofs.NumeralLaws.{hex_group}
use Rattle.digits.proofs.SeparatedNumeralLaws.{numerals_lack}
use Rattle.ipv4_text.specs.Dotted.{dotted_text, dotted_of}
use Rattle.ipv4_text.proofs.DottedLaws.{dotted_back}
use Rattle.ipv6_text.specs.EightGroups.{eight_of}
use Rattle.ipv6_text.proofs.ColonLaws.{colon_not_dotted, eight_colon}
use Rattle.ipv6_text.proofs.SpellingLaws.{eight_spelling, gap_spelling}
use Rattle.text.specs.Strict.{strict_of, known_family, strict_answer}
use Rattle.text.proofs.StrictLaws.{gives_strict}
use Rattle.zero_runs.specs.Runs.{ZeroRun, longest_run, first_run}
use Rattle.zero_runs.proofs.RunLaws.{run_is}
use Rattle.normal.specs.Normal.{groups_text, shortened, normal_groups, normal_text}
use Rattle.normal.proofs.BoundLaws.{text_most}

-- ---- numbers, each written and read

every_hex : (gs : List ℕ) → AllBelow 65536 gs → every group_of (map hex gs) ≡ Some gs
every_hex = every_written 65536 group_of hex hex_group

-- ---- groups

module _ (gs : List ℕ) (long : length gs ≡ 8) (small : AllBelow 65536 gs) where
  pub groups_read : eight_of (groups_text gs) ≡ Some gs
  unfolding groups_text
  groups_read = eight_spelling (map hex gs) gs (every_hex gs small) long

  pub shortened_read : (s n : ℕ) → ZeroRun gs s n → 1 ≤ n → eight_of (shortened s n gs) ≡ Some gs
  unfolding shortened
  shortened_read s n r one =
      let xs = take s gs in
      let ys = drop (s + n) gs in
      let inside = r.inside in
      let lx : length xs ≡ s = length-take-le s gs (omega arith) in
      let ly : length ys ≡ 8 - (s + n) = omega (arith, length-drop (s + n) gs) in
      let count : 8 - (length xs + length ys) ≡ n = omega arith in
      let back : xs ++ (replicate n 0 ++ ys) ≡ gs = rw (← r.zeros, ← drop-drop n s gs, take-append-drop n (drop s gs), take-append-drop s gs) in
      gap_spelling (map hex xs) (map hex ys) xs ys (every_hex xs (below_take 65536 s gs small)) (every_hex ys (below_drop 65536 (s + n) gs small)) (omega arith)
      ∙ ap (λ (k : ℕ). Some (xs ++ (replicate k 0 ++ ys))) count
      ∙ ap Some back

  normal_read : eight_of (normal_groups gs) ≡ Some gs
  unfolding normal_groups
  normal_read = pick (ltb (longest_run gs) 2) refl
    where
      pick : (b : Bool) → ltb (longest_run gs) 2 ≡ b → eight_of (cond b (groups_text gs) (shortened (first_run (longest_run gs) gs) (longest_run gs) gs)) ≡ Some gs
      pick true q = groups_read
      pick false q = shortened_read (first_run (longest_run gs) gs) (longest_run gs) (run_is gs).run (omega (arith, ltb-false (longest_run gs) 2 q))

-- ---- addresses

-- a text of one family, read as that family and as either
module _ (t : List ℕ) where
  strict_4 : (v : ℕ) → dotted_of t ≡ Some v → (strict_of 0 t ≡ Some (V4 v)) × (strict_of 4 t ≡ Some (V4 v))
  unfolding strict_of
  strict_4 v e = (rw e, rw e)

  strict_6 : (gs : List ℕ) → eight_of t ≡ Some gs → (strict_of 0 t ≡ Some (groups_address gs)) × (strict_of 6 t ≡ Some (groups_address gs))
  unfolding strict_of
  strict_6 gs e = let n = colon_not_dotted t (eight_colon t gs e) in (rw (n, e), rw e)

pub text_read : (a : Address) → IsAddress a → (strict_of 0 (normal_text a) ≡ Some a) × (strict_of (family a) (normal_text a) ≡ Some a)
unfolding normal_text groups_of
text_read (V4 v) h = strict_4 (normal_text (V4 v)) v (dotted_back v h)
text_read (V6 hi lo) h =
    let n = number (V6 hi lo) in
    let read = strict_6 (normal_text (V6 hi lo)) (groups_of hi lo) (normal_read (groups_of hi lo) (digits_length 65536 8 n) (digits_below 65536 (lit< tt) 8 n)) in
    let back = ap Some (halves_of_groups hi lo h.0 h.1) in
    (read.0 ∙ back, read.1 ∙ back)

-- ---- answers

family_asked : (a : Address) → known_family (family a) ≡ true
family_asked (V4 v) = refl
family_asked (V6 hi lo) = refl

pub text_answer : (a : Address) → IsAddress a → (strict_answer 0 (normal_text a) ≡ gives a) × (strict_answer (family a) (normal_text a) ≡ gives a)
text_answer a h =
    let t = normal_text a in
    let short = text_most a in
    let read = text_read a h in
    (gives_strict 0 t refl a (omega arith) read.0, gives_strict (family a) t (family_asked a) a (omega arith) read.1)

-- ---- what no normal text holds

-- groups hold hex digits and colons alone
module _ (b : ℕ) (n : digit_of b ≡ 16) (d : eqb 58 b ≡ false) where
  groups_lack : (gs : List ℕ) → Lacks b (groups_text gs)
  unfolding groups_text
  groups_lack = numerals_lack 16 4 58 b (lit≤ tt) (lit< tt) (lit≤ tt) n d

  pub normal_lacks : (gs : List ℕ) → Lacks b (normal_groups gs)
  unfolding normal_groups shortened contains
  normal_lacks gs = pick (ltb (longest_run gs) 2) (first_run (longest_run gs) gs) (longest_run gs)
    where
      pick : (p : Bool) (s n : ℕ) → Lacks b (cond p (groups_text gs) (shortened s n gs))
      pick true s n = groups_lack gs
      pick false s n = lacks_append b (groups_text (take s gs)) (58 ∷ 58 ∷ groups_text (drop (s + n) gs)) (groups_lack (take s gs)) (rw d (groups_lack (drop (s + n) gs)))

-- no dot in IPv6 text
pub text_6_lacks : (hi lo : ℕ) → Lacks 46 (normal_text (V6 hi lo))
unfolding normal_text digit_of
text_6_lacks hi lo = normal_lacks 46 refl refl (groups_of hi lo)

-- and no slash in any
pub text_lacks_slash : (a : Address) → Lacks 47 (normal_text a)
unfolding normal_text dotted_text digit_of
text_lacks_slash (V4 v) = numerals_lack 10 3 46 47 (lit≤ tt) (lit< tt) (lit≤ tt) refl refl (digits_of 256 4 v)
text_lacks_slash (V6 hi lo) = normal_lacks 47 refl refl (groups_of hi lo)
