-- What reading strict text answers, told by tests. Assumes nothing.
use Rattle.std.specs.Prelude.{Option, Some, None, option_map, ok_or}
use mathlib.Core.Path.{◌≡◌, refl, sym, ap, ◌∙◌}
use mathlib.Core.Bool.{true, false, not}
use mathlib.Core.List.{List, [], ◌∷◌}
use Prim.Native.Nat.{ℕ, ◌≤◌, ◌<◌}
use native.Mathlib.Decide.{dec_le}
use native.Mathlib.Omega.{arith}
use borrow.Author.Tests.{lt-ltb, le-ltb, ne_eqb}
use lib.ListN.{length}
use Rattle.notation.proofs.OptionLaws.{or_none}
use Rattle.notation.specs.Options.{or_else}
use Rattle.address.specs.declared.Address.{Address}
use Rattle.address.specs.declared.Address.TheVariants.{V4}
use Rattle.address.specs.declared.Refusal.TheVariants.{TextTooLong, WrongFamily, Malformed}
use Rattle.address.specs.Answers.{precedence, gives, refuses, no_address, reading_answer, read_answer}
use Rattle.address_groups.specs.Groups.{groups_address}
use Rattle.ipv4_text.specs.Dotted.{dotted_of}
use Rattle.ipv6_text.specs.EightGroups.{eight_of}
use Rattle.text.specs.Strict.{strict_of, known_family, strict_answer}

module _ (f : ℕ) (t : List ℕ) where
  pub strict_4 : f ≡ 4 → option_map V4 (dotted_of t) ≡ strict_of f t
  unfolding strict_of
  strict_4 e = rw e (sym (or_none (option_map V4 (dotted_of t))))

  pub strict_6 : f ≡ 6 → option_map groups_address (eight_of t) ≡ strict_of f t
  unfolding strict_of
  strict_6 e = rw e

  pub strict_0 : (f ≡ 4 → ⊥) → (f ≡ 6 → ⊥) → or_else (option_map V4 (dotted_of t)) (option_map groups_address (eight_of t)) ≡ strict_of f t
  unfolding strict_of
  strict_0 n m = rw (ne_eqb f 4 n, ne_eqb f 6 m)

  pub strict_unknown : known_family f ≡ false → refuses no_address WrongFamily ≡ strict_answer f t
  unfolding strict_answer read_answer
  strict_unknown k = rw k

  module _ (k : known_family f ≡ true) where
    pub strict_long : 64 < length t → refuses no_address TextTooLong ≡ strict_answer f t
    unfolding strict_answer read_answer
    strict_long l = rw (k, lt-ltb 64 (length t) l)

    pub strict_read : length t ≤ 64 → reading_answer (ok_or (strict_of f t) Malformed) ≡ strict_answer f t
    unfolding strict_answer read_answer
    strict_read l = rw (k, le-ltb 64 (length t) l) (go (strict_of f t))
      where
        go : (o : Option Address) → reading_answer (ok_or o Malformed) ≡ read_answer precedence no_address ((9, not true) ∷ (1, false) ∷ []) o
        go None = refl
        go (Some a) = refl

    -- what is read has a meaning, and is no longer than a text may be
    pub strict_gives : (a : Address) → strict_answer f t ≡ gives a → (length t ≤ 64) × (strict_of f t ≡ Some a)
    strict_gives a e = elim (dec_le (length t) 64) [
      | yes h ↦ (h, go (strict_of f t) (strict_read h ∙ e))
      | no n ↦ let z : ◌≡◌ {A = ℕ} 1 0 = ap (λ r. r.number) (strict_long (omega arith) ∙ e) in absurd (omega arith)
    ]
      where
        go : (o : Option Address) → reading_answer (ok_or o Malformed) ≡ gives a → o ≡ Some a
        go None q = let z : ◌≡◌ {A = ℕ} 2 0 = ap (λ r. r.number) q in absurd (omega arith)
        go (Some b) q = ap Some (ap (λ r. r.fields) q)

    -- and what has a meaning, and is no longer, is read
    pub gives_strict : (a : Address) → length t ≤ 64 → strict_of f t ≡ Some a → strict_answer f t ≡ gives a
    gives_strict a l e = sym (strict_read l) ∙ ap (λ o. reading_answer (ok_or o Malformed)) e
