-- The four forms of document 003, and the limits of 01: the address of parts that have these numbers. Assumes nothing.
use Rattle.std.specs.Prelude.{Option, Some, None, option_map}
use mathlib.Core.Path.{◌≡◌, refl, ap, ◌∙◌}
use mathlib.Core.Bool.{Bool, true, false, cond}
use mathlib.Core.List.{List, [], ◌∷◌}
use Prim.Native.Nat.{ℕ, ◌+◌, ◌*◌, ◌^◌}
use native.Mathlib.Omega.{arith}
use lib.Dec.{ltb}
use Rattle.address.specs.declared.Address.{Address}
use Rattle.address.specs.declared.Address.TheVariants.{V4}
use Rattle.loose.specs.Loose.{octets_from}
use Rattle.loose.proofs.LooseLaws.{address_after, octets_last, octets_more}

-- the address of parts that have these numbers
abbrev pub address_of : List ℕ → Option Address
address_of xs = address_after 0 (octets_from 4 xs)

module _ (a : ℕ) where
  -- "a": "a 32-bit value", at most 4,294,967,295
  pub one_part : address_of (a ∷ []) ≡ cond (ltb a (2 ^ 32)) (Some (V4 a)) None
  one_part = octets_last 3 0 a ∙ ap (λ (n : ℕ). cond (ltb a (2 ^ 32)) (Some (V4 n)) None) (omega arith)

  -- the first of two or more
  first : (b : ℕ) (xs : List ℕ) → address_of (a ∷ b ∷ xs) ≡ cond (ltb a 256) (address_after a (octets_from 3 (b ∷ xs))) None
  first b xs = octets_more 3 0 a b xs ∙ ap (λ (v : ℕ). cond (ltb a 256) (address_after v (octets_from 3 (b ∷ xs))) None) (omega arith)

  module _ (b : ℕ) where
    -- "a.b": "Part b is interpreted as a 24-bit value that defines the rightmost three bytes", at most 16,777,215
    pub two_parts : address_of (a ∷ b ∷ []) ≡ cond (ltb a 256) (cond (ltb b (2 ^ 24)) (Some (V4 (a * 2 ^ 24 + b))) None) None
    two_parts = first b [] ∙ ap (λ o. cond (ltb a 256) o None) (octets_last 2 a b)

    module _ (c : ℕ) where
      -- "a.b.c": "Part c is interpreted as a 16-bit value that defines the rightmost two bytes", at most 65,535
      pub three_parts : address_of (a ∷ b ∷ c ∷ [])
          ≡ cond (ltb a 256) (cond (ltb b 256) (cond (ltb c (2 ^ 16)) (Some (V4 ((a * 256 + b) * 2 ^ 16 + c))) None) None) None
      three_parts = first b (c ∷ []) ∙ ap (λ o. cond (ltb a 256) o None) (octets_more 2 a b c [] ∙ ap (λ o. cond (ltb b 256) o None) (octets_last 1 (a * 256 + b) c))

      module _ (d : ℕ) where
        -- "a.b.c.d": "Each of the four numeric parts specifies a byte"
        pub four_parts : address_of (a ∷ b ∷ c ∷ d ∷ [])
            ≡ cond (ltb a 256) (cond (ltb b 256) (cond (ltb c 256) (cond (ltb d 256) (Some (V4 (((a * 256 + b) * 256 + c) * 256 + d))) None) None) None) None
        four_parts =
            first b (c ∷ d ∷ [])
            ∙ ap (λ o. cond (ltb a 256) o None)
            (octets_more 2 a b c (d ∷ []) ∙ ap (λ o. cond (ltb b 256) o None) (octets_more 1 (a * 256 + b) c d [] ∙ ap (λ o. cond (ltb c 256) o None) (octets_last 0 ((a * 256 + b) * 256 + c) d)))

        -- "One to four parts"
        pub no_fifth : (e : ℕ) (xs : List ℕ) → address_of (a ∷ b ∷ c ∷ d ∷ e ∷ xs) ≡ None
        unfolding octets_from
        no_fifth e xs = go (ltb a 256) (ltb b 256) (ltb c 256) (ltb d 256)
          where
            with : ℕ → Bool → Option (List ℕ) → Option (List ℕ)
            with x p o = cond p (option_map (λ bs. x ∷ bs) o) None

            go : (p q r s : Bool) → address_after 0 (with a p (with b q (with c r (with d s None)))) ≡ None
            go true true true true = refl
            go true true true false = refl
            go true true false s = refl
            go true false r s = refl
            go false q r s = refl
