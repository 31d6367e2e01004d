-- An address and its two parts are of one class, so splitting and joining undo each other. Assumes nothing.
use Rattle.std.specs.Prelude.{Option, Some, None}
use mathlib.Core.Path.{◌≡◌, refl, sym, ap, ap₂, ◌∙◌}
use mathlib.Core.Bool.{Bool, true, false}
use mathlib.Core.List.{[], ◌∷◌}
use Prim.Native.Nat.{ℕ, ◌+◌, ◌*◌, ◌/◌, ◌%◌, ◌^◌, ◌≤◌, ◌<◌}
use native.Mathlib.Nat.{div-add-mod', mod-lt}
use native.Mathlib.Decide.{dec_le, dec_lt}
use native.Mathlib.Omega.{arith}
use borrow.Author.Tests.{le-ltb, lt-ltb, ltb-false}
use lib.Arith.{digits_div, digits_mod}
use lib.Dec.{ltb}
use Rattle.address.specs.declared.Address.{Address}
use Rattle.address.specs.declared.Address.TheVariants.{V4}
use Rattle.address.specs.declared.Refusal.TheVariants.{HostTooLarge}
use Rattle.address.specs.Answers.{precedence, answer, gives, refuses, refusal, missing, no_address}
use Rattle.classes.specs.Classes.{Class, class_a, class_b, class_c, class_of, network_class, hosts, network_host, host_too_large, host_address, split_answer, join_answer}
use Rattle.classes.proofs.ClassLaws.{class_a_lem, class_b_lem, class_c_lem, class_none, network_a, network_b, network_c, network_ab, network_bc, network_above, split_class, join_class}

pub some_same : {c d : Class} → Some c ≡ Some d → c ≡ d
some_same e = cc

none_some : {c : Class} → None ≡ Some c → ⊥
none_some e = let z : ◌≡◌ {A = ℕ} 0 1 = cc in omega arith

-- ---- one class

-- the network number of an address is of the address's class
pub network_same : (v : ℕ) (c : Class) → class_of v ≡ Some c → network_class (v / hosts c) ≡ Some c
network_same v c e = elim (dec_lt v 2147483648) [
  | yes a ↦ go class_a (class_a_lem v a) (network_a (v / 16777216) (omega arith))
  | no a ↦ elim (dec_lt v 3221225472) [
    | yes b ↦ go class_b (class_b_lem v (omega arith) b) (network_b (v / 65536) (omega arith) (omega arith))
    | no b ↦ elim (dec_lt v 3758096384) [
      | yes d ↦ go class_c (class_c_lem v (omega arith) d) (network_c (v / 256) (omega arith) (omega arith))
      | no d ↦ absurd (none_some (sym (class_none v (omega arith)) ∙ e))
    ]
  ]
]
  where
    go : (d : Class) → class_of v ≡ Some d → network_class (v / hosts d) ≡ Some d → network_class (v / hosts c) ≡ Some c
    go d p q = let s : d ≡ c = some_same (sym p ∙ e) in rw (← s) q

-- the address of a network number and a host number is of the network number's class
pub address_same : (n h : ℕ) (c : Class) → network_class n ≡ Some c → h ≤ c.host_most → (class_of (n * hosts c + h) ≡ Some c) × (n * hosts c + h < 2 ^ 32)
address_same n h c e l = elim (dec_le n 127) [
  | yes a ↦ go class_a (network_a n a) λ k. (class_a_lem (n * 16777216 + h) (omega arith), omega arith)
  | no a ↦ elim (dec_lt n 32768) [
    | yes b ↦ absurd (none_some (sym (network_ab n (omega arith) b) ∙ e))
    | no b ↦ elim (dec_le n 49151) [
      | yes d ↦ go class_b (network_b n (omega arith) d) λ k. (class_b_lem (n * 65536 + h) (omega arith) (omega arith), omega arith)
      | no d ↦ elim (dec_lt n 12582912) [
        | yes f ↦ absurd (none_some (sym (network_bc n (omega arith) f) ∙ e))
        | no f ↦ elim (dec_le n 14680063) [
          | yes g ↦ go class_c (network_c n (omega arith) g) λ k. (class_c_lem (n * 256 + h) (omega arith) (omega arith), omega arith)
          | no g ↦ absurd (none_some (sym (network_above n (omega arith)) ∙ e))
        ]
      ]
    ]
  ]
]
  where
    go : (d : Class) → network_class n ≡ Some d → (h ≤ d.host_most → (class_of (n * hosts d + h) ≡ Some d) × (n * hosts d + h < 2 ^ 32))
        → (class_of (n * hosts c + h) ≡ Some c) × (n * hosts c + h < 2 ^ 32)
    go d p q = let s : d ≡ c = some_same (sym p ∙ e) in rw (← s) (q (rw s l))

-- ---- there and back

pub joins : (n h : ℕ) (c : Class) → network_class n ≡ Some c → h ≤ c.host_most → join_answer n h ≡ gives (V4 (n * hosts c + h))
unfolding refusal
joins n h c e l = sym (join_class n h c e) ∙ rw (le-ltb c.host_most h l)

pub too_large : (n h : ℕ) (c : Class) → network_class n ≡ Some c → c.host_most < h → join_answer n h ≡ refuses no_address HostTooLarge
unfolding refusal
too_large n h c e l = sym (join_class n h c e) ∙ rw (lt-ltb c.host_most h l)

pub join_split : (v : ℕ) (c : Class) → class_of v ≡ Some c → join_answer (v / hosts c) (v % hosts c) ≡ gives (V4 v)
join_split v c e =
    joins (v / hosts c) (v % hosts c) c (network_same v c e) (let m : v % hosts c < hosts c = mod-lt v (omega arith) in omega arith)
    ∙ ap (λ x. gives (V4 x)) (div-add-mod' v (hosts c))

pub split_join : (n h : ℕ) (c : Class) → network_class n ≡ Some c → h ≤ c.host_most → split_answer (V4 (n * hosts c + h)) ≡ gives (n, h)
split_join n h c e l =
    let s : h < hosts c = omega arith in
    sym (split_class (n * hosts c + h) c (address_same n h c e l).0) ∙ ap₂ (λ x y. gives (x, y)) (digits_div n s) (digits_mod n s)

-- ---- what an answer says

-- a split address has a class
pub split_says : (v n h : ℕ) → split_answer (V4 v) ≡ gives (n, h) → (c : Class) × (class_of v ≡ Some c) × (v / hosts c ≡ n) × (v % hosts c ≡ h)
unfolding split_answer
split_says v n h e = go (class_of v) refl e
  where
    go : (o : Option Class) → class_of v ≡ o → answer (0, 0) (refusal precedence ((9, false) ∷ (6, missing o) ∷ [])) (network_host o v) ≡ gives (n, h)
        → (c : Class) × (class_of v ≡ Some c) × (v / hosts c ≡ n) × (v % hosts c ≡ h)
    go None p q = let z : ◌≡◌ {A = ℕ} 6 0 = ap (λ r. r.number) q in absurd (omega arith)
    go (Some c) p q = (c, p, ap (λ r. r.fields.0) q, ap (λ r. r.fields.1) q)

-- two numbers that join have a class, and the host number is in it
pub join_says : (n h : ℕ) (a : Address) → join_answer n h ≡ gives a → (c : Class) × (network_class n ≡ Some c) × (h ≤ c.host_most)
unfolding join_answer
join_says n h a e = go (network_class n) refl e
  where
    go : (o : Option Class) → network_class n ≡ o → answer no_address (refusal precedence ((6, missing o) ∷ (7, host_too_large o h) ∷ [])) (host_address o n h) ≡ gives a
        → (c : Class) × (network_class n ≡ Some c) × (h ≤ c.host_most)
    go None p q = let z : ◌≡◌ {A = ℕ} 6 0 = ap (λ r. r.number) q in absurd (omega arith)
    go (Some c) p q = (c, p, room (ltb c.host_most h) refl q)
      where
        room : (b : Bool) → ltb c.host_most h ≡ b → answer no_address (refusal precedence ((6, false) ∷ (7, b) ∷ [])) (host_address (Some c) n h) ≡ gives a → h ≤ c.host_most
        room true r k = let z : ◌≡◌ {A = ℕ} 7 0 = ap (λ r. r.number) k in absurd (omega arith)
        room false r k = ltb-false c.host_most h r
