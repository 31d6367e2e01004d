-- Splitting and joining by the columns of the table: what the call answers, and that every address and every pair has its row. Assumes nothing.
use Rattle.std.specs.Prelude.{Some, None}
use mathlib.Core.Path.{◌≡◌, refl, sym, ap, subst, ◌∙◌}
use mathlib.Core.Logic.{◌⊎◌, inl, inr, ◌↔◌}
use Prim.Native.Nat.{ℕ, ◌+◌, ◌-◌, ◌*◌, ◌/◌, ◌%◌, ◌^◌, ◌≤◌, ◌<◌}
use native.Mathlib.Decide.{dec_le, dec_lt}
use native.Mathlib.Omega.{arith}
use Rattle.address.specs.declared.Address.{Address}
use Rattle.address.specs.declared.Address.TheVariants.{V4, V6}
use Rattle.address.specs.declared.Refusal.TheVariants.{NoClass, HostTooLarge, WrongFamily}
use Rattle.address.specs.Addresses.{IsAddress, family, number}
use Rattle.address.specs.Answers.{Answer, gives, refuses, no_address}
use Rattle.classes.specs.Classes.{Class, class_a, class_b, class_c, network_class, hosts, split_answer, join_answer}
use Rattle.classes.specs.ClassTable.{SplitCall, in_class_a, in_class_b, in_class_c, bits_111, not_ipv4, Row, row_a, row_b, row_c, JoinCall, no_class, host_too_large_lem, joined}
use Rattle.classes.proofs.ClassLaws.{class_a_lem, class_b_lem, class_c_lem, class_none, split_class, split_none, split_6, network_a, network_b, network_c, network_ab, network_bc, network_above, join_none}
use Rattle.classes.proofs.JoinLaws as laws

-- ---- splitting

pub split_answers : {a : Address} {r : Answer (ℕ × ℕ)} → SplitCall a r → split_answer a ≡ r
split_answers (in_class_a {v} h) = sym (split_class v class_a (class_a_lem v (omega arith)))
split_answers (in_class_b {v} h) = sym (split_class v class_b (class_b_lem v (omega arith) (omega arith)))
split_answers (in_class_c {v} h) = sym (split_class v class_c (class_c_lem v (omega arith) (omega arith)))
split_answers (bits_111 {v} h) = sym (split_none v (class_none v (omega arith)))
split_answers (not_ipv4 {hi} {lo}) = sym (split_6 hi lo)

-- every address has its row
pub split_call : (a : Address) → IsAddress a → (r : Answer (ℕ × ℕ)) × SplitCall a r
split_call (V4 v) h = elim (dec_lt v 2147483648) [
  | yes a ↦ (gives (v / 2 ^ 24, v % 2 ^ 24), in_class_a {v = v} (omega arith))
  | no a ↦ elim (dec_lt v 3221225472) [
    | yes b ↦ (gives (v / 2 ^ 16, v % 2 ^ 16), in_class_b {v = v} (omega arith))
    | no b ↦ elim (dec_lt v 3758096384) [
      | yes c ↦ (gives (v / 2 ^ 8, v % 2 ^ 8), in_class_c {v = v} (omega arith))
      | no c ↦ (refuses (0, 0) NoClass, bits_111 {v = v} (omega arith))
    ]
  ]
]
split_call (V6 hi lo) h = (refuses (0, 0) WrongFamily, not_ipv4)

-- ---- joining

pub row_class : {n most : ℕ} → Row n most → (c : Class) × (network_class n ≡ Some c) × (c.host_most ≡ most)
row_class (row_a {n} h) = (class_a, network_a n h, refl)
row_class (row_b {n} l h) = (class_b, network_b n l h, refl)
row_class (row_c {n} l h) = (class_c, network_c n l h, refl)

-- a network number lies in one row at most
one_row : {n l m : ℕ} → Row n l → Row n m → l ≡ m
one_row r s = let c = row_class r in let d = row_class s in let same : c.0 ≡ d.0 = laws.some_same (sym c.1 ∙ d.1) in sym c.2 ∙ ap (λ x. x.host_most) same ∙ d.2

outside : {n m : ℕ} → Row n m → (n ≤ 127 → ⊥) → (32768 ≤ n → n ≤ 49151 → ⊥) → (12582912 ≤ n → n ≤ 14680063 → ⊥) → ⊥
outside (row_a h) a b c = a h
outside (row_b l h) a b c = b l h
outside (row_c l h) a b c = c l h

-- a network number has a row, or is of no class
row : (n : ℕ) → ((most : ℕ) × Row n most) ⊎ ((network_class n ≡ None) × ((most : ℕ) → Row n most → ⊥))
row n = elim (dec_le n 127) [
  | yes a ↦ inl (16777215, row_a a)
  | no a ↦ elim (dec_lt n 32768) [
    | yes b ↦ inr (network_ab n (omega arith) b, λ m r. outside r (λ k. omega arith) (λ k l. omega arith) (λ k l. omega arith))
    | no b ↦ elim (dec_le n 49151) [
      | yes c ↦ inl (65535, row_b {n = n} (omega arith) c)
      | no c ↦ elim (dec_lt n 12582912) [
        | yes d ↦ inr (network_bc n (omega arith) d, λ m r. outside r (λ k. omega arith) (λ k l. omega arith) (λ k l. omega arith))
        | no d ↦ elim (dec_le n 14680063) [
          | yes e ↦ inl (255, row_c {n = n} (omega arith) e)
          | no e ↦ inr (network_above n (omega arith), λ m r. outside r (λ k. omega arith) (λ k l. omega arith) (λ k l. omega arith))
        ]
      ]
    ]
  ]
]

pub join_answers : {n h : ℕ} {r : Answer Address} → JoinCall n h r → join_answer n h ≡ r
join_answers {n} {h} (no_class none-such) = elim (row n) [
  | inl r ↦ absurd (none-such r.0 r.1)
  | inr e ↦ sym (join_none n h e.0)
]
join_answers {n} {h} (host_too_large_lem {most} r l) = let c = row_class r in laws.too_large n h c.0 c.1 (omega (arith, c.2))
join_answers {n} {h} (joined {most} r l) = let c = row_class r in laws.joins n h c.0 c.1 (omega (arith, c.2)) ∙ ap (λ (m : ℕ). gives (V4 (n * (m + 1) + h))) c.2

pub join_call : (n h : ℕ) → (r : Answer Address) × JoinCall n h r
join_call n h = elim (row n) [
  | inl r ↦ elim (dec_le h r.0) [
    | yes l ↦ (gives (V4 (n * (r.0 + 1) + h)), joined r.1 l)
    | no l ↦ (refuses no_address HostTooLarge, host_too_large_lem r.1 (omega arith))
  ]
  | inr e ↦ (refuses no_address NoClass, no_class e.1)
]

-- ---- the numbers that are answered

abbrev SplitNumbers : Address → ℕ → Type 0
SplitNumbers a k =
    ((k ≡ 0) ↔ ((family a ≡ 4) × (number a / 2 ^ 29 ≡ 7 → ⊥)))
    × ((k ≡ 6) ↔ ((family a ≡ 4) × (number a / 2 ^ 29 ≡ 7)))
    × ((k ≡ 9) ↔ (family a ≡ 6))
    × ((k ≡ 0) ⊎ (k ≡ 6) ⊎ (k ≡ 9))

pub split_number : (a : Address) → IsAddress a → SplitNumbers a (split_answer a).number
split_number a h = let s = split_call a h in subst (SplitNumbers a) (ap (λ r. r.number) (sym (split_answers s.1))) (go s.1)
  where
    good : (v : ℕ) → (v / 2 ^ 29 ≡ 7 → ⊥) → SplitNumbers (V4 v) 0
    good v n = ((λ e. (refl, n), λ k. refl), (λ e. absurd (omega arith), λ k. absurd (n k.1)), (λ e. absurd (omega arith), λ k. absurd (omega arith)), inl refl)

    go : {a : Address} {r : Answer (ℕ × ℕ)} → SplitCall a r → SplitNumbers a r.number
    go (in_class_a {v} h) = good v λ k. omega arith
    go (in_class_b {v} h) = good v λ k. omega arith
    go (in_class_c {v} h) = good v λ k. omega arith
    go (bits_111 h) = ((λ e. absurd (omega arith), λ k. absurd (k.1 h)), (λ e. (refl, h), λ k. refl), (λ e. absurd (omega arith), λ k. absurd (omega arith)), inr (inl refl))
    go not_ipv4 = ((λ e. absurd (omega arith), λ k. absurd (omega (arith, k.0))), (λ e. absurd (omega arith), λ k. absurd (omega (arith, k.0))), (λ e. refl, λ k. refl), inr (inr refl))

abbrev JoinNumbers : ℕ → ℕ → ℕ → Type 0
JoinNumbers n h k =
    ((k ≡ 0) ↔ ((most : ℕ) × Row n most × (h ≤ most)))
    × ((k ≡ 6) ↔ ((most : ℕ) → Row n most → ⊥))
    × ((k ≡ 7) ↔ ((most : ℕ) × Row n most × (most < h)))
    × ((k ≡ 0) ⊎ (k ≡ 6) ⊎ (k ≡ 7))

pub join_number : (n h : ℕ) → JoinNumbers n h (join_answer n h).number
join_number n h = let s = join_call n h in subst (JoinNumbers n h) (ap (λ r. r.number) (sym (join_answers s.1))) (go s.1)
  where
    go : {r : Answer Address} → JoinCall n h r → JoinNumbers n h r.number
    go (no_class f) = ((λ e. absurd (omega arith), λ k. absurd (f k.0 k.1)), (λ e. f, λ k. refl), (λ e. absurd (omega arith), λ k. absurd (f k.0 k.1)), inr (inl refl))
    go (host_too_large_lem {most} r l) = (
      (λ e. absurd (omega arith), λ k. absurd (omega (arith, one_row r k.1, l, k.2))),
      (λ e. absurd (omega arith), λ k. absurd (k most r)),
      (λ e. (most, r, l), λ k. refl),
      inr (inr refl),
    )
    go (joined {most} r l) = (
      (λ e. (most, r, l), λ k. refl),
      (λ e. absurd (omega arith), λ k. absurd (k most r)),
      (λ e. absurd (omega arith), λ k. absurd (omega (arith, one_row r k.1, l, k.2))),
      inl refl,
    )

-- ---- the columns

abbrev Agrees : Class → Type 0
Agrees c = (n : ℕ) → ((c.least ≤ n) × (n ≤ c.most)) ↔ (n / (2 ^ (32 - c.bits) / hosts c) ≡ c.first)

pub columns_agree : (c : Class) → (c ≡ class_a) ⊎ (c ≡ class_b) ⊎ (c ≡ class_c) → Agrees c
columns_agree c (inl e) = subst Agrees (sym e) (λ n. (λ h. omega arith, λ h. (omega arith, omega arith)))
columns_agree c (inr (inl e)) = subst Agrees (sym e) (λ n. (λ h. omega arith, λ h. (omega arith, omega arith)))
columns_agree c (inr (inr e)) = subst Agrees (sym e) (λ n. (λ h. omega arith, λ h. (omega arith, omega arith)))
