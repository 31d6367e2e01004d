-- What 01, "Classes", and demand 2 ask of splitting and joining. Assumes nothing.
use Rattle.address.specs.declared.Refusal.{Refusal}
use Rattle.std.specs.Prelude.{Some, Result}
use mathlib.Core.Logic.{◌⊎◌, ◌↔◌}
use mathlib.Core.Path.{◌≡◌, refl, sym, ap, ap₂, subst, ◌∙◌}
use Prim.Native.Nat.{ℕ, ◌+◌, ◌-◌, ◌*◌, ◌/◌, ◌%◌, ◌^◌, ◌≤◌, ◌<◌}
use native.Mathlib.Decide.{dec_lt}
use native.Mathlib.Omega.{arith}
use Rattle.address.specs.declared.Address.{Address}
use Rattle.address.specs.declared.Address.TheVariants.{V4, V6}
use Rattle.address.specs.declared.Refusal.TheVariants.{NoClass}
use Rattle.address.specs.Addresses.{IsAddress, family, number}
use Rattle.address.specs.Answers.{Answer, gives, refuses}
use Rattle.address.proofs.Claims.{one_result}
use Rattle.classes.specs.Classes.{Class, class_a, class_b, class_c, class_of, network_class, hosts, split_answer, splitting_answer, join_answer}
use Rattle.classes.specs.ClassTable.{SplitCall, bits_111, Row, JoinCall}
use Rattle.classes.proofs.ClassLaws.{class_a_lem, class_b_lem, class_c_lem, split_class}
use Rattle.classes.proofs.JoinLaws as laws
use Rattle.classes.proofs.TableLaws.{split_answers, split_call, join_answers, join_call}
use Rattle.classes.proofs.TableLaws as table

-- ---- there and back

-- "join of split is the address"
pub join_of_split : (a : Address) (n h : ℕ) → split_answer a ≡ gives (n, h) → join_answer n h ≡ gives a
unfolding split_answer
join_of_split (V4 v) n h e = let s = laws.split_says v n h e in ap₂ join_answer (sym s.2) (sym s.3) ∙ laws.join_split v s.0 s.1
join_of_split (V6 hi lo) n h e = let z : ◌≡◌ {A = ℕ} 9 0 = ap (λ r. r.number) e in absurd (omega arith)

-- Demand 2: "every pair that joins splits back to itself", and what it joins to is an address.
pub split_of_join : (n h : ℕ) (a : Address) → join_answer n h ≡ gives a → IsAddress a × (split_answer a ≡ gives (n, h))
split_of_join n h a e =
    let s = laws.join_says n h a e in
    let same : V4 (n * hosts s.0 + h) ≡ a = ap (λ r. r.fields) (sym (laws.joins n h s.0 s.1 s.2) ∙ e) in
    subst (λ b. IsAddress b × (split_answer b ≡ gives (n, h))) same ((laws.address_same n h s.0 s.1 s.2).1, laws.split_join n h s.0 s.1 s.2)

-- ---- the table by its first bits

-- A call answers what the table says, and nothing else.
pub split_exactly : (a : Address) → IsAddress a → (r : Answer (ℕ × ℕ)) → (split_answer a ≡ r) ↔ SplitCall a r
split_exactly a h r = (λ e. let s = split_call a h in subst (SplitCall a) (sym (split_answers s.1) ∙ e) s.1, split_answers)

-- So there are three numbers. 0: "the address does not begin with 111", which is the premise of "join of split is the address".
pub split_number : (a : Address) → IsAddress a → let k = (split_answer a).number in
    ((k ≡ 0) ↔ ((family a ≡ 4) × (number a / 2 ^ 29 ≡ 7 → ⊥)))
    × ((k ≡ 6) ↔ ((family a ≡ 4) × (number a / 2 ^ 29 ≡ 7)))
    × ((k ≡ 9) ↔ (family a ≡ 6))
    × ((k ≡ 0) ⊎ (k ≡ 6) ⊎ (k ≡ 9))
split_number = table.split_number

-- "has a premise: the address does not begin with 111": all others split, by the class whose first bits they begin with
pub splits : (v : ℕ) → v < 2 ^ 32 → (v / 2 ^ 29 ≡ 7 → ⊥)
    → (c : Class) × (class_of v ≡ Some c) × (v / 2 ^ (32 - c.bits) ≡ c.first) × (split_answer (V4 v) ≡ gives (v / hosts c, v % hosts c))
splits v h d = elim (dec_lt v 2147483648) [
  | yes a ↦ let e = class_a_lem v a in (class_a, e, omega arith, sym (split_class v class_a e))
  | no a ↦ elim (dec_lt v 3221225472) [
    | yes b ↦ let e = class_b_lem v (omega arith) b in (class_b, e, omega arith, sym (split_class v class_b e))
    | no b ↦ elim (dec_lt v 3758096384) [
      | yes c ↦ let e = class_c_lem v (omega arith) c in (class_c, e, omega arith, sym (split_class v class_c e))
      | no c ↦ absurd (d (omega arith))
    ]
  ]
]

-- Refusal 6 of an IPv4 address exactly if it begins with 111.
pub no_split : (v : ℕ) → v < 2 ^ 32 → (split_answer (V4 v) ≡ refuses (0, 0) NoClass) ↔ (v / 2 ^ 29 ≡ 7)
no_split v h = (λ e. ((split_number (V4 v) h).1.0 (ap (λ r. r.number) e)).1, λ e. split_answers (bits_111 e))

-- ---- the class bits

-- "the class bits stay in it": the network number is of the address's class, and begins with the same first bits
pub class_stays : (v : ℕ) (c : Class) → class_of v ≡ Some c → network_class (v / hosts c) ≡ Some c
class_stays = laws.network_same

-- "the network number is whole bytes": one, two or three of four
pub whole_bytes : (hosts class_a ≡ 256 ^ 3) × (hosts class_b ≡ 256 ^ 2) × (hosts class_c ≡ 256 ^ 1)
whole_bytes = (refl, refl, refl)

-- The columns of the table agree: the network numbers of a class are those that begin with its first bits.
pub columns_agree : (c : Class) → (c ≡ class_a) ⊎ (c ≡ class_b) ⊎ (c ≡ class_c) → (n : ℕ)
    → ((c.least ≤ n) × (n ≤ c.most)) ↔ (n / (2 ^ (32 - c.bits) / hosts c) ≡ c.first)
columns_agree = table.columns_agree

-- ---- the table by its network numbers

-- A call answers what the table says, and nothing else.
pub join_exactly : (n h : ℕ) (r : Answer Address) → (join_answer n h ≡ r) ↔ JoinCall n h r
join_exactly n h r = (λ e. let s = join_call n h in subst (JoinCall n h) (sym (join_answers s.1) ∙ e) s.1, join_answers)

-- So there are three numbers.
pub join_number : (n h : ℕ) → let k = (join_answer n h).number in
    ((k ≡ 0) ↔ ((most : ℕ) × Row n most × (h ≤ most)))
    × ((k ≡ 6) ↔ ((most : ℕ) → Row n most → ⊥))
    × ((k ≡ 7) ↔ ((most : ℕ) × Row n most × (most < h)))
    × ((k ≡ 0) ⊎ (k ≡ 6) ⊎ (k ≡ 7))
join_number = table.join_number

-- A promise about the paper's answer fixes the code's answer.
pub one_splitting : (r s : Result (ℕ × ℕ) Refusal) → splitting_answer r ≡ splitting_answer s → r ≡ s
one_splitting = one_result (0, 0)
