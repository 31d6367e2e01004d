-- Network text that is written: the form has one text, and the writer's answers. Assumes nothing.
use mathlib.Core.Path.{◌≡◌, refl, sym, ap, ap₂, subst, subst₂, ◌∙◌}
use mathlib.Core.List.{List, ◌∷◌, ◌++◌, map}
use Prim.Native.Nat.{ℕ, zero, suc, ◌-◌, ◌*◌, ◌/◌, ◌^◌, ◌≤◌, ◌<◌, max}
use native.Mathlib.Decide.{dec_le}
use native.Mathlib.Omega.{arith}
use lib.Dec.{lit<}
use lib.ListN.{length, take, drop}
use lib.Pow.{split}
use lib.Seq.{length-take-le}
use Rattle.notation.specs.BigEndian.{digits_of}
use Rattle.notation.specs.Pieces.{separated}
use Rattle.notation.proofs.DigitLaws.{digits_length, digits_below, below_take}
use Rattle.address.specs.declared.Address.{Address}
use Rattle.address.specs.declared.Address.TheVariants.{V4, V6}
use Rattle.address.specs.declared.Refusal.TheVariants.{LengthTooLarge, WrongFamily}
use Rattle.address.specs.Addresses.{IsAddress, number}
use Rattle.address.specs.Answers.{Answer, write_answer, write_leaves}
use Rattle.address.proofs.AnswerLaws.{write_short, write_fits, write_none, write_other}
use Rattle.octets.specs.Octets.{octets}
use Rattle.octets.proofs.OctetLaws.{octets_4}
use Rattle.digits.specs.Numerals.{decimal}
use Rattle.digits.proofs.NumeralLaws.{decimal_part}
use Rattle.ipv4_text.proofs.PartLaws.{every_decimal}
use Rattle.ipv4_text.proofs.DottedLaws.{parts_spelling}
use Rattle.network.specs.NetworkText.{size_bytes, cleared, network_text, write_network_refusal}
use Rattle.network.proofs.TextLaws.{cleared_high, no_reason, write_6, write_large}
use Rattle.network.proofs.Claims.{cleared_bits, kept_bits, size_zero}
use Rattle.grammar.specs.NetworkForm.{DecimalParts, a·b·c·d, a·b·c, a·b, only_a, SizePart, RoundedUp, eighths, BitsCleared, clears, WrittenNetwork, first_bytes, size_0, NetworkWriting, wrong_family, size_above, text_above, written_network}
use Rattle.grammar.proofs.NumberLaws.{reads_size, size_spelling}
use Rattle.grammar.proofs.GivenLaws.{reads_parts, parts_spelling_4}

-- ---- the form has one text

-- the cleared number is the only one
cleared_is : {size v c : ℕ} → BitsCleared size v c → c ≡ cleared 32 size v
cleared_is (clears {size} {v} {c} h z) =
    let k = 32 - size in
    let same : c / 2 ^ k * 2 ^ k ≡ v / 2 ^ k * 2 ^ k = ap (λ (q : ℕ). q * 2 ^ k) h in
    omega (arith, split c k, cleared_high 32 size v)

octets_count : (n v : ℕ) → n ≤ 4 → length (take n (digits_of 256 4 v)) ≡ n
octets_count n v h = length-take-le n (digits_of 256 4 v) (omega (arith, digits_length 256 4 v))

-- octets in decimal with dots
octets_parts : (n v : ℕ) → 1 ≤ n → n ≤ 4 → DecimalParts (separated 46 (map decimal (take n (digits_of 256 4 v)))) (take n (digits_of 256 4 v))
octets_parts n v any most =
    let xs = take n (digits_of 256 4 v) in
    let long = octets_count n v most in
    let small = below_take 256 n (digits_of 256 4 v) (digits_below 256 (lit< tt) 4 v) in
    reads_parts (separated 46 (map decimal xs)) xs (parts_spelling (map decimal xs) xs (every_decimal xs small) (omega arith) (omega arith))

size_is : (size : ℕ) → size ≤ 32 → SizePart (decimal size) size
size_is size h = (reads_size 32 (decimal size) size (decimal_part 32 size h (omega arith))).0

-- the first n octets of a number, a slash and a size
abbrev text : ℕ → ℕ → ℕ → List ℕ
text n c size = separated 46 (map decimal (take n (digits_of 256 4 c))) ++ 47 ∷ decimal size

text_of : (v size n : ℕ) → 1 ≤ n → size_bytes size ≡ n → network_text v size ≡ text n (cleared 32 size v) size
unfolding network_text
text_of v size n any e = ap (λ (m : ℕ). text m (cleared 32 size v) size) (let k : max 1 (size_bytes size) ≡ n = omega arith in k)

pub text_written : (v size : ℕ) → v < 2 ^ 32 → size ≤ 32 → WrittenNetwork v size (network_text v size)
text_written v size small h = elim (dec_le size 0) [
  | yes z ↦
      let none_else : size ≡ 0 = omega arith in
      rw none_else (subst (WrittenNetwork v 0) (sym (size_zero v small)) size_0)
  | no z ↦
      let c = cleared 32 size v in
      let n = size_bytes size in
      let parts = subst (λ os. DecimalParts (separated 46 (map decimal (take n os))) (take n os)) (sym (octets_4 c)) (octets_parts n c (omega arith) (omega arith)) in
      let up : RoundedUp size n = eighths {size = size} {n = n} (omega arith) (omega arith) in
      let w = first_bytes (clears (kept_bits 32 size v) (cleared_bits 32 size v)) up parts (size_is size h) in
      subst (WrittenNetwork v size) (ap (λ os. separated 46 (map decimal (take n os)) ++ 47 ∷ decimal size) (octets_4 c) ∙ sym (text_of v size n (omega arith) refl)) w
]

parts_any : {t bs : List ℕ} → DecimalParts t bs → 1 ≤ length bs
parts_any (a·b·c·d g h i j) = omega arith
parts_any (a·b·c g h i) = omega arith
parts_any (a·b g h) = omega arith
parts_any (only_a g) = omega arith

-- some octets are more than none
any_octet : (n : ℕ) (os : List ℕ) → 1 ≤ length (take n os) → 1 ≤ n
any_octet zero os h = absurd (omega arith)
any_octet (suc n) os h = omega arith

pub written_text : {v size : ℕ} {t : List ℕ} → v < 2 ^ 32 → WrittenNetwork v size t → network_text v size ≡ t
written_text small (first_bytes {v} {c} {size} {n} {t} {u} cl (eighths h k) p s) =
    text_of v size n (any_octet n (octets (V4 c)) (parts_any p)) (omega arith)
    ∙ ap (λ (w : ℕ). text n w size) (sym (cleared_is cl))
    ∙ ap₂ (λ a b. a ++ 47 ∷ b) (ap (λ os. separated 46 (map decimal (take n os))) (sym (octets_4 c)) ∙ parts_spelling_4 p) (size_spelling s)
written_text small (size_0 {v}) = size_zero v small

-- ---- the call

module _ (a : Address) (size : ℕ) (old : List ℕ) where
  -- as the writer answers and leaves the buffer
  abbrev Does : Answer ℕ → List ℕ → Type 0
  Does r new = (write_answer (write_network_refusal a size) (network_text (number a) size) old ≡ r) × (write_leaves (write_network_refusal a size) (network_text (number a) size) old ≡ new)

both : {A B : Type 0} {a b : A} {x y : B} → (a ≡ b) × (x ≡ y) → (b ≡ a) × (y ≡ x)
both p = (sym p.0, sym p.1)

module _ (size : ℕ) (old : List ℕ) where
  -- with no reason of its own, the call answers and leaves what one that refuses by 3 alone does
  sized : (v : ℕ) → size ≤ 32 → {r : Answer ℕ} {new : List ℕ} → (r ≡ write_answer 0 (network_text v size) old) × (new ≡ write_leaves 0 (network_text v size) old)
      → (r ≡ write_answer (write_network_refusal (V4 v) size) (network_text v size) old) × (new ≡ write_leaves (write_network_refusal (V4 v) size) (network_text v size) old)
  sized v l = write_none (write_network_refusal (V4 v) size) (network_text v size) old ((no_reason (V4 v) size).1 (refl, l))

  ipv4_does : (v : ℕ) → v < 2 ^ 32 → {r : Answer ℕ} {new : List ℕ} → NetworkWriting (V4 v) size old r new → Does (V4 v) size old r new
  ipv4_does v small (wrong_family e) = absurd (omega arith)
  ipv4_does v small (size_above e l) = both (write_other (write_network_refusal (V4 v) size) (network_text v size) old LengthTooLarge (write_large v size l))
  ipv4_does v small (text_above {t} e l w m) =
      let is = written_text small w in
      both (sized v l (write_short (network_text v size) old (length t) (ap length is) m))
  ipv4_does v small (written_network {t} e l w m) =
      let is = written_text small w in
      both (sized v l (write_fits (network_text v size) old (length t) (ap length is) m (t ++ drop (length t) old) (ap (λ s. s ++ drop (length t) old) (sym is))))

pub call_does : (a : Address) → IsAddress a → (size : ℕ) (old : List ℕ) → {r : Answer ℕ} {new : List ℕ} → NetworkWriting a size old r new → Does a size old r new
call_does (V4 v) small size old c = ipv4_does size old v small c
call_does (V6 hi lo) is size old c = go c
  where
    go : {r : Answer ℕ} {new : List ℕ} → NetworkWriting (V6 hi lo) size old r new → Does (V6 hi lo) size old r new
    go (wrong_family e) = both (write_other (write_network_refusal (V6 hi lo) size) (network_text (number (V6 hi lo)) size) old WrongFamily (write_6 hi lo size))
    go (size_above e l) = absurd (omega arith)
    go (text_above e l w m) = absurd (omega arith)
    go (written_network e l w m) = absurd (omega arith)

pub does_call : (a : Address) → IsAddress a → (size : ℕ) (old : List ℕ)
    → NetworkWriting a size old (write_answer (write_network_refusal a size) (network_text (number a) size) old) (write_leaves (write_network_refusal a size) (network_text (number a) size) old)
does_call a is size old = go a is
  where
    of : (a : Address) → IsAddress a → {r : Answer ℕ} {new : List ℕ} → NetworkWriting a size old r new
        → NetworkWriting a size old (write_answer (write_network_refusal a size) (network_text (number a) size) old) (write_leaves (write_network_refusal a size) (network_text (number a) size) old)
    of a is c = let d = call_does a is size old c in subst₂ (NetworkWriting a size old) (sym d.0) (sym d.1) c

    go : (a : Address) → IsAddress a → NetworkWriting a size old (write_answer (write_network_refusal a size) (network_text (number a) size) old) (write_leaves (write_network_refusal a size) (network_text (number a) size) old)
    go (V4 v) small = elim (dec_le size 32) [
      | yes l ↦
          let w = text_written v size small l in
          elim (dec_le (length (network_text v size)) (length old)) [
            | yes m ↦ of (V4 v) small (written_network refl l w m)
            | no m ↦ of (V4 v) small (text_above refl l w (omega arith))
          ]
      | no l ↦ of (V4 v) small (size_above refl (omega arith))
    ]
    go (V6 hi lo) is = of (V6 hi lo) is (wrong_family refl)
