-- Zeros behind the bytes given, and what the reader of networks answers. Assumes nothing.
use Rattle.std.specs.Prelude.{Option, Some, None, option_map}
use mathlib.Core.Path.{◌≡◌, refl, sym, ap, ap₂, ◌∙◌}
use mathlib.Core.Bool.{Bool, true, false, cond, ◌&&◌}
use mathlib.Core.List.{List, [], ◌∷◌, ◌++◌, append-nil}
use Prim.Native.Nat.{ℕ, zero, suc, ◌+◌, ◌-◌, ◌*◌, ◌/◌, ◌^◌, ◌≤◌, ◌<◌, max}
use native.Mathlib.Numerals.{add-one}
use native.Mathlib.Decide.{dec_le, dec_lt}
use native.Mathlib.Omega.{arith}
use borrow.Author.Tests.{lt-ltb, le-ltb, eq-eqb, ne_eqb}
use lib.Dec.{leb, ltb, eqb, lit<}
use lib.ListN.{length, take, drop, get_or, replicate, length-append, length-replicate, drop_of_length-le}
use lib.Seq.{length-take-le, take_all, take-append-add}
use Rattle.notation.specs.BigEndian.{AllBelow, digits_of, number_of}
use Rattle.notation.specs.Pieces.{index_of}
use Rattle.notation.proofs.DigitLaws.{digits_length, number_cons, number_lt, number_digits, below_append, zeros_below}
use Rattle.notation.proofs.PieceLaws.{index_contains, index_lacks}
use Rattle.notation.proofs.SliceLaws.{tail, to_end}
use Rattle.address.specs.declared.Refusal.{Refusal}
use Rattle.address.specs.declared.Refusal.TheVariants.{TextTooLong, Malformed, LengthTooLarge}
use Rattle.address.specs.Answers.{Answer, refusal_number, answer, gives, refuses, write_refusal, write_answer, write_leaves}
use Rattle.address.proofs.AnswerLaws.{write_fits}
use Rattle.address.proofs.Claims.{number_above_0}
use Rattle.digits.specs.Numerals.{part_of, as_leading}
use Rattle.digits.proofs.FirstPieceLaws.{as_number, as_nothing}
use Rattle.ipv4_text.proofs.DottedLaws.{Octets}
use Rattle.network.specs.GivenBytes.{given_of, zero_filled, before_slash, as_given}
use Rattle.network.specs.NetworkText.{size_bytes}
use Rattle.network.specs.Network.{Network, class_size, widened, inferred_size, completed, sized, network_of, network_answer, network_leaves}
use Rattle.network.proofs.GivenLaws.{given_octets, bytes_says, not_given_says}

-- ---- zeros behind bytes

take_zeros : (j m : ℕ) → j ≤ m → take {A = ℕ} j (replicate m 0) ≡ replicate j 0
take_zeros zero m h = refl
take_zeros (suc j) zero h = absurd (omega arith)
take_zeros (suc j) (suc m) h = ap (λ l. 0 ∷ l) (take_zeros j m (omega arith))

filled_length : (n : ℕ) (bs : List ℕ) → length bs ≤ n → length (zero_filled n bs) ≡ n
unfolding zero_filled
filled_length n bs h = omega (arith, length-append bs (replicate (n - length bs) 0), length-replicate {A = ℕ} (n - length bs) 0)

filled_take : (n m : ℕ) (bs : List ℕ) → length bs ≤ n → n ≤ m → take n (zero_filled m bs) ≡ zero_filled n bs
unfolding zero_filled
filled_take n m bs h k =
    let l = length bs in
    let e : n ≡ l + (n - l) = omega arith in
    ap (λ j. take j (zero_filled m bs)) e
    ∙ take-append-add bs (replicate (m - l) 0) (n - l)
    ∙ ap (λ zs. bs ++ zs) (take_zeros (n - l) (m - l) (omega arith))

module _ (bs : List ℕ) (b : Octets bs) where
  filled_below : AllBelow 256 (zero_filled 4 bs)
  unfolding zero_filled
  filled_below = below_append 256 bs (replicate (4 - length bs) 0) b.small (zeros_below 256 (4 - length bs) (lit< tt))

  filled_digits : digits_of 256 4 (number_of 256 (zero_filled 4 bs)) ≡ zero_filled 4 bs
  filled_digits =
      ap (λ (k : ℕ). digits_of 256 k (number_of 256 (zero_filled 4 bs))) (sym (filled_length 4 bs b.most))
      ∙ number_digits 256 (lit< tt) (zero_filled 4 bs) filled_below

  -- the bytes of a network are the first octets of the number
  filled_octets : (n : ℕ) → length bs ≤ n → n ≤ 4 → take n (digits_of 256 4 (number_of 256 (zero_filled 4 bs))) ≡ zero_filled n bs
  filled_octets n h k = ap (take n) filled_digits ∙ filled_take n 4 bs h k

-- the highest octet is the first byte
first_octet : (bs : List ℕ) → Octets bs → number_of 256 (zero_filled 4 bs) / 16777216 ≡ get_or bs 0 0
unfolding zero_filled
first_octet [] b = absurd (omega (arith, b.any))
first_octet (d ∷ ds) b =
    let rest = ds ++ replicate (4 - suc (length ds)) 0 in
    let long : length rest ≡ 3 = omega (arith, filled_length 4 (d ∷ ds) b.most) in
    let less = number_lt 256 rest (filled_below (d ∷ ds) b).1 in
    omega (arith, less, number_cons 256 d rest, ap (λ (k : ℕ). d * 256 ^ k) long, ap (λ (k : ℕ). 256 ^ k) long)

-- ---- the size

class_most : (b : ℕ) → class_size b ≤ 32
unfolding class_size
class_most b = go (leb 240 b) (leb 224 b) (leb 192 b) (leb 128 b)
  where
    go : (p q r s : Bool) → cond p 32 (cond q 4 (cond r 24 (cond s 16 8))) ≤ 32
    go true q r s = omega arith
    go false true r s = omega arith
    go false false true s = omega arith
    go false false false true = omega arith
    go false false false false = omega arith

pub inferred_most : (n b k size : ℕ) → n ≤ 4 → k ≡ class_size b → size ≡ widened n k → size ≤ 32
unfolding widened
inferred_most n b k size h e f = rw f (go (leb 8 k && ltb k (8 * n)))
  where
    go : (t : Bool) → cond t (8 * n) k ≤ 32
    go true = omega arith
    go false = rw e (class_most b)

-- ---- what a text means

sized_none : (o : Option ℕ) → sized o None ≡ None
sized_none None = refl
sized_none (Some n) = refl

module _ (t : List ℕ) (s : ℕ) (at : s ≡ index_of 47 t) where
  network_slash : s < length t → network_of t ≡ sized (part_of 999 (tail (s + 1) t)) (given_of (before_slash t))
  unfolding network_of
  network_slash l = rw (to_end (s + 1) t, add-one s, at, index_contains 47 t (omega arith))

  network_whole : length t ≤ s → network_of t ≡ sized (option_map inferred_size (given_of (before_slash t))) (given_of (before_slash t))
  unfolding network_of
  network_whole l = rw (take_all (index_of 47 t) t (omega arith), index_lacks 47 t (omega arith))

  network_no_size : (k : ℕ) → s < length t → None ≡ as_leading (part_of 999 (tail (s + 1) t)) k → network_of t ≡ None
  network_no_size k l h = network_slash l ∙ rw (as_nothing (part_of 999 (tail (s + 1) t)) k h)

  module _ (v n : ℕ) (h : Some (v, n, s) ≡ as_given (given_of (before_slash t)) (index_of 47 t)) where
    says : (bs : List ℕ) × (given_of (before_slash t) ≡ Some bs) × (v ≡ number_of 256 (zero_filled 4 bs)) × (n ≡ length bs) × (s ≡ index_of 47 t)
    says = bytes_says (given_of (before_slash t)) (index_of 47 t) v n s h

    -- the bytes given
    given : List ℕ
    given = says.0

    are_bytes : Octets given
    unfolding given
    are_bytes = given_octets (before_slash t) given says.1

    pub given_count : n ≤ 4
    unfolding given
    given_count = omega (arith, are_bytes.most, says.3)

    network_inferred : (k size : ℕ) → k ≡ class_size (v / 16777216) → size ≡ widened n k → length t ≤ s → network_of t ≡ Some (completed size given)
    unfolding given inferred_size
    network_inferred k size e f l =
        let first : v / 16777216 ≡ get_or given 0 0 = ap (λ (x : ℕ). x / 16777216) says.2 ∙ first_octet given are_bytes in
        let same : size ≡ inferred_size given = f ∙ ap₂ widened says.3 (e ∙ ap class_size first) in
        network_whole l ∙ ap (λ o. sized (option_map inferred_size o) o) says.1 ∙ ap (λ (k : ℕ). Some (completed k given)) (sym same)

    network_sized : (size k m : ℕ) → s < length t → Some (size, k) ≡ as_leading (part_of 999 (tail (s + 1) t)) m → network_of t ≡ Some (completed size given)
    unfolding given
    network_sized size k m l e = network_slash l ∙ ap₂ sized (as_number (part_of 999 (tail (s + 1) t)) size k m e).0 says.1

    -- the bytes of the network, as they are stored
    network_bytes : (size : ℕ) → size ≤ 32 → (completed size given).bytes ≡ take (max n (size_bytes size)) (digits_of 256 4 v)
    unfolding given completed
    network_bytes size k =
        let m = max (length given) (size_bytes size) in
        sym (ap₂ (λ (j x : ℕ). take (max j (size_bytes size)) (digits_of 256 4 x)) says.3 says.2 ∙ filled_octets given are_bytes m (omega arith) (omega (arith, are_bytes.most)))

    network_length : (size : ℕ) → length (completed size given).bytes ≡ max n (size_bytes size)
    unfolding given completed
    network_length size = filled_length (max (length given) (size_bytes size)) given (omega arith) ∙ ap (λ j. max j (size_bytes size)) (sym says.3)

network_not_given : (t : List ℕ) → None ≡ as_given (given_of (before_slash t)) (index_of 47 t) → network_of t ≡ None
network_not_given t h =
    let e = not_given_says (given_of (before_slash t)) (index_of 47 t) h in
    elim (dec_le (length t) (index_of 47 t)) [
      | yes l ↦ network_whole t (index_of 47 t) refl l ∙ rw e
      | no l ↦ network_slash t (index_of 47 t) refl (omega arith) ∙ rw e (sized_none (part_of 999 (tail (index_of 47 t + 1) t)))
    ]

-- ---- what is answered

module _ (t old : List ℕ) where
  pub answer_long : 64 < length t → (refuses (0, 0) TextTooLong ≡ network_answer t old) × (old ≡ network_leaves t old)
  unfolding network_answer network_leaves
  answer_long h = let e = lt-ltb 64 (length t) h in (rw e, rw e)

  module _ (short : length t ≤ 64) where
    answer_malformed : network_of t ≡ None → (refuses (0, 0) Malformed ≡ network_answer t old) × (old ≡ network_leaves t old)
    unfolding network_answer network_leaves
    answer_malformed h = let e = le-ltb 64 (length t) short in (rw (e, h), rw (e, h))

    module _ (n : Network) (h : network_of t ≡ Some n) where
      answer_large : 32 < n.size → (refuses (0, 0) LengthTooLarge ≡ network_answer t old) × (old ≡ network_leaves t old)
      unfolding network_answer network_leaves
      answer_large l =
          let e = le-ltb 64 (length t) short in
          let f = lt-ltb 32 n.size l in
          (rw (h, e, f), rw (h, e, f))

      pub answer_stored : n.size ≤ 32
          → (answer (0, 0) (write_refusal 0 n.bytes old) (n.size, length n.bytes) ≡ network_answer t old) × (write_leaves 0 n.bytes old ≡ network_leaves t old)
      unfolding network_answer network_leaves
      answer_stored l =
          let e = le-ltb 64 (length t) short in
          let f = le-ltb 32 n.size l in
          (rw (h, e, f), rw (h, e, f))

pub none_given : (t old : List ℕ) → length t ≤ 64 → None ≡ as_given (given_of (before_slash t)) (index_of 47 t) → (refuses (0, 0) Malformed ≡ network_answer t old) × (old ≡ network_leaves t old)
none_given t old short h = answer_malformed t old short (network_not_given t h)

-- the place that the reader of the bytes given answers is the slash
pub slash_at : (t : List ℕ) (v n s : ℕ) → Some (v, n, s) ≡ as_given (given_of (before_slash t)) (index_of 47 t) → s ≡ index_of 47 t
slash_at t v n s h = (bytes_says (given_of (before_slash t)) (index_of 47 t) v n s h).4

-- what the reader has found: the slash, a text that is not too long, and the bytes given
module _ (t : List ℕ) (s : ℕ) (at : s ≡ index_of 47 t) (old : List ℕ) (short : length t ≤ 64) where
  pub no_size : (k : ℕ) → s < length t → None ≡ as_leading (part_of 999 (tail (s + 1) t)) k → (refuses (0, 0) Malformed ≡ network_answer t old) × (old ≡ network_leaves t old)
  no_size k l h = answer_malformed t old short (network_no_size t s at k l h)

  module _ (v n : ℕ) (h : Some (v, n, s) ≡ as_given (given_of (before_slash t)) (index_of 47 t)) where
    -- as `store_network` answers it
    abbrev Stored : ℕ → Answer (ℕ × ℕ) → List ℕ → Type 0
    Stored size r new =
        (r ≡ answer (0, 0) (write_refusal 0 (take (max n (size_bytes size)) (digits_of 256 4 v)) old) (size, max n (size_bytes size)))
        × (new ≡ write_leaves 0 (take (max n (size_bytes size)) (digits_of 256 4 v)) old)

    network_stored : (size : ℕ) → network_of t ≡ Some (completed size (given t s at v n h)) → size ≤ 32 → (r : Answer (ℕ × ℕ)) (new : List ℕ) → Stored size r new → (r ≡ network_answer t old) × (new ≡ network_leaves t old)
    unfolding completed
    network_stored size e most r new p =
        let bytes = network_bytes t s at v n h size most in
        let count = network_length t s at v n h size in
        let a = answer_stored t old short (completed size (given t s at v n h)) e most in
        (p.0 ∙ ap₂ (λ bs k. answer (0, 0) (write_refusal 0 bs old) (size, k)) (sym bytes) (sym count) ∙ a.0, p.1 ∙ ap (λ bs. write_leaves 0 bs old) (sym bytes) ∙ a.1)

    pub inferred_stored : (k size : ℕ) → k ≡ class_size (v / 16777216) → size ≡ widened n k → length t ≤ s → (r : Answer (ℕ × ℕ)) (new : List ℕ) → Stored size r new → (r ≡ network_answer t old) × (new ≡ network_leaves t old)
    inferred_stored k size e f l = network_stored size (network_inferred t s at v n h k size e f l) (inferred_most n (v / 16777216) k size (given_count t s at v n h) e f)

    module _ (size k m : ℕ) (l : s < length t) (e : Some (size, k) ≡ as_leading (part_of 999 (tail (s + 1) t)) m) where
      pub sized_large : 32 < size → (refuses (0, 0) LengthTooLarge ≡ network_answer t old) × (old ≡ network_leaves t old)
      unfolding completed
      sized_large = answer_large t old short (completed size (given t s at v n h)) (network_sized t s at v n h size k m l e)

      pub sized_stored : size ≤ 32 → (r : Answer (ℕ × ℕ)) (new : List ℕ) → Stored size r new → (r ≡ network_answer t old) × (new ≡ network_leaves t old)
      sized_stored = network_stored size (network_sized t s at v n h size k m l e)

-- ---- what is stored

-- the larger of two numbers, by a test
pub larger : (m n : ℕ) → max m n ≡ cond (ltb m n) n m
larger m n = elim (dec_lt m n) [ yes h ↦ rw (lt-ltb m n h) (omega arith) | no h ↦ rw (le-ltb m n (omega arith)) (omega arith) ]

-- four octets fill an array of four
pub octets_stored : (v : ℕ) (old new : List ℕ) → length old ≡ 4 → new ≡ write_leaves 0 (digits_of 256 4 v) old → new ≡ digits_of 256 4 v
octets_stored v old new l e =
    let xs : List ℕ = digits_of 256 4 v in
    let fits = write_fits xs old 4 (digits_length 256 4 v) (omega arith) (xs ++ drop 4 old) refl in
    e ∙ sym fits.1 ∙ ap (λ r. xs ++ r) (drop_of_length-le old {i = 4} (omega arith)) ∙ append-nil xs

pub octets_front : (n v : ℕ) → n ≤ 4 → length (take n (digits_of 256 4 v)) ≡ n
octets_front n v h = length-take-le n (digits_of 256 4 v) (omega (arith, digits_length 256 4 v))

-- the same answer with the size before the number of bytes
module _ (size n : ℕ) (bytes old : List ℕ) (long : length bytes ≡ n) where
  abbrev refused : ℕ
  refused = write_refusal 0 bytes old

  pub store_wrote : (w : ℕ) → gives w ≡ write_answer 0 bytes old → gives {A = ℕ × ℕ} (size, w) ≡ answer (0, 0) (write_refusal 0 bytes old) (size, n)
  unfolding write_answer
  store_wrote w e =
      let number : 0 ≡ refused = ap (λ a. a.number) e in
      let test : eqb refused 0 ≡ true = eq-eqb refused 0 (sym number) in
      let count : w ≡ n = ap (λ a. a.fields) e ∙ ap (λ b. cond b (length bytes) 0) test ∙ long in
      let fields : ◌≡◌ {A = ℕ × ℕ} (size, w) (cond (eqb refused 0) (size, n) (0, 0)) = ap (λ (k : ℕ). (size, k)) count ∙ sym (ap (λ b. cond b (size, n) (0, 0)) test) in
      λ i. record { number = number i; fields = fields i }

  pub store_refused : (r : Refusal) → refuses 0 r ≡ write_answer 0 bytes old → refuses {A = ℕ × ℕ} (0, 0) r ≡ answer (0, 0) (write_refusal 0 bytes old) (size, n)
  unfolding write_answer
  store_refused r e =
      let number : refusal_number r ≡ refused = ap (λ a. a.number) e in
      let test : eqb refused 0 ≡ false = ne_eqb refused 0 (λ z. omega (arith, number, number_above_0 r)) in
      let fields : ◌≡◌ {A = ℕ × ℕ} (0, 0) (cond (eqb refused 0) (size, n) (0, 0)) = sym (ap (λ b. cond b (size, n) (0, 0)) test) in
      λ i. record { number = number i; fields = fields i }
