-- Network text: what the form has is what is read, and what reading answers and leaves in the buffer. Assumes nothing.
use Rattle.std.specs.Prelude.{Option, Some, None, option_map}
use mathlib.Core.Path.{◌≡◌, refl, sym, ap, subst, subst₂, ◌∙◌}
use mathlib.Core.Bool.{Bool, true, false, cond, ◌&&◌}
use mathlib.Core.List.{List, [], ◌∷◌, ◌++◌, append-nil}
use Prim.Native.Nat.{ℕ, suc, ◌+◌, ◌-◌, ◌*◌, ◌/◌, ◌≤◌, ◌<◌, max}
use native.Mathlib.Decide.{dec_le, dec_lt}
use native.Mathlib.Omega.{arith}
use borrow.Author.Tests.{le-leb, lt-leb, lt-ltb, le-ltb}
use lib.Dec.{leb}
use lib.ListN.{length, drop, replicate}
use Rattle.notation.specs.Pieces.{contains, index_of, Lacks}
use Rattle.notation.proofs.PieceLaws.{around}
use Rattle.notation.proofs.SeparatedLaws.{seam}
use Rattle.notation.proofs.OptionLaws.{impossible, nothing_there}
use Rattle.address.specs.declared.Refusal.TheVariants.{Malformed, LengthTooLarge, NoRoom}
use Rattle.address.specs.Answers.{Answer, answer, gives, refuses, refusal, write_refusal, write_leaves}
use Rattle.digits.specs.Numerals.{digit_of, part_of}
use Rattle.network.specs.GivenBytes.{given_of, zero_filled, before_slash}
use Rattle.network.specs.NetworkText.{size_bytes}
use Rattle.network.specs.Network.{Network, class_size, inferred_size, completed, sized, network_of, network_answer, network_leaves}
use Rattle.network.proofs.GivenLaws.{given_octets}
use Rattle.network.proofs.NetworkLaws.{answer_long, answer_stored}
use Rattle.grammar.specs.NetworkForm.{BytesGiven, FromFirstByte, 240-up, 224-up, 192-up, 128-up, else_8, InferredSize, becomes, below_8, no_less, RoundedUp, eighths, BytesWritten, as_given_lem, zeros_added, NetworkForm, with_size, without, NetworkCall, too_long, no_network_lem, too_large, no_room, read_network}
use Rattle.grammar.proofs.LengthLaws.{network_most}
use Rattle.grammar.proofs.NumberLaws.{size_reads, reads_size, size_999}
use Rattle.grammar.proofs.GivenLaws.{given_reads, reads_given}
use Rattle.grammar.proofs.ByteLaws.{given_lacks}

-- ---- the bytes written

abbrev filled : ℕ → List ℕ → List ℕ
filled size bs = zero_filled (max (length bs) (size_bytes size)) bs

written_is : {size : ℕ} {bs ws : List ℕ} → BytesWritten size bs ws → filled size bs ≡ ws
unfolding zero_filled
written_is (as_given_lem {size} {n} {bs} (eighths h k) l) =
    let z : max (length bs) ((size + 7) / 8) - length bs ≡ 0 = omega arith in
    ap (λ (m : ℕ). bs ++ replicate m 0) z ∙ append-nil bs
written_is (zeros_added {size} {n} {bs} (eighths h k) l) =
    let z : max (length bs) ((size + 7) / 8) - length bs ≡ n - length bs = omega arith in
    ap (λ (m : ℕ). bs ++ replicate m 0) z

is_written : (size : ℕ) (bs : List ℕ) → BytesWritten size bs (filled size bs)
is_written size bs =
    let r : RoundedUp size (size_bytes size) = eighths {size = size} {n = size_bytes size} (omega arith) (omega arith) in
    elim (dec_le (size_bytes size) (length bs)) [
      | yes l ↦ let w : BytesWritten size bs bs = as_given_lem r l in subst (BytesWritten size bs) (sym (written_is w)) w
      | no l ↦ let w : BytesWritten size bs (bs ++ replicate (size_bytes size - length bs) 0) = zeros_added {n = size_bytes size} {bs = bs} r (omega arith) in subst (BytesWritten size bs) (sym (written_is w)) w
    ]

-- ---- the size

pub first_is : {b size : ℕ} → FromFirstByte b size → class_size b ≡ size
unfolding class_size
first_is (240-up {b} h) = rw (le-leb 240 b h)
first_is (224-up {b} h l) = rw (lt-leb 240 b l, le-leb 224 b h)
first_is (192-up {b} h l) = rw (lt-leb 240 b (omega arith), lt-leb 224 b l, le-leb 192 b h)
first_is (128-up {b} h l) = rw (lt-leb 240 b (omega arith), lt-leb 224 b (omega arith), lt-leb 192 b l, le-leb 128 b h)
first_is (else_8 {b} l) = rw (lt-leb 240 b (omega arith), lt-leb 224 b (omega arith), lt-leb 192 b (omega arith), lt-leb 128 b l)

is_first : (b : ℕ) → FromFirstByte b (class_size b)
is_first b = elim (dec_le 240 b) [
  | yes h ↦ of (240-up h)
  | no h ↦ elim (dec_le 224 b) [
    | yes i ↦ of (224-up {b = b} i (omega arith))
    | no i ↦ elim (dec_le 192 b) [
      | yes j ↦ of (192-up {b = b} j (omega arith))
      | no j ↦ elim (dec_le 128 b) [ yes k ↦ of (128-up {b = b} k (omega arith)) | no k ↦ of (else_8 {b = b} (omega arith)) ]
    ]
  ]
]
  where
    of : {size : ℕ} → FromFirstByte b size → FromFirstByte b (class_size b)
    of f = subst (FromFirstByte b) (sym (first_is f)) f

inferred_is : {bs : List ℕ} {size : ℕ} → InferredSize bs size → inferred_size bs ≡ size
unfolding inferred_size
inferred_is (becomes {b} {size} {bs} f h k) = rw (first_is f, le-leb 8 size h, lt-ltb size (8 * suc (length bs)) k)
inferred_is (below_8 {b} {size} {bs} f h) = rw (first_is f, lt-leb 8 size h)
inferred_is (no_less {b} {size} {bs} f h) = rw (first_is f, le-ltb size (8 * suc (length bs)) h) (go (leb 8 size))
  where
    go : (p : Bool) → cond (p && false) (8 * suc (length bs)) size ≡ size
    go true = refl
    go false = refl

is_inferred : (bs : List ℕ) → 0 < length bs → InferredSize bs (inferred_size bs)
is_inferred [] h = absurd (omega arith)
is_inferred (b ∷ bs) h =
    let f = is_first b in
    let size = class_size b in
    elim (dec_lt size 8) [
      | yes k ↦ of (below_8 f k)
      | no k ↦ elim (dec_lt size (8 * suc (length bs))) [
        | yes l ↦ of (becomes f (omega arith) l)
        | no l ↦ of (no_less f (omega arith))
      ]
    ]
  where
    of : {size : ℕ} → InferredSize (b ∷ bs) size → InferredSize (b ∷ bs) (inferred_size (b ∷ bs))
    of f = subst (InferredSize (b ∷ bs)) (sym (inferred_is f)) f

-- ---- the form

abbrev meant : ℕ → List ℕ → Network
meant size ws = record { size = size; bytes = ws }

completed_is : {size : ℕ} {bs ws : List ℕ} → BytesWritten size bs ws → completed size bs ≡ meant size ws
unfolding completed
completed_is {size} w = ap (meant size) (written_is w)

-- no slash stands before the size
no_slash : {t bs : List ℕ} → BytesGiven t bs → Lacks 47 t
unfolding digit_of
no_slash g = given_lacks 47 refl refl refl refl g

pub network_reads : {t ws : List ℕ} {size : ℕ} → NetworkForm t size ws → network_of t ≡ Some (record { size = size; bytes = ws })
unfolding network_of
network_reads (with_size {t} {u} {bs} {ws} {size} g p w) =
    let s = seam 47 t u (no_slash g) in
    rw (s.0, s.1, s.2, given_reads g, size_reads 999 p (size_999 p)) (ap Some (completed_is w))
network_reads (without {t} {bs} {ws} {size} g i w) = rw (no_slash g, given_reads g, inferred_is i) (ap Some (completed_is w))

sized_says : (o : Option ℕ) (g : Option (List ℕ)) (n : Network) → sized o g ≡ Some n → (size : ℕ) × (bs : List ℕ) × (o ≡ Some size) × (g ≡ Some bs) × (completed size bs ≡ n)
sized_says None g n e = impossible e
sized_says (Some size) None n e = impossible e
sized_says (Some size) (Some bs) n e = (size, bs, refl, refl, cc)

abbrev Form : List ℕ → Network → Type 0
Form t n = NetworkForm t n.size n.bytes

same_size : (bs : List ℕ) (o : Option (List ℕ)) (size : ℕ) → o ≡ Some bs → option_map inferred_size o ≡ Some size → inferred_size bs ≡ size
same_size bs None size e f = impossible e
same_size bs (Some cs) size e f = let is : cs ≡ bs = cc in ap inferred_size (sym is) ∙ (let g : inferred_size cs ≡ size = cc in g)

module _ (t : List ℕ) (n : Network) where
  slash_form : contains 47 t ≡ true → sized (part_of 999 (drop (suc (index_of 47 t)) t)) (given_of (before_slash t)) ≡ Some n → Form t n
  unfolding completed
  slash_form q k =
      let behind = drop (suc (index_of 47 t)) t in
      let s = sized_says (part_of 999 behind) (given_of (before_slash t)) n k in
      let size = s.0 in
      let bs = s.1 in
      let f = with_size (reads_given (before_slash t) bs s.3) (reads_size 999 behind size s.2).0 (is_written size bs) in
      subst (Form t) s.4 (subst (λ u. NetworkForm u size (filled size bs)) (around 47 t q) f)

  whole_form : sized (option_map inferred_size (given_of t)) (given_of t) ≡ Some n → Form t n
  unfolding completed
  whole_form k =
      let s = sized_says (option_map inferred_size (given_of t)) (given_of t) n k in
      let size = s.0 in
      let bs = s.1 in
      let is = same_size bs (given_of t) size s.3 s.2 in
      let i = subst (InferredSize bs) is (is_inferred bs (given_octets t bs s.3).any) in
      subst (Form t) s.4 (without (reads_given t bs s.3) i (is_written size bs))

  pub reads_network : network_of t ≡ Some n → NetworkForm t n.size n.bytes
  unfolding network_of
  reads_network e = go (contains 47 t) refl e
    where
      go : (p : Bool) → contains 47 t ≡ p
          → cond p (sized (part_of 999 (drop (suc (index_of 47 t)) t)) (given_of (before_slash t))) (sized (option_map inferred_size (given_of t)) (given_of t)) ≡ Some n → Form t n
      go true q k = slash_form q k
      go false q k = whole_form k

-- ---- the call

module _ (t old : List ℕ) where
  -- as a call answers and leaves the buffer
  abbrev Does : Answer (ℕ × ℕ) → List ℕ → Type 0
  Does r new = (network_answer t old ≡ r) × (network_leaves t old ≡ new)

  does_malformed : length t ≤ 64 → network_of t ≡ None → Does (refuses (0, 0) Malformed) old
  unfolding network_answer network_leaves
  does_malformed short h = let e = le-ltb 64 (length t) short in (rw (h, e), rw (h, e))

  module _ {size : ℕ} {ws : List ℕ} (f : NetworkForm t size ws) where
    short : length t ≤ 64
    short = omega (arith, network_most f)

    does_large : 32 < size → Does (refuses (0, 0) LengthTooLarge) old
    unfolding network_answer network_leaves
    does_large l =
        let e = le-ltb 64 (length t) short in
        let g = lt-ltb 32 size l in
        (rw (network_reads f, e, g), rw (network_reads f, e, g))

    module _ (small : size ≤ 32) where
      stored : (answer (0, 0) (write_refusal 0 ws old) (size, length ws) ≡ network_answer t old) × (write_leaves 0 ws old ≡ network_leaves t old)
      stored = answer_stored t old short (meant size ws) (network_reads f) small

      does_short : length old < length ws → Does (refuses (0, 0) NoRoom) old
      unfolding refusal write_leaves
      does_short l = let e = lt-ltb (length old) (length ws) l in (sym stored.0 ∙ rw e, sym stored.1 ∙ rw e)

      does_store : length ws ≤ length old → Does (gives (size, length ws)) (ws ++ drop (length ws) old)
      unfolding refusal write_leaves
      does_store l = let e = le-ltb (length old) (length ws) l in (sym stored.0 ∙ rw e, sym stored.1 ∙ rw e)

  pub call_does : {r : Answer (ℕ × ℕ)} {new : List ℕ} → NetworkCall t old r new → (network_answer t old ≡ r) × (network_leaves t old ≡ new)
  call_does (too_long h) = let a = answer_long t old h in (sym a.0, sym a.1)
  call_does (no_network_lem l n) = does_malformed l (nothing_there (network_of t) (λ m e. n m.size m.bytes (reads_network t m e)))
  call_does (too_large f h) = does_large f h
  call_does (no_room f h k) = does_short f h k
  call_does (read_network f h k) = does_store f h k

  of : {r : Answer (ℕ × ℕ)} {new : List ℕ} → NetworkCall t old r new → NetworkCall t old (network_answer t old) (network_leaves t old)
  of c = let d = call_does c in subst₂ (NetworkCall t old) (sym d.0) (sym d.1) c

  pub does_call : NetworkCall t old (network_answer t old) (network_leaves t old)
  does_call = elim (dec_le (length t) 64) [ yes l ↦ go l (network_of t) refl | no l ↦ of (too_long (omega arith)) ]
    where
      found : {size : ℕ} {ws : List ℕ} → NetworkForm t size ws → NetworkCall t old (network_answer t old) (network_leaves t old)
      found {size} {ws} f = elim (dec_le size 32) [
        | yes h ↦ elim (dec_le (length ws) (length old)) [ yes k ↦ of (read_network f h k) | no k ↦ of (no_room f h (omega arith)) ]
        | no h ↦ of (too_large f (omega arith))
      ]

      go : length t ≤ 64 → (o : Option Network) → network_of t ≡ o → NetworkCall t old (network_answer t old) (network_leaves t old)
      go l None q = of (no_network_lem l (λ size ws f. impossible (sym q ∙ network_reads f)))
      go l (Some n) q = found (reads_network t n q)
