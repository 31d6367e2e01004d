-- Network text: sizes, the number of bytes, and what each answer says of the text. Assumes nothing.
use mathlib.Core.Path.{◌≡◌, refl, sym, ap, subst, ◌∙◌}
use mathlib.Core.List.{List, ◌∷◌}
use Prim.Native.Nat.{ℕ, ◌-◌, ◌≤◌, ◌<◌}
use native.Mathlib.Omega.{arith}
use lib.ListN.{length, replicate, length-append, length-replicate}
use Rattle.notation.proofs.OptionLaws.{same_value}
use Rattle.address.specs.declared.Refusal.TheVariants.{TextTooLong, Malformed, LengthTooLarge, NoRoom}
use Rattle.address.specs.Answers.{Answer, gives}
use Rattle.address.proofs.Claims.{gives_refuses}
use Rattle.ipv4_text.proofs.DottedLaws.{Octets}
use Rattle.network.specs.Network.{Network}
use Rattle.network.proofs.GivenLaws.{given_octets}
use Rattle.grammar.specs.NetworkForm.{BytesGiven, FromFirstByte, 240-up, 224-up, 192-up, 128-up, else_8, InferredSize, becomes, below_8, no_less, eighths, BytesWritten, as_given_lem, zeros_added, NetworkForm, with_size, without, NetworkCall, too_long, no_network_lem, too_large, no_room, read_network}
use Rattle.grammar.proofs.GivenLaws.{given_reads}
use Rattle.grammar.proofs.NetworkFormLaws.{first_is, network_reads}

-- ---- one meaning

pub same_network : {t ws xs : List ℕ} {m n : ℕ} → NetworkForm t m ws → NetworkForm t n xs → (m ≡ n) × (ws ≡ xs)
same_network {t} {ws} {xs} {m} {n} f g = (ap (λ (k : Network). k.size) same, ap (λ (k : Network). k.bytes) same)
  where
    same : ◌≡◌ {A = Network} (record { size = m; bytes = ws }) (record { size = n; bytes = xs })
    same = same_value (sym (network_reads f) ∙ network_reads g)

-- ---- sizes

same_first : {b m n : ℕ} → FromFirstByte b m → FromFirstByte b n → m ≡ n
same_first f g = sym (first_is f) ∙ first_is g

first_most : {b size : ℕ} → FromFirstByte b size → size ≤ 32
first_most (240-up h) = omega arith
first_most (224-up h l) = omega arith
first_most (192-up h l) = omega arith
first_most (128-up h l) = omega arith
first_most (else_8 l) = omega arith

pub size_most : {t bs : List ℕ} {size : ℕ} → BytesGiven t bs → InferredSize bs size → size ≤ 32
size_most {t} {bs} {size} g i = go (given_octets t bs (given_reads g)).most i
  where
    go : {bs : List ℕ} {size : ℕ} → length bs ≤ 4 → InferredSize bs size → size ≤ 32
    go l (becomes f h k) = omega arith
    go l (below_8 f h) = omega arith
    go l (no_less f h) = first_most f

pub four_stays : {b size : ℕ} {bs : List ℕ} → 224 ≤ b → b < 240 → InferredSize (b ∷ bs) size → size ≡ 4
four_stays h l i = go h l i
  where
    go : {b : ℕ} {bs : List ℕ} {size : ℕ} → 224 ≤ b → b < 240 → InferredSize (b ∷ bs) size → size ≡ 4
    go {b} h l (becomes f i j) = let same = same_first f (224-up {b = b} h l) in absurd (omega arith)
    go {b} h l (below_8 f i) = same_first f (224-up {b = b} h l)
    go {b} h l (no_less f i) = same_first f (224-up {b = b} h l)

-- ---- how many bytes

written_count : {size : ℕ} {bs ws : List ℕ} → BytesWritten size bs ws → Octets bs → size ≤ 32 → (1 ≤ length ws) × (length ws ≤ 4)
written_count (as_given_lem r l) o h = (o.any, o.most)
written_count (zeros_added {n = n} {bs = bs} (eighths i j) l) o h =
    let long = length-append bs (replicate (n - length bs) 0) in
    let zeros = length-replicate {A = ℕ} (n - length bs) 0 in
    (omega (arith, o.any), omega arith)

pub bytes_most : {t ws : List ℕ} {size : ℕ} → NetworkForm t size ws → size ≤ 32 → (1 ≤ length ws) × (length ws ≤ 4)
bytes_most (with_size {t} {u} {bs} g p w) h = written_count w (given_octets t bs (given_reads g)) h
bytes_most (without {t} {bs} g i w) h = written_count w (given_octets t bs (given_reads g)) h

-- ---- what an answer says

module _ {t old : List ℕ} where
  pub says_good : {r : Answer (ℕ × ℕ)} {new : List ℕ} (size count : ℕ) → NetworkCall t old r new → r ≡ gives (size, count)
      → (ws : List ℕ) × NetworkForm t size ws × (size ≤ 32) × (length ws ≡ count) × (count ≤ length old)
  says_good size count (too_long h) e = absurd (gives_refuses TextTooLong (sym e))
  says_good size count (no_network_lem l n) e = absurd (gives_refuses Malformed (sym e))
  says_good size count (too_large f h) e = absurd (gives_refuses LengthTooLarge (sym e))
  says_good size count (no_room f h k) e = absurd (gives_refuses NoRoom (sym e))
  says_good size count (read_network {size = m} {ws = ws} f h k) e =
      let same : m ≡ size = ap (λ (r : Answer (ℕ × ℕ)). r.fields.0) e in
      let long : length ws ≡ count = ap (λ (r : Answer (ℕ × ℕ)). r.fields.1) e in
      (ws, subst (λ (n : ℕ). NetworkForm t n ws) same f, omega arith, long, omega arith)

  pub refused_keeps : {r : Answer (ℕ × ℕ)} {new : List ℕ} → NetworkCall t old r new → (r.number ≡ 0 → ⊥) → new ≡ old
  refused_keeps (too_long h) e = refl
  refused_keeps (no_network_lem l n) e = refl
  refused_keeps (too_large f h) e = refl
  refused_keeps (no_room f h k) e = refl
  refused_keeps (read_network f h k) e = absurd (e refl)
