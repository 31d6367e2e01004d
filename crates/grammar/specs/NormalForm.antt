-- Normal text, to be held beside 01, "Normal text", and RFC 5952 section 4: of the strict texts of an address the one that keeps these rules.
-- Assumes nothing.
use Rattle.std.specs.Prelude.{◌≡◌, List, [], ◌∷◌, ◌++◌, ℕ, ◌+◌, ◌*◌, ◌≤◌, length, replicate}
use Rattle.address.specs.declared.Address.{Address}
use Rattle.address.specs.declared.Address.TheVariants.{V6}
use Rattle.zero_runs.specs.Runs.{ZeroRun, LeftmostLongest}
use Rattle.grammar.specs.Rfc3986.{colon, h16}
use Rattle.grammar.specs.StrictForm.{IPv4Text}

-- ---- a group

-- "lower case": no byte is a capital letter (RFC 5952 section 4.3)
pub data NoCapital : List ℕ → Type 0 where
  no_byte : NoCapital []
  and_byte : {c : ℕ} {t : List ℕ} → (0x41 ≤ c → c ≤ 0x5A → ⊥) → NoCapital t → NoCapital (c ∷ t)

-- "no leading zeros in a group" (4.1); a zero group is `0`
pub data NormalH16 : List ℕ → ℕ → Type 0 where
  no_leading_0 : {c : ℕ} {t : List ℕ} {x : ℕ} → (c ≡ 0x30 → ⊥) → NoCapital (c ∷ t) → h16 (c ∷ t) x → NormalH16 (c ∷ t) x
  only_0 : NormalH16 (0x30 ∷ []) 0

-- groups with single colons between them: none, one, or one and more
pub data NormalH16s : List ℕ → List ℕ → Type 0 where
  no_group : NormalH16s [] []
  one_group : {t : List ℕ} {x : ℕ} → NormalH16 t x → NormalH16s t (x ∷ [])
  and_more : {t u : List ℕ} {x y : ℕ} {ys : List ℕ} → NormalH16 t x → NormalH16s u (y ∷ ys) → NormalH16s (t ++ colon ∷ u) (x ∷ y ∷ ys)

-- ---- the eight groups

pub data NormalEight : List ℕ → List ℕ → Type 0 where
  -- "A single zero group stays `0`": where no two zero groups stand together, all eight are written
  whole : {t gs : List ℕ} → NormalH16s t gs → length gs ≡ 8 → ((start n : ℕ) → ZeroRun gs start n → n ≤ 1) → NormalEight t gs
  -- "the longest run of two or more zero groups becomes `::`. Of two runs equally long the leftmost is shortened." (4.2)
  shortened_run : {s t ws xs : List ℕ} {n : ℕ} → NormalH16s s ws → NormalH16s t xs → 2 ≤ n → length ws + n + length xs ≡ 8
      → LeftmostLongest (ws ++ (replicate n 0 ++ xs)) (length ws) n → NormalEight (s ++ colon ∷ colon ∷ t) (ws ++ (replicate n 0 ++ xs))

-- ---- the address

pub data NormalForm : List ℕ → Address → Type 0 where
  -- "IPv4: four strict parts"
  of_ipv4 : {t : List ℕ} {a : Address} → IPv4Text t a → NormalForm t a
  -- "Hex groups are always written, never the dotted tail."
  of_ipv6 : {t : List ℕ} {a b c d e f g h : ℕ} → NormalEight t (a ∷ b ∷ c ∷ d ∷ e ∷ f ∷ g ∷ h ∷ [])
      → NormalForm t (V6 (((a * 65536 + b) * 65536 + c) * 65536 + d) (((e * 65536 + f) * 65536 + g) * 65536 + h))
