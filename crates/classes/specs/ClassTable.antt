-- Splitting and joining by the table itself, column by column, to be held beside 01, "Classes" (RFC 791 section 3.2). Assumes nothing.
use Rattle.std.specs.Prelude.{◌≡◌, ℕ, ◌+◌, ◌*◌, ◌/◌, ◌%◌, ◌^◌, ◌≤◌, ◌<◌}
use Rattle.address.specs.declared.Address.{Address}
use Rattle.address.specs.declared.Address.TheVariants.{V4, V6}
use Rattle.address.specs.declared.Refusal.TheVariants.{NoClass, HostTooLarge, WrongFamily}
use Rattle.address.specs.Answers.{Answer, gives, refuses, no_address}

-- ---- splitting

-- What splitting an address answers, by the columns "First bits" and "Network number" of the table.
pub data SplitCall : Address → Answer (ℕ × ℕ) → Type 0 where
  -- "A", "0", "top byte"
  in_class_a : {v : ℕ} → v / 2 ^ 31 ≡ 0 → SplitCall (V4 v) (gives (v / 2 ^ 24, v % 2 ^ 24))
  -- "B", "10", "top two bytes"
  in_class_b : {v : ℕ} → v / 2 ^ 30 ≡ 2 → SplitCall (V4 v) (gives (v / 2 ^ 16, v % 2 ^ 16))
  -- "C", "110", "top three bytes"
  in_class_c : {v : ℕ} → v / 2 ^ 29 ≡ 6 → SplitCall (V4 v) (gives (v / 2 ^ 8, v % 2 ^ 8))
  -- 6: "an address beginning with bits 111 is to be split"
  bits_111 : {v : ℕ} → v / 2 ^ 29 ≡ 7 → SplitCall (V4 v) (refuses (0, 0) NoClass)
  -- 9: "an IPv6 address is handed to the class split"
  not_ipv4 : {hi lo : ℕ} → SplitCall (V6 hi lo) (refuses (0, 0) WrongFamily)

-- ---- joining

-- a network number of the table, and the column "Host at most" of its row
pub data Row : ℕ → ℕ → Type 0 where
  row_a : {n : ℕ} → n ≤ 127 → Row n 16777215
  row_b : {n : ℕ} → 32768 ≤ n → n ≤ 49151 → Row n 65535
  row_c : {n : ℕ} → 12582912 ≤ n → n ≤ 14680063 → Row n 255

-- What joining a network number and a host number answers.
pub data JoinCall (n h : ℕ) : Answer Address → Type 0 where
  -- 6: "a network number lies in no class"
  no_class : ((most : ℕ) → Row n most → ⊥) → JoinCall n h (refuses no_address NoClass)
  -- 7: "the host number is too large for the class of its network number"
  host_too_large_lem : {most : ℕ} → Row n most → most < h → JoinCall n h (refuses no_address HostTooLarge)
  joined : {most : ℕ} → Row n most → h ≤ most → JoinCall n h (gives (V4 (n * (most + 1) + h)))
