-- Classes (01, "Classes"; document 003 and RFC 791): an IPv4 address as a network number and a host number. Assumes nothing.
use Rattle.address.specs.declared.Refusal.{Refusal}
use Rattle.std.specs.Prelude.{Bool, true, false, ◌&&◌, List, [], ◌∷◌, ℕ, ◌+◌, ◌-◌, ◌*◌, ◌/◌, ◌%◌, ◌^◌, leb, ltb, eqb, Option, Some, None, Result}
use Rattle.address.specs.declared.Address.{Address}
use Rattle.address.specs.declared.Address.TheVariants.{V4}
use Rattle.address.specs.Addresses.{family, number}
use Rattle.address.specs.Answers.{result_answer, precedence, Answer, answer, missing, refusal, no_address}

-- a row of the table
pub record Class : Type 0 where
  -- how many first bits tell the class, and the number that they write
  pub bits : ℕ
  pub first : ℕ
  -- the network numbers
  pub least : ℕ
  pub most : ℕ
  -- the largest host number
  pub host_most : ℕ

abbrev pub class_a : Class
class_a = record { bits = 1; first = 0; least = 0; most = 127; host_most = 16777215 }

abbrev pub class_b : Class
class_b = record { bits = 2; first = 2; least = 32768; most = 49151; host_most = 65535 }

abbrev pub class_c : Class
class_c = record { bits = 3; first = 6; least = 12582912; most = 14680063; host_most = 255 }

abbrev pub table : List Class
table = class_a ∷ class_b ∷ class_c ∷ []

-- the first row that passes a test
unfoldable pub row_of : (Class → Bool) → List Class → Option Class
row_of test [] = None
row_of test (c ∷ cs) = elim (test c) [ true ↦ Some c | false ↦ row_of test cs ]

-- an address of 32 bits begins with the row's first bits
abbrev pub begins : ℕ → Class → Bool
begins v c = eqb (v / 2 ^ (32 - c.bits)) c.first

-- a network number lies in the row
abbrev pub lies_in : ℕ → Class → Bool
lies_in n c = leb c.least n && leb n c.most

-- the class of an address, and that of a network number
unfoldable pub class_of : ℕ → Option Class
unfolding row_of
class_of v = row_of (begins v) table

unfoldable pub network_class : ℕ → Option Class
unfolding row_of
network_class n = row_of (lies_in n) table

-- ---- splitting

-- how many hosts a network of the class has
abbrev pub hosts : Class → ℕ
hosts c = c.host_most + 1

-- "top byte", "top two bytes", "top three bytes" as the network number, and what is below them as the host number
abbrev pub network_host : Option Class → ℕ → ℕ × ℕ
network_host None v = (0, 0)
network_host (Some c) v = (v / hosts c, v % hosts c)

-- "an IPv6 address is handed to the class split", "an address beginning with bits 111 is to be split"
unfoldable pub split_answer : Address → Answer (ℕ × ℕ)
unfolding refusal class_of
split_answer a =
    answer (0, 0)
    (refusal precedence ((9, eqb (family a) 6) ∷ (6, missing (class_of (number a))) ∷ []))
    (network_host (class_of (number a)) (number a))

-- the code's answer in the paper's terms: the network number and the host number
abbrev pub splitting_answer : Result (ℕ × ℕ) Refusal → Answer (ℕ × ℕ)
splitting_answer r = result_answer (0, 0) r

-- ---- joining

-- "the host number is too large for the class of its network number"
abbrev pub host_too_large : Option Class → ℕ → Bool
host_too_large None host = false
host_too_large (Some c) host = ltb c.host_most host

abbrev pub host_address : Option Class → ℕ → ℕ → Address
host_address None network host = no_address
host_address (Some c) network host = V4 (network * hosts c + host)

-- "a network number lies in no class", then the host number, or the address
unfoldable pub join_answer : ℕ → ℕ → Answer Address
unfolding refusal network_class
join_answer network host =
    let c = network_class network in
    answer no_address (refusal precedence ((6, missing c) ∷ (7, host_too_large c host) ∷ [])) (host_address c network host)
