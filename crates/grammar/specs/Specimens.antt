-- Texts that are of no form, and the buffer that calls on network texts are lent (01, "Specimens on both sides"; documents 000 and 003).
-- Assumes nothing.
use Rattle.std.specs.Prelude.{List, [], ◌∷◌, ℕ}
use Prim.Native.String.{String}
use Rattle.notation.specs.Ascii.{ascii}
use Rattle.address.specs.declared.Address.{Address}

-- no text of the list is of the form
abbrev pub NoneOf : (List ℕ → Address → Type 0) → List String → Type 0
NoneOf Form [] = Unit {0}
NoneOf Form (s ∷ ss) = ((a : Address) → Form (ascii s) a → ⊥) × NoneOf Form ss

-- an IPv4 text before `::` and before a group, two `::`, a third colon, `::` for no group, nine groups, five digits, leading zeros, a part above
-- 255, three parts, a zone, no text
abbrev pub not_strict : List String
not_strict =
    "1.2.3.4::"
    ∷ "::1.2.3.4:5"
    ∷ "1::2::3"
    ∷ ":::"
    ∷ "1:2:3:4:5:6:7::8"
    ∷ "1:2:3:4:5:6:7:1.2.3.4"
    ∷ "::12345"
    ∷ "00.0.0.0"
    ∷ "010.0.0.12"
    ∷ "256.0.0.1"
    ∷ "1.2.3"
    ∷ "fe80::1%eth0"
    ∷ ""
    ∷ []

-- a last part and another part above the limit, the digit 8 in octal, no hexadecimal digit, a fifth part, a part of no bytes, a blank, no text
abbrev pub not_loose : List String
not_loose = "1.2.65536" ∷ "256.1" ∷ "4294967296" ∷ "08.0.0.1" ∷ "0x" ∷ "1.2.3.4.5" ∷ "1..2" ∷ "1." ∷ "1 " ∷ "" ∷ []

-- a buffer of four bytes before a call
abbrev pub lent_four : List ℕ
lent_four = 0xFF ∷ 0xFF ∷ 0xFF ∷ 0xFF ∷ []
