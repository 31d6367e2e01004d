-- The grammar of strict text as published, to be held beside RFC 3986 section 3.2.2; DIGIT and HEXDIG are those of RFC 5234,
-- appendix B.1, which has replaced the RFC 2234 that it cites.
-- Each rule is a family under the rule's own name, each alternative is a constructor, and the line above it is the RFC's. `rule t v` says that
-- the rule has the text t, and that t means v. A text is the list of its bytes. Nothing is split or searched here. Assumes nothing.
use Rattle.std.specs.Prelude.{List, [], ◌∷◌, ◌++◌, ℕ, suc, ◌+◌, ◌-◌, ◌*◌, ◌≤◌, length, replicate}

-- "." and ":"
abbrev pub dot : ℕ
dot = 0x2E

abbrev pub colon : ℕ
colon = 0x3A

-- DIGIT = %x30-39
pub data DIGIT : ℕ → ℕ → Type 0 where
  x30-39 : {c : ℕ} → 0x30 ≤ c → c ≤ 0x39 → DIGIT c (c - 0x30)

-- HEXDIG = DIGIT / "A" / "B" / "C" / "D" / "E" / "F" ; a letter in quotes stands for both its cases (RFC 5234 section 2.3)
pub data HEXDIG : ℕ → ℕ → Type 0 where
  digit : {c d : ℕ} → DIGIT c d → HEXDIG c d
  A-F : {c : ℕ} → 0x41 ≤ c → c ≤ 0x46 → HEXDIG c (10 + (c - 0x41))
  a_f : {c : ℕ} → 0x61 ≤ c → c ≤ 0x66 → HEXDIG c (10 + (c - 0x61))

-- 1*D, where D are the digits of a base: one digit, or digits and one more, which counts once where all before it count the base times more
pub data DigitString (base : ℕ) (D : ℕ → ℕ → Type 0) : List ℕ → ℕ → Type 0 where
  one : {c d : ℕ} → D c d → DigitString base D (c ∷ []) d
  and_one : {t : List ℕ} {n c d : ℕ} → DigitString base D t n → D c d → DigitString base D (t ++ c ∷ []) (n * base + d)

-- ---- IPv4

-- dec-octet =
pub data dec-octet : List ℕ → ℕ → Type 0 where
  -- DIGIT                 ; 0-9
  0-9 : {c z : ℕ} → DIGIT c z → dec-octet (c ∷ []) z
  -- / %x31-39 DIGIT       ; 10-99
  10-99 : {b c z : ℕ} → 0x31 ≤ b → b ≤ 0x39 → DIGIT c z → dec-octet (b ∷ c ∷ []) (10 * (b - 0x30) + z)
  -- / "1" 2DIGIT          ; 100-199
  100-199 : {b c y z : ℕ} → DIGIT b y → DIGIT c z → dec-octet (0x31 ∷ b ∷ c ∷ []) (100 + 10 * y + z)
  -- / "2" %x30-34 DIGIT   ; 200-249
  200-249 : {b c z : ℕ} → 0x30 ≤ b → b ≤ 0x34 → DIGIT c z → dec-octet (0x32 ∷ b ∷ c ∷ []) (200 + 10 * (b - 0x30) + z)
  -- / "25" %x30-35        ; 250-255
  250-255 : {c : ℕ} → 0x30 ≤ c → c ≤ 0x35 → dec-octet (0x32 ∷ 0x35 ∷ c ∷ []) (250 + (c - 0x30))

-- IPv4address = dec-octet "." dec-octet "." dec-octet "." dec-octet
-- It means its four octets.
pub data IPv4address : List ℕ → List ℕ → Type 0 where
  four_octets : {a b c d : List ℕ} {w x y z : ℕ} → dec-octet a w → dec-octet b x → dec-octet c y → dec-octet d z
      → IPv4address (a ++ dot ∷ (b ++ dot ∷ (c ++ dot ∷ d))) (w ∷ x ∷ y ∷ z ∷ [])

-- ---- IPv6

-- h16 = 1*4HEXDIG
pub data h16 : List ℕ → ℕ → Type 0 where
  1*4HEXDIG : {t : List ℕ} {x : ℕ} → DigitString 16 HEXDIG t x → length t ≤ 4 → h16 t x

-- ls32 = ( h16 ":" h16 ) / IPv4address
-- It means two groups.
pub data ls32 : List ℕ → List ℕ → Type 0 where
  h16:h16 : {t u : List ℕ} {x y : ℕ} → h16 t x → h16 u y → ls32 (t ++ colon ∷ u) (x ∷ y ∷ [])
  ipv4_tail : {t : List ℕ} {w x y z : ℕ} → IPv4address t (w ∷ x ∷ y ∷ z ∷ []) → ls32 t ((w * 256 + x) ∷ (y * 256 + z) ∷ [])

-- n( h16 ":" )
pub data n-h16: : ℕ → List ℕ → List ℕ → Type 0 where
  zero_times : n-h16: 0 [] []
  once_more : {n : ℕ} {t u : List ℕ} {x : ℕ} {xs : List ℕ} → h16 t x → n-h16: n u xs → n-h16: (suc n) (t ++ colon ∷ u) (x ∷ xs)

-- [ *n( h16 ":" ) h16 ] ; with n = 0 it is [ h16 ]
pub data UpTo : ℕ → List ℕ → List ℕ → Type 0 where
  left_out : {n : ℕ} → UpTo n [] []
  there : {n k : ℕ} {t u : List ℕ} {xs : List ℕ} {x : ℕ} → k ≤ n → n-h16: k t xs → h16 u x → UpTo n (t ++ u) (xs ++ x ∷ [])

-- what stands on the two sides of "::", with as many zero groups between them as make eight (RFC 4291 section 2.2)
abbrev pub with_zeros : List ℕ → List ℕ → List ℕ
with_zeros ws xs = ws ++ (replicate (8 - (length ws + length xs)) 0 ++ xs)

-- IPv6address =
-- It means its eight groups.
pub data IPv6address : List ℕ → List ℕ → Type 0 where
  --                              6( h16 ":" ) ls32
  alternative_1 : {t u xs ys : List ℕ} → n-h16: 6 t xs → ls32 u ys → IPv6address (t ++ u) (xs ++ ys)
  -- /                       "::" 5( h16 ":" ) ls32
  alternative_2 : {t u xs ys : List ℕ} → n-h16: 5 t xs → ls32 u ys → IPv6address (colon ∷ colon ∷ (t ++ u)) (with_zeros [] (xs ++ ys))
  -- / [               h16 ] "::" 4( h16 ":" ) ls32
  alternative_3 : {s t u ws xs ys : List ℕ} → UpTo 0 s ws → n-h16: 4 t xs → ls32 u ys
      → IPv6address (s ++ colon ∷ colon ∷ (t ++ u)) (with_zeros ws (xs ++ ys))
  -- / [ *1( h16 ":" ) h16 ] "::" 3( h16 ":" ) ls32
  alternative_4 : {s t u ws xs ys : List ℕ} → UpTo 1 s ws → n-h16: 3 t xs → ls32 u ys
      → IPv6address (s ++ colon ∷ colon ∷ (t ++ u)) (with_zeros ws (xs ++ ys))
  -- / [ *2( h16 ":" ) h16 ] "::" 2( h16 ":" ) ls32
  alternative_5 : {s t u ws xs ys : List ℕ} → UpTo 2 s ws → n-h16: 2 t xs → ls32 u ys
      → IPv6address (s ++ colon ∷ colon ∷ (t ++ u)) (with_zeros ws (xs ++ ys))
  -- / [ *3( h16 ":" ) h16 ] "::"    h16 ":"   ls32
  alternative_6 : {s t u ws xs ys : List ℕ} → UpTo 3 s ws → n-h16: 1 t xs → ls32 u ys
      → IPv6address (s ++ colon ∷ colon ∷ (t ++ u)) (with_zeros ws (xs ++ ys))
  -- / [ *4( h16 ":" ) h16 ] "::"              ls32
  alternative_7 : {s u ws ys : List ℕ} → UpTo 4 s ws → ls32 u ys → IPv6address (s ++ colon ∷ colon ∷ u) (with_zeros ws ys)
  -- / [ *5( h16 ":" ) h16 ] "::"              h16
  alternative_8 : {s u ws : List ℕ} {y : ℕ} → UpTo 5 s ws → h16 u y → IPv6address (s ++ colon ∷ colon ∷ u) (with_zeros ws (y ∷ []))
  -- / [ *6( h16 ":" ) h16 ] "::"
  alternative_9 : {s ws : List ℕ} → UpTo 6 s ws → IPv6address (s ++ colon ∷ colon ∷ []) (with_zeros ws [])
