-- What is claimed of the published grammar, of normal text and of the loose, network and block forms: reading accepts exactly their texts,
-- answers what they mean and refuses all others by their numbers, and what is written is the one text of its form. Assumes nothing.
use Rattle.std.specs.Prelude.{Some, Ok, Result}
use mathlib.Core.Path.{◌≡◌, refl, sym, ap, subst, subst₂, ◌∙◌}
use mathlib.Core.Bool.{false}
use mathlib.Core.List.{List, [], ◌∷◌, ◌++◌}
use mathlib.Core.Logic.{◌⊎◌, inl, inr, ◌↔◌}
use Prim.Native.Nat.{ℕ, ◌+◌, ◌-◌, ◌*◌, ◌/◌, ◌%◌, ◌^◌, ◌≤◌, ◌<◌}
use native.Mathlib.Omega.{arith}
use lib.Dec.{eqb}
use lib.ListN.{length, drop, replicate}
use Rattle.notation.specs.BigEndian.{AllBelow, digits_of, number_of}
use Rattle.notation.specs.Ascii.{ascii}
use Rattle.notation.specs.Pieces.{contains, split_on}
use Rattle.notation.specs.Options.{every}
use Rattle.address.specs.declared.Address.{Address}
use Rattle.address.specs.declared.Address.TheVariants.{V4}
use Rattle.address.specs.declared.Block.{Block}
use Rattle.address.specs.declared.Refusal.{Refusal}
use Rattle.address.specs.declared.Refusal.TheVariants.{Malformed, NoRoom, LengthTooLarge, BitsBeyondLength}
use Rattle.address.specs.Addresses.{IsAddress, family, width, number}
use Rattle.address.specs.Answers.{Answer, gives, refuses, refusal_number, no_address, no_block, read_answer, write_answer, write_leaves, reading_answer, block_answer, writing_answer}
use Rattle.address.proofs.Claims.{one_reading}
use Rattle.octets.specs.Octets.{octets}
use Rattle.digits.specs.Numerals.{digit_of, all_digits, part_of, group_of}
use Rattle.ipv4_text.specs.Dotted.{dotted_of}
use Rattle.ipv6_text.specs.EightGroups.{eight_of}
use Rattle.text.specs.Strict.{strict_of, strict_answer}
use Rattle.place.specs.Place.{placed_answer}
use Rattle.normal.specs.Normal.{normal_groups, normal_text}
use Rattle.normal.proofs.Claims as normal
use Rattle.loose.specs.Loose.{loose_part, loose_of, loose_answer}
use Rattle.network.specs.GivenBytes.{given_of, zero_filled}
use Rattle.network.specs.NetworkText.{cleared, network_text, write_network_refusal}
use Rattle.network.specs.Network.{Network, network_of, network_answer, network_leaves, network_reading_answer}
use Rattle.network.proofs.Claims as network
use Rattle.blocks.specs.BlockText.{block_of, block_text_answer, block_text}
use Rattle.blocks.proofs.Claims as blocks
use Rattle.grammar.specs.Rfc3986.{dot, colon, HEXDIG, DigitString, dec-octet, IPv4address, h16, IPv6address}
use Rattle.grammar.specs.StrictForm.{IPv4Text, IPv6Text, StrictForm, four, six, either_4, either_6, StrictCall, read_strict}
use Rattle.grammar.specs.PlaceForm.{PlacedCall}
use Rattle.grammar.specs.NormalForm.{NormalEight, NormalForm}
use Rattle.grammar.specs.LooseForm.{OCTDIG, LoosePart, LooseForm, LooseCall, read_loose}
use Rattle.grammar.specs.NetworkForm.{slash, BytesGiven, SizePart, InferredSize, NetworkForm, NetworkCall, read_network, WrittenNetwork, NetworkWriting}
use Rattle.grammar.specs.BlockForm.{BlockForm, BlockCall, read_block, WrittenBlock}
use Rattle.grammar.specs.Specimens.{NoneOf, not_strict, not_loose, lent_four}
use Rattle.grammar.proofs.NumberLaws.{octet_reads, reads_octet, h16_reads, reads_h16, size_reads, reads_size, size_999}
use Rattle.grammar.proofs.DottedLaws.{address_reads, address_octets, octets_address}
use Rattle.grammar.proofs.GrammarLaws.{grammar_reads, reads_grammar}
use Rattle.grammar.proofs.LengthLaws as lengths
use Rattle.grammar.proofs.CallLaws.{answers_exactly, refuses_exactly}
use Rattle.grammar.proofs.StrictFormLaws as strict-laws
use Rattle.grammar.proofs.PlaceFormLaws as place-laws
use Rattle.grammar.proofs.NormalFormLaws as normal-laws
use Rattle.grammar.proofs.LoosePartLaws.{part_reads, reads_part}
use Rattle.grammar.proofs.LooseFormLaws as loose-laws
use Rattle.grammar.proofs.LimitLaws as limits
use Rattle.grammar.proofs.GivenLaws.{given_reads, reads_given}
use Rattle.grammar.proofs.NetworkFormLaws as network-laws
use Rattle.grammar.proofs.NetworkCallLaws as calls
use Rattle.grammar.proofs.WrittenLaws as written-laws
use Rattle.grammar.proofs.BlockFormLaws as block-laws
use Rattle.grammar.proofs.ByteLaws as bytes
use Rattle.grammar.proofs.SpecimenLaws.{unread, none_of}

-- ---- strict text

-- Demand 2, "Reading accepts exactly the strict texts of the published rules": a text has an address exactly if the grammar has the text and
-- the text means that address.
module _ (t : List ℕ) (a : Address) where
  pub family_4 : (strict_of 4 t ≡ Some a) ↔ IPv4Text t a
  family_4 = (λ e. from (strict-laws.reads_4 t a e), λ h. strict-laws.form_reads (four h))
    where
      from : {s : List ℕ} {b : Address} → StrictForm 4 s b → IPv4Text s b
      from (four h) = h

  pub family_6 : (strict_of 6 t ≡ Some a) ↔ IPv6Text t a
  family_6 = (λ e. from (strict-laws.reads_6 t a e), λ h. strict-laws.form_reads (six h))
    where
      from : {s : List ℕ} {b : Address} → StrictForm 6 s b → IPv6Text s b
      from (six h) = h

  pub family_0 : (strict_of 0 t ≡ Some a) ↔ (IPv4Text t a ⊎ IPv6Text t a)
  family_0 = (λ e. from (strict-laws.reads_0 t a e), λ h. back h)
    where
      from : {s : List ℕ} {b : Address} → StrictForm 0 s b → IPv4Text s b ⊎ IPv6Text s b
      from (either_4 h) = inl h
      from (either_6 h) = inr h

      back : IPv4Text t a ⊎ IPv6Text t a → strict_of 0 t ≡ Some a
      back (inl h) = strict-laws.form_reads (either_4 h)
      back (inr h) = strict-laws.form_reads (either_6 h)

module _ (asked : ℕ) (t : List ℕ) where
  -- The whole answer of the call, refused calls too, whatever the family number.
  pub strict_answers : (r : Answer Address) → (strict_answer asked t ≡ r) ↔ StrictCall asked t r
  unfolding strict_answer read_answer
  strict_answers = answers_exactly (StrictCall asked t) no_address _ _ (strict-laws.answers_call asked t) (λ r c. strict-laws.call_answers asked t c)

  -- Each refusal is given exactly when its sentence says so: see the constructor with that refusal.
  pub strict_refuses : (e : Refusal) → ((strict_answer asked t).number ≡ refusal_number e) ↔ StrictCall asked t (refuses no_address e)
  unfolding strict_answer read_answer
  strict_refuses = refuses_exactly (StrictCall asked t) no_address _ _ (strict-laws.answers_call asked t) (λ r c. strict-laws.call_answers asked t c)

  -- An address is given exactly if the grammar has the text, and it means that address.
  pub strict_accepts : (a : Address) → (strict_answer asked t ≡ gives a) ↔ StrictForm asked t a
  strict_accepts a = (strict-laws.gives_form asked t a (strict-laws.answers_call asked t), λ h. strict-laws.call_answers asked t (read_strict h))

  -- With the place of a fault (02, Req 02): the whole answer of the strict reader, over the grammar.
  pub placed_answers : (r : Answer (Address × ℕ)) → (placed_answer asked t ≡ r) ↔ PlacedCall asked t r
  placed_answers r = (λ e. subst (PlacedCall asked t) e (place-laws.placed_call asked t), place-laws.call_answered asked t)

  -- An address is read by whatever answers as `read_strict` promises to, exactly if the grammar has the text.
  pub strict_reader : (r : Result Address Refusal) → reading_answer r ≡ strict_answer asked t → (a : Address) → (r ≡ Ok a) ↔ StrictForm asked t a
  strict_reader r promise a =
      (λ e. (strict_accepts a).0 (sym promise ∙ ap reading_answer e), λ h. one_reading r (Ok a) (promise ∙ (strict_accepts a).1 h))

-- ---- rule by rule

-- `dec-octet`: "A part is 0 to 255 in decimal digits with no leading zero, except `0` itself".
pub part_exactly : (t : List ℕ) (x : ℕ) → (part_of 255 t ≡ Some x) ↔ dec-octet t x
part_exactly t x = (reads_octet t x, octet_reads)

-- `IPv4address`, by its four octets: "exactly four parts with single dots".
pub dotted_exactly : (t os : List ℕ) → ((length os ≡ 4) × AllBelow 256 os × (dotted_of t ≡ Some (number_of 256 os))) ↔ IPv4address t os
dotted_exactly t os = (λ h. octets_address t os h.0 h.1 h.2, λ h. ((address_octets h).0, (address_octets h).1, address_reads h))

-- `h16`: "one to four hex digits, either case".
pub group_exactly : (t : List ℕ) (x : ℕ) → (group_of t ≡ Some x) ↔ h16 t x
group_exactly t x = (reads_h16 t x, h16_reads)

-- `IPv6address`, by its eight groups.
pub eight_exactly : (t gs : List ℕ) → (eight_of t ≡ Some gs) ↔ IPv6address t gs
eight_exactly t gs = (reads_grammar t gs, grammar_reads)

-- the size of a network and the length of a block: "one to three digits, no leading zero except `0`".
pub size_exactly : (t : List ℕ) (n : ℕ) → (part_of 999 t ≡ Some n) ↔ SizePart t n
size_exactly t n = (λ e. (reads_size 999 t n e).0, λ h. size_reads 999 h (size_999 h))

-- ---- one spelling, one meaning

-- An accepted IPv4 text is the normal text of the address that it means: no `00` and no `010`.
pub one_ipv4_text : (t : List ℕ) (a : Address) → IPv4Text t a → normal_text a ≡ t
one_ipv4_text t a = strict-laws.text_spelling

-- A text means one address, whatever family is asked for.
pub one_meaning : (f g : ℕ) (t : List ℕ) (a b : Address) → StrictForm f t a → StrictForm g t b → a ≡ b
one_meaning f g t a b h k = let p = strict-laws.form_reads (either h) in let q = strict-laws.form_reads (either k) in cc
  where
    either : {f : ℕ} {t : List ℕ} {a : Address} → StrictForm f t a → StrictForm 0 t a
    either (four h) = either_4 h
    either (six h) = either_6 h
    either (either_4 h) = either_4 h
    either (either_6 h) = either_6 h

-- ---- normal text

-- "Writing gives the one normal text": of an address exactly one text keeps the rules of 01 and of RFC 5952 section 4, and it is the one that is
-- written.
pub normal_exactly : (a : Address) → IsAddress a → (t : List ℕ) → (normal_text a ≡ t) ↔ NormalForm t a
normal_exactly a is t = (λ e. subst (λ u. NormalForm u a) e (normal-laws.written_normal a is), normal-laws.normal_written)

pub one_normal_text : (t u : List ℕ) (a : Address) → NormalForm t a → NormalForm u a → t ≡ u
one_normal_text t u a h k = sym (normal-laws.normal_written h) ∙ normal-laws.normal_written k

-- The same of eight groups.
pub normal_eight_exactly : (gs : List ℕ) → length gs ≡ 8 → AllBelow 65536 gs → (t : List ℕ) → (normal_groups gs ≡ t) ↔ NormalEight t gs
normal_eight_exactly gs l small t = (λ e. subst (λ u. NormalEight u gs) e (normal-laws.written_form gs l small), normal-laws.form_written)

-- Normal text is strict text of its address, asked for by its family or by 0.
pub normal_is_strict : (a : Address) → IsAddress a → StrictForm 0 (normal_text a) a × StrictForm (family a) (normal_text a) a
normal_is_strict a is =
    let back = normal.read_back_answer a is in
    ((strict_accepts 0 (normal_text a) a).0 back.0, (strict_accepts (family a) (normal_text a) a).0 back.1)

-- ---- lengths

-- No text of these forms is longer than 49 bytes, so that refusal 1, beyond 64, meets none; of the loose form "any number of leading zeros"
-- may be longer.
pub at_most_15 : {t os : List ℕ} → IPv4address t os → length t ≤ 15
at_most_15 = lengths.address_4_most

pub at_most_45 : {t gs : List ℕ} → IPv6address t gs → length t ≤ 45
at_most_45 = lengths.address_6_most

pub at_most_19 : {t ws : List ℕ} {size : ℕ} → NetworkForm t size ws → length t ≤ 19
at_most_19 = lengths.network_most

pub at_most_49 : {t : List ℕ} {a : Address} {n : ℕ} → BlockForm t a n → length t ≤ 49
at_most_49 = lengths.block_most

-- ---- the loose form

module _ (t : List ℕ) where
  -- 01, "Loose IPv4 form": a text has an address exactly if it is of the form and means that address.
  pub loose_exactly : (a : Address) → (loose_of t ≡ Some a) ↔ LooseForm t a
  loose_exactly a = (loose-laws.reads_form t a, loose-laws.form_reads)

  -- The whole answer of the call, refused calls too, and each refusal.
  pub loose_answers : (r : Answer Address) → (loose_answer t ≡ r) ↔ LooseCall t r
  unfolding loose_answer read_answer
  loose_answers = answers_exactly (LooseCall t) no_address _ _ (loose-laws.answers_call t) (λ r c. loose-laws.call_answers t c)

  pub loose_refuses : (e : Refusal) → ((loose_answer t).number ≡ refusal_number e) ↔ LooseCall t (refuses no_address e)
  unfolding loose_answer read_answer
  loose_refuses = refuses_exactly (LooseCall t) no_address _ _ (loose-laws.answers_call t) (λ r c. loose-laws.call_answers t c)

  -- An address is given exactly if the text is "within 64 bytes", of the form, and means that address.
  pub loose_accepts : (a : Address) → (loose_answer t ≡ gives a) ↔ ((length t ≤ 64) × LooseForm t a)
  loose_accepts a = (loose-laws.gives_form t a (loose-laws.answers_call t), λ h. loose-laws.call_answers t (read_loose h.0 h.1))

  -- So does whatever answers as `read_loose` promises to.
  pub loose_reader : (r : Result Address Refusal) → reading_answer r ≡ loose_answer t → (a : Address) → (r ≡ Ok a) ↔ ((length t ≤ 64) × LooseForm t a)
  loose_reader r promise a = (λ e. (loose_accepts a).0 (sym promise ∙ ap reading_answer e), λ h. one_reading r (Ok a) (promise ∙ (loose_accepts a).1 h))

  -- A text means one address.
  pub loose_one_meaning : (a b : Address) → LooseForm t a → LooseForm t b → a ≡ b
  loose_one_meaning a b h k = let p = loose-laws.form_reads h in let q = loose-laws.form_reads k in cc

  -- "A part is hexadecimal [...], else octal [...], else decimal.": it is read as its number, and has one.
  pub loose_part_exactly : (n : ℕ) → (loose_part t ≡ Some n) ↔ LoosePart t n
  loose_part_exactly n = (reads_part t n, part_reads)

  pub loose_part_one : (m n : ℕ) → LoosePart t m → LoosePart t n → m ≡ n
  loose_part_one m n = limits.one_value

-- A strict IPv4 text is loose, and means the same.
pub strict_is_loose : {t : List ℕ} {a : Address} → IPv4Text t a → LooseForm t a
strict_is_loose = loose-laws.strict_form

-- "Every part but the last is at most 255. The last is at most 255, 65,535, 16,777,215 or 4,294,967,295 where there are four, three, two or one
-- parts": parts within these limits are a text of the form, other parts are none, and this is what they mean.
module _ {s : List ℕ} {a : ℕ} (g : LoosePart s a) (v : Address) where
  pub most_of_one : LooseForm s v ↔ ((a ≤ 4294967295) × (v ≡ V4 a))
  most_of_one = limits.limit_1 g v

  module _ {t : List ℕ} {b : ℕ} (h : LoosePart t b) where
    pub most_of_two : LooseForm (s ++ dot ∷ t) v ↔ ((a ≤ 255) × (b ≤ 16777215) × (v ≡ V4 (a * 16777216 + b)))
    most_of_two = limits.limit_2 g h v

    module _ {u : List ℕ} {c : ℕ} (i : LoosePart u c) where
      pub most_of_three : LooseForm (s ++ dot ∷ (t ++ dot ∷ u)) v ↔ ((a ≤ 255) × (b ≤ 255) × (c ≤ 65535) × (v ≡ V4 ((a * 256 + b) * 65536 + c)))
      most_of_three = limits.limit_3 g h i v

      module _ {w : List ℕ} {d : ℕ} (j : LoosePart w d) where
        pub most_of_four : LooseForm (s ++ dot ∷ (t ++ dot ∷ (u ++ dot ∷ w))) v
            ↔ ((a ≤ 255) × (b ≤ 255) × (c ≤ 255) × (d ≤ 255) × (v ≡ V4 (((a * 256 + b) * 256 + c) * 256 + d)))
        most_of_four = limits.limit_4 g h i j v

        -- "One to four parts."
        pub not_five : {x : List ℕ} {e : ℕ} → LoosePart x e → LooseForm (s ++ dot ∷ (t ++ dot ∷ (u ++ dot ∷ (w ++ dot ∷ x)))) v → ⊥
        not_five k = limits.limit_5 g h i j k v

-- The last part "fills the remaining bytes": the octets of the address.
pub fills_four : (a : ℕ) → a ≤ 4294967295 → octets (V4 a) ≡ a / 16777216 ∷ a / 65536 % 256 ∷ a / 256 % 256 ∷ a % 256 ∷ []
fills_four = limits.fill_1

pub fills_three : (a b : ℕ) → a ≤ 255 → b ≤ 16777215 → octets (V4 (a * 16777216 + b)) ≡ a ∷ b / 65536 ∷ b / 256 % 256 ∷ b % 256 ∷ []
fills_three = limits.fill_2

pub fills_two : (a b c : ℕ) → a ≤ 255 → b ≤ 255 → c ≤ 65535 → octets (V4 ((a * 256 + b) * 65536 + c)) ≡ a ∷ b ∷ c / 256 ∷ c % 256 ∷ []
fills_two = limits.fill_3

pub fills_one : (a b c d : ℕ) → a ≤ 255 → b ≤ 255 → c ≤ 255 → d ≤ 255 → octets (V4 (((a * 256 + b) * 256 + c) * 256 + d)) ≡ a ∷ b ∷ c ∷ d ∷ []
fills_one = limits.fill_4

-- "Any number of leading zeros is allowed": k of them before the digits of an octal or a hexadecimal part leave it the number of the digits.
module _ (k : ℕ) {t : List ℕ} {n : ℕ} where
  pub octal_leading : DigitString 8 OCTDIG t n → (m : ℕ) → LoosePart (0x30 ∷ (replicate k 0x30 ++ t)) m ↔ (m ≡ n)
  octal_leading = limits.octal_zeros k

  pub leading_lower_x : DigitString 16 HEXDIG t n → (m : ℕ) → LoosePart (0x30 ∷ 0x78 ∷ (replicate k 0x30 ++ t)) m ↔ (m ≡ n)
  leading_lower_x = limits.hex_zeros_lower_x k

  pub leading_upper_x : DigitString 16 HEXDIG t n → (m : ℕ) → LoosePart (0x30 ∷ 0x58 ∷ (replicate k 0x30 ++ t)) m ↔ (m ≡ n)
  leading_upper_x = limits.hex_zeros_upper_x k

-- ---- the network form, read

module _ (t : List ℕ) where
  -- 01, "Network form": a text means a size and bytes exactly if it is of the form and means these.
  pub network_exactly : (n : Network) → (network_of t ≡ Some n) ↔ NetworkForm t n.size n.bytes
  network_exactly n = (network-laws.reads_network t n, network-laws.network_reads)

  pub network_one_meaning : (m n : ℕ) (ws xs : List ℕ) → NetworkForm t m ws → NetworkForm t n xs → (m ≡ n) × (ws ≡ xs)
  network_one_meaning m n ws xs = calls.same_network

  -- "Either `0x`/`0X` and one to eight hex digits, or one to four strict decimal parts"
  pub given_exactly : (bs : List ℕ) → (given_of t ≡ Some bs) ↔ BytesGiven t bs
  given_exactly bs = (reads_given t bs, given_reads)

module _ (t old : List ℕ) where
  -- The whole answer and the whole buffer afterwards, refused calls too.
  pub network_answers : (r : Answer (ℕ × ℕ)) (new : List ℕ) → ((network_answer t old ≡ r) × (network_leaves t old ≡ new)) ↔ NetworkCall t old r new
  network_answers r new = (λ e. subst₂ (NetworkCall t old) e.0 e.1 (network-laws.does_call t old), network-laws.call_does t old)

  -- Each refusal, with the buffer that the call leaves.
  pub network_refuses : (e : Refusal) → ((network_answer t old).number ≡ refusal_number e) ↔ NetworkCall t old (refuses (0, 0) e) (network_leaves t old)
  unfolding network_answer
  network_refuses = refuses_exactly (λ r. NetworkCall t old r (network_leaves t old)) (0, 0) _ _ (network-laws.does_call t old) (λ r c. (network-laws.call_does t old c).0)

  -- "The answer is the size and the number of bytes written." "A good answer changes only the first bytes it counts; later bytes stay."
  pub network_stores : (size : ℕ) (ws : List ℕ) → NetworkForm t size ws → size ≤ 32 → length ws ≤ length old
      → (network_answer t old ≡ gives (size, length ws)) × (network_leaves t old ≡ ws ++ drop (length ws) old)
  network_stores size ws f h k = network-laws.call_does t old (read_network f h k)

  pub network_accepts : (size count : ℕ) → (network_answer t old ≡ gives (size, count))
      ↔ ((ws : List ℕ) × NetworkForm t size ws × (size ≤ 32) × (length ws ≡ count) × (count ≤ length old))
  network_accepts size count = (λ e. calls.says_good size count (network-laws.does_call t old) e, λ h. back h.0 h.1 h.2 h.3 h.4)
    where
      back : (ws : List ℕ) → NetworkForm t size ws → size ≤ 32 → length ws ≡ count → count ≤ length old → network_answer t old ≡ gives (size, count)
      back ws f h e k = (network_stores size ws f h (omega arith)).0 ∙ ap (λ (n : ℕ). gives (size, n)) e

  -- "no byte of a lent buffer differs from before"
  pub network_refused : ((network_answer t old).number ≡ 0 → ⊥) → network_leaves t old ≡ old
  network_refused = calls.refused_keeps (network-laws.does_call t old)

  -- So does whatever answers and leaves as `read_network` promises to.
  pub network_reader : (r : Result (ℕ × ℕ) Refusal) (new : List ℕ) → network_reading_answer r ≡ network_answer t old → new ≡ network_leaves t old
      → NetworkCall t old (network_reading_answer r) new
  network_reader r new e f = (network_answers (network_reading_answer r) new).0 (sym e, sym f)

-- A size that is not written is at most 32, so 4 is refused only behind a slash.
pub inferred_at_most_32 : {t bs : List ℕ} {size : ℕ} → BytesGiven t bs → InferredSize bs size → size ≤ 32
inferred_at_most_32 = calls.size_most

-- "the inferred size 4 is never widened"
pub never_widened : {b size : ℕ} {bs : List ℕ} → 224 ≤ b → b < 240 → InferredSize (b ∷ bs) size → size ≡ 4
never_widened = calls.four_stays

-- One to four bytes are written, so a buffer of four has room for all.
pub one_to_four_bytes : {t ws : List ℕ} {size : ℕ} → NetworkForm t size ws → size ≤ 32 → (1 ≤ length ws) × (length ws ≤ 4)
one_to_four_bytes = calls.bytes_most

-- ---- the network form, written

-- The writer's text is the one of the form, of any address of 32 bits and any size up to 32.
pub written_network_exactly : (v size : ℕ) → v < 2 ^ 32 → size ≤ 32 → (t : List ℕ) → (network_text v size ≡ t) ↔ WrittenNetwork v size t
written_network_exactly v size small h t = (λ e. subst (WrittenNetwork v size) e (written-laws.text_written v size small h), λ w. written-laws.written_text small w)

-- "Reading this gives the same size, and bytes which, filled with zeros to four, are the cleared address": what is written is of the form
-- that is read.
pub written_is_network : (v size : ℕ) → size ≤ 32
    → (ws : List ℕ) × NetworkForm (network_text v size) size ws × (zero_filled 4 ws ≡ digits_of 256 4 (cleared 32 size v))
written_is_network v size h =
    let r = network.read_back v size h in
    let t = network_text v size in
    (r.0.bytes, subst (λ (n : ℕ). NetworkForm t n r.0.bytes) r.2 ((network_exactly t r.0).0 r.1), r.3)

module _ (a : Address) (is : IsAddress a) (size : ℕ) (old : List ℕ) where
  -- The whole answer of the writer and the whole buffer afterwards, refused calls too: 9 before 4 before 3.
  pub network_writing_answers : (r : Answer ℕ) (new : List ℕ) → let text = network_text (number a) size in
      ((write_answer (write_network_refusal a size) text old ≡ r) × (write_leaves (write_network_refusal a size) text old ≡ new)) ↔ NetworkWriting a size old r new
  network_writing_answers r new = (λ e. subst₂ (NetworkWriting a size old) e.0 e.1 (written-laws.does_call a is size old), written-laws.call_does a is size old)

  pub network_writing_refuses : (e : Refusal) → let text = network_text (number a) size in
      ((write_answer (write_network_refusal a size) text old).number ≡ refusal_number e) ↔ NetworkWriting a size old (refuses 0 e) (write_leaves (write_network_refusal a size) text old)
  unfolding write_answer
  network_writing_refuses =
      let left = write_leaves (write_network_refusal a size) (network_text (number a) size) old in
      refuses_exactly (λ r. NetworkWriting a size old r left) 0 _ _ (written-laws.does_call a is size old) (λ r c. (written-laws.call_does a is size old c).0)

  -- So does whatever answers and leaves as `write_network` promises to.
  pub network_writer : (r : Result ℕ Refusal) (new : List ℕ) → let text = network_text (number a) size in
      writing_answer r ≡ write_answer (write_network_refusal a size) text old → new ≡ write_leaves (write_network_refusal a size) text old → NetworkWriting a size old (writing_answer r) new
  network_writer r new e f = (network_writing_answers (writing_answer r) new).0 (sym e, sym f)

-- ---- block text

module _ (t : List ℕ) where
  -- "strict address text of either family, a slash, a length in the size's digits": a text means a block value exactly if it is of the form
  -- and means that value.
  pub block_exactly : (b : Block) → (block_of t ≡ Some b) ↔ BlockForm t b.address b.length
  block_exactly b = (block-laws.reads_block t b, block-laws.block_reads)

  -- The whole answer of the call, refused calls too, and each refusal.
  pub block_answers : (r : Answer Block) → (block_text_answer t ≡ r) ↔ BlockCall t r
  unfolding block_text_answer read_answer
  block_answers = answers_exactly (BlockCall t) no_block _ _ (block-laws.answers_call t) (λ r c. block-laws.call_answers t c)

  pub block_refuses : (e : Refusal) → ((block_text_answer t).number ≡ refusal_number e) ↔ BlockCall t (refuses no_block e)
  unfolding block_text_answer read_answer
  block_refuses = refuses_exactly (BlockCall t) no_block _ _ (block-laws.answers_call t) (λ r c. block-laws.call_answers t c)

  -- A block is given exactly if the text is of the form, and the value that it means keeps both rules.
  pub block_accepts : (b : Block) → (block_text_answer t ≡ gives b)
      ↔ (BlockForm t b.address b.length × (b.length ≤ width b.address) × (number b.address % 2 ^ (width b.address - b.length) ≡ 0))
  block_accepts b = (block-laws.gives_form t b (block-laws.answers_call t), λ h. block-laws.call_answers t (read_block h.0 h.1 h.2))

  -- So does whatever answers as `read_block` promises to.
  pub block_reader : (r : Result Block Refusal) → block_answer r ≡ block_text_answer t → BlockCall t (block_answer r)
  block_reader r promise = (block_answers (block_answer r)).0 (sym promise)

-- "Text is written from a block value in normal text": that of its address, a slash and the length.
pub written_block_exactly : (b : Block) → IsAddress b.address → b.length ≤ 999 → (t : List ℕ) → (block_text b ≡ t) ↔ WrittenBlock b.address b.length t
written_block_exactly b is l t = (λ e. subst (WrittenBlock b.address b.length) e (block-laws.block_text_has b is l), block-laws.block_text_is)

-- What is written of a block value is of the form that is read; and of IPv4 it is the only text that is.
pub written_is_block : (b : Block) → IsAddress b.address → b.length ≤ 999 → BlockForm (block_text b) b.address b.length
written_is_block b is l = (block_exactly (block_text b) b).0 (blocks.read_back b is l)

pub one_ipv4_block_text : (t : List ℕ) (v n : ℕ) → BlockForm t (V4 v) n → block_text (record { address = V4 v; length = n }) ≡ t
one_ipv4_block_text t v n = block-laws.block_spelling

-- ---- bytes

-- "A zero byte inside it is a wrong byte. Surrounding blanks are wrong bytes": so is every byte but hex digits, separators and the `x` of a mark.
module _ (b : ℕ) (other : digit_of b ≡ 16) (no_dot : eqb dot b ≡ false) where
  pub loose_only_these : eqb 0x78 b ≡ false → eqb 0x58 b ≡ false → {t : List ℕ} {a : Address} → LooseForm t a → contains b t ≡ false
  loose_only_these x X h = bytes.loose_lacks b other no_dot x X h

  pub network_only_these : eqb 0x78 b ≡ false → eqb 0x58 b ≡ false → eqb slash b ≡ false → {t ws : List ℕ} {size : ℕ} → NetworkForm t size ws → contains b t ≡ false
  network_only_these x X s h = bytes.network_lacks b other no_dot x X s h

  pub block_only_these : eqb colon b ≡ false → eqb slash b ≡ false → {t : List ℕ} {a : Address} {n : ℕ} → BlockForm t a n → contains b t ≡ false
  block_only_these c s h = bytes.block_lacks b other no_dot c s h

-- ---- specimens, computed

-- Strict text: none of the texts beside the grammar is of it, of either family.
pub none_strict : NoneOf (StrictForm 0) not_strict
unfolding unread strict_of ascii split_on every all_digits digit_of part_of group_of
none_strict = none_of (StrictForm 0) (strict_of 0) (λ t a h. strict-laws.form_reads h) not_strict refl

-- Loose text: the texts of 01 and of document 003, with the addresses that they mean;
pub all_loose : LooseForm (ascii "010.0.0.12") (V4 0x0800000C)
    × LooseForm (ascii "226.000.000.037") (V4 0xE200001F)
    × LooseForm (ascii "0x7f.1") (V4 0x7F000001)
    × LooseForm (ascii "1.2.65535") (V4 0x0102FFFF)
    × LooseForm (ascii "0") (V4 0)
    × LooseForm (ascii "0XfF.0377.255.0255") (V4 0xFFFFFFAD)
unfolding ascii loose_of all_digits digit_of
all_loose = (read refl, read refl, read refl, read refl, read refl, read refl)
  where
    read : {t : List ℕ} {v : ℕ} → loose_of t ≡ Some (V4 v) → LooseForm t (V4 v)
    read {t} {v} e = (loose_exactly t (V4 v)).0 e

-- and texts beside them.
pub none_loose : NoneOf LooseForm not_loose
unfolding unread ascii loose_of all_digits digit_of
none_loose = none_of LooseForm loose_of (λ t a h. loose-laws.form_reads h) not_loose refl

done : {t old new : List ℕ} {r : Answer (ℕ × ℕ)} → network_answer t old ≡ r → network_leaves t old ≡ new → NetworkCall t old r new
done {t} {old} {new} {r} e f = (network_answers t old r new).0 (e, f)

-- Network text: the calls of 01 and of document 000, with the answer and the buffer afterwards;
pub all_network : NetworkCall (ascii "193.168") lent_four (gives (24, 3)) (0xC1 ∷ 0xA8 ∷ 0x00 ∷ 0xFF ∷ [])
    × NetworkCall (ascii "193.168.1.128") lent_four (gives (32, 4)) (0xC1 ∷ 0xA8 ∷ 0x01 ∷ 0x80 ∷ [])
    × NetworkCall (ascii "193.168.1.128/24") lent_four (gives (24, 4)) (0xC1 ∷ 0xA8 ∷ 0x01 ∷ 0x80 ∷ [])
    × NetworkCall (ascii "224.1") lent_four (gives (4, 2)) (0xE0 ∷ 0x01 ∷ 0xFF ∷ 0xFF ∷ [])
    × NetworkCall (ascii "0xabc") lent_four (gives (16, 2)) (0xAB ∷ 0xC0 ∷ 0xFF ∷ 0xFF ∷ [])
    × NetworkCall (ascii "0/0") lent_four (gives (0, 1)) (0x00 ∷ 0xFF ∷ 0xFF ∷ 0xFF ∷ [])
    × NetworkCall (ascii "10/20") lent_four (gives (20, 3)) (0x0A ∷ 0x00 ∷ 0x00 ∷ 0xFF ∷ [])
unfolding ascii network_answer network_leaves all_digits digit_of split_on
all_network = (done refl refl, done refl refl, done refl refl, done refl refl, done refl refl, done refl refl, done refl refl)

-- and what is refused: a size above 32, too short a buffer, a leading zero in a part and in a size, five parts, nine hex digits, none, a slash
-- with no size, no text.
pub none_network : NetworkCall (ascii "10/33") lent_four (refuses (0, 0) LengthTooLarge) lent_four
    × NetworkCall (ascii "193.168") (1 ∷ 2 ∷ []) (refuses (0, 0) NoRoom) (1 ∷ 2 ∷ [])
    × NetworkCall (ascii "010.1") lent_four (refuses (0, 0) Malformed) lent_four
    × NetworkCall (ascii "10/08") lent_four (refuses (0, 0) Malformed) lent_four
    × NetworkCall (ascii "1.2.3.4.5") lent_four (refuses (0, 0) Malformed) lent_four
    × NetworkCall (ascii "0x123456789") lent_four (refuses (0, 0) Malformed) lent_four
    × NetworkCall (ascii "0x") lent_four (refuses (0, 0) Malformed) lent_four
    × NetworkCall (ascii "10/") lent_four (refuses (0, 0) Malformed) lent_four
    × NetworkCall (ascii "") lent_four (refuses (0, 0) Malformed) lent_four
unfolding ascii network_answer network_leaves all_digits digit_of split_on
none_network = (done refl refl, done refl refl, done refl refl, done refl refl, done refl refl, done refl refl, done refl refl, done refl refl, done refl refl)

judged : {t : List ℕ} {r : Answer Block} → block_text_answer t ≡ r → BlockCall t r
judged {t} {r} e = (block_answers t r).0 e

-- Block text: one block, and what is refused: a bit beyond the length, a length above 32, a leading zero in the length, no length, no slash,
-- an address that is no strict text.
pub block_calls : BlockCall (ascii "10.0.0.0/31") (gives (record { address = V4 0x0A000000; length = 31 }))
    × BlockCall (ascii "10.0.0.1/31") (refuses no_block BitsBeyondLength)
    × BlockCall (ascii "10.0.0.0/33") (refuses no_block LengthTooLarge)
    × BlockCall (ascii "10.0.0.0/08") (refuses no_block Malformed)
    × BlockCall (ascii "10.0.0.0/") (refuses no_block Malformed)
    × BlockCall (ascii "10.0.0.0") (refuses no_block Malformed)
    × BlockCall (ascii "10.0/16") (refuses no_block Malformed)
unfolding ascii block_text_answer every all_digits digit_of part_of group_of split_on
block_calls = (judged refl, judged refl, judged refl, judged refl, judged refl, judged refl, judged refl)
