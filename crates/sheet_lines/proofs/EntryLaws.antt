-- What is read as an entry keeps the limits, and the line of an entry is read as that entry. Assumes nothing.
use Rattle.std.specs.Prelude.{Option, Some, None}
use mathlib.Core.Path.{◌≡◌, refl, sym, ap, ◌∙◌}
use mathlib.Core.Bool.{Bool, true, false, cond}
use mathlib.Core.List.{List, [], ◌∷◌, ◌++◌}
use Prim.Native.Nat.{ℕ, ◌≤◌, ◌<◌}
use native.Mathlib.Omega.{arith}
use borrow.Author.Tests.{le-leb, le-ltb, ltb-false}
use lib.Dec.{eqb, ltb, lit<, lit≤}
use lib.ListN.{length}
use Rattle.notation.specs.Pieces.{Lacks, Each, split_on, separated}
use Rattle.notation.proofs.OptionLaws.{impossible, same_value}
use Rattle.notation.proofs.SeparatedLaws.{lacks_separated, split_separated, separated_split}
use Rattle.address.specs.declared.Address.{Address}
use Rattle.digits.specs.Numerals.{digit_of, numeral}
use Rattle.digits.proofs.NumeralLaws.{numeral_leading, numeral_read}
use Rattle.text.specs.Strict.{strict_of}
use Rattle.text.proofs.ByteLaws.{strict_lacks}
use Rattle.text.proofs.MeaningLaws.{strict_address}
use Rattle.normal.specs.Normal.{normal_text}
use Rattle.normal.proofs.BoundLaws.{text_most}
use Rattle.normal.proofs.ReadBackLaws.{text_read}
use Rattle.sheet_lines.specs.declared.Entry.{Entry}
use Rattle.sheet_lines.specs.Lines.{number_to, at_least, address_of, volume_of, ph_of, entry_of, fields_entry, line_entry, entry_text, IsEntry}
use Rattle.sheet_lines.proofs.FieldLaws.{number_rest, number_most, number_lacks, least_some, least_says}

-- ---- a line that holds an entry: three texts with commas between them

pub record Holds (line : List ℕ) (e : Entry) : Type 0 where
  pub address : List ℕ
  pub volume : List ℕ
  pub ph : List ℕ
  pub is : line ≡ address ++ (44 ∷ (volume ++ (44 ∷ ph)))
  pub an_address : address_of address ≡ Some e.address
  pub a_volume : volume_of volume ≡ Some e.volume
  pub a_ph : ph_of ph ≡ Some e.ph

-- an address that is read is strict text
pub address_strict : (t : List ℕ) (a : Address) → address_of t ≡ Some a → (strict_of 0 t ≡ Some a) × (length t ≤ 64)
unfolding address_of
address_strict t a e = go (ltb 64 (length t)) refl e
  where
    go : (b : Bool) → ltb 64 (length t) ≡ b → cond b None (strict_of 0 t) ≡ Some a → (strict_of 0 t ≡ Some a) × (length t ≤ 64)
    go true q k = impossible k
    go false q k = (k, ltb-false 64 (length t) q)

pub strict_address_of : (t : List ℕ) (a : Address) → length t ≤ 64 → strict_of 0 t ≡ Some a → address_of t ≡ Some a
unfolding address_of
strict_address_of t a h e = rw (le-ltb 64 (length t) h) e

module _ (line : List ℕ) (e : Entry) (h : Holds line e) where
  -- a byte that is no digit, no dot and no colon stands in no field
  holds_lack : (b : ℕ) → digit_of b ≡ 16 → eqb 46 b ≡ false → eqb 58 b ≡ false → Each (Lacks b) (h.address ∷ h.volume ∷ h.ph ∷ [])
  unfolding volume_of ph_of
  holds_lack b n d c =
      let a = address_strict h.address e.address h.an_address in
      let v = least_says 1 e.volume (number_to 999999 h.volume) h.a_volume in
      (strict_lacks b n d c 0 h.address e.address a.0, (number_lacks 999999 h.volume b e.volume n v.0, (number_lacks 1400 h.ph b e.ph n h.a_ph, tt)))

  -- so no newline stands in the line
  pub holds_lacks : Lacks 10 line
  unfolding separated digit_of
  holds_lacks = rw h.is (lacks_separated 44 10 refl (h.address ∷ h.volume ∷ h.ph ∷ []) (holds_lack 10 refl refl refl))

  pub holds_read : line_entry line ≡ Some e
  unfolding line_entry fields_entry separated digit_of
  holds_read =
      let ps = h.address ∷ h.volume ∷ h.ph ∷ [] in
      ap (λ l. fields_entry (split_on 44 l)) h.is
      ∙ ap fields_entry (split_separated 44 ps (omega arith) (holds_lack 44 refl refl refl))
      ∙ rw (h.an_address, h.a_volume, h.a_ph)

  pub holds_is : IsEntry e
  unfolding volume_of ph_of
  holds_is =
      let v = least_says 1 e.volume (number_to 999999 h.volume) h.a_volume in
      record {
        address = strict_address 0 h.address e.address (address_strict h.address e.address h.an_address).0;
        some_volume = omega (arith, v.1);
        volume = omega (arith, number_most 999999 h.volume e.volume v.0);
        ph = omega (arith, number_most 1400 h.ph e.ph h.a_ph);
      }

-- ---- every line that is read holds an entry

fields_say : (x : Option Address) (y z : Option ℕ) (e : Entry) → entry_of x y z ≡ Some e → (x ≡ Some e.address) × (y ≡ Some e.volume) × (z ≡ Some e.ph)
fields_say None y z e k = impossible k
fields_say (Some x) None z e k = impossible k
fields_say (Some x) (Some y) None e k = impossible k
fields_say (Some x) (Some y) (Some z) e k = let is = same_value k in (ap (λ r. Some r.address) is, ap (λ r. Some r.volume) is, ap (λ r. Some r.ph) is)

pub read_holds : (line : List ℕ) (e : Entry) → line_entry line ≡ Some e → Holds line e
unfolding line_entry fields_entry separated
read_holds line e h = go (split_on 44 line) refl h
  where
    go : (ps : List (List ℕ)) → split_on 44 line ≡ ps → fields_entry ps ≡ Some e → Holds line e
    go [] q k = impossible k
    go (a ∷ []) q k = impossible k
    go (a ∷ v ∷ []) q k = impossible k
    go (a ∷ v ∷ p ∷ []) q k =
        let s = fields_say (address_of a) (volume_of v) (ph_of p) e k in
        record { address = a; volume = v; ph = p; is = sym (separated_split 44 line) ∙ ap (separated 44) q; an_address = s.0; a_volume = s.1; a_ph = s.2 }
    go (a ∷ v ∷ p ∷ r ∷ ps) q k = impossible k

pub line_is : (line : List ℕ) (e : Entry) → line_entry line ≡ Some e → IsEntry e
line_is line e h = holds_is line e (read_holds line e h)

-- ---- the line of an entry

number_back : (m n : ℕ) → n ≤ m → m < 10000000000 → number_to m (numeral 10 10 n) ≡ Some n
number_back m n l h =
    number_rest m (numeral 10 10 n) (numeral_leading 10 10 n (lit≤ tt) (lit< tt) (lit≤ tt))
    ∙ rw (numeral_read 10 10 n (lit≤ tt) (lit< tt) (lit≤ tt) (omega arith), le-leb n m l)

module _ (e : Entry) (h : IsEntry e) where
  entry_holds : Holds (entry_text e) e
  unfolding entry_text separated volume_of ph_of
  entry_holds =
      record {
        address = normal_text e.address;
        volume = numeral 10 10 e.volume;
        ph = numeral 10 10 e.ph;
        is = refl;
        an_address = strict_address_of (normal_text e.address) e.address (omega (arith, text_most e.address)) (text_read e.address h.address).0;
        a_volume = ap (at_least 1) (number_back 999999 e.volume (omega (arith, h.volume)) (lit< tt)) ∙ least_some 1 e.volume (omega (arith, h.some_volume));
        a_ph = number_back 1400 e.ph (omega (arith, h.ph)) (lit< tt);
      }

  pub entry_back : line_entry (entry_text e) ≡ Some e
  entry_back = holds_read (entry_text e) e entry_holds

  pub entry_lacks : Lacks 10 (entry_text e)
  entry_lacks = holds_lacks (entry_text e) e entry_holds

-- ---- what the code's answers say

pub line_says : (o : Option Entry) (e : Entry) → Some e ≡ o → o ≡ Some e
line_says None e h = let z : ◌≡◌ {A = ℕ} 0 1 = cc in absurd (omega arith)
line_says (Some f) e h = cc

pub no_line_says : (o : Option Entry) → None ≡ o → o ≡ None
no_line_says None h = refl
no_line_says (Some f) h = let z : ◌≡◌ {A = ℕ} 0 1 = cc in absurd (omega arith)
