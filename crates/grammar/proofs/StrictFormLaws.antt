-- Strict text: what the grammar has is what is read, by the family asked for, and what reading answers. Assumes nothing.
use Rattle.std.specs.Prelude.{Option, Some, None, option_map, ok_or}
use mathlib.Core.Path.{◌≡◌, refl, sym, ap, ap₂, subst, ◌∙◌}
use mathlib.Core.Bool.{Bool, true, false, false≢true}
use mathlib.Core.List.{List, [], ◌∷◌}
use mathlib.Core.Logic.{◌⊎◌, inl, inr, ⊎_elim}
use Prim.Native.Nat.{ℕ, ◌+◌, ◌*◌, ◌≤◌}
use native.Mathlib.Decide.{dec_le}
use native.Mathlib.Omega.{arith}
use borrow.Author.Tests.{eqb-true}
use lib.Dec.{eqb}
use lib.ListN.{length}
use Rattle.notation.specs.BigEndian.{digits_of, number_of}
use Rattle.notation.specs.Options.{or_else}
use Rattle.notation.proofs.DigitLaws.{four_number}
use Rattle.notation.proofs.OptionLaws.{impossible, nothing_there, or_none}
use Rattle.address.specs.declared.Address.{Address}
use Rattle.address.specs.declared.Address.TheVariants.{V4, V6}
use Rattle.address.specs.declared.Refusal.TheVariants.{TextTooLong, Malformed, WrongFamily}
use Rattle.address.specs.Answers.{Answer, gives, reading_answer}
use Rattle.address.proofs.Claims.{gives_one, gives_refuses}
use Rattle.address_groups.specs.Groups.{groups_address}
use Rattle.ipv4_text.specs.Dotted.{dotted_of, dotted_text}
use Rattle.ipv6_text.specs.EightGroups.{eight_of}
use Rattle.ipv6_text.proofs.ColonLaws.{colon_not_dotted, eight_colon}
use Rattle.text.specs.Strict.{strict_of, known_family, strict_answer}
use Rattle.text.proofs.StrictLaws.{strict_unknown, strict_long, strict_read}
use Rattle.normal.specs.Normal.{normal_text}
use Rattle.grammar.specs.Rfc3986.{IPv4address, four_octets, IPv6address}
use Rattle.grammar.specs.StrictForm.{IPv4Text, of_octets, IPv6Text, of_groups, StrictForm, four, six, either_4, either_6, Known, for_4, for_6, for_either, StrictCall, unknown, too_long, not_strict_lem, read_strict}
use Rattle.grammar.proofs.DottedLaws.{address_reads, reads_address, dotted_spelt}
use Rattle.grammar.proofs.EightLaws.{reads_eight, eight_length}
use Rattle.grammar.proofs.GrammarLaws.{grammar_reads, reads_grammar}
use Rattle.grammar.proofs.LengthLaws.{strict_most}

-- ---- the address of a text

means_4_reads : {t : List ℕ} {a : Address} → IPv4Text t a → option_map V4 (dotted_of t) ≡ Some a
means_4_reads (of_octets {t} {w} {x} {y} {z} h) = rw (address_reads h, four_number 256 w x y z)

octets_mean : {t os : List ℕ} → IPv4address t os → IPv4Text t (V4 (number_of 256 os))
octets_mean (four_octets {w = w} {x = x} {y = y} {z = z} g h i j) = rw (four_number 256 w x y z) (of_octets (four_octets g h i j))

reads_means_4 : (t : List ℕ) (a : Address) → option_map V4 (dotted_of t) ≡ Some a → IPv4Text t a
reads_means_4 t a e = go (dotted_of t) refl e
  where
    go : (o : Option ℕ) → dotted_of t ≡ o → option_map V4 o ≡ Some a → IPv4Text t a
    go None q k = impossible k
    go (Some v) q k =
        let h = reads_address t v q in
        let f = address_reads h in
        let same : number_of 256 (digits_of 256 4 v) ≡ v = cc in
        let is : V4 v ≡ a = cc in
        subst (IPv4Text t) (ap V4 same ∙ is) (octets_mean h)

-- eight groups, one by one
pub data EightList : List ℕ → Type 0 where
  eight : (a b c d e f g h : ℕ) → EightList (a ∷ b ∷ c ∷ d ∷ e ∷ f ∷ g ∷ h ∷ [])

pub eight_list : (gs : List ℕ) → length gs ≡ 8 → EightList gs
eight_list [] l = absurd (omega arith)
eight_list (a ∷ []) l = absurd (omega arith)
eight_list (a ∷ b ∷ []) l = absurd (omega arith)
eight_list (a ∷ b ∷ c ∷ []) l = absurd (omega arith)
eight_list (a ∷ b ∷ c ∷ d ∷ []) l = absurd (omega arith)
eight_list (a ∷ b ∷ c ∷ d ∷ e ∷ []) l = absurd (omega arith)
eight_list (a ∷ b ∷ c ∷ d ∷ e ∷ f ∷ []) l = absurd (omega arith)
eight_list (a ∷ b ∷ c ∷ d ∷ e ∷ f ∷ g ∷ []) l = absurd (omega arith)
eight_list (a ∷ b ∷ c ∷ d ∷ e ∷ f ∷ g ∷ h ∷ []) l = eight a b c d e f g h
eight_list (a ∷ b ∷ c ∷ d ∷ e ∷ f ∷ g ∷ h ∷ x ∷ gs) l = absurd (omega arith)

-- their address
pub eight_address : (a b c d e f g h : ℕ) → groups_address (a ∷ b ∷ c ∷ d ∷ e ∷ f ∷ g ∷ h ∷ [])
    ≡ V6 (((a * 65536 + b) * 65536 + c) * 65536 + d) (((e * 65536 + f) * 65536 + g) * 65536 + h)
unfolding groups_address
eight_address a b c d e f g h = ap₂ V6 (four_number 65536 a b c d) (four_number 65536 e f g h)

means_6_reads : {t : List ℕ} {a : Address} → IPv6Text t a → option_map groups_address (eight_of t) ≡ Some a
means_6_reads (of_groups {t} {a} {b} {c} {d} {e} {f} {g} {h} i) = rw (grammar_reads i) (ap Some (eight_address a b c d e f g h))

groups_mean : {t : List ℕ} (gs : List ℕ) → length gs ≡ 8 → IPv6address t gs → IPv6Text t (groups_address gs)
groups_mean {t} gs l = go (eight_list gs l)
  where
    go : {gs : List ℕ} → EightList gs → IPv6address t gs → IPv6Text t (groups_address gs)
    go (eight a b c d e f g h) i = subst (IPv6Text t) (sym (eight_address a b c d e f g h)) (of_groups i)

reads_means_6 : (t : List ℕ) (a : Address) → option_map groups_address (eight_of t) ≡ Some a → IPv6Text t a
reads_means_6 t a e = go (eight_of t) refl e
  where
    go : (o : Option (List ℕ)) → eight_of t ≡ o → option_map groups_address o ≡ Some a → IPv6Text t a
    go None q k = impossible k
    go (Some gs) q k = let is : groups_address gs ≡ a = cc in subst (IPv6Text t) is (groups_mean gs (eight_length (reads_eight t gs q)) (reads_grammar t gs q))

-- ---- each family

means_6_not_dotted : {t : List ℕ} {a : Address} → IPv6Text t a → dotted_of t ≡ None
means_6_not_dotted (of_groups {t} {a} {b} {c} {d} {e} {f} {g} {h} i) = colon_not_dotted t (eight_colon t (a ∷ b ∷ c ∷ d ∷ e ∷ f ∷ g ∷ h ∷ []) (grammar_reads i))

pub form_reads : {f : ℕ} {t : List ℕ} {a : Address} → StrictForm f t a → strict_of f t ≡ Some a
unfolding strict_of
form_reads (four {t} h) = or_none (option_map V4 (dotted_of t)) ∙ means_4_reads h
form_reads (six h) = means_6_reads h
form_reads (either_4 h) = rw (means_4_reads h)
form_reads (either_6 h) = rw (means_6_not_dotted h) (means_6_reads h)

module _ (t : List ℕ) (a : Address) where
  pub reads_4 : strict_of 4 t ≡ Some a → StrictForm 4 t a
  unfolding strict_of
  reads_4 e = four (reads_means_4 t a (sym (or_none (option_map V4 (dotted_of t))) ∙ e))

  pub reads_6 : strict_of 6 t ≡ Some a → StrictForm 6 t a
  unfolding strict_of
  reads_6 e = six (reads_means_6 t a e)

  pub reads_0 : strict_of 0 t ≡ Some a → StrictForm 0 t a
  unfolding strict_of
  reads_0 e = go (option_map V4 (dotted_of t)) refl e
    where
      go : (o : Option Address) → option_map V4 (dotted_of t) ≡ o → or_else o (option_map groups_address (eight_of t)) ≡ Some a → StrictForm 0 t a
      go None q k = either_6 (reads_means_6 t a k)
      go (Some b) q k = either_4 (reads_means_4 t a (q ∙ k))

-- ---- the call

pub family_known : {f : ℕ} → Known f → known_family f ≡ true
family_known for_4 = refl
family_known for_6 = refl
family_known for_either = refl

known_or_not : (f : ℕ) → Known f ⊎ (known_family f ≡ false)
known_or_not f = go (eqb f 4) refl (eqb f 6) refl (eqb f 0) refl
  where
    at : (n : ℕ) → eqb f n ≡ true → Known n → Known f ⊎ (known_family f ≡ false)
    at n e a = inl (subst Known (sym (eqb-true f n e)) a)

    go : (p : Bool) → eqb f 4 ≡ p → (q : Bool) → eqb f 6 ≡ q → (r : Bool) → eqb f 0 ≡ r → Known f ⊎ (known_family f ≡ false)
    go true u q v r w = at 4 u for_4
    go false u true v r w = at 6 v for_6
    go false u false v true w = at 0 w for_either
    go false u false v false w = inr (rw (u, v, w))

form_known : {f : ℕ} {t : List ℕ} {a : Address} → StrictForm f t a → Known f
form_known (four h) = for_4
form_known (six h) = for_6
form_known (either_4 h) = for_either
form_known (either_6 h) = for_either

reads_known : {f : ℕ} (t : List ℕ) (a : Address) → Known f → strict_of f t ≡ Some a → StrictForm f t a
reads_known t a for_4 e = reads_4 t a e
reads_known t a for_6 e = reads_6 t a e
reads_known t a for_either e = reads_0 t a e

module _ (f : ℕ) (t : List ℕ) where
  answered : (o : Option Address) → Known f → length t ≤ 64 → strict_of f t ≡ o → strict_answer f t ≡ reading_answer (ok_or o Malformed)
  answered o a l e = sym (strict_read f t (family_known a) l) ∙ ap (λ p. reading_answer (ok_or p Malformed)) e

  pub call_answers : {r : Answer Address} → StrictCall f t r → strict_answer f t ≡ r
  call_answers (unknown n) = ⊎_elim (λ a. absurd (n a)) (λ k. sym (strict_unknown f t k)) (known_or_not f)
  call_answers (too_long a l) = sym (strict_long f t (family_known a) l)
  call_answers (not_strict_lem a l n) = answered None a l (nothing_there (strict_of f t) (λ b e. n b (reads_known t b a e)))
  call_answers (read_strict {a} h) = answered (Some a) (form_known h) (omega (arith, strict_most h)) (form_reads h)

  pub answers_call : StrictCall f t (strict_answer f t)
  answers_call = ⊎_elim (λ a. go a) (λ k. subst (StrictCall f t) (strict_unknown f t k) (unknown (λ a. false≢true (sym k ∙ family_known a)))) (known_or_not f)
    where
      read : Known f → length t ≤ 64 → (o : Option Address) → strict_of f t ≡ o → StrictCall f t (strict_answer f t)
      read a l None e = subst (StrictCall f t) (sym (answered None a l e)) (not_strict_lem a l (λ b h. impossible (sym e ∙ form_reads h)))
      read a l (Some b) e = subst (StrictCall f t) (sym (answered (Some b) a l e)) (read_strict (reads_known t b a e))

      go : Known f → StrictCall f t (strict_answer f t)
      go a = elim (dec_le (length t) 64) [
        | yes l ↦ read a l (strict_of f t) refl
        | no l ↦ subst (StrictCall f t) (strict_long f t (family_known a) (omega arith)) (too_long a (omega arith))
      ]

  -- what a call that gives an address has found
  pub gives_form : {r : Answer Address} (a : Address) → StrictCall f t r → r ≡ gives a → StrictForm f t a
  gives_form a (unknown n) e = absurd (gives_refuses WrongFamily (sym e))
  gives_form a (too_long k l) e = absurd (gives_refuses TextTooLong (sym e))
  gives_form a (not_strict_lem k l n) e = absurd (gives_refuses Malformed (sym e))
  gives_form a (read_strict h) e = subst (StrictForm f t) (gives_one e) h

-- ---- one spelling

pub text_spelling : {t : List ℕ} {a : Address} → IPv4Text t a → normal_text a ≡ t
unfolding normal_text
text_spelling (of_octets {t} {w} {x} {y} {z} h) = ap dotted_text (sym (four_number 256 w x y z)) ∙ dotted_spelt t _ (address_reads h)
