-- What is claimed of the acidity sheet (02, Req 09) by its inductive form: exactly its sheets are read, respelled and refused, and what is written is
-- the one text of its form. Assumes nothing.
use Rattle.std.specs.Prelude.{Some, None, Result}
use mathlib.Core.Path.{◌≡◌, sym, subst, subst₂, ◌∙◌}
use mathlib.Core.Logic.{◌⊎◌, ◌↔◌}
use mathlib.Core.Bool.{Bool, true}
use mathlib.Core.List.{List, [], ◌∷◌, ◌++◌, Permᴰ}
use Prim.Native.Nat.{ℕ, ◌+◌, ◌*◌, ◌^◌, ◌≤◌}
use lib.ListN.{length, drop, replicate}
use Rattle.notation.proofs.OptionLaws.{impossible, nothing_there}
use Rattle.address.specs.declared.Address.{Address}
use Rattle.address.specs.declared.Address.TheVariants.{V6}
use Rattle.address.specs.Addresses.{IsAddress}
use Rattle.address.specs.declared.Refusal.{Refusal}
use Rattle.address.specs.Answers.{Answer, gives, refuses, refusal_number, write_answer, writing_answer}
use Rattle.grammar.specs.StrictForm.{StrictForm}
use Rattle.grammar.proofs.CallLaws.{refuses_exactly}
use Rattle.grammar.proofs.LengthLaws.{strict_most}
use Rattle.sheet_lines.specs.declared.Entry.{Entry}
use Rattle.sheet_lines.specs.Lines.{number_to, line_entry, entry_text, IsEntry}
use Rattle.sheet_answers.specs.Sheets.{sheet_of, sheet_lines, sheet_text, AllEntries, arranged}
use Rattle.sheet_answers.specs.SheetAnswers.{respell_answer, respell_leaves}
use Rattle.sheet_answers.specs.Specimens.{ended}
use Rattle.sheet_answers.proofs.Claims as answers
use Rattle.sheet_grammar.specs.SheetForm.{PlainNumber, Line, Sheet, Lines, WrittenLine, WrittenSheet, NotAfter, UsedInTurn, Arranged, SheetCall}
use Rattle.sheet_grammar.proofs.NumberFormLaws as numbers
use Rattle.sheet_grammar.proofs.LineFormLaws as lines
use Rattle.sheet_grammar.proofs.SheetFormLaws as form
use Rattle.sheet_grammar.proofs.AddressOrderLaws as addresses
use Rattle.sheet_grammar.proofs.ArrangedFormLaws as order
use Rattle.sheet_grammar.proofs.SheetCallLaws as call

-- ---- what is read

-- "the numbers have no leading zero except `0`": of at most m, read exactly if the rule has the text.
pub number_exactly : (m : ℕ) (t : List ℕ) (n : ℕ) → (number_to m t ≡ Some n) ↔ (PlainNumber t n × (n ≤ m))
number_exactly m t n = (numbers.reads_plain m t n, λ p. numbers.plain_reads m p.0 p.1)

-- "A line is a strict address, a comma, a volume number from 1 to 999,999, a comma, and pH in hundredths from 0 to 1400"
pub line_exactly : (l : List ℕ) (e : Entry) → (line_entry l ≡ Some e) ↔ Line l e
line_exactly l e = (lines.reads_line l e, lines.line_reads)

-- "ended by a newline"
pub sheet_exactly : (t : List ℕ) (es : List Entry) → (sheet_of t ≡ Some es) ↔ Sheet t es
sheet_exactly t es = (form.reads_sheet t es, form.sheet_reads)

-- "Any malformed line [...] refuses the sheet": it has no meaning exactly if no entries are its meaning.
pub malformed_exactly : (t : List ℕ) → (sheet_of t ≡ None) ↔ ((es : List Entry) → Sheet t es → ⊥)
malformed_exactly t = (
  λ e es s. impossible (sym e ∙ form.sheet_reads s),
  λ n. nothing_there (sheet_of t) (λ es e. n es (form.reads_sheet t es e)),
)

-- "A final line without its newline counts as a line": the number of lines, whatever they hold.
pub lines_exactly : (t : List ℕ) (n : ℕ) → (length (sheet_lines t) ≡ n) ↔ Lines t n
lines_exactly t n = (λ e. subst (Lines t) e (form.count_lines t), form.lines_count)

-- A sheet has as many lines as entries.
pub as_many : {t : List ℕ} {es : List Entry} → Sheet t es → Lines t (length es)
as_many = form.as_many

-- "an address of more than 64 bytes included": no strict address is longer than 45, so that no rule here needs to say it.
pub at_most_45 : {t : List ℕ} {a : Address} → StrictForm 0 t a → length t ≤ 45
at_most_45 = strict_most

-- ---- one meaning

pub one_number : {t : List ℕ} {m n : ℕ} → PlainNumber t m → PlainNumber t n → m ≡ n
one_number = numbers.one_value

pub one_entry : {l : List ℕ} {e f : Entry} → Line l e → Line l f → e ≡ f
one_entry = lines.one_entry

pub one_meaning : {t : List ℕ} {es fs : List Entry} → Sheet t es → Sheet t fs → es ≡ fs
one_meaning = form.same_entries

pub one_count : {t : List ℕ} {m n : ℕ} → Lines t m → Lines t n → m ≡ n
one_count p q = sym (form.lines_count p) ∙ form.lines_count q

-- ---- what is written

-- "It respells each address normally": of an entry and of entries that keep the limits, exactly one text is of the form, and it is the one that is
-- written.
pub written_line_exactly : (e : Entry) → IsEntry e → (l : List ℕ) → (entry_text e ≡ l) ↔ WrittenLine e l
written_line_exactly e is l = (λ h. subst (WrittenLine e) h (lines.line_written e is), λ w. lines.one_line (lines.line_written e is) w)

pub written_exactly : (es : List Entry) → AllEntries es → (t : List ℕ) → (sheet_text es ≡ t) ↔ WrittenSheet es t
written_exactly es all t = (λ e. subst (WrittenSheet es) e (form.sheet_written es all), λ w. form.one_text (form.sheet_written es all) w)

-- No entries have two texts of the form, nor has a number.
pub one_text : {es : List Entry} {t u : List ℕ} → WrittenSheet es t → WrittenSheet es u → t ≡ u
one_text = form.one_text

pub one_numeral : {t u : List ℕ} {n : ℕ} → PlainNumber t n → PlainNumber u n → t ≡ u
one_numeral = numbers.one_spelling

-- ---- the order

-- "on request sorts": entries that keep the limits have one order by the request.
pub order_exactly : (sort : Bool) (es fs : List Entry) → AllEntries es → (arranged sort es ≡ fs) ↔ Arranged sort es fs
order_exactly sort es fs all = (λ e. subst (Arranged sort es) e (order.arranged_has sort es all), λ a. sym (order.arranged_only a all))

-- "each input line used exactly once"
pub used_exactly_once : {es fs : List Entry} → UsedInTurn es fs → Permᴰ es fs
used_exactly_once = order.used_perm

-- The order of addresses is one: of two addresses one is not after the other, both only if they are equal, and what is not after an address is not
-- after those that follow it.
pub total : (a b : Address) → NotAfter a b ⊎ NotAfter b a
total = addresses.total

pub antisymmetric : {a b : Address} → NotAfter a b → NotAfter b a → a ≡ b
antisymmetric = addresses.antisymmetric

pub transitive : {a b c : Address} → NotAfter a b → NotAfter b c → NotAfter a c
transitive = addresses.transitive

-- Addresses of IPv6 are "ordered as numbers of [...] 128 bits" (01).
pub as_numbers : (hi lo i k : ℕ) → IsAddress (V6 hi lo) → IsAddress (V6 i k) → NotAfter (V6 hi lo) (V6 i k) ↔ (hi * 2 ^ 64 + lo ≤ i * 2 ^ 64 + k)
as_numbers = addresses.as_numbers

-- ---- the call

module _ (sort : Bool) (t old : List ℕ) where
  -- The whole answer and the whole buffer afterwards, refused calls too.
  pub call_exactly : (r : Answer ℕ) (new : List ℕ) → ((respell_answer sort t old ≡ r) × (respell_leaves sort t old ≡ new)) ↔ SheetCall sort t old r new
  call_exactly r new = (λ e. subst₂ (SheetCall sort t old) e.0 e.1 (call.does_call sort t old), call.call_does sort t old)

  -- Each refusal is given exactly when its sentence says so: see the constructor with that refusal.
  pub call_refuses : (e : Refusal) → ((respell_answer sort t old).number ≡ refusal_number e) ↔ SheetCall sort t old (refuses 0 e) (respell_leaves sort t old)
  unfolding respell_answer write_answer
  call_refuses = refuses_exactly (λ r. SheetCall sort t old r (respell_leaves sort t old)) 0 _ _ (call.does_call sort t old) (λ r c. (call.call_does sort t old c).0)

  -- A good answer: the sheet's entries, arranged, and the one text that is written of them.
  pub call_accepts : (n : ℕ) → respell_answer sort t old ≡ gives n
      → (es : List Entry) × (fs : List Entry) × (u : List ℕ) × Sheet t es × Arranged sort es fs × WrittenSheet fs u × (length u ≡ n) × (respell_leaves sort t old ≡ u ++ drop n old)
  call_accepts n good = call.says_good n (call.does_call sort t old) good

  -- So does whatever answers and leaves as `respell` promises to.
  pub respeller : (r : Result ℕ Refusal) (new : List ℕ) → writing_answer r ≡ respell_answer sort t old → new ≡ respell_leaves sort t old → SheetCall sort t old (writing_answer r) new
  respeller r new e f = (call_exactly (writing_answer r) new).0 (sym e, sym f)

-- ---- a specimen, computed in `sheet_answers`

-- Two lines whose addresses are out of order: each keeps its own volume and pH, and what stands behind them stays.
pub whole_lines_sorted :
    SheetCall true (ended ("10.0.0.2,7,650" ∷ "10.0.0.1,8,710" ∷ [])) (replicate 31 0) (gives 30) (ended ("10.0.0.1,8,710" ∷ "10.0.0.2,7,650" ∷ []) ++ 0 ∷ [])
whole_lines_sorted = (call_exactly true _ _ _ _).0 answers.whole_lines_sorted
