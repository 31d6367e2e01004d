-- What is claimed of a sheet that is respelled (02, Req 09): of what the call answers, and of what the buffer then holds. `sort` is the request, `t`
-- the sheet, `old` the second buffer before the call, `gives n` a good answer of n bytes, and `seen` those bytes as the buffer then holds them.
-- That exactly the sheets of the form are read is claimed in `sheet_grammar`. Assumes nothing.
use Rattle.std.specs.Prelude.{Some, None}
use mathlib.Core.Path.{◌≡◌, refl, sym, ap, subst, ◌∙◌}
use mathlib.Core.Logic.{◌⊎◌, ◌↔◌}
use mathlib.Core.Bool.{Bool, true, false, cond, ◌&&◌, ◌||◌}
use mathlib.Core.List.{List, [], ◌∷◌, ◌++◌, map, Memᴰ, Permᴰ}
use Prim.Native.Nat.{ℕ, ◌*◌, ◌≤◌, ◌<◌}
use native.Mathlib.Omega.{arith}
use lib.Dec.{leb, ltb, eqb}
use lib.ListN.{length, take, drop, get_or, replicate}
use Rattle.notation.specs.Ascii.{ascii}
use Rattle.notation.specs.Options.{every}
use Rattle.notation.proofs.OptionLaws.{same_value}
use Rattle.address.specs.declared.Address.{Address}
use Rattle.address.specs.Addresses.{IsAddress, family, number}
use Rattle.address.specs.declared.Refusal.TheVariants.{TextTooLong, Malformed, NoRoom, TooMany}
use Rattle.address.specs.Answers.{gives, refuses}
use Rattle.address.proofs.AnswerLaws.{write_refused, write_length}
use Rattle.address_groups.specs.Groups.{groups_of, groups_address}
use Rattle.digits.specs.Numerals.{digit_of, all_digits, part_of, group_of}
use Rattle.ipv4_text.specs.Dotted.{dotted_text}
use Rattle.zero_runs.specs.Runs.{zeros_of}
use Rattle.stable_sort.specs.Stable.{Rising, StableSort}
use Rattle.sheet_lines.specs.declared.Entry.{Entry}
use Rattle.sheet_lines.specs.Lines.{line_entry}
use Rattle.sheet_answers.specs.Sheets.{sheet_lines, sheet_of, sheet_text, Spelled, place, arranged}
use Rattle.sheet_answers.specs.SheetAnswers.{respelled, sheet_refusal, respell_answer, respell_leaves}
use Rattle.sheet_answers.specs.Specimens.{ended, Refused, EachMalformed, malformed_lines}
use Rattle.sheet_answers.proofs.ArrangedLaws as arrange
use Rattle.sheet_answers.proofs.PlaceLaws as order
use Rattle.sheet_answers.proofs.RefusalLaws as refusals
use Rattle.sheet_answers.proofs.RespellLaws as respell
use Rattle.sheet_answers.proofs.SpecimenLaws.{all_malformed, refused, each_malformed}

-- ---- what a good call has written

module _ (sort : Bool) (t old : List ℕ) (n : ℕ) (good : respell_answer sort t old ≡ gives n) where
  abbrev seen : List ℕ
  seen = take n (respell_leaves sort t old)

  -- "Output is a second buffer": the sheet that is to be written, all of it, and behind it what stood there.
  pub written : (seen ≡ respelled sort t) × (n ≡ length (respelled sort t)) × (n ≤ length old) × (drop n (respell_leaves sort t old) ≡ drop n old)
  written = respell.good_held sort t old n good

  -- Every line given and every line written holds an entry, and those written are those given, "on request" sorted.
  pub every_line_holds : (es : List Entry) × (sheet_of t ≡ Some es) × (map line_entry (sheet_lines t) ≡ map Some es)
      × (sheet_of seen ≡ Some (arranged sort es)) × (map line_entry (sheet_lines seen) ≡ map Some (arranged sort es))
  every_line_holds =
      let es = (respell.good_sheet sort t old n good).2 in
      let given = respell.good_is sort t old n good in
      let then = respell.seen_read sort t old n good in
      (es, given, respell.lines_hold t es given, then, respell.lines_hold seen (arranged sort es) then)

  -- "Every output line must carry the volume and pH of one input line with the same address, each input line used exactly once": what the lines
  -- written hold is what the lines given hold, each once.
  pub each_line_once : Permᴰ (map line_entry (sheet_lines t)) (map line_entry (sheet_lines seen))
  each_line_once =
      let (es, given, held, then, written) = every_line_holds in
      respell.same_lines t seen es (arranged sort es) given then (arrange.arranged_perm sort es)

  -- No line written mixes two lines: the address, the volume and the pH that it holds, one line given holds.
  pub never_mixed : (line : List ℕ) → Memᴰ line (sheet_lines seen)
      → (e : Entry) × (given : List ℕ) × (line_entry line ≡ Some e) × Memᴰ given (sheet_lines t) × (line_entry given ≡ Some e)
  never_mixed =
      let (es, given, held, then, written) = every_line_holds in
      respell.from_line t seen es (arranged sort es) given then (arrange.arranged_perm sort es)

  -- "It respells each address normally": every line written is the normal line of what it holds.
  pub spelled : Spelled seen
  spelled = respell.seen_spelled sort t old n good

  -- Respelling twice changes nothing, nor does sorting twice: a second call of the same request on what was written writes it again.
  pub unchanged : (buf : List ℕ) → n ≤ length buf → (respell_answer sort seen buf ≡ gives n) × (respell_leaves sort seen buf ≡ seen ++ drop n buf)
  unchanged = respell.unchanged sort t old n good

  -- A second call of either request and with any buffer answers and leaves what the call on the first sheet does that sorts if either does.
  pub again : (then : Bool) (buf : List ℕ)
      → (respell_answer then seen buf ≡ respell_answer (cond sort true then) t buf) × (respell_leaves then seen buf ≡ respell_leaves (cond sort true then) t buf)
  again = respell.again sort t old n good

-- "Unsorted lines stay in order."
module _ (t old : List ℕ) (n : ℕ) (good : respell_answer false t old ≡ gives n) where
  abbrev kept : List ℕ
  kept = take n (respell_leaves false t old)

  pub in_order : map line_entry (sheet_lines kept) ≡ map line_entry (sheet_lines t)
  in_order = let (es, given, held, then, written) = every_line_holds false t old n good in written ∙ sym held

  -- There is no other such sheet: one with the same entries in their order, each line in the spelling that is written, is this one.
  pub only_in_order : (u : List ℕ) → sheet_of u ≡ sheet_of t → Spelled u → u ≡ kept
  only_in_order u same s =
      let (es, given, held, then, written) = every_line_holds false t old n good in
      respell.one_spelling u kept es (same ∙ given) then s (spelled false t old n good)

-- "and on request sorts whole lines by address, IPv4 before IPv6, keeping equal addresses in their old order"
module _ (t old : List ℕ) (n : ℕ) (good : respell_answer true t old ≡ gives n) where
  abbrev risen : List ℕ
  risen = take n (respell_leaves true t old)

  -- The entries written are those given, each once, in the order of their addresses, and those of one address in their old order.
  pub rising : (es : List Entry) × (fs : List Entry) × (sheet_of t ≡ Some es) × (sheet_of risen ≡ Some fs) × StableSort (λ (e : Entry). place e.address) es fs
  rising =
      let (es, given, held, then, written) = every_line_holds true t old n good in
      (es, arranged true es, given, then, arrange.sorted_is es)

  -- So of two lines the later has an address of the higher family, or of the same family and no lower number.
  pub by_address : (fs : List Entry) → sheet_of risen ≡ Some fs → (d : Entry) (p q : ℕ) → p < q → q < length fs
      → let a = (get_or fs p d).address in let b = (get_or fs q d).address in (family a < family b) ⊎ ((family a ≡ family b) × (number a ≤ number b))
  by_address fs is =
      let (es, gs, given, then, stable) = rising in
      order.entries_order fs (respell.entries_all risen fs is) (subst (Rising (λ (e : Entry). place e.address)) (same_value (sym then ∙ is)) stable.rising)

  -- There is no other such sheet.
  pub only_rising : (u : List ℕ) (es fs : List Entry) → sheet_of t ≡ Some es → sheet_of u ≡ Some fs → StableSort (λ (e : Entry). place e.address) es fs → Spelled u → u ≡ risen
  only_rising u es fs is holds stable s =
      let (ds, given, held, then, written) = every_line_holds true t old n good in
      let same : ds ≡ es = same_value (sym given ∙ is) in
      respell.one_spelling u risen fs holds (then ∙ ap Some (ap (arranged true) same ∙ sym (arrange.sorted_only es fs stable))) s (spelled true t old n good)

-- ---- the order of addresses

-- "IPv4 before IPv6", and those of a family as their numbers,
pub places : (a b : Address) → IsAddress a → IsAddress b → leb (place a) (place b) ≡ (ltb (family a) (family b) || (eqb (family a) (family b) && leb (number a) (number b)))
places = order.places

-- so that equal places are equal addresses.
pub place_only : (a b : Address) → IsAddress a → IsAddress b → place a ≡ place b → a ≡ b
place_only = order.place_only

-- ---- by which number a call is refused

module _ (sort : Bool) (t old : List ℕ) where
  -- "At most 65,536 bytes in [...]; beyond is refusal 1",
  pub number_1 : ((respell_answer sort t old).number ≡ 1) ↔ (65536 < length t)
  number_1 = refusals.one_exactly sort t old

  -- "and 1,024 lines; beyond is refusal 1, then 10".
  pub number_10 : ((respell_answer sort t old).number ≡ 10) ↔ ((length t ≤ 65536) × (1024 < length (sheet_lines t)))
  number_10 = refusals.ten_exactly sort t old

  -- "both before 2"; "Any malformed line [...] refuses the sheet by 2."
  pub number_2 : ((respell_answer sort t old).number ≡ 2) ↔ ((length t ≤ 65536) × (length (sheet_lines t) ≤ 1024) × (sheet_of t ≡ None))
  number_2 = refusals.two_exactly sort t old

  -- "refusal 3 last": where the sheet itself is not refused, and the buffer is shorter than what is to be written.
  pub number_3 : ((respell_answer sort t old).number ≡ 3)
      ↔ ((length t ≤ 65536) × (length (sheet_lines t) ≤ 1024) × (es : List Entry) × (sheet_of t ≡ Some es) × (length old < length (sheet_text (arranged sort es))))
  number_3 = refusals.three_exactly sort t old

  -- The answer is good exactly if none of these holds,
  pub number_0 : ((respell_answer sort t old).number ≡ 0)
      ↔ ((length t ≤ 65536) × (length (sheet_lines t) ≤ 1024) × (es : List Entry) × (sheet_of t ≡ Some es) × (length (sheet_text (arranged sort es)) ≤ length old))
  number_0 = refusals.zero_exactly sort t old

  -- and no other number is answered.
  pub five_numbers : let k = (respell_answer sort t old).number in (k ≡ 0) ⊎ (k ≡ 1) ⊎ (k ≡ 2) ⊎ (k ≡ 3) ⊎ (k ≡ 10)
  five_numbers = refusals.five_numbers sort t old

  -- A refusal, whichever it is, has zero in the other field, and alters nothing.
  pub refused_alters_nothing : ¬ ((respell_answer sort t old).number ≡ 0) → ((respell_answer sort t old).fields ≡ 0) × (respell_leaves sort t old ≡ old)
  unfolding respell_answer respell_leaves
  refused_alters_nothing = write_refused (sheet_refusal t) (respelled sort t) old

  -- Whatever the answer, the buffer is as long as before.
  pub length_stays : length (respell_leaves sort t old) ≡ length old
  unfolding respell_leaves
  length_stays = write_length (sheet_refusal t) (respelled sort t) old

  -- Only the first 65,537 bytes matter: a longer sheet may be given by these.
  pub first_bytes : (respell_answer sort (take 65537 t) old ≡ respell_answer sort t old) × (respell_leaves sort (take 65537 t) old ≡ respell_leaves sort t old)
  first_bytes = refusals.first_bytes sort t old

-- ---- room

module _ (sort : Bool) (t : List ℕ) (es : List Entry) (is : sheet_of t ≡ Some es) where
  -- What is written has at most 52 bytes for each line given,
  pub at_most_52_a_line : length (respelled sort t) ≤ 52 * length (sheet_lines t)
  at_most_52_a_line = respell.respelled_most t es is sort

  module _ (few : length (sheet_lines t) ≤ 1024) where
    -- so at most 53,248,
    pub at_most_53248 : length (respelled sort t) ≤ 53248
    at_most_53248 = omega (arith, at_most_52_a_line, few)

    -- and a buffer with that room is never refused by 3.
    module _ (short : length t ≤ 65536) (old : List ℕ) where
      pub room_for_lines : 52 * length (sheet_lines t) ≤ length old → (respell_answer sort t old).number ≡ 0
      room_for_lines room = (number_0 sort t old).1 (short, few, es, is, omega (arith, room, at_most_52_a_line, ap length (refusals.respelled_some sort t es is)))

      pub room_for_all : 53248 ≤ length old → (respell_answer sort t old).number ≡ 0
      room_for_all room = room_for_lines (omega (arith, room, few))

-- "An empty sheet stays empty."
pub empty_sheet : (sort : Bool) (old : List ℕ) → (respell_answer sort [] old ≡ gives 0) × (respell_leaves sort [] old ≡ old)
empty_sheet = respell.empty

-- ---- computed: the definitions run, on bytes

-- Two lines whose addresses are out of order: each keeps its own volume and pH, and what stands behind them stays.
pub whole_lines_sorted : (respell_answer true (ended ("10.0.0.2,7,650" ∷ "10.0.0.1,8,710" ∷ [])) (replicate 31 0) ≡ gives 30)
    × (respell_leaves true (ended ("10.0.0.2,7,650" ∷ "10.0.0.1,8,710" ∷ [])) (replicate 31 0) ≡ ended ("10.0.0.1,8,710" ∷ "10.0.0.2,7,650" ∷ []) ++ 0 ∷ [])
unfolding respell_answer respell_leaves ended every part_of all_digits digit_of dotted_text
whole_lines_sorted = (refl, refl)

-- So it is not the sheet in which the column of addresses alone is sorted.
pub not_the_column_alone : ¬ (respelled true (ended ("10.0.0.2,7,650" ∷ "10.0.0.1,8,710" ∷ [])) ≡ ended ("10.0.0.1,7,650" ∷ "10.0.0.2,8,710" ∷ []))
unfolding respelled ended every part_of all_digits digit_of dotted_text
not_the_column_alone e = let z : ◌≡◌ {A = ℕ} 56 55 = ap (λ bytes. get_or bytes 9 0) e in omega arith

-- Three spellings of `::1` are written alike and keep their order, which is neither that of their volumes nor that of their pHs; IPv4 comes first.
pub equal-in-old-order :
    respelled true (ended ("::2,3,0" ∷ "0:0::1,5,9" ∷ "::1,1,8" ∷ "10.0.0.2,5,0" ∷ "::0.0.0.1,4,10" ∷ "10.0.0.1,6,1400" ∷ []))
    ≡ ended ("10.0.0.1,6,1400" ∷ "10.0.0.2,5,0" ∷ "::1,5,9" ∷ "::1,1,8" ∷ "::1,4,10" ∷ "::2,3,0" ∷ [])
unfolding respelled ended every part_of all_digits digit_of group_of groups_of groups_address dotted_text zeros_of
equal-in-old-order = refl

-- The last address of IPv4 comes before the first of IPv6.
pub families_apart : respelled true (ended ("::,1,1" ∷ "255.255.255.255,2,2" ∷ [])) ≡ ended ("255.255.255.255,2,2" ∷ "::,1,1" ∷ [])
unfolding respelled ended every part_of all_digits digit_of group_of groups_of groups_address dotted_text zeros_of
families_apart = refl

-- The same sheet unsorted.
pub unsorted-in-order :
    respelled false (ended ("::2,3,0" ∷ "0:0::1,5,9" ∷ "::1,1,8" ∷ "10.0.0.2,5,0" ∷ "::0.0.0.1,4,10" ∷ "10.0.0.1,6,1400" ∷ []))
    ≡ ended ("::2,3,0" ∷ "::1,5,9" ∷ "::1,1,8" ∷ "10.0.0.2,5,0" ∷ "::1,4,10" ∷ "10.0.0.1,6,1400" ∷ [])
unfolding respelled ended every part_of all_digits digit_of group_of groups_of groups_address dotted_text zeros_of
unsorted-in-order = refl

-- The limits are taken, "from 1 to 999,999" and "from 0 to 1400",
pub limits_taken : respell_answer false (ended ("10.0.0.1,1,0" ∷ "10.0.0.1,999999,1400" ∷ [])) (replicate 34 0) ≡ gives 34
unfolding respell_answer ended every part_of all_digits digit_of dotted_text
limits_taken = refl

-- and lines beside them are refused by 2.
pub malformed_lines_lem : EachMalformed malformed_lines
unfolding all_malformed sheet_refusal ended every part_of group_of all_digits digit_of
malformed_lines_lem = each_malformed malformed_lines refl

-- "A final line without its newline counts as a line and is malformed": so is one that a carriage return ends, and one whose address has 65 bytes.
pub unfinished : Refused (ended ("10.0.0.2,5,0" ∷ []) ++ ascii "10.0.0.1,6,7") Malformed
unfolding sheet_refusal ascii ended every part_of all_digits digit_of
unfinished = refused _ Malformed refl

pub carriage_return : Refused (ascii "10.0.0.1,6,7" ++ 13 ∷ 10 ∷ []) Malformed
unfolding sheet_refusal ascii every part_of all_digits digit_of
carriage_return = refused _ Malformed refl

pub address_65 : Refused (replicate 65 48 ++ (ascii ",6,7" ++ 10 ∷ [])) Malformed
unfolding sheet_refusal ascii every part_of all_digits digit_of
address_65 = refused _ Malformed refl

-- 1,025 lines are refused by 10 although they are malformed, and so if the last is unfinished, and 1,024 by 2; 65,537 bytes are refused by 1
-- although they are more than 1,024 lines.
pub lines_1025 : Refused (replicate 1025 10) TooMany
unfolding sheet_refusal
lines_1025 = refused _ TooMany refl

pub unfinished_1025 : Refused (replicate 1024 10 ++ 48 ∷ []) TooMany
unfolding sheet_refusal
unfinished_1025 = refused _ TooMany refl

pub lines_1024 : Refused (replicate 1024 10) Malformed
unfolding sheet_refusal
lines_1024 = refused _ Malformed refl

pub bytes_65537 : Refused (replicate 65537 10) TextTooLong
unfolding sheet_refusal
bytes_65537 = refused _ TextTooLong refl

-- A buffer of as many bytes as are written is enough; with one less the call is refused by 3, and the buffer stays as it was.
pub exact_room : (respell_answer false (ended ("0::1,1,0" ∷ [])) (replicate 8 7) ≡ gives 8) × (respell_leaves false (ended ("0::1,1,0" ∷ [])) (replicate 8 7) ≡ ended ("::1,1,0" ∷ []))
unfolding respell_answer respell_leaves ended every part_of all_digits digit_of group_of groups_of groups_address zeros_of
exact_room = (refl, refl)

pub one_byte_less : (respell_answer false (ended ("0::1,1,0" ∷ [])) (replicate 7 7) ≡ refuses 0 NoRoom) × (respell_leaves false (ended ("0::1,1,0" ∷ [])) (replicate 7 7) ≡ replicate 7 7)
unfolding respell_answer respell_leaves ended every part_of all_digits digit_of group_of groups_of groups_address zeros_of
one_byte_less = (refl, refl)
