-- What writing words answers, for a number of the table and for any other; whose words are whose. Assumes nothing.
use Rattle.std.specs.Prelude.{Option, Some, None, unwrap_or}
use mathlib.Core.Path.{◌≡◌, refl, sym}
use mathlib.Core.Logic.{◌↔◌}
use mathlib.Core.Bool.{Bool, true, false, cond, ◌&&◌, and-eq-true_iff, false≢true}
use mathlib.Core.List.{List, [], ◌∷◌}
use Prim.Native.Nat.{ℕ, ◌+◌, ◌≤◌, ◌<◌}
use native.Mathlib.Decide.{ℕ_discrete}
use native.Mathlib.Omega.{arith}
use borrow.Author.Tests.{ne_eqb, eq-eqb, eqb-true, leb-true}
use lib.Dec.{eqb, ltb, leb}
use lib.ListN.{length, get_or}
use Rattle.address.specs.declared.Refusal.{Refusal}
use Rattle.address.specs.Answers.{Answer, refusal_number, missing, refuses, write_refusal, write_answer, write_leaves}
use Rattle.address.specs.declared.Refusal.TheVariants.{TextTooLong, Malformed, NoRoom, LengthTooLarge, BitsBeyondLength, NoClass, HostTooLarge, FirstAboveLast, WrongFamily, TooMany}
use Rattle.words.specs.Words.{table, words_in, refusal_words, words_text, words_refusal, printable}

-- ---- the table's numbers

-- the rows' numbers count up from k
counts_from : ℕ → List (ℕ × List ℕ) → Bool
counts_from k [] = true
counts_from k (w ∷ ws) = eqb w.0 k && counts_from (k + 1) ws

-- a number has words in such rows exactly if it is one of theirs
words_counted : (n k : ℕ) (ws : List (ℕ × List ℕ)) → counts_from k ws ≡ true → (missing (words_in n ws) ≡ false) ↔ ((k ≤ n) × (n < k + length ws))
unfolding words_in counts_from
words_counted n k [] h = (λ e. absurd (false≢true (sym e)), λ r. absurd (omega (arith, r.0, r.1)))
words_counted n k (w ∷ ws) h =
    let both = (and-eq-true_iff (eqb w.0 k) (counts_from (k + 1) ws)).0 h in
    let here : w.0 ≡ k = eqb-true w.0 k both.0 in
    let more = words_counted n (k + 1) ws both.1 in
    elim (ℕ_discrete n w.0) [
      | yes e ↦ rw (eq-eqb n w.0 e) (λ r. (omega arith, omega arith), λ r. refl)
      | no d ↦ rw (ne_eqb n w.0 d) (λ e. let r = more.0 e in (omega (arith, r.0), omega (arith, r.1)), λ r. more.1 (omega (arith, r.0, d), omega (arith, r.1)))
    ]

pub words_1_to_10 : (n : ℕ) → (missing (refusal_words n) ≡ false) ↔ ((1 ≤ n) × (n ≤ 10))
unfolding refusal_words counts_from
words_1_to_10 n = let c = words_counted n 1 table refl in (λ e. let r = c.0 e in (r.0, omega (arith, r.1)), λ r. c.1 (r.0, omega (arith, r.1)))

-- ---- the refusals

abbrev Numbered : ℕ → Type 0
Numbered n = (e : Refusal) × (refusal_number e ≡ n)

-- a number of 1 to 10 is a refusal's
pub refusal_of : (n : ℕ) → 1 ≤ n → n ≤ 10 → Numbered n
refusal_of n l h =
    up TextTooLong l λ l. up Malformed l λ l. up NoRoom l λ l. up LengthTooLarge l λ l. up BitsBeyondLength l λ l. up NoClass l λ l. up HostTooLarge l λ l.
    up FirstAboveLast l λ l. up WrongFamily l λ l. (TooMany, omega (arith, l, h))
  where
    up : (e : Refusal) → refusal_number e ≤ n → (refusal_number e + 1 ≤ n → Numbered n) → Numbered n
    up e l above = elim (ℕ_discrete n (refusal_number e)) [ yes p ↦ (e, sym p) | no p ↦ above (omega (arith, l, p)) ]

-- the number of the first row with words as long as these and the same fifth byte
row_like : List ℕ → List (ℕ × List ℕ) → ℕ
row_like t [] = 0
row_like t (w ∷ ws) = cond (eqb (length t) (length w.1) && eqb (get_or t 4 0) (get_or w.1 4 0)) w.0 (row_like t ws)

pub number_by : List ℕ → ℕ
number_by t = row_like t table

-- is the number whose words they are
pub number_back : (e : Refusal) → number_by (words_text (refusal_number e)) ≡ refusal_number e
unfolding refusal_words row_like number_by
number_back TextTooLong = refl
number_back Malformed = refl
number_back NoRoom = refl
number_back LengthTooLarge = refl
number_back BitsBeyondLength = refl
number_back NoClass = refl
number_back HostTooLarge = refl
number_back FirstAboveLast = refl
number_back WrongFamily = refl
number_back TooMany = refl

-- ---- what is written

-- what the contract says of an answer and a buffer
abbrev Writes : ℕ → List ℕ → Answer ℕ → List ℕ → Type 0
Writes n old r new = (r ≡ write_answer (words_refusal n) (words_text n) old) × (new ≡ write_leaves (words_refusal n) (words_text n) old)

module _ (n : ℕ) (old : List ℕ) where
  -- a number of the table has its words stored
  pub words_stored : (k : ℕ) (t : List ℕ) → n ≡ k → refusal_words k ≡ Some t → {r : Answer ℕ} {new : List ℕ}
      → (r ≡ write_answer 0 t old) × (new ≡ write_leaves 0 t old) → Writes n old r new
  unfolding words_refusal write_answer write_leaves
  words_stored k t e w p = rw (e, w) p

  -- any other is refused
  pub words_refused : refusal_words n ≡ None → Writes n old (refuses 0 Malformed) old
  unfolding words_refusal write_answer write_leaves
  words_refused w = rw w (refl, refl)

-- a number that is none of 1 to 10 is not of the table
pub no_words : (n : ℕ) → ¬ ((1 ≤ n) × (n ≤ 10)) → refusal_words n ≡ None
no_words n h = go (refusal_words n) (λ e. h ((words_1_to_10 n).0 e))
  where
    go : (o : Option (List ℕ)) → ¬ (missing o ≡ false) → o ≡ None
    go None k = refl
    go (Some t) k = absurd (k refl)

-- ---- the reason against a number

module _ (n : ℕ) where
  -- where a number has no words, it is refused by 2, and else by nothing
  abbrev by2 : Bool → ℕ
  by2 t = cond t 2 0

  pub no_reason : (words_refusal n ≡ 0) ↔ (missing (refusal_words n) ≡ false)
  unfolding words_refusal
  no_reason = go (missing (refusal_words n))
    where
      go : (t : Bool) → (by2 t ≡ 0) ↔ (t ≡ false)
      go true = (λ e. absurd (omega arith), λ e. absurd (false≢true (sym e)))
      go false = (λ e. refl, λ e. refl)

  pub not_3 : ¬ (words_refusal n ≡ 3)
  unfolding words_refusal
  not_3 = go (missing (refusal_words n))
    where
      go : (t : Bool) → ¬ (by2 t ≡ 3)
      go true e = omega arith
      go false e = omega arith

  pub refused_2 : (bytes old : List ℕ) → (write_refusal (words_refusal n) bytes old ≡ 2) ↔ (missing (refusal_words n) ≡ true)
  unfolding words_refusal
  refused_2 bytes old = go (missing (refusal_words n)) (ltb (length old) (length bytes))
    where
      go : (t short : Bool) → (cond (eqb (by2 t) 0) (cond short 3 0) (by2 t) ≡ 2) ↔ (t ≡ true)
      go true short = (λ e. refl, λ e. refl)
      go false true = (λ e. absurd (omega arith), λ e. absurd (false≢true e))
      go false false = (λ e. absurd (omega arith), λ e. absurd (false≢true e))

pub not_false : (t : Bool) → ¬ (t ≡ false) → t ≡ true
not_false true n = refl
not_false false n = absurd (n refl)

-- ---- how long the words are

-- at most 54 printable bytes
abbrev good : List ℕ → Bool
good t = leb (length t) 54 && printable t

-- a row's words are good where all rows' are
all : List (ℕ × List ℕ) → Bool
all [] = true
all (w ∷ ws) = good w.1 && all ws

row_good : (n : ℕ) (ws : List (ℕ × List ℕ)) → all ws ≡ true → good (unwrap_or (words_in n ws) []) ≡ true
unfolding words_in printable all
row_good n [] h = refl
row_good n (w ∷ ws) h = pick (eqb n w.0) (good w.1) refl (all ws) refl (row_good n ws) h
  where
    pick : (t a : Bool) → good w.1 ≡ a → (b : Bool) → all ws ≡ b → (all ws ≡ true → good (unwrap_or (words_in n ws) []) ≡ true)
        → (a && b) ≡ true → good (unwrap_or (cond t (Some w.1) (words_in n ws)) []) ≡ true
    pick true true e b f ih k = e
    pick false true e true f ih k = ih f
    pick t false e b f ih k = absurd (false≢true k)
    pick false true e false f ih k = absurd (false≢true k)

pub words_good : (n : ℕ) → (length (words_text n) ≤ 54) × (printable (words_text n) ≡ true)
unfolding refusal_words printable all
words_good n =
    let both = (and-eq-true_iff (leb (length (words_text n)) 54) (printable (words_text n))).0 (row_good n table refl) in
    (leb-true (length (words_text n)) 54 both.0, both.1)
