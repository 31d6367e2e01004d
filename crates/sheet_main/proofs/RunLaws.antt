-- How an input is read, turn by turn. Assumes nothing.
use mathlib.Core.Path.{◌≡◌, refl, sym, ap, subst, ◌∙◌}
use mathlib.Core.Bool.{Bool, true, false, cond, false≢true}
use mathlib.Core.List.{List}
use Prim.Native.Nat.{ℕ, ◌+◌, ◌-◌, ◌≤◌}
use native.Mathlib.Decide.{dec_lt}
use native.Mathlib.Omega.{arith}
use borrow.Author.Tests.{lt-ltb, le-ltb}
use lib.Dec.{eqb, ltb}
use lib.ListN.{length}
use Rattle.notation.specs.Pieces.{contains, index_of}
use Rattle.notation.proofs.PieceLaws.{index_contains, index_lacks}
use Rattle.program_io.specs.declared.Got.{Got}
use Rattle.program_io.specs.declared.Got.TheVariants.{Bytes, Again, Failed}
use Rattle.program_io.specs.Calls.{Filled}
use Rattle.sheet_main.specs.declared.End.{End}
use Rattle.sheet_main.specs.declared.End.TheVariants.{More, Ended, Full, Unread}
use Rattle.sheet_main.specs.declared.Run.{Run}
use Rattle.sheet_main.specs.Runs.{at_start, reached, after_read, Turns, Chain, none, more, is_more, Reads}

-- ---- all turns

pub is_more_lem : (e : End) → is_more e ≡ true → e ≡ More
is_more_lem More h = refl
is_more_lem Ended h = absurd (false≢true h)
is_more_lem Full h = absurd (false≢true h)
is_more_lem Unread h = absurd (false≢true h)

not_more : {e : End} → is_more e ≡ false → e ≡ More → ⊥
not_more h e = false≢true (sym h ∙ ap is_more e)

after_within : (run : Run) (g : Got) → run.len ≤ 65537 → Filled (65537 - run.len) g → (after_read run g).len ≤ 65537
after_within run Again h f = h
after_within run (Failed why) h f = h
after_within run (Bytes n) h f = go (eqb n 0)
  where
    go : (b : Bool) → (cond b (record { len = run.len; end = Ended }) (reached (run.len + n))).len ≤ 65537
    go true = h
    go false = omega (arith, f, h)

-- no more bytes than the buffer has
pub chain_within : {n : ℕ} {r : Run} {input : List ℕ} → Chain n r input → r.len ≤ 65537
chain_within (none input) = omega arith
chain_within (more {run = run} c m t) =
    let h = chain_within c in
    subst (λ r. r.len ≤ 65537) (sym t.next) (after_within run t.got h t.within)

-- as the loop goes
pub record Going (turns : ℕ) (run : Run) (input : List ℕ) : Type 0 where
  pub chain : Chain turns run input
  pub goes : run.end ≡ More
  pub size : length input ≡ 65537

pub going_start : (input : List ℕ) → length input ≡ 65537 → Going 0 at_start input
going_start input h = record { chain = none input; goes = refl; size = h }

module _ {turns : ℕ} {run : Run} {old : List ℕ} (g : Going turns run old) {new : List ℕ} {r : Run} (t : Turns run old new r) where
  pub going_on : is_more r.end ≡ true → length new ≡ length old → Going (turns + 1) r new
  going_on m s = record { chain = more g.chain g.goes t; goes = is_more_lem r.end m; size = s ∙ g.size }

  pub going_done : is_more r.end ≡ false → Reads (turns + 1) r new
  going_done m = let c = more g.chain g.goes t in record { chain = c; finished = λ e. absurd (not_more m e); within = chain_within c }

pub going_full : {turns : ℕ} {run : Run} {input : List ℕ} → Going turns run input → turns ≡ 18446744073709551615 → Reads 18446744073709551615 run input
going_full {run = run} {input = input} g h = subst (λ n. Reads n run input) h (record { chain = g.chain; finished = λ e. h; within = chain_within g.chain })

-- ---- the options

pub asked : (b : ℕ) (t : List ℕ) (i : ℕ) → i ≡ index_of b t → ltb i (length t) ≡ contains b t
asked b t i e = elim (dec_lt i (length t)) [
  | yes h ↦ lt-ltb i (length t) h ∙ sym (index_contains b t (omega arith))
  | no h ↦ le-ltb i (length t) (omega arith) ∙ sym (index_lacks b t (omega arith))
]
