-- All turns: what they have read, and why they ended. Assumes nothing.
use Rattle.std.specs.declared.io.Error.{Error}
use mathlib.Core.Path.{◌≡◌, refl, sym, ap, subst, ◌∙◌}
use mathlib.Core.Bool.{Bool, true, false, cond}
use mathlib.Core.List.{List, ◌++◌, append-nil}
use Prim.Native.Nat.{ℕ, ◌+◌, ◌≤◌, ◌<◌}
use native.Mathlib.Omega.{arith}
use borrow.Author.Tests.{eqb-true, ltb-true, ltb-false}
use lib.Dec.{eqb, ltb}
use lib.ListN.{take, drop}
use lib.Seq.{take-add}
use Rattle.program_io.specs.declared.Got.{Got}
use Rattle.program_io.specs.declared.Got.TheVariants.{Bytes, Again, Failed}
use Rattle.sheet_main.specs.declared.End.TheVariants.{More, Ended, Full, Unread}
use Rattle.sheet_main.specs.declared.Run.{Run}
use Rattle.sheet_main.specs.Runs.{reached, after_read, Chain, none, more, piece_of, gathered, last_got}
use Rattle.sheet_main.proofs.RunLaws.{chain_within}

-- ---- what is read

piece_kept : (run : Run) (g : Got) (input : List ℕ) → take run.len input ++ piece_of run g input ≡ take (after_read run g).len input
piece_kept run Again input = append-nil (take run.len input)
piece_kept run (Failed why) input = append-nil (take run.len input)
piece_kept run (Bytes n) input = go (eqb n 0) refl
  where
    go : (b : Bool) → eqb n 0 ≡ b
        → take run.len input ++ take n (drop run.len input) ≡ take (cond b (record { len = run.len; end = Ended }) (reached (run.len + n))).len input
    go true q = ap (λ (k : ℕ). take run.len input ++ take k (drop run.len input)) (eqb-true n 0 q) ∙ append-nil (take run.len input)
    go false q = sym (take-add run.len n input)

pub all_kept : {n : ℕ} {r : Run} {input : List ℕ} (c : Chain n r input) → gathered c ≡ take r.len input
unfolding gathered
all_kept (none input) = refl
all_kept (more {run = run} {new = new} c m t) =
    ap (λ s. s ++ piece_of run t.got new) (all_kept c ∙ sym t.kept) ∙ piece_kept run t.got new ∙ ap (λ x. take x.len new) (sym t.next)

-- ---- why it ended

module _ (n : ℕ) where
  reached_more : (reached n).end ≡ More → n < 65537
  reached_more = go (ltb n 65537) refl
    where
      go : (b : Bool) → ltb n 65537 ≡ b → cond b More Full ≡ More → n < 65537
      go true q e = ltb-true n 65537 q
      go false q e = cc

  reached_full : (reached n).end ≡ Full → 65537 ≤ n
  reached_full = go (ltb n 65537) refl
    where
      go : (b : Bool) → ltb n 65537 ≡ b → cond b More Full ≡ Full → 65537 ≤ n
      go true q e = cc
      go false q e = ltb-false n 65537 q

  reached_open : (reached n).end ≡ Ended → ⊥
  reached_open = go (ltb n 65537)
    where
      go : (b : Bool) → cond b More Full ≡ Ended → ⊥
      go true e = cc
      go false e = cc

  reached_read : (reached n).end ≡ Unread → ⊥
  reached_read = go (ltb n 65537)
    where
      go : (b : Bool) → cond b More Full ≡ Unread → ⊥
      go true e = cc
      go false e = cc

module _ (run : Run) (m : run.end ≡ More) where
  after_more : (g : Got) → run.len < 65537 → (after_read run g).end ≡ More → (after_read run g).len < 65537
  after_more Again h e = h
  after_more (Failed why) h e = cc
  after_more (Bytes n) h e = go (eqb n 0) e
    where
      go : (b : Bool) → (cond b (record { len = run.len; end = Ended }) (reached (run.len + n))).end ≡ More
          → (cond b (record { len = run.len; end = Ended }) (reached (run.len + n))).len < 65537
      go true e = cc
      go false e = reached_more (run.len + n) e

  after_ended : (g : Got) → (after_read run g).end ≡ Ended → (g ≡ Bytes 0) × ((after_read run g).len ≡ run.len)
  after_ended Again e = cc
  after_ended (Failed why) e = cc
  after_ended (Bytes n) e = go (eqb n 0) refl e
    where
      go : (b : Bool) → eqb n 0 ≡ b → (cond b (record { len = run.len; end = Ended }) (reached (run.len + n))).end ≡ Ended
          → (Bytes n ≡ Bytes 0) × ((cond b (record { len = run.len; end = Ended }) (reached (run.len + n))).len ≡ run.len)
      go true q e = (ap Bytes (eqb-true n 0 q), refl)
      go false q e = absurd (reached_open (run.len + n) e)

  after_full : (g : Got) → (after_read run g).end ≡ Full → 65537 ≤ (after_read run g).len
  after_full Again e = cc
  after_full (Failed why) e = cc
  after_full (Bytes n) e = go (eqb n 0) e
    where
      go : (b : Bool) → (cond b (record { len = run.len; end = Ended }) (reached (run.len + n))).end ≡ Full
          → 65537 ≤ (cond b (record { len = run.len; end = Ended }) (reached (run.len + n))).len
      go true e = cc
      go false e = reached_full (run.len + n) e

  after_unread : (g : Got) → (after_read run g).end ≡ Unread → (why : Error) × (g ≡ Failed why)
  after_unread Again e = cc
  after_unread (Failed why) e = (why, refl)
  after_unread (Bytes n) e = go (eqb n 0) e
    where
      go : (b : Bool) → (cond b (record { len = run.len; end = Ended }) (reached (run.len + n))).end ≡ Unread → (why : Error) × (Bytes n ≡ Failed why)
      go true e = cc
      go false e = absurd (reached_read (run.len + n) e)

-- while there may be more, there is room for a byte
pub room_left : {n : ℕ} {r : Run} {input : List ℕ} → Chain n r input → r.end ≡ More → r.len < 65537
room_left (none input) e = omega arith
room_left (more {run = run} c m t) e =
    subst (λ x. x.len < 65537) (sym t.next) (after_more run m t.got (room_left c m) (ap (λ x. x.end) (sym t.next) ∙ e))

-- ended: the last read brought nothing, though there was room
pub ended : {n : ℕ} {r : Run} {input : List ℕ} (c : Chain n r input) → r.end ≡ Ended → last_got c ≡ Bytes 0
unfolding last_got
ended (none input) e = cc
ended (more {run = run} c m t) e = (after_ended run m t.got (ap (λ x. x.end) (sym t.next) ∙ e)).0

pub ended_room : {n : ℕ} {r : Run} {input : List ℕ} → Chain n r input → r.end ≡ Ended → r.len < 65537
ended_room (none input) e = cc
ended_room (more {run = run} {r = r} c m t) e =
    let l : r.len ≡ run.len = ap (λ x. x.len) t.next ∙ (after_ended run m t.got (ap (λ x. x.end) (sym t.next) ∙ e)).1 in
    omega (arith, room_left c m, l)

-- and a read that brought nothing is the end
pub nothing : {n : ℕ} {r : Run} {input : List ℕ} (c : Chain n r input) → last_got c ≡ Bytes 0 → r.end ≡ Ended
unfolding last_got
nothing (none input) e = cc
nothing (more {run = run} c m t) e = ap (λ x. x.end) (t.next ∙ ap (after_read run) e)

-- full: there is one byte more than a sheet may have
pub full : {n : ℕ} {r : Run} {input : List ℕ} → Chain n r input → r.end ≡ Full → r.len ≡ 65537
full (none input) e = cc
full (more {run = run} {r = r} c m t) e =
    let most = chain_within (more c m t) in
    let least = after_full run m t.got (ap (λ x. x.end) (sym t.next) ∙ e) in
    omega (arith, most, least, ap (λ x. x.len) t.next)

-- unread: the last read failed
pub unread : {n : ℕ} {r : Run} {input : List ℕ} (c : Chain n r input) → r.end ≡ Unread → (why : Error) × (last_got c ≡ Failed why)
unfolding last_got
unread (none input) e = cc
unread (more {run = run} c m t) e = after_unread run m t.got (ap (λ x. x.end) (sym t.next) ∙ e)

-- and a read that failed is never the end of an input
pub failed : {n : ℕ} {r : Run} {input : List ℕ} (c : Chain n r input) → (why : Error) × (last_got c ≡ Failed why) → r.end ≡ Unread
unfolding last_got
failed (none input) f = let e = f.1 in cc
failed (more {run = run} c m t) f = ap (λ x. x.end) (t.next ∙ ap (after_read run) f.1)
