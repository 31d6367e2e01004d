-- The answers of the system as the programs take them, each case exactly. Assumes nothing.
use Rattle.std.specs.Prelude.{Result, Ok, Err, Some, None, pos}
use Rattle.std.specs.Io.{ReadsAtMost}
use Rattle.std.specs.IoError.{error_kind, raw_os_error}
use Rattle.std.specs.declared.io.Error.{Error}
use Rattle.std.specs.declared.io.ErrorKind.{ErrorKind}
use Rattle.std.specs.declared.io.ErrorKind.TheVariants.{Interrupted}
use mathlib.Core.Path.{◌≡◌, refl, sym, ap, subst, ◌∙◌}
use mathlib.Core.Logic.{◌⊎◌, inl, inr, ◌↔◌}
use mathlib.Core.Bool.{Bool, true, false, cond, not, false≢true, true≢false}
use mathlib.Core.List.{List, [], ◌∷◌}
use Prim.Native.Nat.{ℕ, ◌+◌, ◌-◌, ◌≤◌}
use native.Mathlib.Omega.{arith}
use borrow.Author.Tests.{eqb-true, eqb-false, ne_eqb}
use lib.Dec.{eqb}
use lib.ListN.{length, get_or}
use Rattle.notation.specs.Ascii.{ascii, within}
use Rattle.notation.proofs.AsciiLaws.{within_exactly}
use Rattle.program_io.specs.declared.Got.{Got}
use Rattle.program_io.specs.declared.Got.TheVariants.{Bytes, Again, Failed}
use Rattle.program_io.specs.Calls.{is_interruption, is_interrupted, brought_of, bytes_of, is_stuck, FailedBy, Filled, is_dash, single_digit, trouble_text}

-- ---- what a read has brought

abbrev err : Error → Result ℕ Error
err why = Err why

abbrev ok : ℕ → Result ℕ Error
ok n = Ok n

interruption : (k : ErrorKind) → is_interruption k ≡ true → k ≡ Interrupted
interruption Interrupted e = refl
interruption k e = absurd (false≢true e)

no_interruption : (k : ErrorKind) → is_interruption k ≡ false → k ≡ Interrupted → ⊥
no_interruption k e i = true≢false (sym (ap is_interruption i) ∙ e)

pub bytes_exactly : (a : Result ℕ Error) (n : ℕ) → (brought_of a ≡ Bytes n) ↔ (a ≡ Ok n)
bytes_exactly a n = (to a, λ e. ap brought_of e)
  where
    failed : (why : Error) (b : Bool) → cond b Again (Failed why) ≡ Bytes n → Err why ≡ Ok n
    failed why true e = cc
    failed why false e = cc

    to : (a : Result ℕ Error) → brought_of a ≡ Bytes n → a ≡ Ok n
    to (Ok m) e = cc
    to (Err why) e = failed why (is_interrupted why) e

pub again_exactly : (a : Result ℕ Error) → (brought_of a ≡ Again) ↔ ((why : Error) × (a ≡ Err why) × (error_kind why ≡ Interrupted))
again_exactly a = (to a, λ h. ap brought_of h.1 ∙ ap (λ b. cond b Again (Failed h.0)) (ap is_interruption h.2))
  where
    only : (why : Error) (b : Bool) → is_interrupted why ≡ b → cond b Again (Failed why) ≡ Again → error_kind why ≡ Interrupted
    only why true q e = interruption _ q
    only why false q e = cc

    to : (a : Result ℕ Error) → brought_of a ≡ Again → (why : Error) × (a ≡ Err why) × (error_kind why ≡ Interrupted)
    to (Ok m) e = cc
    to (Err why) e = (why, refl, only why (is_interrupted why) refl e)

pub failed_exactly : (a : Result ℕ Error) (why : Error) → (brought_of a ≡ Failed why) ↔ ((a ≡ Err why) × (error_kind why ≡ Interrupted → ⊥))
failed_exactly a why = (to a, λ h. ap brought_of h.0 ∙ from (is_interrupted why) refl h.1)
  where
    only : (e : Error) (b : Bool) → is_interrupted e ≡ b → cond b Again (Failed e) ≡ Failed why → (err e ≡ err why) × (error_kind why ≡ Interrupted → ⊥)
    only e true q h = cc
    only e false q h =
        let same : e ≡ why = cc in
        (ap Err same, no_interruption _ (ap is_interrupted (sym same) ∙ q))

    to : (a : Result ℕ Error) → brought_of a ≡ Failed why → (a ≡ Err why) × (error_kind why ≡ Interrupted → ⊥)
    to (Ok m) h = cc
    to (Err e) h = only e (is_interrupted e) refl h

    from : (b : Bool) → is_interrupted why ≡ b → (error_kind why ≡ Interrupted → ⊥) → cond b Again (Failed why) ≡ Failed why
    from true q n = absurd (n (interruption _ q))
    from false q n = refl

-- no more bytes than there was room for
pub brought_filled : (a : Result ℕ Error) (buf : List ℕ) (most : ℕ) → ReadsAtMost a buf → length buf ≡ most → (g : Got) → g ≡ brought_of a → Filled most g
brought_filled a buf most r l g e = subst (Filled most) (sym e) (go a r)
  where
    failed : (why : Error) (b : Bool) → Filled most (cond b Again (Failed why))
    failed why true = tt
    failed why false = tt

    go : (a : Result ℕ Error) → ReadsAtMost a buf → Filled most (brought_of a)
    go (Ok n) r = omega (arith, l, r.0)
    go (Err why) r = failed why (is_interrupted why)

-- ---- whether a write goes on

pub goes_on_exactly : (a : Result ℕ Error) → (is_stuck a ≡ false) ↔ (bytes_of a ≡ 0 → (why : Error) × (a ≡ Err why) × (error_kind why ≡ Interrupted))
goes_on_exactly (Ok n) = (λ e z. absurd (eqb-false n 0 e z), λ h. ne_eqb n 0 (λ z. absurd (none (h z))))
  where
    none : (why : Error) × (Ok n ≡ Err why) × (error_kind why ≡ Interrupted) → ⊥
    none h = let e = h.1 in cc
goes_on_exactly (Err why) = (λ e z. (why, refl, interruption _ (flipped (is_interrupted why) e)), λ h. ap (λ e. not (is_interrupted e)) (cause (h refl)) ∙ ap (λ k. not (is_interruption k)) (h refl).2)
  where
    flipped : (b : Bool) → not b ≡ false → b ≡ true
    flipped true e = refl
    flipped false e = sym e

    cause : (h : (e : Error) × (err why ≡ err e) × (error_kind e ≡ Interrupted)) → why ≡ h.0
    cause h = let e = h.1 in cc

pub stops_exactly : (a : Result ℕ Error) (why : Error) → ((is_stuck a ≡ true) × FailedBy a why) ↔ (((a ≡ Ok 0) × (raw_os_error why ≡ Some (pos 0))) ⊎ ((a ≡ Err why) × (error_kind why ≡ Interrupted → ⊥)))
stops_exactly (Ok n) why = (λ h. inl (ap ok (eqb-true n 0 h.0), h.1), from)
  where
    from : (((ok n) ≡ Ok 0) × (raw_os_error why ≡ Some (pos 0))) ⊎ ((ok n ≡ Err why) × (error_kind why ≡ Interrupted → ⊥)) → (eqb n 0 ≡ true) × (raw_os_error why ≡ Some (pos 0))
    from (inl h) = (ap is_stuck h.0, h.1)
    from (inr h) = let e = h.0 in cc
stops_exactly (Err e) why = (λ h. inr (ap err (sym h.1), no_interruption _ (flipped (is_interrupted why) (ap (λ e. not (is_interrupted e)) h.1 ∙ h.0))), from)
  where
    flipped : (b : Bool) → not b ≡ true → b ≡ false
    flipped true q = sym q
    flipped false q = refl

    fails : (b : Bool) → is_interrupted why ≡ b → (error_kind why ≡ Interrupted → ⊥) → not b ≡ true
    fails true q n = absurd (n (interruption _ q))
    fails false q n = refl

    from : ((err e ≡ Ok 0) × (raw_os_error why ≡ Some (pos 0))) ⊎ ((err e ≡ Err why) × (error_kind why ≡ Interrupted → ⊥)) → (not (is_interrupted e) ≡ true) × (why ≡ e)
    from (inl h) = let e = h.0 in cc
    from (inr h) =
        let same : why ≡ e = let q = h.0 in cc in
        (ap (λ e. not (is_interrupted e)) (sym same) ∙ fails (is_interrupted why) refl h.1, same)

-- ---- the arguments

pub dash_exactly : (path : List ℕ) → (is_dash path ≡ true) ↔ (path ≡ ascii "-")
unfolding ascii
dash_exactly [] = (λ e. absurd (false≢true e), λ e. cc)
dash_exactly (x ∷ []) = (λ e. ap (λ (n : ℕ). n ∷ []) (eqb-true x 45 e), λ e. ap (λ t. eqb (get_or t 0 0) 45) e)
dash_exactly (x ∷ y ∷ t) = (λ e. absurd (false≢true e), λ e. let l = ap length e in absurd (omega (arith, l)))

pub digit_exactly : (text : List ℕ) (d : ℕ) → (single_digit text ≡ Some d) ↔ ((d ≤ 9) × (text ≡ (48 + d) ∷ []))
digit_exactly [] d = (λ e. cc, λ h. let l = ap length h.1 in absurd (omega (arith, l)))
digit_exactly (x ∷ []) d = (
  λ e. only (within 48 57 x) refl e,
  λ h. let v : x ≡ 48 + d = ap (λ t. get_or t 0 0) h.1 in
      ap (λ b. cond b (Some (x - 48)) None) ((within_exactly 48 57 x).1 (omega (arith, v), omega (arith, v, h.0))) ∙ ap Some (omega (arith, v)),
)
  where
    only : (b : Bool) → within 48 57 x ≡ b → cond b (Some (x - 48)) None ≡ Some d → (d ≤ 9) × ((x ∷ []) ≡ (48 + d) ∷ [])
    only true q e =
        let r = (within_exactly 48 57 x).0 q in
        let v : x - 48 ≡ d = cc in
        (omega (arith, r.0, r.1, v), ap (λ (n : ℕ). n ∷ []) (omega (arith, r.0, v)))
    only false q e = cc
digit_exactly (x ∷ y ∷ t) d = (λ e. cc, λ h. let l = ap length h.1 in absurd (omega (arith, l)))

-- ---- computed

pub trouble_of_x : trouble_text (ascii "x") ≡ ascii "nibharrow: x"
unfolding ascii trouble_text
trouble_of_x = refl
