-- Pieces that are read, each by itself. Assumes nothing.
use Rattle.std.specs.Prelude.{Option, Some, None}
use mathlib.Core.Path.{◌≡◌, refl, ap, ap₂}
use mathlib.Core.Logic.{◌↔◌}
use mathlib.Core.List.{List, [], ◌∷◌, map}
use Prim.Native.Nat.{ℕ, suc, ◌<◌}
use native.Mathlib.Omega.{arith}
use lib.ListN.{length}
use Rattle.notation.specs.BigEndian.{AllBelow}
use Rattle.notation.specs.Pieces.{Each}
use Rattle.notation.specs.Options.{joined, single, every}
use Rattle.notation.proofs.OptionLaws.{impossible}

-- f reads the pieces as the numbers
pub data Reads (f : List ℕ → Option ℕ) : List (List ℕ) → List ℕ → Type 0 where
  done : Reads f [] []
  more : {p : List ℕ} {x : ℕ} {ps : List (List ℕ)} {xs : List ℕ} → f p ≡ Some x → Reads f ps xs → Reads f (p ∷ ps) (x ∷ xs)

pub every_reads : (f : List ℕ → Option ℕ) (ps : List (List ℕ)) (xs : List ℕ) → every f ps ≡ Some xs → Reads f ps xs
unfolding every
every_reads f [] [] e = done
every_reads f [] (x ∷ xs) e = let z : ◌≡◌ {A = ℕ} 0 1 = cc in absurd (omega arith)
every_reads f (p ∷ ps) xs e = go (f p) (every f ps) xs refl refl e (every_reads f ps)
  where
    go : (o : Option ℕ) (os : Option (List ℕ)) (xs : List ℕ) → f p ≡ o → every f ps ≡ os → joined (single o) os ≡ Some xs
        → ((ys : List ℕ) → every f ps ≡ Some ys → Reads f ps ys) → Reads f (p ∷ ps) xs
    go None os xs q r k ih = impossible k
    go (Some x) None xs q r k ih = impossible k
    go (Some x) (Some ys) xs q r k ih = let s : x ∷ ys ≡ xs = cc in rw (← s) (more q (ih ys r))

module _ {f : List ℕ → Option ℕ} where
  pub reads_each : {P : List ℕ → Type 0} {ps : List (List ℕ)} {xs : List ℕ} → ((p : List ℕ) (x : ℕ) → f p ≡ Some x → P p) → Reads f ps xs → Each P ps
  reads_each h done = tt
  reads_each h (more {p} {x} e r) = (h p x e, reads_each h r)

  pub reads_length : {ps : List (List ℕ)} {xs : List ℕ} → Reads f ps xs → length ps ≡ length xs
  reads_length done = refl
  reads_length (more e r) = ap suc (reads_length r)

  pub reads_below : (m : ℕ) {ps : List (List ℕ)} {xs : List ℕ} → ((p : List ℕ) (x : ℕ) → f p ≡ Some x → x < m) → Reads f ps xs → AllBelow m xs
  reads_below m h done = tt
  reads_below m h (more {p} {x} e r) = (h p x e, reads_below m h r)

-- what reads all that f reads as f does
pub reads_so : {f g : List ℕ → Option ℕ} {ps : List (List ℕ)} {xs : List ℕ} → ((p : List ℕ) (x : ℕ) → f p ≡ Some x → g p ≡ Some x) → Reads f ps xs → every g ps ≡ Some xs
unfolding every
reads_so h done = refl
reads_so h (more {p} {x} e r) = rw (h p x e, reads_so h r)

-- piece by piece
reads_map : {f : List ℕ → Option ℕ} {ps : List (List ℕ)} {xs : List ℕ} → Reads f ps xs → map f ps ≡ map Some xs
reads_map done = refl
reads_map (more e r) = ap₂ ◌∷◌ e (reads_map r)

map_reads : (f : List ℕ → Option ℕ) (ps : List (List ℕ)) (xs : List ℕ) → map f ps ≡ map Some xs → Reads f ps xs
map_reads f [] [] e = done
map_reads f [] (x ∷ xs) e = let z : ◌≡◌ {A = ℕ} 0 1 = cc in absurd (omega arith)
map_reads f (p ∷ ps) [] e = let z : ◌≡◌ {A = ℕ} 0 1 = cc in absurd (omega arith)
map_reads f (p ∷ ps) (x ∷ xs) e = let first : f p ≡ Some x = cc in let rest : map f ps ≡ map Some xs = cc in more first (map_reads f ps xs rest)

pub every_exactly : (f : List ℕ → Option ℕ) (ps : List (List ℕ)) (xs : List ℕ) → (every f ps ≡ Some xs) ↔ (map f ps ≡ map Some xs)
every_exactly f ps xs = (λ e. reads_map (every_reads f ps xs e), λ e. reads_so (λ p x q. q) (map_reads f ps xs e))

-- ---- numbers, each written and read

pub every_written : (m : ℕ) (f : List ℕ → Option ℕ) (g : ℕ → List ℕ) → ((x : ℕ) → x < m → f (g x) ≡ Some x)
    → (xs : List ℕ) → AllBelow m xs → every f (map g xs) ≡ Some xs
unfolding every
every_written m f g h [] l = refl
every_written m f g h (x ∷ xs) l = rw (h x l.0, every_written m f g h xs l.1)
