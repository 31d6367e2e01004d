-- Bytes put into a buffer at an index, as many as there is room for. Assumes nothing.
use Rattle.std.specs.Prelude.{◌≡◌, Bool, cond, List, ◌++◌, ℕ, ◌+◌, ◌-◌, min, leb, length, take, drop}

-- the buffer afterwards: what stood before the index, the bytes, and what stands behind them
unfoldable pub placed : List ℕ → ℕ → List ℕ → List ℕ
placed bytes at old = take (length old) (take at old ++ (bytes ++ drop (at + length bytes) old))

-- the index behind the last byte that was put
abbrev pub behind : List ℕ → ℕ → List ℕ → ℕ
behind bytes at old = at + min (length bytes) (length old - at)

-- a call that puts the bytes at an index of the buffer `old`, answers the index `next` and leaves the buffer `new`
pub record Puts (old new : List ℕ) (at next : ℕ) (bytes : List ℕ) : Type 0 where
  pub index : next ≡ behind bytes at old
  pub buffer : new ≡ placed bytes at old

-- whether all the bytes have room there
abbrev pub fits_at : List ℕ → ℕ → List ℕ → Bool
fits_at bytes at old = leb (at + length bytes) (length old)

-- a call that puts all the bytes where they have room, and else none
pub record PutsAll (old new : List ℕ) (at next : ℕ) (bytes : List ℕ) : Type 0 where
  pub index : next ≡ cond (fits_at bytes at old) (at + length bytes) at
  pub buffer : new ≡ cond (fits_at bytes at old) (placed bytes at old) old
