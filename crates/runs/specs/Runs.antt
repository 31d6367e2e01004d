-- Runs of addresses that differ in 64 bits at most, and how far the code is with one: what the contracts of private functions cite.
-- Those of public functions cite no definition of this file. Assumes nothing.
use Rattle.std.specs.Prelude.{◌≡◌, ℕ, suc, ◌+◌, ◌-◌, ◌*◌, ◌%◌, ◌^◌, ◌<◌, ◌≤◌, cond, List, [], ◌∷◌, ◌++◌, length, ◌==◌}
use Rattle.wide.specs.Value.{value}
use Rattle.cover.specs.Blocks.{Block, range_blocks}
use Rattle.output.specs.Placing.{Puts}
use Rattle.records.specs.Records.{record_of, records_of}
use Rattle.runs.specs.declared.Run.{Run}

-- ---- which bits of its addresses a run counts in

-- all of an IPv4 address; the lower half of an IPv6 address, below one upper half; the upper half, above a lower half of 0
pub data Lane : Type 0 where
  Narrow : Lane
  Lower : ℕ → Lane
  Upper : Lane

-- the lane in which the block of a single number has that length: 32, 64 or, for any other, 128
abbrev pub lane_of : ℕ → ℕ → Lane
lane_of longest hi = cond (longest == 32) Narrow (cond (longest == 64) Upper (Lower hi))

-- how many bits of an address a lane is, and how many the address has
abbrev pub lane_bits : Lane → ℕ
lane_bits Narrow = 32
lane_bits (Lower hi) = 64
lane_bits Upper = 64

abbrev pub lane_width : Lane → ℕ
lane_width Narrow = 32
lane_width (Lower hi) = 128
lane_width Upper = 128

-- a block among the numbers of a lane, as a block of addresses
abbrev pub lane_block : Lane → Block → Block
lane_block Narrow b = b
lane_block (Lower hi) b = record { address = hi * 2 ^ 64 + b.address; length = 64 + b.length }
lane_block Upper b = record { address = b.address * 2 ^ 64; length = b.length }

unfoldable pub lane_blocks : Lane → List Block → List Block
lane_blocks lane [] = []
lane_blocks lane (b ∷ bs) = lane_block lane b ∷ lane_blocks lane bs

-- the record of the 2 ^ k numbers from a on
abbrev pub lane_record : Lane → ℕ → ℕ → List ℕ
lane_record lane a k = record_of (lane_width lane) (lane_block lane (record { address = a; length = lane_bits lane - k }))

-- the records of the run from first to last
unfoldable pub run_records : Lane → ℕ → ℕ → List ℕ
unfolding lane_blocks range_blocks records_of
run_records lane first last = records_of (lane_width lane) (lane_blocks lane (range_blocks (lane_bits lane) first last))

-- ---- a run in two parts

-- up to a multiple of a power of two, less than that power away, and on from there, by less than twice that power; the power is not above
-- the number of numbers up to the last
pub record Parts (first last rise fall : ℕ) : Type 0 where
  pub bits : ℕ
  pub room : 2 ^ bits ≤ suc last
  pub few : rise < 2 ^ bits
  pub aligned : (first + rise) % 2 ^ bits ≡ 0
  pub some : 0 < fall
  pub less : fall < 2 ^ suc bits
  pub all : first + rise + fall ≡ suc last

-- a run of a lane whose records have room in a buffer from an index on
pub record RunFits (lane : Lane) (first last at : ℕ) (old : List ℕ) : Type 0 where
  pub rises : first ≤ last
  pub short : last - first < 18446744073709551615
  pub below : last < 2 ^ lane_bits lane
  pub room : at + length (run_records lane first last) ≤ length old

-- From `old` at an index, the blocks before `start` are put and `now` is left: putting the others puts the whole run.
pub record Walk (lane : Lane) (first last : ℕ) (old : List ℕ) (at : ℕ) (now : List ℕ) (next start rise fall : ℕ) : Type 0 where
  pub below : last < 2 ^ lane_bits lane
  pub parts : Parts start last rise fall
  pub room : next + length (run_records lane start last) ≤ length now
  pub rest : (new : List ℕ) (r : ℕ) → Puts now new next r (run_records lane start last) → Puts old new at r (run_records lane first last)

-- rise numbers from first on are the rising part of some run that has room
pub record Climbs (lane : Lane) (first rise at : ℕ) (old : List ℕ) : Type 0 where
  pub last : ℕ
  pub fall : ℕ
  pub fits : RunFits lane first last at old
  pub parts : Parts first last rise fall

-- and of every such run the rising part is put
abbrev pub Climbed : Lane → ℕ → ℕ → List ℕ → ℕ → List ℕ → ℕ → Type 0
Climbed lane first rise old at now next =
    (last fall : ℕ) → RunFits lane first last at old → Parts first last rise fall → Walk lane first last old at now next (first + rise) 0 fall

-- ---- a range as runs

-- a run as the code answers it: the numbers from a to b of the lane l, up to the address e
pub record RunIs (r : Run) (l : Lane) (a b e : ℕ) : Type 0 where
  pub lane : lane_of r.longest r.hi ≡ l
  pub first : r.first ≡ a
  pub last : r.last ≡ b
  pub end : value r.end ≡ e

-- The first run of the range from start to last, of addresses of W bits: the numbers from a to b of a lane, up to the address `end`.
pub record FirstRun (W start last : ℕ) (lane : Lane) (a b end : ℕ) : Type 0 where
  pub wide : lane_width lane ≡ W
  pub rises : a ≤ b
  pub short : b - a < 18446744073709551615
  pub below : b < 2 ^ lane_bits lane
  pub low : start ≤ end
  pub high : end ≤ last
  pub blocks : range_blocks W start last ≡ lane_blocks lane (range_blocks (lane_bits lane) a b) ++ range_blocks W (suc end) last
