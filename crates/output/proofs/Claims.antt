-- What is claimed of bytes put into a buffer at an index, as far as there is room. Assumes nothing.
use mathlib.Core.Path.{◌≡◌}
use mathlib.Core.List.{List, ◌++◌}
use Prim.Native.Nat.{ℕ, ◌+◌, ◌-◌, ◌≤◌, ◌<◌}
use lib.ListN.{length, take, drop}
use Rattle.output.specs.Placing.{Puts, PutsAll}
use Rattle.output.proofs.PlacingLaws as laws

module _ {old new : List ℕ} {at next : ℕ} {bytes : List ℕ} (p : Puts old new at next bytes) where
  -- The bytes from the index to the answered one are the first of those to be put;
  pub puts_there : take (next - at) (drop at new) ≡ take (next - at) bytes
  puts_there = laws.puts_there p

  -- every byte before and behind them stays, and so does the length.
  pub puts_before : take at new ≡ take at old
  puts_before = laws.puts_before p

  pub puts_behind : drop next new ≡ drop next old
  puts_behind = laws.puts_behind p

  pub puts_length : length new ≡ length old
  puts_length = laws.puts_length p

  -- Where they have room, all of them are put.
  pub puts_room : at + length bytes ≤ length old → (next ≡ at + length bytes) × (new ≡ take at old ++ (bytes ++ drop (at + length bytes) old))
  puts_room = laws.puts_room p

  -- Two calls in a row put what one call of both texts would have put.
  pub puts_then : {newer : List ℕ} {last : ℕ} {more : List ℕ} → Puts new newer next last more → Puts old newer at last (bytes ++ more)
  puts_then = laws.puts_then p

-- Bytes that have room at the start are what the buffer then begins with, as many as the call answers.
pub puts_whole : {old new : List ℕ} {n : ℕ} {bytes : List ℕ} → Puts old new 0 n bytes → length bytes ≤ length old → (n ≡ length bytes) × (take n new ≡ bytes)
puts_whole = laws.puts_whole

-- A call that puts all or none puts them where they have room, and else alters nothing.
module _ {old new : List ℕ} {at next : ℕ} {bytes : List ℕ} (p : PutsAll old new at next bytes) where
  pub all_room : at + length bytes ≤ length old → Puts old new at next bytes
  all_room = laws.all_room p

  pub all_kept : length old < at + length bytes → (next ≡ at) × (new ≡ old)
  all_kept = laws.all_kept p
