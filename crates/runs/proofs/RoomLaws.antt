-- The records of a range, all of them put or none. Assumes nothing.
use Rattle.std.proofs.Common.{◌≡◌, ℕ, ◌+◌, ◌-◌, ◌*◌, ◌/◌, ◌^◌, ◌<◌, ◌≤◌, true, false, leb, List, ◌++◌, length, take, drop, sym, ap, ◌∙◌, subst, mul-le-mul_right, mul_comm, arith, length-take-le, drop_at, le-leb, leb-false, leb-true}
use Rattle.cover.specs.Blocks.{range_blocks}
use Rattle.cover.proofs.Claims.{at_most}
use Rattle.cover.proofs.Range.{range_done, range_largest, range_fewest}
use Rattle.output.specs.Placing.{PutsAll}
use Rattle.output.proofs.PlacingLaws.{puts_before, puts_behind, puts_room, all_room, all_kept, all_short, all_nothing}
use Rattle.records.specs.Records.{record_size, records_of, read_records}
use Rattle.records.proofs.RecordLaws.{records_length, records_back}

-- the records of the range from first to last, of addresses of W bits
module _ (W first last : ℕ) where
  abbrev records : List ℕ
  records = records_of W (range_blocks W first last)

  -- no range has more than 2 W - 2 blocks
  module _ (two : 2 ≤ W) (top : last < 2 ^ W) where
    pub most_fits : (room : ℕ) → (2 * W - 2) * record_size W ≤ room → true ≡ leb (length records) room
    most_fits room h =
        let bs = range_blocks W first last in
        let few = mul-le-mul_right (record_size W) (at_most W first last two top) in
        sym (le-leb (length records) room (omega (arith, few, records_length W bs, mul_comm (length bs) (record_size W))))

    pub counted_few : (n : ℕ) → n ≡ length (range_blocks W first last) → n ≤ 2 * W - 2
    counted_few n e = omega (arith, at_most W first last two top)

  -- a count of the blocks tells whether the records fit
  pub counted_fits : (n room : ℕ) → n ≡ length (range_blocks W first last) → leb (n * record_size W) room ≡ leb (length records) room
  counted_fits n room e =
      let bs = range_blocks W first last in
      ap (λ (m : ℕ). leb m room) (ap (λ (m : ℕ). m * record_size W) e ∙ mul_comm (length bs) (record_size W) ∙ sym (records_length W bs))

  -- first is above last
  module _ (above : last < first) where
    pub none_blocks : 0 ≡ length (range_blocks W first last)
    none_blocks = sym (ap length (range_done W last first above))

    pub none_put : (old : List ℕ) (at : ℕ) → PutsAll old old at at records
    unfolding records_of
    none_put old at = subst (λ bs. PutsAll old old at at (records_of W bs)) (sym (range_done W last first above)) (all_nothing old at)

  -- a range that rises has records
  pub some_records : first ≤ last → 0 < length records
  some_records rises =
      let some : 0 < length (range_blocks W first last) = rw (range_largest W last first rises) (omega arith) in
      omega (arith, mul-le-mul_right (record_size W) some, records_length W (range_blocks W first last), mul_comm (length (range_blocks W first last)) (record_size W))

  -- the test of the room from an index on
  module _ (old : List ℕ) (at : ℕ) where
    pub room_short : leb (length records) (length old - at) ≡ false → PutsAll old old at at records
    room_short e = all_short old at records (omega (arith, leb-false (length records) (length old - at) e))

    pub room_whole : first ≤ last → leb (length records) (length old - at) ≡ true → at + length records ≤ length old
    room_whole rises e = omega (arith, leb-true (length records) (length old - at) e, some_records rises)

  -- what is then in the buffer
  module _ {old new : List ℕ} {at next : ℕ} (p : PutsAll old new at next records) where
    pub kept : length old < at + length records → (next ≡ at) × (new ≡ old)
    kept = all_kept p

    pub held : 256 ^ (W / 8) ≡ 2 ^ W → last < 2 ^ W → at + length records ≤ length old
        → (read_records W (length (range_blocks W first last)) (drop at new) ≡ range_blocks W first last)
        × (next ≡ at + record_size W * length (range_blocks W first last))
        × (take at new ≡ take at old)
        × (drop next new ≡ drop next old)
    held whole top h =
        let put = all_room p h in
        let all = puts_room put h in
        let behind = drop (at + length records) old in
        let rest : drop at new ≡ records ++ behind = ap (drop at) all.1 ∙ drop_at (take at old) (records ++ behind) at (length-take-le at old (omega arith)) in (
          ap (read_records W (length (range_blocks W first last))) rest ∙ records_back W whole (range_blocks W first last) (range_fewest W first last top).blocks behind,
          all.0 ∙ ap (λ (n : ℕ). at + n) (records_length W (range_blocks W first last)),
          puts_before put,
          puts_behind put,
        )
