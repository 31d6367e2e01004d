-- `records::fill_record` meets its contract. Assumes nothing.
use mathlib.Core.Path.{refl}
use Prim.Native.Nat.{◌^◌, ◌≤◌, ◌<◌}
use native.Mathlib.Omega.{arith}
use borrow.Author.Rules.{rules}
use lib.ListN.{length}
use Rattle.records.proofs.RecordLaws.{fill_none_4, fill_4, fill_none_6, fill_half_6, fill_6}
use Rattle.records.proofs.fill_record.Goals.{Else-out-lt16, In-V6}
use Rattle.records.proofs.fill_record.Goals as goal

pub returns-then-out-lt4 : goal.returns-then-out-lt4
returns-then-out-lt4 c =
    fill_none_4 c.args.block c.args.out.now _ c.in-V4.is c.if-out-lt4.true

-- the lower half is one of 64 bits
small : (k : In-V6) → k.in-V6.lo < 2 ^ 64
small k = omega (arith, k)

pub returns-then-out-lt8 : goal.returns-then-out-lt8
returns-then-out-lt8 c =
    fill_none_6 c.args.block c.args.out.now _ _ c.in-V6.is (small (goal.at.returns-then-out-lt8 c).In-V6) c.if-out-lt8.true

pub returns-then-out-lt16 : goal.returns-then-out-lt16
returns-then-out-lt16 c =
    fill_half_6 c.args.block c.args.out.now _ _ c.in-V6.is (small (goal.at.returns-then-out-lt16 c).In-V6) c.if-out-lt8.false c.put_eight.new.out c.put_eight.ensures c.if-out-lt16.true

-- the buffer still has its length where the second half is put
room : (e : Else-out-lt16) → 16 ≤ length e.args.out.now
room e = search rules

pub returns-else-out-lt4 : goal.returns-else-out-lt4
returns-else-out-lt4 c =
    fill_4 c.args.block c.args.out.now _ c.in-V4.is c.if-out-lt4.false c.put_four.new.out c.put_byte.new.out c.put_four.ensures c.put_byte.ensures

pub returns-else-out-lt16 : goal.returns-else-out-lt16
returns-else-out-lt16 c =
    fill_6 c.args.block c.args.out.now _ _ c.in-V6.is (small (goal.at.returns-else-out-lt16 c).In-V6) (room (goal.at.returns-else-out-lt16 c).Else-out-lt16) c.put_eight.new.out c.put_eight-in-V6.new.out _ c.put_byte-in-V6.new.out c.put_eight.ensures c.put_eight-in-V6.ensures refl c.put_byte-in-V6.ensures
