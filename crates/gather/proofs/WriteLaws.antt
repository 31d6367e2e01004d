-- Records that are put or stored, in the paper's terms. Assumes nothing.
use Rattle.std.specs.Prelude.{Ok, Err, Result}
use mathlib.Core.Path.{◌≡◌, refl, sym, ap, ap₂, subst, ◌∙◌}
use mathlib.Core.Bool.{Bool}
use mathlib.Core.List.{List, ◌++◌}
use Prim.Native.Nat.{ℕ, ◌*◌, ◌/◌, ◌≤◌, ◌<◌}
use native.Mathlib.Nat.{zero-add, mul_comm, mul-div_cancel}
use native.Mathlib.Omega.{arith}
use lib.ListN.{length, take, drop, get_or}
use Rattle.cover.specs.Blocks.{Block, AllBlocks}
use Rattle.address.specs.declared.Refusal.{Refusal}
use Rattle.address.specs.Answers.{Answer, gives, refuses, answer, write_refusal, write_answer, write_leaves}
use Rattle.address.proofs.AnswerLaws.{answer_gives, answer_refuses, write_fits}
use Rattle.output.specs.Placing.{Puts}
use Rattle.output.proofs.PlacingLaws.{puts_room, puts_whole}
use Rattle.records.specs.Records.{record_size, read_records, records_of, blocks_writing_answer}
use Rattle.records.proofs.RecordLaws.{records_length}
use Rattle.record_lists.specs.RecordLists.{family_width, list_blocks, is_rising, list_answer}
use Rattle.record_lists.specs.Inner.{IsSize, size_width}
use Rattle.record_lists.proofs.ListLaws.{size_back}
use Rattle.record_lists.proofs.AnswerLaws.{family_size, family_width_lem}
use Rattle.record_lists.proofs.GoodLaws.{all_below, good_refusal, good_count, good_rises, good_length, good_few, good_blocks}
use Rattle.list_answers.specs.ListAnswers.{blocks_answer, blocks_leave}
use Rattle.gather.specs.Inner.{Listed, WritesBlocks}
use Rattle.gather.proofs.BlockLaws.{size_some}

module _ {size : ℕ} (s : IsSize size) (bs : List Block) where
  abbrev W : ℕ
  W = size_width size

  abbrev records : List ℕ
  records = records_of W bs

  -- how many blocks so many bytes are
  count : (n : ℕ) → n ≡ length records → n / size ≡ length bs
  count n e =
      let bytes : n ≡ length bs * size = e ∙ records_length W bs ∙ ap (λ (k : ℕ). k * length bs) (size_back size s) ∙ mul_comm size (length bs) in
      ap (λ (k : ℕ). k / size) bytes ∙ mul-div_cancel (length bs) (omega (arith, (size_some s).0))

  module _ (old : List ℕ) where
    counted : (n : ℕ) → n ≡ length records → write_refusal 0 records old ≡ 0 → gives {A = ℕ × ℕ} (n / size, n) ≡ answer (0, 0) (write_refusal 0 records old) (length bs, length records)
    counted n e z = ap₂ (λ (a b : ℕ). gives {A = ℕ × ℕ} (a, b)) (count n e) e ∙ answer_gives (0, 0) (length bs, length records) (write_refusal 0 records old) z

    -- put where they have room
    pub wrote_put : (n : ℕ) (now : List ℕ) → Puts old now 0 n records → length records ≤ length old → WritesBlocks W bs old (Ok (n / size, n)) now
    unfolding write_answer
    wrote_put n now p h =
        let (e, l) = puts_room p (omega arith) in
        let f = write_fits records old (length records) refl h _ refl in
        record { answers = counted n (omega arith) (ap (λ (r : Answer ℕ). r.number) (sym f.0)); leaves = l ∙ ap (λ (k : ℕ). records ++ drop k old) (zero-add (length records)) ∙ f.1 }

    -- stored from another buffer
    module _ (buffer filled : List ℕ) (n : ℕ) (p : Puts buffer filled 0 n records) (h : length records ≤ length buffer) where
      pub stored_text : take n filled ≡ records
      stored_text = (puts_whole p h).1

      pub wrote_stored : (k : ℕ) (now : List ℕ) → gives k ≡ write_answer 0 (take n filled) old → now ≡ write_leaves 0 (take n filled) old → WritesBlocks W bs old (Ok (n / size, n)) now
      unfolding write_answer
      wrote_stored k now a l =
          let z = sym (ap (λ (r : Answer ℕ). r.number) (a ∙ ap (λ t. write_answer 0 t old) stored_text)) in
          record { answers = counted n (puts_whole p h).0 z; leaves = l ∙ ap (λ t. write_leaves 0 t old) stored_text }

      pub refused_stored : (e : Refusal) (now : List ℕ) → refuses 0 e ≡ write_answer 0 (take n filled) old → now ≡ write_leaves 0 (take n filled) old → WritesBlocks W bs old (Err e) now
      unfolding write_answer
      refused_stored e now a l =
          let z = ap (λ (r : Answer ℕ). r.number) (a ∙ ap (λ t. write_answer 0 t old) stored_text) in
          record { answers = answer_refuses (0, 0) (length bs, length records) (write_refusal 0 records old) e z; leaves = l ∙ ap (λ t. write_leaves 0 t old) stored_text }

-- ---- the call

module _ (f : ℕ) (bytes : List ℕ) (old : List ℕ) where
  -- a list that is not refused, as the code has it
  module _ (n : ℕ) (rises : Bool) (h : list_answer f bytes ≡ gives (n, rises)) (size : ℕ) (s : size ≡ record_size (family_width f)) where
    width_is : size_width size ≡ family_width f
    width_is = ap size_width s ∙ family_width_lem f

    blocks_are : list_blocks f bytes ≡ read_records (size_width size) n bytes
    unfolding list_blocks
    blocks_are = ap₂ (λ (W k : ℕ). read_records W k bytes) (sym width_is) (sym (good_count f bytes n rises h))

    pub list_listed : ((i : ℕ) → get_or bytes i 0 < 256) → Listed size n bytes
    list_listed small = record {
      sized = subst IsSize (sym s) (family_size f);
      long = good_length f bytes n rises h ∙ ap (λ (k : ℕ). k * n) (sym s);
      few = good_few f bytes n rises h;
      valid = subst (AllBlocks (size_width size)) blocks_are (subst (λ (W : ℕ). AllBlocks W (list_blocks f bytes)) (sym width_is) (good_blocks f bytes n rises h (all_below 256 bytes small)));
    }

    pub list_rises : rises ≡ is_rising (read_records (size_width size) n bytes)
    list_rises = good_rises f bytes n rises h ∙ ap is_rising blocks_are

    -- and what it writes
    pub list_written : (make : ℕ → List Block → List Block) (r : Result (ℕ × ℕ) Refusal) (now : List ℕ)
        → WritesBlocks (size_width size) (make (size_width size) (read_records (size_width size) n bytes)) old r now
        → (blocks_writing_answer r ≡ blocks_answer f bytes (make (family_width f) (list_blocks f bytes)) old) × (now ≡ blocks_leave f bytes (make (family_width f) (list_blocks f bytes)) old)
    unfolding blocks_answer blocks_leave
    list_written make r now W =
        let same : WritesBlocks (family_width f) (make (family_width f) (list_blocks f bytes)) old r now =
        subst (λ (k : ℕ). WritesBlocks k (make k (list_blocks f bytes)) old r now) width_is (subst (λ bs. WritesBlocks (size_width size) (make (size_width size) bs) old r now) (sym blocks_are) W) in
        rw (good_refusal f bytes n rises h) (same.answers, same.leaves)
