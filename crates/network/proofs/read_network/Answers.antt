-- `network::read_network` meets its contract. Assumes nothing.
use Rattle.std.specs.Prelude.{Some}
use mathlib.Core.Path.{◌≡◌, sym, ◌∙◌}
use Prim.Native.Nat.{◌≤◌}
use Rattle.notation.proofs.OptionLaws.{passed_on, err_says}
use Rattle.notation.specs.Pieces.{index_of}
use Rattle.network.specs.GivenBytes.{given_of, before_slash, as_given}
use Rattle.network.proofs.NetworkLaws.{given_count, inferred_most, answer_long, none_given, slash_at, no_size, inferred_stored, sized_large, sized_stored}
use Rattle.network.proofs.read_network.Goals.{In_ok-value}
use Rattle.network.proofs.read_network.Goals as goal

pub returns-then-text-gt64 : goal.returns-then-text-gt64
returns-then-text-gt64 c = answer_long _ _ c.if-text-gt64.true

pub returns-in_err-value : goal.returns-in_err-value
returns-in_err-value c =
    rw (passed_on c.from_residual.ensures.1, err_says _ c.in_err-value.ensures.value)
    (none_given _ _ c.if-text-gt64.false (sym c.in_err-value.ensures.ok_part ∙ c.read_given.ensures))

-- the bytes given, and the slash
said : (c : In_ok-value) → let t = c.args.text.now in
    (Some (c.in_ok-value.value, c.in_ok-value.count, c.in_ok-value.slash) ≡ as_given (given_of (before_slash t)) (index_of 47 t))
said c = sym c.in_ok-value.ensures.ok_part ∙ c.read_given.ensures

slash : (c : In_ok-value) → c.in_ok-value.slash ≡ index_of 47 c.args.text.now
slash c = slash_at _ _ _ _ (said c)

count : (c : In_ok-value) → c.in_ok-value.count ≤ 4
count c = given_count _ _ (slash c) _ _ (said c)

pub widen-size-requires : goal.widen-size-requires
widen-size-requires c = count (goal.at.widen-size-requires c).In_ok-value

pub store_network-requires : goal.store_network-requires
store_network-requires c =
    let k = count (goal.at.store_network-requires c).In_ok-value in
    (k, inferred_most _ _ _ _ k c.class_size.ensures c.widen-size.ensures)

pub returns-then-text-slash : goal.returns-then-text-slash
returns-then-text-slash c =
    inferred_stored _ _ (slash (goal.at.returns-then-text-slash c).In_ok-value) _ c.if-text-gt64.false _ _ (said (goal.at.returns-then-text-slash c).In_ok-value) _ _ c.class_size.ensures c.widen-size.ensures c.if-text-slash.true _ _ c.store_network.ensures

pub returns-in_err-size : goal.returns-in_err-size
returns-in_err-size c =
    rw (passed_on c.from_residual-in_err-size.ensures.1, err_says _ c.in_err-size.ensures.value) (no_size _ _ (slash (goal.at.returns-in_err-size c).In_ok-value) _ c.if-text-gt64.false _ c.if-text-slash.false (sym c.in_err-size.ensures.ok_part ∙ c.whole_part.ensures))

pub returns-then-size-gt32 : goal.returns-then-size-gt32
returns-then-size-gt32 c =
    sized_large _ _ (slash (goal.at.returns-then-size-gt32 c).In_ok-value) _ c.if-text-gt64.false _ _ (said (goal.at.returns-then-size-gt32 c).In_ok-value) _ _ _ c.if-text-slash.false (sym c.in_ok-size.ensures.ok_part ∙ c.whole_part.ensures) c.if-size-gt32.true

pub store_network-requires-2 : goal.store_network-requires-2
store_network-requires-2 c = (count (goal.at.store_network-requires-2 c).In_ok-value, c.if-size-gt32.false)

pub returns : goal.returns
returns c =
    sized_stored _ _ (slash (goal.at.returns c).In_ok-value) _ c.if-text-gt64.false _ _ (said (goal.at.returns c).In_ok-value) _ _ _ c.if-text-slash.false (sym c.in_ok-size.ensures.ok_part ∙ c.whole_part.ensures) c.if-size-gt32.false _ _ c.store_network-2.ensures
