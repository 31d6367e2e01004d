-- `gather::Records::load_keys` meets its contract. Assumes nothing.
use mathlib.Core.Path.{refl, ◌∙◌}
use native.Mathlib.Omega.{arith}
use lib.ListN.{length-set}
use Rattle.gather.specs.Inner.{width_of}
use Rattle.gather.proofs.PassLaws.{in_list}
use Rattle.gather.proofs.OrderLaws.{loaded_none, loaded_next}
use Rattle.gather.proofs.Records.load_keys.Goals.{In-loop-i}
use Rattle.gather.proofs.Records.load_keys.Goals as goal

pub loop-i-init : goal.loop-i-init
loop-i-init c = let a = c.args in (loaded_none (width_of a.self.family) a.self.bytes.now a.hi.now a.lo.now, refl, refl)

pub address-key-requires : goal.address-key-requires
address-key-requires c = in_list (goal.at.address-key-requires c).In-loop-i.requires.0 _ c.loop-i-test.true

pub offset_bounds-hi-i : goal.offset_bounds-hi-i
offset_bounds-hi-i c = omega (arith, c.loop-i-test.true, (goal.at.offset_bounds-hi-i c).In-loop-i.requires.0.few)

pub bounds-hi-i : goal.bounds-hi-i
bounds-hi-i c = omega (arith, c.loop-i-test.true, (goal.at.bounds-hi-i c).In-loop-i.requires.1, c.loop-i.invariant.1)

pub offset_bounds-lo-i : goal.offset_bounds-lo-i
offset_bounds-lo-i c = offset_bounds-hi-i c

pub bounds-lo-i : goal.bounds-lo-i
bounds-lo-i c = omega (arith, c.loop-i-test.true, (goal.at.bounds-lo-i c).In-loop-i.requires.2, c.loop-i.invariant.2)

pub loop-i-preserved : goal.loop-i-preserved
loop-i-preserved c =
    let v = c.loop-i in
    let a = (goal.at.loop-i-preserved c).In-loop-i.args in (
      loaded_next (width_of a.self.family) v.i a.self.bytes.now v.hi v.lo v.invariant.0 (bounds-hi-i c) (bounds-lo-i c) c.address-key.result c.address-key.ensures,
      length-set v.hi v.i c.address-key.result.hi ∙ v.invariant.1,
      length-set v.lo v.i c.address-key.result.lo ∙ v.invariant.2,
    )

pub shape_of-hi : goal.shape_of-hi
shape_of-hi c = c.loop-i.invariant.1

pub shape_of-lo : goal.shape_of-lo
shape_of-lo c = c.loop-i.invariant.2

pub returns : goal.returns
returns c = let v = c.loop-i.invariant in (λ x h. v.0 x (omega (arith, h, c.loop-i-test.false)), v.1, v.2)
