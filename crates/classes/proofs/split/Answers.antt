-- `classes::split` meets its contract. Assumes nothing.
use native.Mathlib.Omega.{arith}
use Rattle.classes.specs.Classes.{class_a, class_b, class_c}
use Rattle.classes.proofs.ClassLaws.{class_a_lem, class_b_lem, class_c_lem, class_none, split_class, split_none, split_6}
use Rattle.classes.proofs.split.Goals as goal

pub returns-in_default : goal.returns-in_default
returns-in_default c = rw c.in_default.is (split_6 _ _)

pub returns-then-v-lt2147483648 : goal.returns-then-v-lt2147483648
returns-then-v-lt2147483648 c =
    let v = c.in-V4.v in
    rw c.in-V4.is (split_class v class_a (class_a_lem v (omega arith)))

pub returns-then-v-lt3221225472 : goal.returns-then-v-lt3221225472
returns-then-v-lt3221225472 c =
    let v = c.in-V4.v in
    rw c.in-V4.is (split_class v class_b (class_b_lem v (omega arith) (omega arith)))

pub returns-then-v-lt3758096384 : goal.returns-then-v-lt3758096384
returns-then-v-lt3758096384 c =
    let v = c.in-V4.v in
    rw c.in-V4.is (split_class v class_c (class_c_lem v (omega arith) (omega arith)))

pub returns : goal.returns
returns c =
    let v = c.in-V4.v in
    rw c.in-V4.is (split_none v (class_none v (omega arith)))
