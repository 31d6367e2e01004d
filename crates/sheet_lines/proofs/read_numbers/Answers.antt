-- `sheet_lines::read_numbers` meets its contract. Assumes nothing.
use mathlib.Core.Path.{sym, ◌∙◌}
use native.Mathlib.Omega.{arith}
use Rattle.digits.proofs.FirstPieceLaws.{as_number, as_nothing}
use Rattle.sheet_lines.specs.Lines.{number_to}
use Rattle.sheet_lines.proofs.FieldLaws.{number_most, volume_none, volume_zero, volume_some, ph_is}
use Rattle.sheet_lines.proofs.read_numbers.Goals as goal

pub returns-in_err-volume : goal.returns-in_err-volume
returns-in_err-volume c =
    let a = c.args in
    rw (c.from_residual.ensures, volume_none a.volume.now (as_nothing (number_to 999999 a.volume.now) _ c.in_err-volume.ensures))

pub returns-then-volume-lt1 : goal.returns-then-volume-lt1
returns-then-volume-lt1 c =
    let a = c.args in
    rw (volume_zero a.volume.now _ (as_number (number_to 999999 a.volume.now) _ _ _ c.in_ok-volume.ensures).0 c.if-volume-lt1.true)

pub returns-in_err-ph : goal.returns-in_err-ph
returns-in_err-ph c =
    let a = c.args in
    rw (
      c.from_residual-in_err-ph.ensures,
      volume_some a.volume.now _ (as_number (number_to 999999 a.volume.now) _ _ _ c.in_ok-volume.ensures).0 c.if-volume-lt1.false,
      ph_is a.ph.now,
      as_nothing (number_to 1400 a.ph.now) _ c.in_err-ph.ensures,
    )

pub overflow_cast-result : goal.overflow_cast-result
overflow_cast-result c =
    let a = c.args in
    omega (arith, number_most 1400 a.ph.now _ (as_number (number_to 1400 a.ph.now) _ _ _ c.in_ok-ph.ensures).0)

pub returns : goal.returns
returns c =
    let a = c.args in
    rw (
      volume_some a.volume.now _ (as_number (number_to 999999 a.volume.now) _ _ _ c.in_ok-volume.ensures).0 c.if-volume-lt1.false,
      ph_is a.ph.now,
      (as_number (number_to 1400 a.ph.now) _ _ _ c.in_ok-ph.ensures).0,
    )
