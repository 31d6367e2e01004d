-- Numbers of 128 bits in two halves. Assumes nothing.
use Rattle.std.specs.Prelude.{ℕ, ◌+◌, ◌*◌, ◌^◌}
use Rattle.wide.specs.declared.Wide.{Wide}

-- the number that the two halves are
abbrev pub value : Wide → ℕ
value w = w.hi * 2 ^ 64 + w.lo
