-- Numbers that stop at the last one of 64 bits.
use Rattle.std.specs.Prelude.{ℕ, min}

-- the number, or the last one of 64 bits where it is larger
abbrev pub capped : ℕ → ℕ
capped n = min n 18446744073709551615
