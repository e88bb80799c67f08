-- Which widths and signs are those of a type.
use Rattle.std.specs.Prelude.{ℕ, Bool, not, ◌||◌, ◌==◌, if◌then◌else◌, T}

-- a type has 8, 16, 32 or 64 bits with a sign or without, or 1 bit without a sign
abbrev pub is_type : ℕ → Bool → Bool
is_type width signed =
    if width == 1 then not signed else width == 8 || width == 16 || width == 32 || width == 64

-- the same as a fact, which is `Unit` where width and sign are written out: so types that are written out
-- are equal by computation
abbrev pub IsType : ℕ → Bool → Type 0
IsType width signed = T (is_type width signed)
