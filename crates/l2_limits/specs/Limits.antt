-- How many bytes a file that a command reads may have.
use Rattle.std.specs.Prelude.{ℕ}

-- of a C text
abbrev pub text_limit : ℕ
text_limit = 1048576

-- of a values file, or of a certificate
abbrev pub file_limit : ℕ
file_limit = 67108864
