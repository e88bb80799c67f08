-- How often numbers stand in a list.
use Rattle.std.specs.Prelude.{◌≡◌, ℕ, suc, ◌==◌, if◌then◌else◌, List, [], ◌∷◌, slice_index_or}

abbrev pub times : List ℕ → ℕ → ℕ
times [] n = 0
times (m ∷ ms) n = if m == n then suc (times ms n) else times ms n

abbrev pub count_at : List ℕ → ℕ → ℕ
count_at counts n = slice_index_or counts n 0

abbrev pub AreCounted : List ℕ → List ℕ → Type 0
AreCounted numbers counts = (n : ℕ) → count_at counts n ≡ times numbers n
