-- How a number is spelt in decimal: by one spelling, with no leading zero.
use Rattle.std.specs.Prelude.{◌≡◌, ℕ, ◌<◌, List, length, slice_index}

-- a word begins as a number may: it has a byte, and a leading zero is its only one
abbrev pub BeginsPlainly : List ℕ → Type 0
BeginsPlainly word = (0 < length word) × (slice_index word 0 ≡ 48 → length word ≡ 1)
