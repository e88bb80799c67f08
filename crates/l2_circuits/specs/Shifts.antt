-- Circuits of shifts, by an amount bit after bit.
use Rattle.std.specs.Prelude.{ℕ, ◌+◌, nat_lt, Bool, if◌then◌else◌, List, [], ◌∷◌, ◌++◌, length, drop, replicate}
use Rattle.l2_gates.specs.Gates.{Lit, F, Made, literal_of, number_of}
use Rattle.l2_circuits.specs.declared.shifts.Direction.{Direction}
use Rattle.l2_circuits.specs.declared.shifts.Direction.TheVariants.{Up, Down}
use Rattle.l2_circuits.specs.Words.{Word, known_word, filling, resized, choose}

-- a word moved up by so many bits
abbrev pub up : ℕ → List Lit → List Lit
up k a = resized (length a) F (replicate k F ++ a)

-- a word moved down by so many bits, filled with this literal
abbrev pub down : Lit → ℕ → List Lit → List Lit
down fill k a = resized (length a) fill (drop k a)

abbrev pub moved : Direction → ℕ → List Lit → List Lit
moved Up k a = up k a
moved (Down fill) k a = down (literal_of fill) k a

-- moves the word by k, 2k, 4k and so on for each bit of the amount that is true, while that is below the width
abbrev pub shift_from : Direction → ℕ → List Lit → List Lit → Made → Word
shift_from way k a [] m = known_word a m
shift_from way k a (b ∷ bs) m =
    if nat_lt k (length a) then (let r = choose b (moved way k a) a m in shift_from way (k + k) r.bits bs r.made) else known_word a m

abbrev pub shift_left : List Lit → List Lit → Made → Word
shift_left a b m = shift_from Up 1 a b m

-- filled with the top bit where the word has a sign
abbrev pub shift_right : Bool → List Lit → List Lit → Made → Word
shift_right signed a b m = shift_from (Down (number_of (filling signed a))) 1 a b m
