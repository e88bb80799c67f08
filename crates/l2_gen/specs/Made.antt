-- The made program: loops that count to a constant, one behind another.
use Rattle.std.specs.Prelude.{ℕ, zero, suc, ◌+◌, ◌*◌, ◌/◌, ◌%◌, ◌^◌, List, [], ◌∷◌, ◌++◌, codes}
use Rattle.std.specs.Fmt.{decimal}

-- the next state of the generator
abbrev pub next : ℕ → ℕ
next s = (1664525 * s + 1013904223) % 2 ^ 32

-- the constant that a state gives, from 10 to 99
abbrev pub constant : ℕ → ℕ
constant s = 10 + (s / 65536) % 90

abbrev pub line : List ℕ → List ℕ
line text = text ++ 10 ∷ []

abbrev pub declaration : ℕ → List ℕ
declaration i = line (codes "unsigned a" ++ (decimal i ++ codes "=0;"))

abbrev pub loop : ℕ → ℕ → List ℕ
loop i c = line (codes "while(a" ++ (decimal i ++ (codes "<" ++ (decimal c ++ (codes ")a" ++ (decimal i ++ codes "++;"))))))

abbrev pub assertion : ℕ → ℕ → List ℕ
assertion i c = line (codes "assert(a" ++ (decimal i ++ (codes "==" ++ (decimal c ++ codes ");"))))

-- the loop of a number, up to a constant
abbrev pub counting : ℕ → ℕ → List ℕ
counting i c = declaration i ++ (loop i c ++ assertion i c)

-- so many loops from a number on, from this state
abbrev pub loops_from : ℕ → ℕ → ℕ → List ℕ
loops_from i s zero = []
loops_from i s (suc n) = counting i (constant (next s)) ++ loops_from (i + 1) (next s) n

-- the program of a seed, with so many loops
abbrev pub program : ℕ → ℕ → List ℕ
program seed loops = line (codes "int main(void){") ++ (loops_from 1 seed loops ++ (line (codes "return 0;") ++ line (codes "}")))
