-- Literals that say of the variables of open rows that they are what fills them elsewhere.
use Rattle.std.specs.Prelude.{ℕ, suc, List, [], ◌∷◌, if◌then◌else◌}
use Rattle.l2_ssa.specs.Steps.{Step, Row, Lower}
use Rattle.l2_gates.specs.Gates.{Lit, F, negated, same, Made, Bit, xor}
use Rattle.l2_blast.specs.Words.{Env, name, first, literal, wide_words, Fill}

pub record Literals : Type 0 where
  pub literals : List Lit
  pub made : Made

-- the two have the same value
abbrev pub alike : Lit → Bit → Bit
alike l b = let x = xor l b.bit b.made in record { bit = negated x.bit; made = x.made }

abbrev pub behind_bit : Lit → Literals → Literals
behind_bit l r = record { literals = l ∷ r.literals; made = r.made }

-- of the rows and rankings whose paths aren't F, from name n on, in order
abbrev pub say_rows : Fill → Env → ℕ → List Step → Made → Literals
say_rows fill env n [] m = record { literals = []; made = m }
say_rows fill env n (Row g l i vars ∷ xs) m =
    if same (literal env g) F then say_rows fill env (suc n) xs m
    else (let b = alike (first (name env n).bits) (fill.row l i (wide_words env vars) m) in behind_bit b.bit (say_rows fill env (suc n) xs b.made))
say_rows fill env n (Lower g l old now ∷ xs) m =
    if same (literal env g) F then say_rows fill env (suc n) xs m
    else (let b = alike (first (name env n).bits) (fill.lower l (wide_words env old) (wide_words env now) m) in behind_bit b.bit (say_rows fill env (suc n) xs b.made))
say_rows fill env n (x ∷ xs) m = say_rows fill env (suc n) xs m
