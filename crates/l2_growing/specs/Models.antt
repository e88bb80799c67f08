-- Models of what circuits have made that make literals true.
use Rattle.std.specs.Prelude.{ℕ, ◌++◌, Bool, List, [], ◌∷◌}
use Rattle.l2_gates.specs.Gates.{Lit, T, Made}
use Rattle.l2_gates.specs.Models.{Ok}
use Rattle.l2_said_rows.specs.Law.{AllTrue}

-- so many variables, of which the first is true, and no clause of the others
abbrev pub at_variables : ℕ → Made
at_variables n = record { next = n; clauses = (T ∷ []) ∷ [] }

-- what is made behind so many variables, with the clauses of circuits that begin there
abbrev pub followed : Made → Made → Made
followed m circuits = record { next = circuits.next; clauses = m.clauses ++ circuits.clauses }

abbrev pub IsModelWith : (ℕ → Bool) → Made → List Lit → Type 0
IsModelWith v m ls = Ok v m × AllTrue v ls

abbrev pub HasModelWith : Made → List Lit → Type 0
HasModelWith m ls = (v : ℕ → Bool) × IsModelWith v m ls
