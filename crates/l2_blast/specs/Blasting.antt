-- From equations to clauses: each step gives its name's word, one after another.
use Rattle.std.specs.Prelude.{List, [], ◌∷◌, ◌++◌}
use Rattle.l2_ssa.specs.Steps.{Step}
use Rattle.l2_gates.specs.Gates.{Made, start}
use Rattle.l2_circuits.specs.Words.{Word}
use Rattle.l2_blast.specs.Sorts.{sort_of}
use Rattle.l2_blast.specs.Words.{Named, Env, Setting, word_of}

-- the words of the names, and what is made
pub record Blasted : Type 0 where
  pub env : Env
  pub made : Made

abbrev pub named : Step → Word → Named
named x w = record { sort = sort_of x; bits = w.bits }

abbrev pub blast : Setting → List Step → Env → Made → Blasted
blast s [] env m = record { env = env; made = m }
blast s (x ∷ xs) env m = let w = word_of s x env m in blast s xs (env ++ named x w ∷ []) w.made

-- the clauses of all steps
abbrev pub clauses_of : Setting → List Step → Blasted
clauses_of s xs = blast s xs [] start
