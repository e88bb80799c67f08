-- The choices of short runs, and their arrivals at heads, as literals and words.
use Rattle.std.specs.Prelude.{◌≡◌, ℕ, suc, pos, ℤ, Bool, false, List, [], ◌∷◌, map, Option, if◌then◌else◌}
use Rattle.l2_bits.specs.declared.types.Ty.{Ty}
use Rattle.l2_bits.specs.Values.{wrap}
use Rattle.l2_cnf.specs.Assignment.{completed}
use Rattle.l2_code.specs.Trees.{CodeTree}
use Rattle.l2_code.specs.Sets.{Family}
use Rattle.l2_gates.specs.Gates.{Lit, literal_of, literals_of}
use Rattle.l2_gates.specs.Models.{value}
use Rattle.l2_circuit_laws.specs.Values.{values, number}
use Rattle.l2_ssa.specs.Steps.{Step, Take}
use Rattle.l2_ssa.specs.Walks.{Out}
use Rattle.l2_ssa.specs.Views.{kinds_of}
use Rattle.l2_ssa.specs.Law.{ssa}
use Rattle.l2_blast.specs.Words.{Env, name, literal}
use Rattle.l2_blast.specs.Blasting.{clauses_of}
use Rattle.l2_blast.specs.Kept.{setting_of}
use Rattle.l2_labels.specs.Labels.{one_label}
use Rattle.l2_goals.specs.Numbers.{AreFormulas}
use Rattle.l2_short_goals.specs.declared.taking.Taken.{Taken}
use Rattle.l2_short_goals.specs.declared.making.ShortGoals.{ShortGoals}
use Rattle.l2_short_goals.specs.Shorts.{no_fill, plain_kinds, short_formulas}

-- a choice: the path on which it is taken, and the word of its type that it gives
pub record Choice : Type 0 where
  pub path : Lit
  pub word : List Lit
  pub ty : Ty

-- the choices of steps, in order: from a name on
abbrev pub choices_of : Env → ℕ → List Step → List Choice
choices_of env n [] = []
choices_of env n (Take g ty ∷ xs) = record { path = literal env g; word = (name env n).bits; ty = ty } ∷ choices_of env (suc n) xs
choices_of env n (x ∷ xs) = choices_of env (suc n) xs

abbrev pub short_walk : CodeTree → Family → ℕ → Out
short_walk c f k = ssa c f k (kinds_of (plain_kinds c)) false

abbrev pub short_env : CodeTree → Family → ℕ → Env
short_env c f k = (clauses_of (setting_of c no_fill) (short_walk c f k).steps).env

-- the choices of a code's short runs, and the paths of the arrivals at heads, in the walk's order
unfoldable pub short_choices : CodeTree → Family → ℕ → List Choice
short_choices c f k = choices_of (short_env c f k) 0 (short_walk c f k).steps

unfoldable pub short_heads : CodeTree → Family → ℕ → List Lit
short_heads c f k = map (literal (short_env c f k)) (short_walk c f k).heads

-- ---- as they are kept

abbrev pub choice_of : Taken → Choice
choice_of t = record { path = literal_of t.path; word = literals_of t.word; ty = t.ty }

-- these are a code's short goals
pub record AreShorts (s : ShortGoals) (c : CodeTree) (f : Family) : Type 0 where
  pub goals : AreFormulas s.goals (short_formulas c f s.k)
  pub taken : map choice_of s.taken ≡ short_choices (one_label c) f s.k
  pub heads : literals_of s.heads ≡ short_heads (one_label c) f s.k

-- ---- a model

-- the values of variables by their indices; a variable without one is false
abbrev pub values_of : List (Option Bool) → ℕ → Bool
values_of a n = completed a (suc n)

-- the value that a choice's word shows
abbrev pub shown : (ℕ → Bool) → Choice → ℤ
shown v x = wrap x.ty (pos (number (values v x.word)))

-- those of the choices whose path is true, in order
abbrev pub made_choices : (ℕ → Bool) → List Choice → List ℤ
made_choices v [] = []
made_choices v (x ∷ xs) = if value v x.path then shown v x ∷ made_choices v xs else made_choices v xs

-- how many of these are true
abbrev pub count_true : (ℕ → Bool) → List Lit → ℕ
count_true v [] = 0
count_true v (l ∷ ls) = if value v l then suc (count_true v ls) else count_true v ls
