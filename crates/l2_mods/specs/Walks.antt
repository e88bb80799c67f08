-- What a walk over a tree has come to.
use Rattle.std.specs.Prelude.{ℕ, List, [], ◌∷◌, ◌++◌}
use Rattle.l2_runs.specs.Numbers.{at_number}
use Rattle.l2_runs.specs.Fits.{Layout}
use Rattle.l2_program.specs.declared.program.ObjectInfo.{ObjectInfo}
use Rattle.l2_meaning.specs.declared.sets.LoopSets.{LoopSets}
use Rattle.l2_meaning.specs.Execution.{known_cells}
use Rattle.l2_meaning.specs.Scopes.{is_static_object}
use Rattle.l2_meaning.specs.Changes.{loop_sets}
use Rattle.l2_program.specs.Programs.{FunctionTree}
use Rattle.std.specs.Prelude.{Bool}

-- the objects in scope, those that were changed, and the sets of the loops so far
pub record WalkValue : Type 0 where
  pub scope : List ℕ
  pub changed : List ℕ
  pub sets : List LoopSets

-- the cells of these objects
abbrev pub cells_in : List ObjectInfo → Layout
cells_in objects n = known_cells (at_number objects n)

abbrev pub statics_in : List ObjectInfo → ℕ → Bool
statics_in objects n = is_static_object (at_number objects n)

-- the sets of these functions, in a program of these objects
abbrev pub sets_of_functions : List ObjectInfo → List FunctionTree → List LoopSets
sets_of_functions objects [] = []
sets_of_functions objects (f ∷ rest) = loop_sets (cells_in objects) (statics_in objects) f.parameters f.body ++ sets_of_functions objects rest
