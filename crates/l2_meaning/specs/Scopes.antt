-- Which objects are in scope, and which are static.
use Rattle.std.specs.Prelude.{ℕ, Bool, false, List, [], ◌∷◌, ◌++◌, Option, Some, None}
use Rattle.l2_runs.specs.Numbers.{at_number}
use Rattle.l2_program.specs.declared.program.ObjectInfo.{ObjectInfo}
use Rattle.l2_program.specs.Checked.{CheckedTree, Declare, Initialise}
use Rattle.l2_program.specs.Programs.{ProgramTree}

-- the scope behind an item
abbrev pub behind : List ℕ → CheckedTree → List ℕ
behind scope (Declare n) = scope ++ n ∷ []
behind scope (Initialise n e) = scope ++ n ∷ []
behind scope s = scope

abbrev pub is_static_object : Option ObjectInfo → Bool
is_static_object None = false
is_static_object (Some o) = o.is_static

-- whether an object is static
abbrev pub statics_of : ProgramTree → ℕ → Bool
statics_of p n = is_static_object (at_number p.objects n)
