-- The start of a walk.
use Rattle.std.proofs.Common.{◌≡◌, ℕ, zero, suc, Bool, refl, List, []}
use Rattle.l2_code.specs.declared.code.Code.{Code}
use Rattle.l2_code.specs.declared.sets.Sets.{Sets}
use Rattle.l2_code.specs.Trees.{code_of}
use Rattle.l2_code.specs.Sets.{family}
use Rattle.l2_ssa.specs.declared.goal.Kind.{Kind}
use Rattle.l2_ssa.specs.Walks.{T, F}
use Rattle.l2_ssa.specs.Views.{kinds_of}
use Rattle.l2_ssa.specs.Law.{ssa, first_walk}
use Rattle.l2_walker.specs.Made.{State, put, temps_of}
use Rattle.l2_walk.specs.Nodes.{after_nodes}

abbrev pub begun : Code → Sets → List Kind → ℕ → Bool → State
begun code sets kinds copies ranks = record {
  code = code;
  sets = sets;
  kinds = kinds;
  copies = copies;
  ranks = ranks;
  names = 0;
  steps = λ rest. rest;
  events = λ rest. rest;
  heads = λ rest. rest;
  entries = λ rest. rest;
  frames = [];
  walk = first_walk (code_of code);
}

pub walk_is : (code : Code) (sets : Sets) (kinds : List Kind) (copies : ℕ) (ranks : Bool)
    → after_nodes (begun code sets kinds copies ranks) T (code_of code).body ≡ put (begun code sets kinds copies ranks) (ssa (code_of code) (family sets) copies (kinds_of kinds) ranks)
walk_is code sets kinds copies ranks = refl

none_at : (n : ℕ) → temps_of [] n ≡ F
none_at zero = refl
none_at (suc n) = refl

pub no_temps : temps_of [] ≡ (λ n. F)
no_temps = λ i n. none_at n i
