-- What a code with its sets is, and that its reads and writes act at candidates alone.
use Rattle.std.specs.Prelude.{◌≡◌, ℕ, ℤ, true, List, Some}
use Rattle.l2_runs.specs.declared.cells.CellType.{CellType}
use Rattle.l2_runs.specs.Members.{targets, Within}
use Rattle.l2_runs.specs.Store.{Address}
use Rattle.l2_code.specs.declared.action.Operand.{Operand}
use Rattle.l2_code.specs.declared.sets.Sets.{Sets}
use Rattle.l2_code.specs.Trees.{CodeTree}
use Rattle.l2_code.specs.Values.{Temps, operand_value, cell_of}
use Rattle.l2_code.specs.Sets.{may_be, family, IsResolved}
use Rattle.l2_code.specs.Modes.{Mode, types_of, limit_of, run_code, start}
use Rattle.l2_code.specs.WellFormed.{Scope, IsWellFormed}
use Rattle.l2_code_laws.specs.Holding.{TempsHold}
use Rattle.l2_runs.specs.Loops.{Tests}
use Rattle.l2_deref.specs.Candidates.{candidates, is_among}
use Rattle.l2_deref.specs.Among.{run_among}

-- where temporaries hold values in their sets, as they do in every run over these sets, in any mode, a read or a write of a cell
-- of this type acts at one of its candidates, and what an operand is stands in its set
pub record ActsAtCandidates (c : CodeTree) (s : Sets) (t : Temps) : Type 0 where
  pub candidate : (ty : CellType) (a : Operand) (at : Address) → cell_of (types_of c).objects ty (operand_value t a) ≡ Some at → is_among (candidates (types_of c).objects s ty a) at ≡ true
  pub member : (a : Operand) → Within (targets (operand_value t a)) (may_be (family s) a)

abbrev pub CandidatesHold : Type 0
CandidatesHold = (c : CodeTree) (s : Sets) (scope : Scope) (t : Temps) → TempsHold (types_of c).objects (family s) scope t → ActsAtCandidates c s t

-- a well-formed code, resolved with sets, does in every mode over these sets and under any tests what it does
abbrev pub RunsAlike : Type 0
RunsAlike =
    (c : CodeTree) (s : Sets) → IsWellFormed c → IsResolved c (family s) → (mode : Mode) (tests : Tests) (choices : List ℤ) (turns : ℕ)
    → run_among c s (limit_of c (family s) mode) tests (start c choices turns) ≡ run_code c (limit_of c (family s) mode) tests (start c choices turns)
