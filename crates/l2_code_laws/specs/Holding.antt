-- Cells and temporaries hold values of their types, in their sets.
use Rattle.std.specs.Prelude.{◌≡◌, ℕ, ℤ, Bool, true, List, [], ◌∷◌, Option, Some, None}
use Rattle.l2_runs.specs.declared.cells.CellType.{CellType}
use Rattle.l2_runs.specs.declared.cells.CellValue.{CellValue}
use Rattle.l2_runs.specs.declared.member.Member.{Member}
use Rattle.l2_runs.specs.Fits.{Layout}
use Rattle.l2_runs.specs.Members.{targets, Within}
use Rattle.l2_runs.specs.Runs.{Result, Go, Halt}
use Rattle.l2_runs.specs.Loops.{Tests}
use Rattle.l2_runs.specs.Store.{Store, object_at}
use Rattle.l2_code.specs.Trees.{Nodes, none, more, CodeTree}
use Rattle.l2_code.specs.Values.{Temps}
use Rattle.l2_code.specs.Machine.{Setting, Way, On, Out, nodes}
use Rattle.l2_code.specs.Sets.{Family, AreClosed, IsResolved}
use Rattle.l2_code.specs.Modes.{Mode, limit_of, run_code, start, types_of}
use Rattle.l2_code.specs.WellFormed.{Known, Scope, IsConstant, IsBit, AreTyped, behind_node, names_of, IsWellFormed}
use Rattle.l2_code_laws.specs.Preserved.{Preserves, LimitPreserves}

-- a cell of this type may hold the value: a constant of the type, in the set
abbrev pub CellHolds : Layout → (Member → Bool) → CellType → CellValue → Type 0
CellHolds cells set ty v = IsConstant cells ty v × Within (targets v) set

-- as many values as types, and each cell may hold its own
abbrev pub CellsHold : Layout → (Member → Bool) → List CellType → List CellValue → Type 0
CellsHold cells set [] [] = Unit {0}
CellsHold cells set [] (v ∷ vs) = ⊥
CellsHold cells set (t ∷ types) [] = ⊥
CellsHold cells set (t ∷ types) (v ∷ vs) = CellHolds cells set t v × CellsHold cells set types vs

pub record StoreHolds (cells : Layout) (f : Family) (store : Store) : Type 0 where
  pub objects : (n : ℕ) → CellsHold cells (f.object n) (cells n) (object_at store n).cells

-- what is known of a temporary is so
abbrev pub KnownHolds : Layout → Option Known → CellValue → Type 0
KnownHolds cells None v = Unit {0}
KnownHolds cells (Some k) v = IsConstant cells k.type v × (k.is_truth ≡ true → IsBit v)

pub record TempsHold (cells : Layout) (f : Family) (scope : Scope) (t : Temps) : Type 0 where
  pub sets : (n : ℕ) → Within (targets (t n)) (f.temp n)
  pub types : (n : ℕ) → KnownHolds cells (scope n) (t n)

-- what is known behind code
abbrev pub behind_nodes : Scope → Nodes → Scope
behind_nodes scope none = scope
behind_nodes scope (more x rest) = behind_nodes (behind_node scope x) rest

abbrev pub WayHolds : Layout → Family → Scope → Way → Type 0
WayHolds cells f scope (On t) = TempsHold cells f scope t
WayHolds cells f scope (Out n) = Unit {0}

-- code of a well-formed code, under a limit that keeps what stores hold, goes on with such stores and temporaries
abbrev pub NodesHold : Type 0
NodesHold =
    (c : CodeTree) (f : Family) → IsWellFormed c → IsResolved c f
    → (g : Setting) → g.types ≡ types_of c → LimitPreserves (StoreHolds (types_of c).objects f) g.limit
    → (xs : Nodes) (scope : Scope) → AreTyped (names_of c) scope xs → AreClosed f xs
    → (b : Bool) (t : Temps) → TempsHold (types_of c).objects f scope t
    → Preserves (StoreHolds (types_of c).objects f) (WayHolds (types_of c).objects f (behind_nodes scope xs)) (nodes g b xs t)

-- each mode of a code over its sets keeps what stores hold
abbrev pub LimitsHold : Type 0
LimitsHold = (c : CodeTree) (f : Family) → IsWellFormed c → IsResolved c f → (mode : Mode) → LimitPreserves (StoreHolds (types_of c).objects f) (limit_of c f mode)

abbrev pub EndHolds : Layout → Family → Result (Unit {0}) → Type 0
EndHolds cells f (Go u s) = StoreHolds cells f s.store
EndHolds cells f (Halt e s) = StoreHolds cells f s.store

-- wherever a run of a well-formed code over its sets ends, in any mode and under any tests, each cell holds a value of its type in its set
abbrev pub RunsHold : Type 0
RunsHold =
    (c : CodeTree) (f : Family) → IsWellFormed c → IsResolved c f → (mode : Mode) (tests : Tests) (choices : List ℤ) (turns : ℕ)
    → EndHolds (types_of c).objects f (run_code c (limit_of c f mode) tests (start c choices turns))
