-- Choices of a supply as values of names.
use Rattle.std.specs.Prelude.{ℕ, ◌<◌, ◌≤◌, Bool, length}
use Rattle.l2_runs.specs.Fits.{Layout}
use Rattle.l2_code.specs.Trees.{CodeTree}
use Rattle.l2_code.specs.Sets.{Family}
use Rattle.l2_code.specs.Modes.{types_of}
use Rattle.l2_supply.specs.Supply.{Supply}
use Rattle.l2_ssa.specs.Steps.{Names}
use Rattle.l2_ssa.specs.Walks.{Kind}
use Rattle.l2_ssa.specs.Law.{ssa, Matches}
use Rattle.l2_ssa_laws.specs.Entering.{Enters}
use Rattle.l2_blast_laws.specs.Law.{AreChosen, AreMet}

-- at most 131,070 objects, of at most 65,536 cells
pub record IsFew (cells : Layout) : Type 0 where
  pub few : (o : ℕ) → 0 < length (cells o) → o ≤ 131070
  pub short : (o : ℕ) → length (cells o) ≤ 65536

abbrev pub ChoicesMatch : Type 0
ChoicesMatch =
    (c : CodeTree) (f : Family) → IsFew (types_of c).objects → (k : ℕ) (kind : ℕ → Kind) (ranks : Bool) (u : Supply) → Enters (types_of c).objects (ssa c f k kind ranks).given u
    → (choices : Names) × AreChosen choices 0 (ssa c f k kind ranks).steps
    × ((s : Names) → AreMet choices s 0 (ssa c f k kind ranks).steps → Matches (types_of c).objects s (ssa c f k kind ranks).given u)
