-- The code of a lawful program may be asked.
use Rattle.std.proofs.Common.{◌≡◌, ℕ, ◌<◌, sym, ap, ◌∙◌, subst, List, length, Option, Some, None, ℤ}
use Rattle.l2_runs.specs.Numbers.{at_number}
use Rattle.l2_runs.specs.Fits.{Layout}
use Rattle.l2_runs.specs.Loops.{Tests}
use Rattle.l2_program.specs.Programs.{ProgramTree}
use Rattle.l2_meaning.specs.Execution.{cells_of, exec, report}
use Rattle.l2_meaning.specs.Lawful.{IsLawful}
use Rattle.l2_templates.specs.declared.point.LoopPoint.{LoopPoint}
use Rattle.l2_cuts.specs.Cuts.{cut_limit}
use Rattle.l2_code.specs.declared.code.CodeObject.{CodeObject}
use Rattle.l2_code.specs.Sets.{Family, HasCell, IsResolved}
use Rattle.l2_code.specs.Modes.{types_of, object_cells, start}
use Rattle.l2_code.specs.WellFormed.{IsWellFormed}
use Rattle.l2_lower.specs.Alike.{exec_code}
use Rattle.l2_lower.specs.Code.{code}
use Rattle.l2_labels.specs.Labels.{one_label}
use Rattle.l2_labels.specs.Law.{RunsAlike, StaysWellFormed, StaysResolved}
use Rattle.l2_direct_code.specs.Law.{CodeIsDirect, StaysDirect}
use Rattle.l2_cut_code.specs.Limits.{NameCells, point_limit}
use Rattle.l2_blast_laws.specs.Behind.{open_fill}
use Rattle.l2_goal_laws.proofs.Sizes.{is_few, sized}
use Rattle.l2_grown_laws.specs.Law.{DoesLike}
use Rattle.l2_grown_models.specs.Law.{IsAskable}
use Rattle.l2_asked_goals.specs.Law.{ProgramsAreAskable}

-- what the crates below say
pub record Below : Type 0 where
  pub well_formed : (p : ProgramTree) → IsLawful p → IsWellFormed (code p)
  pub direct : CodeIsDirect
  pub runs_alike : RunsAlike
  pub stays_well_formed : StaysWellFormed
  pub stays_resolved : StaysResolved
  pub stays_direct : StaysDirect
  pub cells : (p : ProgramTree) → (types_of (code p)).objects ≡ cells_of p
  pub executions : (p : ProgramTree) → IsLawful p → (f : Family) → NameCells (cells_of p) f.object → (k : ℕ) (q : List LoopPoint) (tests : Tests) (choices : List ℤ) (turns : ℕ)
      → exec p (cut_limit p f.object k q) tests choices turns ≡ exec_code (code p) (point_limit (code p) f k q) tests choices turns

module _ (a : Below) (p : ProgramTree) (lawful : IsLawful p) (f : Family) (resolved : IsResolved (code p) f) where
  has_cell : (o : ℕ) → HasCell (at_number (code p).objects o) → 0 < length ((types_of (code p)).objects o)
  has_cell o h = go (at_number (code p).objects o) h
    where
      go : (x : Option CodeObject) → HasCell x → 0 < length (object_cells x)
      go None h = absurd h
      go (Some x) h = h

  name_cells : NameCells (cells_of p) f.object
  name_cells n o h = subst (λ (cells : Layout). 0 < length (cells o)) (a.cells p) (has_cell o (resolved.over.objects n o h))

  does_like : DoesLike p f (one_label (code p))
  does_like k q tests choices =
      ap (λ e. e.end) (a.executions p lawful f name_cells k q tests choices 0)
      ∙ ap (λ r. (report choices 0 r).end) (sym (a.runs_alike (code p) (point_limit (code p) f k q) tests (start (code p) choices 0)))

  formed : IsWellFormed (one_label (code p))
  formed = a.stays_well_formed (code p) (a.well_formed p lawful)

  pub askable : IsAskable p f (one_label (code p))
  askable = record {
    code_of = record { well_formed = formed; resolved = a.stays_resolved (code p) f resolved; like = does_like };
    direct = a.stays_direct (types_of (code p)).objects (code p) (a.direct p lawful);
    sized = sized (one_label (code p)) formed open_fill;
    few = is_few (one_label (code p)) formed;
  }

pub programs_are_askable : Below → ProgramsAreAskable
programs_are_askable a p lawful f resolved = askable a p lawful f resolved
