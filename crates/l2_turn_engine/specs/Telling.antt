-- That formulas of a program's code tell of the turns of its loops.
use Rattle.std.specs.Prelude.{◌≡◌, ◌↔◌, ℕ, suc, ◌<◌, ◌≤◌, Bool, true, List, [], ◌∷◌, ◌++◌, length, None}
use Rattle.std.specs.List.{All}
use Rattle.l2_program.specs.Programs.{ProgramTree}
use Rattle.l2_templates.specs.declared.form.Form.{Form}
use Rattle.l2_templates.specs.declared.point.LoopPoint.{LoopPoint}
use Rattle.l2_templates.specs.declared.point.LoopPoint.TheVariants.{Bottom}
use Rattle.l2_code.specs.declared.sets.Sets.{Sets}
use Rattle.l2_code.specs.Trees.{CodeTree}
use Rattle.l2_code.specs.Sets.{family}
use Rattle.l2_cuts.specs.Points.{point_at}
use Rattle.l2_rank_laws.specs.Moves.{SomeMove, SomeStay}
use Rattle.l2_missed.specs.Meeting.{IsMet}
use Rattle.l2_blast.specs.Words.{Fill}
use Rattle.l2_ssa_points.specs.Places.{vars_of}
use Rattle.l2_goals.specs.declared.making.Goals.{Goals}
use Rattle.l2_goals.specs.Formulas.{formulas_with}
use Rattle.l2_goals.specs.Kept.{kept_kinds}
use Rattle.l2_goals.specs.Numbers.{AreFormulas}
use Rattle.l2_goal_laws.specs.Fits.{AreOf, IsFormOf}
use Rattle.l2_row_engine.specs.Cutting.{Belongs}
use Rattle.l2_turn_engine.specs.Lists.{only_at, rank_count, rank_index}
use Rattle.l2_turn_engine.specs.Fills.{moved_fill, kept_fill}

-- these are the formulas of a point with rankings that something else fills
abbrev pub AreFilled : CodeTree → Sets → ℕ → List LoopPoint → Fill → Goals → Type 0
AreFilled c s k q fill g = AreFormulas g (formulas_with c (family s) k (kept_kinds q) true fill)

-- the goal of a loop's ranking has a model exactly where on some turn the forms keep their values and one more moves
abbrev pub MovesTell : Type 0
MovesTell =
    (p : ProgramTree) (c : CodeTree) (s : Sets) → Belongs p c s → (k : ℕ) → 1 ≤ k → (q : List LoopPoint) → AreOf c q None
    → (i : ℕ) → i < length q → 1 ≤ rank_count (point_at q (suc i)) → (fs : List Form) (f : Form) → All (IsFormOf (vars_of c (suc i))) (fs ++ f ∷ []) → (up : Bool)
    → (g : Goals) → AreFilled c s k q (moved_fill up (vars_of c) q (only_at i (fs ++ f ∷ [])) (only_at i fs)) g
    → (rank_index q i < length g.last) × (IsMet g.base g.last (rank_index q i) ↔ SomeMove p (family s).object k q (suc i) fs f up)

-- or where they keep their values
abbrev pub StaysTell : Type 0
StaysTell =
    (p : ProgramTree) (c : CodeTree) (s : Sets) → Belongs p c s → (k : ℕ) → 1 ≤ k → (q : List LoopPoint) → AreOf c q None
    → (i : ℕ) → i < length q → 1 ≤ rank_count (point_at q (suc i)) → (fs : List Form) → All (IsFormOf (vars_of c (suc i))) fs
    → (g : Goals) → AreFilled c s k q (kept_fill (vars_of c) q (only_at i fs)) g
    → (rank_index q i < length g.last) × (IsMet g.base g.last (rank_index q i) ↔ SomeStay p (family s).object k q (suc i) fs)

-- a loop at Bottom has no turn that counts
pub record NoneAtBottom : Type 0 where
  pub moves : (p : ProgramTree) (s : Sets) (k : ℕ) (q : List LoopPoint) (l : ℕ) → point_at q l ≡ Bottom → (fs : List Form) (f : Form) (up : Bool) → ¬ SomeMove p (family s).object k q l fs f up
  pub stays : (p : ProgramTree) (s : Sets) (k : ℕ) (q : List LoopPoint) (l : ℕ) → point_at q l ≡ Bottom → (fs : List Form) → ¬ SomeStay p (family s).object k q l fs
