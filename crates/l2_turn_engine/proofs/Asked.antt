-- What a question answers, by what formulas tell.
use Rattle.std.proofs.Common.{◌≡◌, ℕ, suc, ◌<◌, ◌≤◌, Bool, false, List, [], ◌∷◌, ◌++◌, length, Option, None, Result, Ok, Err, sym, ap, ◌∙◌, subst}
use Rattle.std.specs.Prelude.{◌↔◌, IfOk, IsTrue}
use Rattle.std.specs.List.{All}
use Rattle.l2_templates.specs.declared.form.Form.{Form}
use Rattle.l2_templates.specs.declared.point.LoopPoint.{LoopPoint}
use Rattle.l2_runs.specs.declared.member.Member.{Member}
use Rattle.l2_program.specs.declared.program.LoopInfo.{LoopInfo}
use Rattle.l2_program.specs.Programs.{ProgramTree, program_tree}
use Rattle.l2_code.specs.declared.sets.Sets.{Sets}
use Rattle.l2_code.specs.Trees.{CodeTree}
use Rattle.l2_code.specs.Sets.{family}
use Rattle.l2_cuts.specs.Points.{point_at}
use Rattle.l2_cuts.specs.Cuts.{Infers}
use Rattle.l2_cuts.specs.Rankings.{RanksAre}
use Rattle.l2_rank.specs.Greedy.{AreRanks}
use Rattle.l2_rank_laws.specs.Moves.{SomeMove, SomeStay}
use Rattle.l2_ssa_points.specs.Places.{vars_of}
use Rattle.l2_blast.specs.Words.{Fill}
use Rattle.l2_goals.specs.declared.making.Goals.{Goals}
use Rattle.l2_goal_laws.specs.Fits.{AreOf, IsFormOf}
use Rattle.l2_missed.specs.Meeting.{IsMet}
use Rattle.l2_row_engine.specs.Cutting.{Belongs, CutProgram}
use Rattle.l2_turn_engine.specs.Lists.{only_at, rank_count, rank_index}
use Rattle.l2_turn_engine.specs.Fills.{moved_fill, kept_fill}
use Rattle.l2_turn_engine.specs.Telling.{AreFilled, MovesTell, StaysTell}

-- the goal of the loop's ranking is there, and tells whether this is so
abbrev pub Tells : Goals → List LoopPoint → ℕ → Type 0 → Type 0
Tells g q i X = (rank_index q i < length g.last) × (IsMet g.base g.last (rank_index q i) ↔ X)

pub told : {E : Type 0} (r : Result Bool E) (g : Goals) (q : List LoopPoint) (i : ℕ) (X : Type 0) → Tells g q i X → IfOk r (λ met. IsTrue met ↔ IsMet g.base g.last (rank_index q i)) → IfOk r (λ found. IsTrue found ↔ X)
told (Ok m) g q i X t h = (λ u. t.1.0 (h.0 u), λ x. h.1 (t.1.1 x))
told (Err e) g q i X t h = tt

pub at_number : {E : Type 0} (X : ℕ → Type 0) (r : Result Bool E) (n m : ℕ) → m ≡ n → IfOk r (λ found. IsTrue found ↔ X n) → IfOk r (λ found. IsTrue found ↔ X m)
at_number X r n m e h = subst (λ l. IfOk r (λ found. IsTrue found ↔ X l)) (sym e) h

pub never : (X : Type 0) → ¬ X → IsTrue false ↔ X
never X none = (λ u. cc, λ x. absurd (none x))

module _ (p : ProgramTree) (c here : CodeTree) (s : Sets) (belongs : Belongs p c s) (same : here ≡ c) (k : ℕ) (some : 1 ≤ k) (q : List LoopPoint) (fit : AreOf here q None) (i : ℕ) (within : i < length q) (ranked : 1 ≤ rank_count (point_at q (suc i))) where
  pub moves : MovesTell → (fs all given : List Form) (f : Form) (up : Bool) (longer shorter : List (List Form)) → all ≡ fs ++ f ∷ [] → given ≡ all → All (IsFormOf (vars_of here (suc i))) given → longer ≡ only_at i given → shorter ≡ only_at i fs
      → (g : Goals) → AreFilled c s k q (moved_fill up (vars_of here) q longer shorter) g → Tells g q i (SomeMove p (family s).object k q (suc i) fs f up)
  moves law fs all given f up longer shorter a e over l t g h =
      law p c s belongs k some q (subst (λ x. AreOf x q None) same fit) i within ranked fs f
      (subst (All (IsFormOf (vars_of c (suc i)))) (e ∙ a) (subst (λ x. All (IsFormOf (vars_of x (suc i))) given) same over)) up g
      (subst (λ (fill : Fill). AreFilled c s k q fill g) (λ j. moved_fill up (vars_of (same j)) q ((l ∙ ap (only_at i) (e ∙ a)) j) (t j)) h)

  pub stays : StaysTell → (fs : List Form) (lists : List (List Form)) → All (IsFormOf (vars_of here (suc i))) fs → lists ≡ only_at i fs
      → (g : Goals) → AreFilled c s k q (kept_fill (vars_of here) q lists) g → Tells g q i (SomeStay p (family s).object k q (suc i) fs)
  stays law fs lists over l g h =
      law p c s belongs k some q (subst (λ x. AreOf x q None) same fit) i within ranked fs (subst (λ x. All (IsFormOf (vars_of x (suc i))) fs) same over) g
      (subst (λ (fill : Fill). AreFilled c s k q fill g) (λ j. kept_fill (vars_of (same j)) q (l j)) h)

-- greedy lists by what the questions answer are those of the program
pub greedy : {E : Type 0} (r : Result (Option (List (List Form))) E) (x y : CutProgram) (q : List LoopPoint) (loops : List LoopInfo)
    → ((p : ProgramTree) (sets : ℕ → Member → Bool) (k : ℕ) (q : List LoopPoint) (r : Option (List (List Form))) → Infers p sets k q → AreRanks (SomeMove p sets k q) (SomeStay p sets k q) p.loops r → RanksAre p sets k q r)
    → x ≡ y → Infers (program_tree y.program) (family y.sets).object y.copies q → loops ≡ (program_tree y.program).loops
    → IfOk r (λ ranks. AreRanks (SomeMove (program_tree x.program) (family x.sets).object x.copies q) (SomeStay (program_tree x.program) (family x.sets).object x.copies q) loops ranks)
    → IfOk r (λ ranks. RanksAre (program_tree y.program) (family y.sets).object y.copies q ranks)
greedy (Ok ranks) x y q loops law same infers all h =
    law (program_tree y.program) (family y.sets).object y.copies q ranks infers
    (subst (λ ls. AreRanks (SomeMove (program_tree y.program) (family y.sets).object y.copies q) (SomeStay (program_tree y.program) (family y.sets).object y.copies q) ls ranks) all
    (subst (λ (z : CutProgram). AreRanks (SomeMove (program_tree z.program) (family z.sets).object z.copies q) (SomeStay (program_tree z.program) (family z.sets).object z.copies q) loops ranks) same h))
greedy (Err e) x y q loops law same infers all h = tt
