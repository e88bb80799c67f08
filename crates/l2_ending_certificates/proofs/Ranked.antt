-- Where lists rank the loops at a point no goal's formula has a model, and the certificate's lines fit the program.
use Rattle.std.proofs.Common.{◌≡◌, ℕ, zero, suc, ◌<◌, ◌≤◌, ◌==◌, Bool, true, false, if◌then◌else◌, List, [], ◌∷◌, length, get_or, Some, None, refl, sym, subst, arith, slice_get}
use Rattle.std.specs.Prelude.{slice_index_or}
use Rattle.std.specs.List.{All}
use Rattle.std.specs.Bool.{OnTrue}
use Rattle.std.proofs.lemmas.List.Elements.{All-nil, All-cons, All-head, All-tail, All-append}
use Rattle.l2_runs.specs.Store.{Store}
use Rattle.l2_program.specs.Programs.{ProgramTree}
use Rattle.l2_meaning.specs.Lawful.{IsLawful}
use Rattle.l2_meaning.specs.Pointing.{Sets}
use Rattle.l2_templates.specs.declared.form.Form.{Form}
use Rattle.l2_templates.specs.declared.point.LoopPoint.{LoopPoint}
use Rattle.l2_templates.specs.declared.point.LoopPoint.TheVariants.{Bottom, Rows}
use Rattle.l2_code.specs.declared.code.CodeLoop.{CodeLoop}
use Rattle.l2_code.specs.Trees.{CodeTree}
use Rattle.l2_code.specs.Sets.{Family, IsResolved}
use Rattle.l2_lower.specs.Code.{code}
use Rattle.l2_cuts.specs.Points.{ranks_at, lowers, or_no_forms}
use Rattle.l2_cuts.specs.Cuts.{IsFallen, Infers, TurnsPass, RankProves}
use Rattle.l2_ssa.specs.Walks.{Goal, RowGoal, RankGoal, CheckGoal}
use Rattle.l2_ssa.specs.Law.{loop_vars}
use Rattle.l2_ssa_points.specs.Goals.{goals_of_rows, loop_goals, row_goals, loop_rank_goals, rank_goals, goals}
use Rattle.l2_ssa_points.specs.Places.{vars_of}
use Rattle.l2_goals.specs.Formulas.{formulas}
use Rattle.l2_goal_laws.specs.Fits.{AreOf, IsFormOf}
use Rattle.l2_goal_laws.specs.Law.{FormulasAreRuns, IsMissed, passes_one}
use Rattle.l2_certify.specs.Certifying.{SomeGoalHasModel}
use Rattle.l2_name_laws.specs.Naming.{AreCandidates}
use Rattle.l2_rank_verdict_laws.specs.Law.{AreOfCandidates}
use Rattle.l2_certificates.proofs.Missing.{some_missed}
use Rattle.l2_ending_certificates.specs.Over.{AreOver, AreOverLoops}

-- ---- goals of rankings

abbrev IsRanked : Goal → Type 0
IsRanked (RowGoal l i) = Unit {0}
IsRanked (RankGoal l) = Unit {0}
IsRanked (CheckGoal n) = ⊥

ranked_rows : (l i n : ℕ) → All IsRanked (goals_of_rows l i n)
ranked_rows l i zero = All-nil IsRanked
ranked_rows l i (suc n) = All-cons IsRanked (RowGoal l i) (goals_of_rows l (suc i) n) tt (ranked_rows l (suc i) n)

ranked_loop : (l : ℕ) (a : LoopPoint) → All IsRanked (loop_goals l a)
ranked_loop l Bottom = All-cons IsRanked (RowGoal l 0) [] tt (All-nil IsRanked)
ranked_loop l (Rows rows) = ranked_rows l 1 (length rows)

ranked_loops : (l : ℕ) (q : List LoopPoint) → All IsRanked (row_goals l q)
ranked_loops l [] = All-nil IsRanked
ranked_loops l (a ∷ q) = All-append IsRanked (loop_goals l a) (row_goals (suc l) q) (ranked_loop l a) (ranked_loops (suc l) q)

one_rank : (l : ℕ) (a : LoopPoint) → All IsRanked (loop_rank_goals l a)
one_rank l Bottom = All-nil IsRanked
one_rank l (Rows rows) = All-cons IsRanked (RankGoal l) [] tt (All-nil IsRanked)

all_ranks : (l : ℕ) (q : List LoopPoint) → All IsRanked (rank_goals l q)
all_ranks l [] = All-nil IsRanked
all_ranks l (a ∷ q) = All-append IsRanked (loop_rank_goals l a) (rank_goals (suc l) q) (one_rank l a) (all_ranks (suc l) q)

ranked_at : (xs : List Goal) → All IsRanked xs → (i : ℕ) (g : Goal) → slice_get xs i ≡ Some g → IsRanked g
ranked_at [] a i g e = absurd (cc)
ranked_at (x ∷ xs) a zero g e = subst IsRanked (same x g e) (All-head IsRanked x xs a)
  where
    same : (x y : Goal) → Some x ≡ Some y → x ≡ y
    same x y e = cc
ranked_at (x ∷ xs) a (suc i) g e = ranked_at xs (All-tail IsRanked x xs a) i g e

-- ---- lists that rank

abbrev pub Weaker : Type 0
Weaker = (p : ProgramTree) (sets : Sets) (k : ℕ) (q : List LoopPoint) (w v : ℕ → Store → Store → Bool) → ((l : ℕ) (old new : Store) → w l old new ≡ true → v l old new ≡ true) → TurnsPass p sets k q w → TurnsPass p sets k q v

one_passes : (low : ℕ → Store → Store → Bool) (l m : ℕ) (a b : Store) → low m a b ≡ true → passes_one low l m a b ≡ true
one_passes low l m a b h = go (m == l)
  where
    go : (x : Bool) → (if x then low m a b else true) ≡ true
    go true = h
    go false = refl

not_missed : Weaker → (p : ProgramTree) (f : Family) (k : ℕ) (q : List LoopPoint) (r : List (List Form)) → RankProves p f.object k q r → Infers p f.object k q → (goal : Goal) → IsRanked goal → IsMissed p f.object k q (Some r) goal → ⊥
not_missed weaker p f k q r proves infers (RowGoal l i) is (choices, e) = infers choices (subst IsFallen (sym e) tt)
not_missed weaker p f k q r proves infers (RankGoal l) is (choices, e) =
    weaker p f.object k q (lowers r) (passes_one (lowers r) l) (λ m a b. one_passes (lowers r) l m a b) proves choices (subst IsFallen (sym e) tt)
not_missed weaker p f k q r proves infers (CheckGoal n) is m = is

pub none_has_model : FormulasAreRuns → Weaker → (p : ProgramTree) → IsLawful p → (f : Family) → IsResolved (code p) f → (k : ℕ) → 1 ≤ k → (q : List LoopPoint) (r : List (List Form)) → AreOf (code p) q (Some r)
    → Infers p f.object k q → RankProves p f.object k q r → ¬ SomeGoalHasModel (formulas (code p) f k q (Some r))
none_has_model runs weaker p lawful f resolved k some q r over infers proves m =
    let s = some_missed runs p lawful f resolved k some q (Some r) over m in
    not_missed weaker p f k q r proves infers s.1
    (ranked_at (goals (length (code p).checks) q (Some r)) (All-append IsRanked (row_goals 1 q) (rank_goals 1 q) (ranked_loops 1 q) (all_ranks 1 q)) s.0 s.1 s.2) s.3

-- ---- candidates

same_at : (xs : List Form) (k : ℕ) (d e : Form) → k < length xs → slice_index_or xs k d ≡ slice_index_or xs k e
same_at [] k d e h = absurd (omega (arith, h))
same_at (x ∷ xs) zero d e h = refl
same_at (x ∷ xs) (suc k) d e h = same_at xs k d e (omega (arith, h))

pub are_candidates : (p : ProgramTree) (r : List (List Form)) → AreOfCandidates p r → AreCandidates p r
are_candidates p r h l loop e = λ k d lt. h l (get_or (ranks_at r l) k d) (k, lt, same_at (ranks_at r l) k (get_or (ranks_at r l) k d) d lt)

-- ---- forms over a code's loops

none_over : (vars : List ℕ) → All (IsFormOf vars) []
none_over vars = All-nil (IsFormOf vars)

over_from : (loops : List CodeLoop) (ranks : List (List Form)) → length loops ≡ length ranks → ((i : ℕ) (info : CodeLoop) → slice_get loops i ≡ Some info → AreOver info.vars (slice_index_or ranks i []))
    → (i : ℕ) → All (IsFormOf (loop_vars (slice_get loops i))) (or_no_forms (slice_get ranks i))
over_from [] [] e h i = none_over []
over_from [] (r ∷ ranks) e h i = absurd (omega (arith, e))
over_from (x ∷ loops) [] e h i = absurd (omega (arith, e))
over_from (x ∷ loops) (r ∷ ranks) e h zero = (h 0 x refl).each
over_from (x ∷ loops) (r ∷ ranks) e h (suc i) = over_from loops ranks (omega (arith, e)) (λ j. h (suc j)) i

pub over_all : (c : CodeTree) (ranks : List (List Form)) → AreOverLoops c.loops ranks → (l : ℕ) → All (IsFormOf (vars_of c l)) (ranks_at ranks l)
over_all c ranks h zero = none_over []
over_all c ranks h (suc i) = over_from c.loops ranks h.count h.each i

pub with_ranks : (c : CodeTree) (q : List LoopPoint) (r : List (List Form)) → AreOf c q None → ((l : ℕ) → All (IsFormOf (vars_of c l)) (ranks_at r l)) → AreOf c q (Some r)
with_ranks c q r a h = record { loops = a.loops; rows = a.rows; rankings = h }

pub over_told : (c : CodeTree) (ranks : List (List Form)) (b : Bool) (loops : List CodeLoop) → loops ≡ c.loops → OnTrue b (AreOverLoops loops ranks) → OnTrue b ((l : ℕ) → All (IsFormOf (vars_of c l)) (ranks_at ranks l))
over_told c ranks true loops e h = over_all c ranks (subst (λ ls. AreOverLoops ls ranks) e h)
over_told c ranks false loops e h = tt
