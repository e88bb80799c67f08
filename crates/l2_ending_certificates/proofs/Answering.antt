-- What is asked for a file of rankings.
use Rattle.std.proofs.Common.{◌≡◌, ℕ, ◌≤◌, Bool, List, Option, Some, None, subst}
use Rattle.std.specs.Prelude.{◌↔◌, MatchOption, false}
use Rattle.std.specs.List.{All}
use Rattle.l2_runs.specs.Store.{Store}
use Rattle.l2_program.specs.Programs.{ProgramTree}
use Rattle.l2_meaning.specs.Lawful.{IsLawful}
use Rattle.l2_meaning.specs.Pointing as pointing
use Rattle.l2_templates.specs.declared.form.Form.{Form}
use Rattle.l2_templates.specs.declared.point.LoopPoint.{LoopPoint}
use Rattle.l2_templates.specs.Points.{bounded}
use Rattle.l2_code.specs.declared.sets.Sets.{Sets}
use Rattle.l2_code.specs.Trees.{CodeTree}
use Rattle.l2_code.specs.Sets.{IsResolved, family}
use Rattle.l2_front.specs.Codes.{IsCodeOf}
use Rattle.l2_cuts.specs.Points.{ranks_at, lowers}
use Rattle.l2_cuts.specs.Cuts.{Infers, TurnsPass, RankProves}
use Rattle.l2_ssa_points.specs.Places.{vars_of}
use Rattle.l2_goals.specs.Formulas.{formulas}
use Rattle.l2_goal_laws.specs.Fits.{AreOf, IsFormOf}
use Rattle.l2_goal_laws.specs.Law.{FormulasAreRuns}
use Rattle.l2_cert.specs.declared.cert.Cert.{Cert}
use Rattle.l2_cert.specs.declared.cert.CertKind.TheVariants.{Terminating}
use Rattle.l2_certify.specs.Certifying.{Certifies, SomeGoalHasModel}
use Rattle.l2_certificates.proofs.Accepted.{of_bounded}
use Rattle.l2_ending_certificates.proofs.Ranked.{Weaker, none_has_model, with_ranks}

known : {A : Type 0} (r : Option A) (N : Type 0) (S : A → Type 0) → MatchOption r N S → r ≡ None → N
known None N S h e = h
known (Some a) N S h e = cc

pub none : (p : ProgramTree) (c : CodeTree) (s : Sets) (k : ℕ) (q : List LoopPoint) (ranks : List (List Form)) → FormulasAreRuns → Weaker
    → ((p : ProgramTree) (sets : pointing.Sets) (k : ℕ) (q : List LoopPoint) (passes : ℕ → Store → Store → Bool) → TurnsPass p sets k q passes ↔ TurnsPass p sets k (bounded q) passes)
    → ((p : ProgramTree) (sets : pointing.Sets) (k : ℕ) (q : List LoopPoint) (passes : ℕ → Store → Store → Bool) → TurnsPass p sets k q passes → Infers p sets k q)
    → IsLawful p → IsCodeOf p c s → 1 ≤ k → AreOf c q None → ((l : ℕ) → All (IsFormOf (vars_of c l)) (ranks_at ranks l)) → RankProves p (family s).object k q ranks
    → (r : Option Cert) → MatchOption r (SomeGoalHasModel (formulas c (family s) k (bounded q) (Some ranks))) (Certifies Terminating false k (bounded q) ranks (formulas c (family s) k (bounded q) (Some ranks))) → r ≡ None → ⊥
none p c s k q ranks runs weaker same infers lawful is some over forms proves r h e =
    let passes = (same p (family s).object k q (lowers ranks)).0 proves in
    none_has_model runs weaker p lawful (family s) (subst (λ x. IsResolved x (family s)) is.is_code is.sets.resolved) k some (bounded q) ranks
    (subst (λ x. AreOf x (bounded q) (Some ranks)) is.is_code (of_bounded c q (Some ranks) (with_ranks c q ranks over forms)))
    (infers p (family s).object k (bounded q) (lowers ranks) passes) passes
    (subst (λ x. SomeGoalHasModel (formulas x (family s) k (bounded q) (Some ranks))) is.is_code (known r _ _ h e))
