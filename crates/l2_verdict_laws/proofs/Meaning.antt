-- What the answers say of a program, from the laws of cut runs.
use Rattle.std.specs.Prelude.{◌≡◌, refl, ℕ, ◌≤◌, suc, ℤ, List, [], ◌∷◌, length, Some}
use Rattle.std.proofs.Common.{subst}
use Rattle.std.proofs.Common.{ap}
use Rattle.l2_program.specs.declared.program.LoopInfo.{LoopInfo}
use Rattle.l2_program.specs.Programs.{ProgramTree}
use Rattle.l2_meaning.specs.Execution.{Safe}
use Rattle.l2_meaning.specs.Lawful.{IsLawful}
use Rattle.l2_meaning.specs.Pointing.{Sets, AreClosed}
use Rattle.l2_templates.specs.declared.families.Family.{Family as Forms}
use Rattle.l2_templates.specs.declared.form.Form.{Form}
use Rattle.l2_templates.specs.declared.point.LoopPoint.{LoopPoint}
use Rattle.l2_templates.specs.Points.{IsStronger}
use Rattle.l2_code.specs.Trees.{CodeTree}
use Rattle.l2_code.specs.Sets.{Family, IsClosed}
use Rattle.l2_lower.specs.Code.{code}
use Rattle.l2_cuts.specs.Cuts.{Infers, Proves, RankProves}
use Rattle.l2_cuts.specs.Turns.{Terminating}
use Rattle.l2_cuts.specs.Rankings.{RanksAre}
use Rattle.l2_cuts.specs.Strongest.{IsStrongest, IsPointOf, AreLoopPointsOf}
use Rattle.l2_kiki.specs.declared.decision.Mode.TheVariants.{Safety}
use Rattle.l2_kiki.specs.declared.decision.Decision.{Decision}
use Rattle.l2_kiki.specs.declared.decision.Decision.TheVariants as decision
use Rattle.l2_verdicts.specs.Verdicts.{IsVerdict}
use Rattle.l2_verdict_laws.specs.Law.{SafeLaw, UnsafeLaw, UnwindLaw, NothingProves, TerminatingLaw}

-- what a closed family of sets is to the program
abbrev pub SetsClose : Type 0
SetsClose = (p : ProgramTree) → IsLawful p → (f : Family) → IsClosed (code p) f → AreClosed p f.object

abbrev pub PointsAreSafe : Type 0
PointsAreSafe = (p : ProgramTree) → IsLawful p → (sets : Sets) → AreClosed p sets → (k : ℕ) → 1 ≤ k → (q : List LoopPoint) → Proves p sets k q → Safe p

abbrev pub StrongerProve : Type 0
StrongerProve = (p : ProgramTree) (sets : Sets) (k : ℕ) (a b : List LoopPoint) → IsStronger a b → Infers p sets k a → Proves p sets k b → Proves p sets k a

pub safe : PointsAreSafe → SetsClose → SafeLaw
safe law close p lawful f resolved domain bounds limit k q (mode, first, fits, whole, strongest, proves) =
    (law p lawful f.object (close p lawful f resolved.closed) k first.some q proves, strongest, proves)

pub unsafe : UnsafeLaw
unsafe p c f domain bounds limit k found (mode, first, fits, breaks, found_one) =
    (found_one.0.real, breaks, λ j some less. (first.before j some less).1)

-- where a point of the domain proves at k, the strongest one does
strongest_proves : StrongerProve → (p : ProgramTree) (f : Family) (domain : Forms) (bounds : List ℤ) (k : ℕ) (best q : List LoopPoint) → IsStrongest p f.object k domain bounds best
    → IsPointOf p domain bounds q → Proves p f.object k q → Proves p f.object k best
strongest_proves law p f domain bounds k best q strongest of_domain proves =
    law p f.object k best q (strongest.strongest q of_domain proves.0) strongest.infers proves

open_is : StrongerProve → (p : ProgramTree) (c : CodeTree) (f : Family) (domain : Forms) (bounds : List ℤ) (limit : ℕ) → IsVerdict p c f domain bounds Safety limit (decision.Unwind limit) → NothingProves p c f domain bounds limit
open_is law p c f domain bounds limit (e, all) k some within =
    ((all k some within).0, (all k some within).1, λ q of_domain proves. known.2 (strongest_proves law p f domain bounds k known.0 q known.1 of_domain proves))
  where
    known : (best : List LoopPoint) × IsStrongest p f.object k domain bounds best × (¬ Proves p f.object k best)
    known = (all k some within).2

only_open : (p : ProgramTree) (c : CodeTree) (f : Family) (domain : Forms) (bounds : List ℤ) (limit : ℕ) (d : Decision) → IsVerdict p c f domain bounds Safety limit d → NothingProves p c f domain bounds limit → d ≡ decision.Unwind limit
only_open p c f domain bounds limit (decision.Safe k q) (mode, first, fits, whole, strongest, proves) nothing = absurd ((nothing k first.some first.within).2 q strongest.point proves)
only_open p c f domain bounds limit (decision.Unsafe k found) (mode, first, fits, breaks, found_one) nothing = absurd ((nothing k first.some first.within).1 breaks)
only_open p c f domain bounds limit (decision.Terminating k q ranks) (mode, first, fits, strongest, listed) nothing = absurd (cc)
only_open p c f domain bounds limit (decision.Unwind k) (e, all) nothing = ap decision.Unwind e
only_open p c f domain bounds limit (decision.Size k) (first, large) nothing = absurd ((nothing k first.some first.within).0 large)

pub unwind : StrongerProve → UnwindLaw
unwind law p c f domain bounds limit d is = (
  (λ e. open_is law p c f domain bounds limit (subst (λ x. IsVerdict p c f domain bounds Safety limit x) e is)),
  only_open p c f domain bounds limit d is,
)

-- ---- termination

abbrev pub ListsRank : Type 0
ListsRank = (p : ProgramTree) (sets : Sets) (k : ℕ) (q : List LoopPoint) (r : List (List Form)) → Infers p sets k q → length q ≡ length p.loops → RanksAre p sets k q (Some r) → RankProves p sets k q r

abbrev pub RanksEnd : Type 0
RanksEnd = (p : ProgramTree) → IsLawful p → (sets : Sets) → AreClosed p sets → (k : ℕ) → 1 ≤ k → (q : List LoopPoint) (r : List (List Form)) → RankProves p sets k q r → Terminating p r

-- a point of a domain is over all loops
of_all : (domain : Forms) (bounds : List ℤ) (loops : List LoopInfo) (q : List LoopPoint) → AreLoopPointsOf domain bounds loops q → length q ≡ length loops
of_all domain bounds [] [] is = refl
of_all domain bounds [] (a ∷ q) is = absurd is
of_all domain bounds (loop ∷ loops) [] is = absurd is
of_all domain bounds (loop ∷ loops) (a ∷ q) is = ap suc (of_all domain bounds loops q is.1)

pub terminating : ListsRank → RanksEnd → SetsClose → TerminatingLaw
terminating rank ends close p lawful f resolved domain bounds limit k q ranks (mode, first, fits, strongest, listed) =
    (ends p lawful f.object (close p lawful f resolved.closed) k first.some q ranks proves, strongest, proves)
  where
    proves : RankProves p f.object k q ranks
    proves = rank p f.object k q ranks strongest.infers (of_all domain bounds p.loops q strongest.point) listed
