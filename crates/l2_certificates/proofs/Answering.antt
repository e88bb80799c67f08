-- What is asked for a file, and what it comes to.
use Rattle.std.proofs.Common.{◌≡◌, ℕ, zero, suc, ◌≤◌, List, [], length, map, Option, Some, None, Result, Ok, Err, sym, subst, arith}
use Rattle.std.specs.Prelude.{◌↔◌, MatchOption, IfOk, false}
use Rattle.l2_program.specs.Programs.{ProgramTree}
use Rattle.l2_meaning.specs.Lawful.{IsLawful}
use Rattle.l2_meaning.specs.Pointing as pointing
use Rattle.l2_templates.specs.declared.families.Family.{Family as Forms}
use Rattle.l2_templates.specs.declared.form.Form.{Form}
use Rattle.l2_templates.specs.declared.point.LoopPoint.{LoopPoint}
use Rattle.l2_templates.specs.Points.{bounded}
use Rattle.l2_code.specs.declared.sets.Sets.{Sets}
use Rattle.l2_code.specs.Trees.{CodeTree}
use Rattle.l2_code.specs.Sets.{Family, IsResolved, family}
use Rattle.l2_code.specs.Sizes.{size}
use Rattle.l2_unwind.specs.Refused.{most_weight}
use Rattle.l2_front.specs.Codes.{IsCodeOf}
use Rattle.l2_lower.specs.Code.{code}
use Rattle.l2_cuts.specs.Cuts.{Proves}
use Rattle.l2_cuts.specs.Strongest.{IsPointOf}
use Rattle.l2_goals.specs.Formulas.{formulas}
use Rattle.l2_goals.specs.Numbers.{row_counts}
use Rattle.l2_goal_laws.specs.Fits.{AreOf}
use Rattle.l2_goal_laws.specs.Law.{FormulasAreRuns}
use Rattle.l2_cert.specs.declared.cert.Cert.{Cert}
use Rattle.l2_cert.specs.declared.cert.CertKind.{CertKind}
use Rattle.l2_cert.specs.declared.cert.CertKind.TheVariants.{Safe}
use Rattle.l2_cert.specs.Certificate.{spelling}
use Rattle.l2_certify.specs.Certifying.{Certifies, SomeGoalHasModel}
use Rattle.l2_name_laws.specs.Naming.{DomainsFit, AreCandidates}
use Rattle.l2_check.specs.Accepting.{ranks_of_kind}
use Rattle.l2_verdicts.specs.Verdicts.{forms_of}
use Rattle.l2_certificates.specs.Certificates.{IsFileOf}
use Rattle.l2_certificates.proofs.Weights.{lighter}
use Rattle.l2_certificates.proofs.Missing.{none_has_model}
use Rattle.l2_certificates.proofs.Accepted.{of_bounded, file_of}

-- the point is one of a domain, with all of whose rows the code isn't too large
abbrev pub IsOfDomain : ProgramTree → CodeTree → Family → ℕ → List LoopPoint → Type 0
IsOfDomain p c f k q = (forms : Forms) × IsPointOf p forms p.thresholds q × (size c f k (map length (forms_of forms p.loops)) ≤ most_weight)

pub small : (p : ProgramTree) (c : CodeTree) (f : Family) (k : ℕ) (q : List LoopPoint) → IsOfDomain p c f k q → size c f k (row_counts (bounded q)) ≤ most_weight
small p c f k q (forms, is, light) = let l = lighter c f k forms p.thresholds p.loops q is in omega (arith, l, light)

known : {A : Type 0} (r : Option A) (N : Type 0) (S : A → Type 0) → MatchOption r N S → r ≡ None → N
known None N S h e = h
known (Some a) N S h e = cc

pub none : (p : ProgramTree) (c : CodeTree) (s : Sets) (k : ℕ) (q : List LoopPoint) → FormulasAreRuns → ((p : ProgramTree) (sets : pointing.Sets) (k : ℕ) (q : List LoopPoint) → Proves p sets k q ↔ Proves p sets k (bounded q))
    → IsLawful p → IsCodeOf p c s → 1 ≤ k → AreOf c q None → Proves p (family s).object k q
    → (r : Option Cert) → MatchOption r (SomeGoalHasModel (formulas c (family s) k (bounded q) None)) (Certifies Safe false k (bounded q) [] (formulas c (family s) k (bounded q) None)) → r ≡ None → ⊥
none p c s k q runs same lawful is some over proves r h e =
    none_has_model runs p lawful (family s) (subst (λ x. IsResolved x (family s)) is.is_code is.sets.resolved) k some (bounded q)
    (of_bounded (code p) q None (subst (λ x. AreOf x q None) is.is_code over)) ((same p (family s).object k q).0 proves)
    (subst (λ x. SomeGoalHasModel (formulas x (family s) k (bounded q) None)) is.is_code (known r _ _ h e))

some_is : {A : Type 0} (r : Option A) (a : A) (N : Type 0) (S : A → Type 0) → MatchOption r N S → r ≡ Some a → S a
some_is None a N S h e = cc
some_is (Some b) a N S h e = subst S (inner b a e) h
  where
    inner : {A : Type 0} (x y : A) → Some x ≡ Some y → x ≡ y
    inner x y e = cc

pub none_candidates : (p : ProgramTree) → AreCandidates p []
none_candidates p zero loop e = cc
none_candidates p (suc l) loop e = λ k d lt. absurd (omega (arith, lt))

-- the file of a certificate of a point of a domain, and of lists of candidates
pub file : {E V : Type 0} (items : V → List ℕ) (kind : CertKind) (p : ProgramTree) (c : CodeTree) (s : Sets) (k : ℕ) (q : List LoopPoint) (ranks : List (List Form)) → IsLawful p → IsCodeOf p c s → IsOfDomain p c (family s) k q → DomainsFit → AreCandidates p ranks
    → (r : Option Cert) (cert : Cert) (N : Type 0) → MatchOption r N (Certifies kind false k (bounded q) ranks (formulas c (family s) k (bounded q) (ranks_of_kind kind ranks))) → r ≡ Some cert
    → (bytes : Result V E) → IfOk bytes (λ b. items b ≡ spelling cert) → IfOk bytes (λ b. IsFileOf kind p k q ranks (items b))
file items kind p c s k q ranks lawful is domain names fit r cert N h e (Ok b) spelt =
    let made = some_is r cert N _ h e in
    file_of p c s is kind k q ranks cert made (small p c (family s) k q domain)
    (names p lawful domain.0 q domain.1 cert made.point_is (subst (AreCandidates p) (sym made.ranks_are) fit)) (items b) spelt
file items kind p c s k q ranks lawful is domain names fit r cert N h e (Err x) spelt = tt
