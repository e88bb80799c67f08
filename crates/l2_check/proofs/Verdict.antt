-- What is accepted is true.
use Rattle.std.proofs.Common.{◌≡◌, ℕ, ◌≤◌, Bool, ℤ, List, [], ◌∷◌, ◌++◌, length, refl, subst, arith, slice_index_or}
use Rattle.std.proofs.lemmas.List.Elements.{Contains-append_right}
use Rattle.l2_program.specs.Programs.{ProgramTree}
use Rattle.l2_templates.specs.declared.form.Form.{Form}
use Rattle.l2_meaning.specs.Lawful.{IsLawful}
use Rattle.l2_code.specs.Trees.{CodeTree}
use Rattle.l2_code.specs.Sets.{Family, IsResolved}
use Rattle.l2_lower.specs.Code.{code}
use Rattle.l2_cnf.specs.Logic.{Satisfies, HasTrue}
use Rattle.l2_cnf.specs.Steps.{Step, IsDerivation, clauses_of}
use Rattle.l2_cert.specs.declared.cert.Cert.{Cert}
use Rattle.l2_cert.specs.declared.cert.CertKind.{CertKind}
use Rattle.l2_cert.specs.declared.cert.CertKind.TheVariants.{Safe, Terminating}
use Rattle.l2_goals.specs.Formulas.{formulas}
use Rattle.l2_goal_laws.specs.Fits.{AreOf}
use Rattle.l2_goal_laws.specs.Law.{NoneHasModels, PointsProve, RanksProve}
use Rattle.l2_derivations.specs.Goals.{IsRefuted}
use Rattle.l2_check.specs.Accepting.{Basis, IsPassed, formulas_at, ranks_of, ranks_of_kind}
use Rattle.l2_check.specs.Verdict.{Holds, AcceptedIsTrue}
use Rattle.l2_check.proofs.Fitted.{are_of}

abbrev pub DerivedIsImplied : Type 0
DerivedIsImplied = (v : ℕ → Bool) (formula : List (List ℤ)) (variables : ℕ) (steps : List Step) → IsDerivation formula variables steps → Satisfies v formula → Satisfies v (clauses_of steps)

never_true : (v : ℕ → Bool) → ¬ HasTrue v []
never_true v (l, (i, within, is), t) = absurd (omega (arith, within))

module _ (implied : DerivedIsImplied) where
  -- a formula that is refuted has no model
  unmet : (formula : List (List ℤ)) (variables : ℕ) (steps : List Step) → IsRefuted formula variables steps → (v : ℕ → Bool) → ¬ Satisfies v formula
  unmet formula variables steps h v s =
      let all : Satisfies v (h.empty.0 ++ [] ∷ []) = subst (Satisfies v) h.empty.1 (implied v formula variables steps h.derived s) in
      never_true v (all [] (Contains-append_right h.empty.0 ([] ∷ []) [] (0, omega arith, refl)))

  none_have : (t : CodeTree) (f : Family) (c : Cert) → IsPassed t f c → NoneHasModels (formulas t f c.k c.point (ranks_of c))
  unfolding formulas_at
  none_have t f c h = λ i within v.
      let e : length c.goals ≡ length (formulas t f c.k c.point (ranks_of c)).last = h.is_counted.counted in
      unmet _ (formulas t f c.k c.point (ranks_of c)).variables (slice_index_or c.goals i []) (h.refuted i (omega arith) (omega (arith, within, e))) v

  module _ (points : PointsProve) (ranks : RanksProve) (p : ProgramTree) (lawful : IsLawful p) (f : Family) (resolved : IsResolved (code p) f) where
    of_kind : (k : ℕ) → 1 ≤ k → (q : _) (kind : CertKind) (r : List (List Form)) → AreOf (code p) q (ranks_of_kind kind r) → NoneHasModels (formulas (code p) f k q (ranks_of_kind kind r)) → Holds kind p r
    of_kind k some q Safe r a h = (points p lawful f resolved k some q a h).1
    of_kind k some q Terminating r a h = (ranks p lawful f resolved k some q r a h).1

  pub accepted_true : PointsProve → RanksProve → AcceptedIsTrue
  accepted_true points ranks p c lawful spelt a =
      let b : Basis p = a.basis in
      let passed : IsPassed (code p) b.sets c = subst (λ t. IsPassed t b.sets c) b.is_code a.passed in
      let resolved : IsResolved (code p) b.sets = subst (λ t. IsResolved t b.sets) b.is_code b.least.resolved in
      of_kind points ranks p lawful b.sets resolved c.k spelt.some_copies c.point c.kind c.ranks (are_of p c spelt a.names) (none_have (code p) b.sets c passed)
