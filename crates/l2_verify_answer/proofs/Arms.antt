-- What an answer says, for what is made of it.
use Rattle.std.proofs.Common.{◌≡◌, ℕ, zero, suc, ◌<◌, ◌≤◌, ℤ, List, [], ◌∷◌, length, map, Option, Some, None, ap, subst, arith}
use Rattle.std.specs.Prelude.{Contains}
use Rattle.l2_runs.specs.declared.outcome.Outcome.TheVariants.{Broken}
use Rattle.l2_runs.specs.Numbers.{at_number}
use Rattle.l2_runs.specs.Runs.{Over}
use Rattle.l2_runs.specs.Loops.{Limit, Real, Tests, no_tests}
use Rattle.l2_runs.specs.Keeps.{LimitKeeps}
use Rattle.l2_program.specs.declared.program.LoopInfo.{LoopInfo}
use Rattle.l2_program.specs.Programs.{ProgramTree}
use Rattle.l2_meaning.specs.Execution.{cells_of, exec}
use Rattle.l2_meaning.specs.Lawful.{IsLawful, IsCheckOf, IsSome}
use Rattle.l2_templates.specs.declared.families.Family.{Family as Forms}
use Rattle.l2_templates.specs.declared.form.Form.{Form}
use Rattle.l2_templates.specs.declared.form.Row.{Row}
use Rattle.l2_templates.specs.declared.infer.Found.{Found}
use Rattle.l2_templates.specs.declared.point.LoopPoint.{LoopPoint}
use Rattle.l2_templates.specs.declared.point.LoopPoint.TheVariants.{Bottom, Rows}
use Rattle.l2_code.specs.declared.sets.Sets.{Sets}
use Rattle.l2_code.specs.Trees.{CodeTree}
use Rattle.l2_code.specs.Sets.{IsResolved, family}
use Rattle.l2_code.specs.Sizes.{size}
use Rattle.l2_unwind.specs.Refused.{most_weight}
use Rattle.l2_lower.specs.Code.{code}
use Rattle.l2_cuts.specs.Cuts.{Proves, RankProves}
use Rattle.l2_cuts.specs.Strongest.{IsBoundOf, HaveBounds, IsLoopPointOf, AreLoopPointsOf, IsPointOf}
use Rattle.l2_kiki.specs.declared.decision.Mode.{Mode}
use Rattle.l2_kiki.specs.declared.decision.Mode.TheVariants.{Termination}
use Rattle.l2_kiki.specs.declared.decision.Decision.{Decision}
use Rattle.l2_kiki.specs.declared.decision.Decision.TheVariants.{Safe, Unsafe, Terminating}
use Rattle.l2_words.specs.declared.request.DomainName.{DomainName}
use Rattle.l2_words.specs.declared.request.DomainName.TheVariants as name
use Rattle.l2_witness.specs.ValuesFile.{InRange}
use Rattle.l2_verdicts.specs.Verdicts.{IsVerdict, IsTooLarge, forms_of}
use Rattle.l2_verdict_laws.specs.Law.{TerminatingLaw}
use Rattle.l2_rank_verdict_laws.specs.Law.{AreOfCandidates}
use Rattle.l2_rank_verdict_laws.proofs.Meaning.{ranks_are}
use Rattle.l2_certificates.proofs.Answering.{IsOfDomain}
use Rattle.l2_row_engine.specs.Cutting.{Belongs}
use Rattle.l2_verify_answer.specs.Bounds.{forms_named, bounds_named, AreThresholds}
use Rattle.l2_verify_answer.specs.Decided.{IsBegun}

-- ---- bounds among thresholds

abbrev AreAmong : List ℤ → List ℤ → Type 0
AreAmong bounds all = (b : ℤ) → Contains bounds b → Contains all b

module _ (bounds all : List ℤ) (among : AreAmong bounds all) where
  bound_among : (o : Option ℤ) → IsBoundOf bounds o → IsBoundOf all o
  bound_among None h = tt
  bound_among (Some b) h = among b h

  rows_among : (rows : List Row) → HaveBounds bounds rows → HaveBounds all rows
  rows_among [] h = tt
  rows_among (r ∷ rows) h = (bound_among r.bound h.0, rows_among rows h.1)

  loop_among : (forms : Forms) (loop : LoopInfo) (x : LoopPoint) → IsLoopPointOf forms bounds loop x → IsLoopPointOf forms all loop x
  loop_among forms loop Bottom h = tt
  loop_among forms loop (Rows rows) h = (h.0, rows_among rows h.1)

  point_among : (forms : Forms) (loops : List LoopInfo) (q : List LoopPoint) → AreLoopPointsOf forms bounds loops q → AreLoopPointsOf forms all loops q
  point_among forms [] [] h = tt
  point_among forms [] (x ∷ q) h = absurd h
  point_among forms (loop ∷ loops) [] h = absurd h
  point_among forms (loop ∷ loops) (x ∷ q) h = (loop_among forms loop x h.0, point_among forms loops q h.1)

named_among : (domain : DomainName) (all : List ℤ) → AreThresholds all → AreAmong (bounds_named domain all) all
named_among name.NoRows all t b (i, lt, e) = absurd (omega (arith, lt))
named_among name.Equalities all t b (zero, lt, e) = subst (Contains all) e t.zero
named_among name.Equalities all t b (suc i, lt, e) = absurd (omega (arith, lt))
named_among name.Intervals all t b h = h
named_among name.Zones all t b h = h
named_among name.Octagons all t b h = h

-- ---- answers

not_more : (a b : ℕ) → ¬ (a < b) → b ≤ a
not_more a b h = omega (arith, h)

pub belongs : (p : ProgramTree) (c : CodeTree) (s : Sets) (k : ℕ) → IsBegun p c s k → Belongs p c s
belongs p c s k b = record { lawful = b.lawful; is_code = b.is_code.is_code; resolved = b.is_code.sets.resolved; rise = b.is_code.sets.of_code.rise }

module _ (p : ProgramTree) (c : CodeTree) (s : Sets) (domain : DomainName) (mode : Mode) (unwind : ℕ) (begun : IsBegun p c s unwind) (t : AreThresholds p.thresholds) where
  abbrev Is : Decision → Type 0
  Is d = IsVerdict p c (family s) (forms_named domain) (bounds_named domain p.thresholds) mode unwind d

  begun_at : (k : ℕ) → 1 ≤ k → k ≤ unwind → IsBegun p c s k
  begun_at k some within = record { lawful = begun.lawful; is_code = begun.is_code; some = some; most = let m = begun.most in omega (arith, m, within) }

  of_domain : (k : ℕ) (q : List LoopPoint) → ¬ IsTooLarge p c (family s) (forms_named domain) k → IsPointOf p (forms_named domain) (bounds_named domain p.thresholds) q → IsOfDomain p c (family s) k q
  of_domain k q light is = (
    forms_named domain,
    point_among (bounds_named domain p.thresholds) p.thresholds (named_among domain p.thresholds t) (forms_named domain) p.loops q is,
    not_more most_weight (size c (family s) k (map length (forms_of (forms_named domain) p.loops))) light,
  )

  pub safe_begun : (d : Decision) (k : ℕ) (q : List LoopPoint) → Is d → d ≡ Safe k q → IsBegun p c s k
  safe_begun d k q is e = let x = subst Is e is in begun_at k x.1.some x.1.within

  pub safe_domain : (d : Decision) (k : ℕ) (q : List LoopPoint) → Is d → d ≡ Safe k q → IsOfDomain p c (family s) k q
  safe_domain d k q is e = let x = subst Is e is in of_domain k q x.2 x.4.point

  pub safe_proves : (d : Decision) (k : ℕ) (q : List LoopPoint) → Is d → d ≡ Safe k q → Proves p (family s).object k q
  safe_proves d k q is e = let x = subst Is e is in x.5

  pub unsafe_listed : ((p : ProgramTree) → IsLawful p → (limit : Limit) (tests : Tests) → LimitKeeps (cells_of p) (IsCheckOf p) limit → (choices : List ℤ) (turns c : ℕ) → (exec p limit tests choices turns).end ≡ Over (Broken c) → IsSome (at_number p.checks c))
      → (d : Decision) (k : ℕ) (found : Found) → Is d → d ≡ Unsafe k found → IsSome (at_number p.checks found.check)
  unsafe_listed law d k found is e =
      let x = subst Is e is in law p begun.lawful Real no_tests tt found.choices found.turns found.check (ap (λ r. r.end) x.4.0.real)

  pub unsafe_range : (d : Decision) (k : ℕ) (found : Found) → Is d → d ≡ Unsafe k found → InRange found.turns found.choices
  unsafe_range d k found is e = let x = subst Is e is in x.4.1

  pub ending_begun : (d : Decision) (k : ℕ) (q : List LoopPoint) (r : List (List Form)) → Is d → d ≡ Terminating k q r → IsBegun p c s k
  ending_begun d k q r is e = let x = subst Is e is in begun_at k x.1.some x.1.within

  pub ending_domain : (d : Decision) (k : ℕ) (q : List LoopPoint) (r : List (List Form)) → Is d → d ≡ Terminating k q r → IsOfDomain p c (family s) k q
  ending_domain d k q r is e = let x = subst Is e is in of_domain k q x.2 x.3.point

  pub ending_ranked : TerminatingLaw → (d : Decision) (k : ℕ) (q : List LoopPoint) (r : List (List Form)) → Is d → d ≡ Terminating k q r → RankProves p (family s).object k q r
  ending_ranked law d k q r is e =
      let x = subst Is e is in
      let known : IsVerdict p (code p) (family s) (forms_named domain) (bounds_named domain p.thresholds) Termination unwind (Terminating k q r) =
      subst (λ m. IsVerdict p (code p) (family s) (forms_named domain) (bounds_named domain p.thresholds) m unwind (Terminating k q r)) x.0
      (subst (λ z. IsVerdict p z (family s) (forms_named domain) (bounds_named domain p.thresholds) mode unwind (Terminating k q r)) begun.is_code.is_code x) in
      (law p begun.lawful (family s) (subst (λ z. IsResolved z (family s)) begun.is_code.is_code begun.is_code.sets.resolved) (forms_named domain) (bounds_named domain p.thresholds) unwind k q r known).2

  pub ending_candidates : (d : Decision) (k : ℕ) (q : List LoopPoint) (r : List (List Form)) → Is d → d ≡ Terminating k q r → AreOfCandidates p r
  ending_candidates d k q r is e = let x = subst Is e is in ranks_are p (family s).object k q r x.4
