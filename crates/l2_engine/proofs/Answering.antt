-- What the engine's answers come to.
use Rattle.std.proofs.Common.{ap, ◌++◌, [], ◌∷◌, ◌≡◌, ℕ, suc, ◌+◌, ◌<◌, ◌≤◌, List, length, map, refl, sym, subst, arith}
use Rattle.std.specs.Prelude.{◌↔◌, ℤ, Bool, true, false, not, IsTrue, Option, slice_index_or}
use Rattle.l2_runs.specs.declared.outcome.Outcome.TheVariants.{Ended, Stopped, Broken, OutOfChoices, OutOfTurns}
use Rattle.l2_runs.specs.declared.member.Member.{Member}
use Rattle.l2_runs.specs.Runs.{End, Over, Fallen}
use Rattle.l2_runs.specs.Loops.{Short, no_tests}
use Rattle.l2_program.specs.Programs.{ProgramTree}
use Rattle.l2_meaning.specs.Execution.{exec, IsBroken}
use Rattle.l2_templates.specs.declared.point.LoopPoint.{LoopPoint}
use Rattle.l2_templates.specs.declared.infer.Found.{Found}
use Rattle.l2_cuts.specs.Cuts.{row_end, Infers, Proves}
use Rattle.l2_row_engine.specs.Cutting.{Ends}
use Rattle.l2_short_goal_laws.specs.Law.{IsFound, ModelsFind, RunsHaveModels, check_formula}
use Rattle.l2_verdicts.specs.Verdicts.{Breaks, IsBreak}
use Rattle.l2_cnf.specs.Logic.{Satisfies}
use Rattle.l2_cnf.specs.Assignment.{IsSatisfied}
use Rattle.l2_code.specs.declared.sets.Sets.{Sets}
use Rattle.l2_code.specs.Trees.{CodeTree}
use Rattle.l2_code.specs.Sets.{family, IsResolved}
use Rattle.l2_code.specs.Sizes.{size}
use Rattle.l2_unwind.specs.Refused.{most_weight}
use Rattle.l2_lower.specs.Code.{code}
use Rattle.l2_gates.specs.Gates.{literals_of}
use Rattle.l2_short_goals.specs.declared.making.ShortGoals.{ShortGoals}
use Rattle.l2_short_goals.specs.Taken.{choice_of, AreShorts, values_of, made_choices, count_true}
use Rattle.l2_missed.specs.Meeting.{NoneMet, IsFirstMet, with_clause}
use Rattle.l2_row_engine.specs.Cutting.{Belongs}
use Rattle.std.specs.List.{All}
use Rattle.l2_witness.specs.ValuesFile.{IsChoice, InRange}
use Rattle.l2_engine.proofs.Ranges.{are_choices}

-- ---- whether a point proves

broken_so : (x : End) → IsBroken x → (c : ℕ) × (x ≡ Over (Broken c))
broken_so (Over Ended) h = absurd h
broken_so (Over Stopped) h = absurd h
broken_so (Over (Broken c)) h = (c, refl)
broken_so (Over OutOfChoices) h = absurd h
broken_so (Over OutOfTurns) h = absurd h
broken_so (Fallen l row) h = absurd h

breaks_so : (x : End) (c : ℕ) → x ≡ Over (Broken c) → IsBroken x
breaks_so x c e = subst IsBroken (sym e) tt

-- a point that infers proves exactly where no cut run breaks a check
pub proves_so : (p : ProgramTree) (sets : ℕ → Member → Bool) (k : ℕ) (q : List LoopPoint) (breaks proved : Bool) → proved ≡ not breaks → Infers p sets k q
    → IsTrue breaks ↔ ((c : ℕ) × Ends p sets k q (Over (Broken c))) → IsTrue proved ↔ Proves p sets k q
proves_so p sets k q true proved e infers h =
    (λ y. absurd (not_so y e), λ y. absurd (none y))
  where
    not_so : IsTrue proved → proved ≡ false → ⊥
    not_so y n = cc

    none : Proves p sets k q → ⊥
    none (i, n) =
        let b = h.0 refl in
        n b.1.0 (breaks_so (row_end p sets k q b.1.0) b.0 b.1.1)
proves_so p sets k q false proved e infers h =
    (λ y. (infers, λ choices b. none choices (broken_so (row_end p sets k q choices) b)), λ y. e)
  where
    no : false ≡ true → ⊥
    no y = cc

    none : (choices : List ℤ) → ((c : ℕ) × (row_end p sets k q choices ≡ Over (Broken c))) → ⊥
    none choices (c, i) = no (h.1 (c, (choices, i)))

-- ---- short runs

found_breaks : (p : ProgramTree) (k check : ℕ) (choices : List ℤ) (turns : ℕ) → IsFound p k check choices turns → Breaks p k
found_breaks p k check choices turns f = (choices, 0, check, ap (λ x. x.end) f.short)

module _ (p : ProgramTree) (c : CodeTree) (s : Sets) (b : Belongs p c s) (k : ℕ) (some : 1 ≤ k) (g : ShortGoals) (e : g.k ≡ k) (shorts : AreShorts g c (family s)) (shared : List (List ℤ)) (same : shared ≡ g.goals.base) where
  resolved : IsResolved (code p) (family s)
  resolved = subst (λ d. IsResolved d (family s)) b.is_code b.resolved

  are : AreShorts g (code p) (family s)
  are = subst (λ d. AreShorts g d (family s)) b.is_code shorts

  some_k : 1 ≤ g.k
  some_k = subst (λ m. 1 ≤ m) (sym e) some

  -- where no formula of a check has a model, no short run breaks one
  pub none_breaks : RunsHaveModels → (to : ℕ) → to ≡ length g.goals.last → NoneMet shared g.goals.last 0 to → ¬ Breaks p k
  none_breaks law to all none (choices, turns, n, x) =
      let i = law p b.lawful (family s) resolved g some_k are choices turns n (subst (λ m. (exec p (Short m) no_tests choices turns).end ≡ Over (Broken n)) (sym e) x) in
      none i.0 (omega arith) (omega (arith, i.2, all)) (i.3.0, subst (λ base. Satisfies i.3.0 (base ++ slice_index_or g.goals.last i.0 [] ∷ [])) (sym same) i.3.1)

  -- where one has, the model shows an execution that does
  pub model_breaks : ModelsFind → size c (family s) k [] ≤ most_weight → (to i : ℕ) → to ≡ length g.goals.last → IsFirstMet shared g.goals.last 0 to i
      → (a : List (Option Bool)) → IsSatisfied a (with_clause shared g.goals.last i) → (found : Found) → found.choices ≡ made_choices (values_of a) (map choice_of g.taken)
      → found.turns ≡ count_true (values_of a) (literals_of g.heads) → found.check ≡ i + 1 → Breaks p k × IsBreak p k found
  model_breaks law small to i all first a sat found choices turns check =
      (found_breaks p k found.check found.choices found.turns breaks, (breaks, in_range))
    where
      light : size (code p) (family s) g.k [] ≤ most_weight
      light = subst (λ m. size (code p) (family s) m [] ≤ most_weight) (sym e) (subst (λ d. size d (family s) k [] ≤ most_weight) b.is_code small)

      inside : i < length g.goals.last
      inside = omega (arith, first.high, all)

      satisfied : IsSatisfied a (check_formula g i)
      satisfied = subst (λ base. IsSatisfied a (base ++ slice_index_or g.goals.last i [] ∷ [])) same sat

      shown : IsFound p g.k (suc i) (made_choices (values_of a) (map choice_of g.taken)) (count_true (values_of a) (literals_of g.heads))
      shown = law p b.lawful (family s) resolved g some_k light are a i inside satisfied

      numbered : found.check ≡ suc i
      numbered = omega (arith, check)

      breaks : IsFound p k found.check found.choices found.turns
      breaks = subst (λ m. IsFound p m found.check found.choices found.turns) e (subst (λ n. IsFound p g.k n found.choices found.turns) (sym numbered) (subst (λ z. IsFound p g.k (suc i) z found.turns) (sym choices) (subst (λ n. IsFound p g.k (suc i) (made_choices (values_of a) (map choice_of g.taken)) n) (sym turns) shown)))

      in_range : InRange found.turns found.choices
      in_range = record { turns_within = omega (arith, breaks.few); choices_within = subst (All IsChoice) (sym choices) (are_choices (values_of a) (map choice_of g.taken)) }
