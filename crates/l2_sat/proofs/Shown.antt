-- The log of a solver shows that a formula has no model.
use Rattle.std.proofs.Common.{ℕ, ◌<◌, ◌≤◌, ◌^◌, ◌∷◌, ℤ, List, [], length, refl, sym, subst, Contains, arith}
use Rattle.std.proofs.lemmas.List.Elements.{Contains-append_right}
use Rattle.l2_cnf.specs.Logic.{AllWithin, Satisfies}
use Rattle.l2_cnf.specs.Steps.{Step, EndsEmpty, clauses_of}
use Rattle.l2_cnf.proofs.Derivations.{IsDerivation-implied}
use Rattle.l2_cdcl.specs.Learning.{AreLearnt}
use Rattle.l2_cdcl.specs.Log.{IsLog}
use Rattle.l2_derivations.specs.Goals.{IsRefuted}
use Rattle.l2_refute.specs.Refuting.{Refute}
use Rattle.l2_refute.proofs.Logs.{refutes}
use Rattle.l2_sat.specs.Formulas.{HasNoModel, Shows}

pub refuted_none : (formula : List (List ℤ)) (v : ℕ) (steps : List Step) → IsRefuted formula v steps → HasNoModel formula
refuted_none formula v steps r a satisfied =
    let all : Satisfies a (clauses_of steps) = IsDerivation-implied a formula v steps r.derived satisfied in
    let (front, is) = r.empty in
    let last : Contains (clauses_of steps) [] = subst (λ cs. Contains cs []) (sym is) (Contains-append_right front ([] ∷ []) [] (0, omega arith, refl)) in
    let (l, has, true_is) = all [] last in
    omega (arith, has.1)

pub shows : (v : ℕ) (formula learnt : List (List ℤ)) (steps : List Step) → AllWithin v formula → v ≤ 10000000 → length formula < 10 ^ 18 → length steps < 2 ^ 60 → IsLog formula learnt steps → AreLearnt formula [] learnt → EndsEmpty learnt → Shows v formula steps
shows v formula learnt steps within small few fewer log all ends =
    let refute : Refute v formula steps = refutes v formula learnt steps within (omega (arith, small)) (omega (arith, few, fewer)) fewer log all ends in
    record { refute = refute; none = refuted_none formula v steps refute.refuted }
