use Rattle.std.proofs.Common.{◌++◌, ℕ, Bool, sym, ap, subst}
use Rattle.l2_cnf.specs.Logic.{IsWithin, Satisfies, HasTrue}
use Rattle.l2_cnf.proofs.Derivations.{Satisfies-push, Satisfies-append}
use Rattle.l2_rup.specs.Checked.{formula_of, known_of}
use Rattle.l2_rup.proofs.Knows.{AllWithin-more}
use Rattle.l2_rup.proofs.known.Known.push.Goals as goal

-- the formula implies the clause, since it implies those accepted before
here : (c : goal.After-push) (v : ℕ → Bool) → Satisfies v (c.self.inside.base.now ++ c.self.inside.last) → HasTrue v c.args.clause.now
here c v model =
    let formula = c.self.inside.base.now ++ c.self.inside.last in
    c.requires.implied v (subst (Satisfies v) (ap known_of c.self.view_is) (Satisfies-append v formula c.self.inside.steps.clauses model (c.self.invariant.1 v model)))

pub invariant_of-self : goal.invariant_of-self
invariant_of-self c =
    let formula = c.self.inside.base.now ++ c.self.inside.last in (
      AllWithin-more c.self.inside.variables formula c.self.inside.steps.clauses c.push.new.self.clauses c.args.clause.now c.self.invariant.0
          (subst (λ m. IsWithin m c.args.clause.now) (sym (ap (λ k. k.variables) c.self.view_is)) c.requires.within) c.push.ensures.clauses,
      (λ v model. subst (Satisfies v) (sym c.push.ensures.clauses) (Satisfies-push v c.self.inside.steps.clauses c.args.clause.now (c.self.invariant.1 v model) (here c v model))),
    )

pub returns-clause-implied : goal.returns-clause-implied
returns-clause-implied c = λ v model. here c v (subst (Satisfies v) (sym (ap formula_of c.self.view_is)) model)
