use Rattle.std.proofs.Common.{◌++◌, sym, ap, subst}
use Rattle.std.proofs.lemmas.List.Elements.{Contains-append_left}
use Rattle.l2_cnf.specs.Logic.{IsWithin, AllWithin}
use Rattle.l2_cnf.proofs.Within.{AllWithin-none, AllWithin-push}
use Rattle.l2_rup.proofs.Knows.{AllWithin-fresh, Satisfies-fresh}
use Rattle.l2_rup.proofs.known.Known.restart.Goals as goal

pub invariant_of-self : goal.invariant_of-self
invariant_of-self c =
    let base = c.self.inside.base.now in let last = c.self.inside.last in let steps = c.self.inside.steps.clauses in
    let n = c.self.inside.variables in (
      AllWithin-fresh n base c.push.new.self c.in_ok-steps.steps.clauses
          (λ clause h. c.self.invariant.0 clause (Contains-append_left (base ++ last) steps clause (Contains-append_left base last clause h)))
          (subst (AllWithin n) (sym c.in_ok-push.ensures.ok) (AllWithin-push n c.new-one.result c.args.last.now (subst (AllWithin n) (sym c.new-one.ensures) (AllWithin-none n)) (subst (λ m. IsWithin m c.args.last.now) (sym (ap (λ k. k.variables) c.self.view_is)) c.requires)))
          c.in_ok-steps.ensures.clauses,
      (λ v model. Satisfies-fresh v c.in_ok-steps.steps.clauses c.in_ok-steps.ensures.clauses),
    )
