use Rattle.std.proofs.Common.{◌∙◌, refl, subst}
use Rattle.l2_watch.specs.Past.{IsGrown}
use Rattle.l2_watch.proofs.Pasts.{IsGrown-none, IsGrown-then}
use Rattle.l2_watch.proofs.board.Watch.propagate.Goals as goal
use Rattle.l2_watch.proofs.board.Watch.propagate.Goals.{After-round}

grown : (c : After-round) → IsGrown c.args.self.now.clauses c.args.self.now.past c.round.new.self.past
grown c = IsGrown-then c.args.self.now.clauses c.args.self.now.past c.loop-self.self.past c.round.new.self.past c.loop-self.invariant.grown (subst (λ x. IsGrown x c.loop-self.self.past c.round.new.self.past) c.loop-self.invariant.clauses c.round.ensures.grown)

pub loop-self-init : goal.loop-self-init
loop-self-init c = record { clauses = refl; variables = refl; levels = refl; ready = c.requires; grown = IsGrown-none c.args.self.now.clauses c.args.self.now.past c.facts.ensures.count }

pub returns-in_err-r-clause-grown : goal.returns-in_err-r-clause-grown
returns-in_err-r-clause-grown c = grown (goal.at.returns-in_err-r-clause-grown c).After-round

pub returns-in-Some-clause-grown : goal.returns-in-Some-clause-grown
returns-in-Some-clause-grown c = grown (goal.at.returns-in-Some-clause-grown c).After-round

pub loop-self-preserved : goal.loop-self-preserved
loop-self-preserved c = record {
  clauses = c.round.ensures.clauses ∙ c.loop-self.invariant.clauses;
  variables = c.round.ensures.variables ∙ c.loop-self.invariant.variables;
  levels = c.round.ensures.levels ∙ c.loop-self.invariant.levels;
  ready = c.round.ensures.ready;
  grown = grown (goal.at.loop-self-preserved c).After-round;
}
