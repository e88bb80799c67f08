use Rattle.std.proofs.Common.{◌∙◌, length, sym, ap, arith, subst}
use Rattle.l2_cnf.specs.Trail.{AreOver}
use Rattle.l2_cdcl.specs.Search.{Search, IsEngine, IsReady}
use Rattle.l2_cdcl.specs.Learning.{added_of, learnt_of}
use Rattle.l2_cdcl.specs.Level.{IsRootConflict}
use Rattle.l2_cdcl.proofs.Engines.{IsEngine-same}
use Rattle.l2_cdcl.proofs.Reached.{started}
use Rattle.l2_cdcl.proofs.engine.Engine.begin.Goals as goal
use Rattle.l2_cdcl.proofs.engine.Engine.begin.Goals.{After-start}

kept : (c : After-start) → IsEngine c.self.inside.learnt_at.items c.start.new.self c.self.inside.marks c.self.inside.refuted c.self.inside.log
kept c = IsEngine-same c.self.inside.learnt_at.items c.self.inside.watch c.start.new.self c.self.inside.marks c.self.inside.marks c.self.inside.refuted c.self.inside.log c.self.invariant c.start.ensures.clauses
    (λ t. omega (arith, c.in_ok-cover.ensures.room, c.start.ensures.variables, ap (λ s. s.board.variables) c.self.view_is, ap (λ s. s.marked) c.self.view_is))

pub invariant_of-self : goal.invariant_of-self
invariant_of-self c = kept (goal.at.invariant_of-self c).After-start

-- the search after the start
abbrev after : (c : After-start) → Search
after c = record { added = added_of c.self.inside.learnt_at.items c.start.new.self.clauses; learnt = learnt_of c.self.inside.learnt_at.items c.start.new.self.clauses; board = c.start.new.self; marked = length c.self.inside.marks; logged = c.self.inside.log.kept; steps = c.self.inside.log.steps }

pub returns-clause-cases : goal.returns-clause-cases
returns-clause-cases c = started c.start.result (IsReady c.args.assumptions.now (after (goal.at.returns-clause-cases c).After-start)) (λ r. IsRootConflict c.start.new.self r) (λ e. record {
  ready = c.start.ensures.none e;
  over = subst (λ n. AreOver n c.args.assumptions.now) (sym (c.start.ensures.variables ∙ ap (λ s. s.board.variables) c.self.view_is)) c.in_ok-cover.ensures.over;
  assumed = λ j h. absurd (omega (arith, h, ap length c.start.ensures.levels));
}) (λ r e. (let told = c.start.ensures.conflict r e in record { levels = c.start.ensures.levels; within = told.0; false_ones = told.1 }))
