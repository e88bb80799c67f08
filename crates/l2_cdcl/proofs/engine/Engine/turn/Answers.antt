use Rattle.std.proofs.Common.{◌∙◌, length, ap, arith}
use Rattle.l2_cdcl.specs.Learning.{learnt_of, added_of}
use Rattle.l2_cdcl.specs.Search.{Search, IsEngine, IsTurn}
use Rattle.l2_cdcl.specs.declared.engine.Turn.{Turn}
use Rattle.l2_cdcl.proofs.Engines.{IsEngine-same}
use Rattle.l2_cdcl.proofs.Reached.{turn_before}
use Rattle.l2_cdcl.proofs.engine.Engine.turn.Goals as goal
use Rattle.l2_cdcl.proofs.engine.Engine.turn.Goals.{After-propagate}

kept : (c : After-propagate) → IsEngine c.self.inside.learnt_at.items c.propagate.new.self c.self.inside.marks c.self.inside.refuted c.self.inside.log
kept c = IsEngine-same c.self.inside.learnt_at.items c.self.inside.watch c.propagate.new.self c.self.inside.marks c.self.inside.marks c.self.inside.refuted c.self.inside.log c.self.invariant c.propagate.ensures.clauses
    (λ t. (let room = c.self.invariant.room (ap (λ s. s.board.ready) c.self.view_is ∙ c.requires.ready) in omega (arith, room, c.propagate.ensures.variables)))

pub invariant_of-self : goal.invariant_of-self
invariant_of-self c = kept (goal.at.invariant_of-self c).After-propagate

pub invariant_of-self-in-Some : goal.invariant_of-self-in-Some
invariant_of-self-in-Some c = kept (goal.at.invariant_of-self-in-Some c).After-propagate

pub invariant_of-self-in-None : goal.invariant_of-self-in-None
invariant_of-self-in-None c = kept (goal.at.invariant_of-self-in-None c).After-propagate

-- the search after propagation
mid : (c : After-propagate) → Search
mid c = record { added = added_of c.self.inside.learnt_at.items c.propagate.new.self.clauses; learnt = learnt_of c.self.inside.learnt_at.items c.propagate.new.self.clauses; board = c.propagate.new.self; marked = length c.self.inside.marks; logged = c.self.inside.log.kept; steps = c.self.inside.log.steps }

seen_before : (c : After-propagate) (new : Search) (t : Turn) → IsTurn c.args.assumptions.now (mid c) new t → IsTurn c.args.assumptions.now c.args.self.now new t
unfolding mid
seen_before c new t is =
    turn_before c.args.assumptions.now c.args.self.now (mid c) new t (ap (learnt_of c.self.inside.learnt_at.items) c.propagate.ensures.clauses ∙ ap (λ s. s.learnt) c.self.view_is)
    (c.propagate.ensures.clauses ∙ ap (λ s. s.board.clauses) c.self.view_is) (c.propagate.ensures.variables ∙ ap (λ s. s.board.variables) c.self.view_is) (c.propagate.ensures.levels ∙ ap (λ s. s.board.levels) c.self.view_is)
    (omega (arith, c.propagate.ensures.grown.longer, ap (λ s. length s.board.past.literals) c.self.view_is)) is

pub returns-in_ok-meet_conflict-in-Some-clause-turn : goal.returns-in_ok-meet_conflict-in-Some-clause-turn
unfolding mid
returns-in_ok-meet_conflict-in-Some-clause-turn c = seen_before (goal.at.returns-in_ok-meet_conflict-in-Some-clause-turn c).After-propagate c.meet_conflict.new.self c.in_ok-meet_conflict-in-Some.field-0 c.in_ok-meet_conflict-in-Some.ensures.turn

pub returns-in_ok-extend-in-None-clause-turn : goal.returns-in_ok-extend-in-None-clause-turn
unfolding mid
returns-in_ok-extend-in-None-clause-turn c = seen_before (goal.at.returns-in_ok-extend-in-None-clause-turn c).After-propagate c.extend.new.self c.in_ok-extend-in-None.field-0 c.in_ok-extend-in-None.ensures.turn
