use Rattle.std.proofs.Common.{◌∙◌, refl, subst}
use Rattle.l2_cdcl.specs.Search.{IsTurn, IsWhole}
use Rattle.l2_cdcl.specs.Searched.{IsSearched}
use Rattle.l2_cdcl.proofs.Searches.{searched_none, searched_on, searched_same, left_falls, unsettled_before}
use Rattle.l2_cdcl.proofs.Reached.{unsettled_whole}
use Rattle.l2_cdcl.proofs.engine.Engine.search.Goals as goal
use Rattle.l2_cdcl.proofs.engine.Engine.search.Goals.{In-Learnt}

pub turns-init : goal.turns-init
turns-init c = record { ready = c.requires; added = refl; logged = refl; variables = refl; searched = searched_none c.args.assumptions.now c.args.self.now }

on : (c : In-Learnt) → IsSearched c.args.assumptions.now c.args.self.now c.turn.new.self
on c = searched_on c.args.assumptions.now c.args.self.now c.turns.self c.turn.new.self c.in_ok-turn.field-0 c.in-Learnt.is c.turns.invariant.searched c.facts.ensures c.turns.invariant.added c.turns.invariant.variables c.in_ok-turn.ensures.turn

pub turns-smaller : goal.turns-smaller
turns-smaller c = left_falls c.args.assumptions.now c.args.self.now c.turns.self c.turn.new.self c.in_ok-turn.field-0 c.in-Learnt.is c.turns.invariant.searched (on (goal.at.turns-smaller c).In-Learnt) c.facts-in-Learnt.ensures c.turns.invariant.variables c.turn.ensures.variables c.in_ok-turn.ensures.turn

pub turns-preserved : goal.turns-preserved
turns-preserved c = record {
  ready = c.turn.ensures.ready;
  added = c.turn.ensures.added ∙ c.turns.invariant.added;
  logged = c.turn.ensures.logged ∙ c.turns.invariant.logged;
  variables = c.turn.ensures.variables ∙ c.turns.invariant.variables;
  searched = on (goal.at.turns-preserved c).In-Learnt;
}

pub returns-in-Whole-clause-whole : goal.returns-in-Whole-clause-whole
returns-in-Whole-clause-whole c = λ e.
    let turn = subst (IsTurn c.args.assumptions.now c.turns.self c.turn.new.self) c.in-Whole.is c.in_ok-turn.ensures.turn in
    let whole : IsWhole c.args.assumptions.now c.turn.new.self.board = turn.1 in
    unsettled_before c.args.assumptions.now c.args.self.now c.turn.new.self c.turn.new.self (searched_same c.args.assumptions.now c.args.self.now c.turns.self c.turn.new.self c.turns.invariant.searched turn.0)
    c.facts-in-Whole.ensures (c.turn.ensures.added ∙ c.turns.invariant.added) (unsettled_whole c.turn.new.self.board c.args.assumptions.now c.facts-in-Whole.ensures.kept whole)
