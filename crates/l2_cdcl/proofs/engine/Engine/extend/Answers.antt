use Rattle.std.proofs.Common.{◌≡◌, ◌∙◌, ◌+◌, ◌<◌, length, take, get_or, sym, ap, refl, true, arith, subst}
use Rattle.std.specs.Prelude.{pos}
use Rattle.std.proofs.lemmas.List.{get_or_default}
use Rattle.l2_cnf.specs.Logic.{Settles}
use Rattle.l2_cdcl.specs.Search.{AreAssumed}
use Rattle.l2_cdcl.proofs.Engines.{IsEngine-same}
use Rattle.l2_cdcl.proofs.Reached.{settled_false, whole_met}
use Rattle.l2_cdcl.proofs.engine.Engine.extend.Goals as goal
use Rattle.l2_cdcl.proofs.engine.Engine.extend.Goals.{After-facts}

-- the board that was opened is the present one
board : (c : After-facts) → c.self.inside.watch ≡ c.args.self.now.board
board c = ap (λ s. s.board) c.self.view_is

room : (c : After-facts) → c.self.inside.watch.variables < length c.self.inside.marks
room c = c.self.invariant.room (ap (λ b. b.ready) (board c) ∙ c.requires.ready.ready)

assumed : (c : After-facts) → AreAssumed c.args.assumptions.now c.self.inside.watch.levels
assumed c = subst (λ b. AreAssumed c.args.assumptions.now b.levels) (sym (board c)) c.requires.ready.assumed

pub returns-then-is_false-clause-turn : goal.returns-then-is_false-clause-turn
returns-then-is_false-clause-turn c =
    let d = (goal.at.returns-then-is_false-clause-turn c).After-facts in
    let b = c.self.inside.watch in
    let assumptions = c.args.assumptions.now in
    let level : c.levels-level.result ≡ length b.levels = c.levels-level.ensures in
    let most : length b.levels < length assumptions = omega (arith, level) in
    let read : get_or assumptions (length b.levels) (pos 0) ≡ c.index-assumptions-level.result =
    get_or_default assumptions (length b.levels) (pos 0) c.index-assumptions-level.result most ∙ ap (λ n. get_or assumptions n c.index-assumptions-level.result) (sym level) ∙ sym c.index-assumptions-level.is in
    let settled : Settles b.clauses (take (length b.levels + 1) assumptions) = settled_false b assumptions c.index-assumptions-level.result c.facts.ensures (assumed d) most read (c.is_false.ensures.0 c.if-is_false.true) in
    (refl, omega arith, omega (arith, level, most), subst (λ x. Settles x (take (c.levels-level.result + 1) assumptions)) (ap (λ x. x.clauses) (board d)) (subst (λ n. Settles b.clauses (take (n + 1) assumptions)) (sym level) settled))

pub invariant_of-self-then-level-assumptions : goal.invariant_of-self-then-level-assumptions
invariant_of-self-then-level-assumptions c =
    let d = (goal.at.invariant_of-self-then-level-assumptions c).After-facts in
    IsEngine-same c.self.inside.learnt_at.items c.self.inside.watch c.decide.new.self c.self.inside.marks c.self.inside.marks c.self.inside.refuted c.self.inside.log c.self.invariant c.decide.ensures.clauses (λ t. omega (arith, room d, c.decide.ensures.variables))

pub invariant_of-self-in-Some : goal.invariant_of-self-in-Some
invariant_of-self-in-Some c =
    let d = (goal.at.invariant_of-self-in-Some c).After-facts in
    IsEngine-same c.self.inside.learnt_at.items c.self.inside.watch c.decide-in-Some.new.self c.self.inside.marks c.self.inside.marks c.self.inside.refuted c.self.inside.log c.self.invariant c.decide-in-Some.ensures.clauses (λ t. omega (arith, room d, c.decide-in-Some.ensures.variables))

pub returns-in-None-clause-turn : goal.returns-in-None-clause-turn
returns-in-None-clause-turn c =
    let d = (goal.at.returns-in-None-clause-turn c).After-facts in
    let b = c.self.inside.watch in
    let seen : b.seen ≡ length b.past.literals = ap (λ x. x.seen) (board d) ∙ c.requires.seen ∙ sym (ap (λ x. length x.past.literals) (board d)) in
    let ready : b.ready ≡ true = ap (λ x. x.ready) (board d) ∙ c.requires.ready.ready in (
      ap (λ s. s.learnt) c.self.view_is,
      record {
        closed = c.facts.ensures.closed ready seen;
        met = whole_met b c.args.assumptions.now c.facts.ensures (assumed d) (omega (arith, c.levels-level.ensures));
        none = c.in-None.ensures;
      },
    )
