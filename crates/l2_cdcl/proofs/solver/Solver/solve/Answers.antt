use Rattle.std.proofs.Common.{◌≡◌, ◌∙◌, ℕ, List, [], refl, sym, ap, subst, true}
use Rattle.std.specs.Prelude.{ℤ, Bool, Some}
use Rattle.l2_cnf.specs.Logic.{Satisfies}
use Rattle.l2_cdcl.specs.Learning.{IsLearning}
use Rattle.l2_cdcl.specs.Held.{Held, held_of, IsHeld}
use Rattle.l2_cdcl.proofs.Models.{learning_none}
use Rattle.l2_cdcl.proofs.Solvers.{held_asked, held_flags, held_clauses, put_back, search_implied}
use Rattle.l2_cdcl.proofs.solver.Solver.solve.Goals as goal
use Rattle.l2_cdcl.proofs.solver.Solver.solve.Goals.{After-answer-answered}

pub returns-in_err-engine-clause-learning : goal.returns-in_err-engine-clause-learning
returns-in_err-engine-clause-learning c =
    let in_it = c.self.inside in
    let same = held_clauses in_it.logged in_it.asked in_it.engine in_it.no_lines in
    learning_none c.args.assumptions.now c.args.self.now.added c.args.self.now.learnt c.take_engine.new.self.learnt (ap (λ h. h.learnt) c.in_err-engine.ensures.err ∙ same.1 ∙ ap (λ h. h.learnt) c.self.view_is)

-- what was held as the question was asked
abbrev before : (c : After-answer-answered) → Held
before c = held_of c.self.inside.logged true c.self.inside.engine c.self.inside.no_lines

-- what was learnt beside it
learning : (c : After-answer-answered) (added learnt : List (List ℤ)) → c.in_ok-engine.engine.added ≡ added → c.in_ok-engine.engine.learnt ≡ learnt → IsLearning c.args.assumptions.now added learnt c.answer-answered.new.engine.learnt
learning c added learnt e f = subst (λ x. IsLearning c.args.assumptions.now x learnt c.answer-answered.new.engine.learnt) e (subst (λ x. IsLearning c.args.assumptions.now c.in_ok-engine.engine.added x c.answer-answered.new.engine.learnt) f c.answer-answered.ensures.learning)

pub returns-clause-learning : goal.returns-clause-learning
returns-clause-learning c =
    let d = (goal.at.returns-clause-learning c).After-answer-answered in
    let in_it = c.self.inside in
    let same = held_clauses in_it.logged in_it.asked in_it.engine in_it.no_lines in
    learning d c.args.self.now.added c.args.self.now.learnt (c.in_ok-engine.ensures.ok.0 ∙ same.0 ∙ ap (λ h. h.added) c.self.view_is) (c.in_ok-engine.ensures.ok.1 ∙ same.1 ∙ ap (λ h. h.learnt) c.self.view_is)

-- what is held when it was answered
held : (c : After-answer-answered) (after : Held) → ((v : ℕ → Bool) → Satisfies v after.added → Satisfies v after.learnt) → after.learnt ≡ c.answer-answered.new.engine.learnt → after.added ≡ c.answer-answered.new.engine.added → after.logged ≡ (before c).logged → after.asked ≡ true → IsHeld after
held c after implied learnt added logged asked =
    held_asked (before c) after c.args.assumptions.now c.take_engine.ensures.held (subst (IsLearning c.args.assumptions.now (before c).added (before c).learnt) (sym learnt) (learning c (before c).added (before c).learnt c.in_ok-engine.ensures.ok.0 c.in_ok-engine.ensures.ok.1)) implied
    (added ∙ c.answer-answered.ensures.added ∙ c.in_ok-engine.ensures.ok.0) logged asked

pub invariant_of-self-2 : goal.invariant_of-self-2
invariant_of-self-2 c =
    let d = (goal.at.invariant_of-self-2 c).After-answer-answered in
    let in_it = c.self-2.inside in
    let first = held_flags c.self.inside.logged true c.self.inside.engine c.self.inside.no_lines in
    let flags = held_flags in_it.logged in_it.asked in_it.engine in_it.no_lines in
    let logged : in_it.logged ≡ (before d).logged = sym flags.0 ∙ ap (λ h. h.logged) c.self-2.view_is ∙ c.take_engine.ensures.logged in
    let asked : in_it.asked ≡ true = sym flags.1 ∙ ap (λ h. h.asked) c.self-2.view_is ∙ c.take_engine.ensures.asked ∙ first.1 in
    let engine = c.answer-answered.new.engine in
    put_back in_it.logged in_it.asked engine in_it.no_lines c.self-2.invariant.empty (c.answer-answered.ensures.logged ∙ c.in_ok-engine.ensures.ok.2 ∙ sym logged)
    (held d (held_of in_it.logged in_it.asked (Some engine) in_it.no_lines) (search_implied engine c.facts.ensures) refl refl logged asked)

pub returns-clause-ends : goal.returns-clause-ends
returns-clause-ends c =
    let d = (goal.at.returns-clause-ends c).After-answer-answered in
    let after : Held = record { added = c.answer-answered.new.engine.added; learnt = c.answer-answered.new.engine.learnt; logged = (before d).logged; asked = true; log = [] } in
    (held d after (search_implied c.answer-answered.new.engine c.facts.ensures) refl refl refl refl).ends

pub returns-in_err-engine-clause-implied : goal.returns-in_err-engine-clause-implied
returns-in_err-engine-clause-implied c =
    let in_it = c.self.inside in
    let same = held_clauses in_it.logged in_it.asked in_it.engine in_it.no_lines in
    λ v model. subst (Satisfies v) (sym (ap (λ h. h.learnt) c.in_err-engine.ensures.err)) (c.take_engine.ensures.held.implied v (subst (Satisfies v) (sym (same.0 ∙ ap (λ h. h.added) c.self.view_is)) model))

pub returns-clause-implied : goal.returns-clause-implied
returns-clause-implied c =
    let in_it = c.self.inside in
    let same = held_clauses in_it.logged in_it.asked in_it.engine in_it.no_lines in
    λ v model. search_implied c.answer-answered.new.engine c.facts.ensures v (subst (Satisfies v) (sym (c.answer-answered.ensures.added ∙ c.in_ok-engine.ensures.ok.0 ∙ same.0 ∙ ap (λ h. h.added) c.self.view_is)) model)
