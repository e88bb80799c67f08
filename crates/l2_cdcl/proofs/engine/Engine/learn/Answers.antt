use Rattle.std.proofs.Common.{◌≡◌, ◌≢◌, ◌++◌, ◌∷◌, [], ◌∙◌, ◌+◌, ◌<◌, ℕ, List, length, sym, ap, refl, true, inr, arith, subst}
use Rattle.std.specs.Prelude.{ℤ, Contains}
use Rattle.l2_cnf.specs.Logic.{Follows}
use Rattle.l2_cnf.specs.Lines.{step_of}
use Rattle.l2_cnf.specs.Steps.{IsStep}
use Rattle.l2_cdcl.specs.Log.{greatest_of}
use Rattle.l2_cdcl.proofs.Logs.{popped}
use Rattle.l2_cdcl.proofs.Engines.{IsEngine-same, IsEngine-log, IsEngine-learn, added_learn, learnt_learn}
use Rattle.l2_cdcl.proofs.engine.Engine.learn.Goals as goal
use Rattle.l2_cdcl.proofs.engine.Engine.learn.Goals.{After-back}

board : (c : After-back) → c.self.inside.watch ≡ c.args.self.now.board
board c = ap (λ s. s.board) c.self.view_is

room : (c : After-back) → c.self.inside.watch.variables < length c.self.inside.marks
room c = c.self.invariant.room (ap (λ b. b.ready) (board c) ∙ c.requires.ready)

pub invariant_of-self : goal.invariant_of-self
invariant_of-self c =
    let d = (goal.at.invariant_of-self c).After-back in
    rw (c.in_err-note.ensures.same.0, c.in_err-note.ensures.same.1) (IsEngine-same c.self.inside.learnt_at.items c.self.inside.watch c.back.new.self c.self.inside.marks c.self.inside.marks c.self.inside.refuted c.self.inside.log c.self.invariant c.back.ensures.clauses (λ t. omega (arith, room d, c.back.ensures.variables)))

pub invariant_of-self-in-Err : goal.invariant_of-self-in-Err
invariant_of-self-in-Err c =
    let d = (goal.at.invariant_of-self-in-Err c).After-back in
    let at = c.self.inside.learnt_at.items in
    let log = c.self.inside.log in
    let back : c.forget.new.learnt_at.items ≡ at = popped at c.note.new.learnt_at.items c.forget.new.learnt_at.items c.count.result c.in_ok-note.ensures.at c.forget.ensures.at in
    rw back (IsEngine-log at c.learn.new.self c.self.inside.marks c.self.inside.refuted log c.forget.new.log
    (IsEngine-same at c.self.inside.watch c.learn.new.self c.self.inside.marks c.self.inside.marks c.self.inside.refuted log c.self.invariant (ap (λ b. b.clauses) c.in-Err.ensures.same ∙ c.back.ensures.clauses)
    (λ t. omega (arith, room d, c.back.ensures.variables, c.learn.ensures.variables)))
    (c.forget.ensures.kept ∙ c.note.ensures.kept)
    (λ t. popped log.steps c.note.new.log.steps c.forget.new.log.steps (step_of (c.count.result + 1) c.args.clause.now c.args.hints.now) (c.in_ok-note.ensures.line t) (c.forget.ensures.line (c.note.ensures.kept ∙ t))))

-- the number of the clause
number_is : (n : ℕ) (a b : List (List ℤ)) → n ≡ length a → a ≡ b → n ≡ length b
number_is n a b e f = e ∙ ap length f

pub invariant_of-self-in_default : goal.invariant_of-self-in_default
invariant_of-self-in_default c =
    let d = (goal.at.invariant_of-self-in_default c).After-back in
    let b = c.self.inside.watch in
    let clause = c.args.clause.now in
    let grown : c.learn.new.self.clauses ≡ b.clauses ++ clause ∷ [] = c.in_default.ensures.clauses ∙ ap (λ x. x ++ clause ∷ []) c.back.ensures.clauses in
    let some : clause ≢ [] = λ e. (let none : Contains [] c.args.u = subst (λ x. Contains x c.args.u) e c.requires.learnt.first in omega (arith, none.1)) in
    IsEngine-learn c.self.inside.learnt_at.items c.note.new.learnt_at.items b c.learn.new.self c.self.inside.marks c.self.inside.marks c.self.inside.refuted c.self.inside.refuted c.self.inside.log c.note.new.log clause c.args.hints.now c.count.result c.self.invariant
    (number_is c.count.result c.back.new.self.clauses b.clauses c.count.ensures.len c.back.ensures.clauses) c.in_ok-note.ensures.at grown
    (λ l h. (c.requires.over l h).0) (subst (λ x. Follows x clause) (sym (ap (λ x. x.clauses) (board d))) c.requires.follows)
    (λ t. omega (arith, room d, c.back.ensures.variables, c.learn.ensures.variables)) (inr (some, refl)) c.note.ensures.kept c.in_ok-note.ensures.line
    (subst (λ s. s.logged ≡ true → IsStep s.board.clauses (greatest_of s.added) (length s.board.clauses + 1) clause c.args.hints.now) (sym c.self.view_is) c.requires.step)

pub returns-clause-ok : goal.returns-clause-ok
returns-clause-ok c =
    let b = c.self.inside.watch in
    let clause = c.args.clause.now in
    learnt_learn c.self.inside.learnt_at.items c.note.new.learnt_at.items b.clauses c.learn.new.self.clauses clause c.count.result c.self.invariant.within
    (number_is c.count.result c.back.new.self.clauses b.clauses c.count.ensures.len c.back.ensures.clauses) c.in_ok-note.ensures.at
    (c.in_default.ensures.clauses ∙ ap (λ x. x ++ clause ∷ []) c.back.ensures.clauses) ∙ ap (λ s. s.learnt ++ clause ∷ []) c.self.view_is

pub returns-clause-added : goal.returns-clause-added
returns-clause-added c =
    let b = c.self.inside.watch in
    let clause = c.args.clause.now in
    added_learn c.self.inside.learnt_at.items c.note.new.learnt_at.items b.clauses c.learn.new.self.clauses clause c.count.result
    (number_is c.count.result c.back.new.self.clauses b.clauses c.count.ensures.len c.back.ensures.clauses) c.in_ok-note.ensures.at
    (c.in_default.ensures.clauses ∙ ap (λ x. x ++ clause ∷ []) c.back.ensures.clauses) ∙ ap (λ s. s.added) c.self.view_is
