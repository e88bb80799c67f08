use Rattle.std.proofs.Common.{◌≡◌, ◌++◌, ◌∷◌, [], ◌∙◌, ◌≤◌, List, length, take, sym, ap, refl, true, false, arith, subst, Ok}
use Rattle.std.specs.Prelude.{Bool, ℤ, MatchOption, Contains}
use Rattle.std.proofs.lemmas.List.Elements.{Contains-push}
use Rattle.l2_cnf.specs.Logic.{Settles, Follows}
use Rattle.l2_cdcl.specs.Level.{IsRootConflict}
use Rattle.l2_cdcl.specs.Search.{IsReady, IsWhole}
use Rattle.l2_cdcl.proofs.Reached.{root_follows}
use Rattle.l2_cdcl.specs.Searched.{IsVerdict}
use Rattle.l2_cdcl.specs.Learning.{IsLearning}
use Rattle.l2_cdcl.specs.Answering.{IsCore, IsModel}
use Rattle.l2_cdcl.proofs.Models.{core_is, empty_settles, learning_none, learning_search, learning_closed, learning_empty, whole_model}
use Rattle.l2_cdcl.proofs.solve.answer.Goals as goal
use Rattle.l2_cdcl.proofs.solve.answer.Goals.{In-Some, After-refute, In_ok-refute, After-search, In-Closed, In_ok-refute-in-Closed, In-Refuted}

pub returns-then-is_refuted-clause-answer : goal.returns-then-is_refuted-clause-answer
returns-then-is_refuted-clause-answer c =
    core_is c.args.engine.now c.args.assumptions.now c.in_ok-core.field-0 0 c.facts.ensures c.in_ok-core.ensures (omega arith) (empty_settles c.args.engine.now (take 0 c.args.assumptions.now) c.facts.ensures (c.is_refuted.ensures.0 c.if-is_refuted.true))

-- the empty clause wasn't learnt before
unlearnt : (learnt : List (List ℤ)) (r : Bool) → (Contains learnt [] → r ≡ true) → r ≡ false → ¬ Contains learnt []
unlearnt learnt r told e h = let t : r ≡ true = told h in cc

pub returns-in_err-refute-clause-learning : goal.returns-in_err-refute-clause-learning
returns-in_err-refute-clause-learning c = learning_none c.args.assumptions.now c.args.engine.now.added c.args.engine.now.learnt c.refute.new.self.learnt (c.in_err-refute.ensures.err ∙ c.begin.ensures.learnt)

emptied : (c : In_ok-refute) → IsLearning c.args.assumptions.now c.args.engine.now.added c.args.engine.now.learnt c.refute.new.self.learnt
emptied c =
    let b = c.begin.new.self.board in
    let root : IsRootConflict b c.in-Some.conflict = subst (λ o. MatchOption o (IsReady c.args.assumptions.now c.begin.new.self) (λ r. IsRootConflict b r)) c.in-Some.is c.in_ok-conflict.ensures.cases in
    learning_empty c.args.assumptions.now c.args.engine.now c.args.engine.now.added c.args.engine.now.learnt c.refute.new.self.learnt c.facts.ensures refl refl (c.in_ok-refute.ensures.ok ∙ ap (λ x. x ++ [] ∷ []) c.begin.ensures.learnt)
    (unlearnt c.args.engine.now.learnt c.is_refuted.result c.is_refuted.ensures.1 c.if-is_refuted.false) (subst (λ x. Follows x []) c.begin.ensures.clauses (root_follows b c.in-Some.conflict c.facts-in-Some.ensures.kept root))

pub returns-in_err-core-2-clause-learning : goal.returns-in_err-core-2-clause-learning
returns-in_err-core-2-clause-learning c = emptied (goal.at.returns-in_err-core-2-clause-learning c).In_ok-refute

pub returns-in-Some-clause-learning : goal.returns-in-Some-clause-learning
returns-in-Some-clause-learning c = emptied (goal.at.returns-in-Some-clause-learning c).In_ok-refute

pub returns-in-Some-clause-answer : goal.returns-in-Some-clause-answer
returns-in-Some-clause-answer c =
    let s = c.refute.new.self in
    let has : Contains s.learnt [] = subst (λ x. Contains x []) (sym c.in_ok-refute.ensures.ok) (Contains-push c.begin.new.self.learnt []) in
    subst (λ x. IsCore c.in_ok-core-2.field-0 c.args.assumptions.now x s.learnt) (c.refute.ensures.added ∙ c.begin.ensures.added)
    (core_is s c.args.assumptions.now c.in_ok-core-2.field-0 0 c.facts-in-Some-2.ensures c.in_ok-core-2.ensures (omega arith) (empty_settles s (take 0 c.args.assumptions.now) c.facts-in-Some-2.ensures has))

pub returns-in-Some-clause-closed : goal.returns-in-Some-clause-closed
returns-in-Some-clause-closed c = λ e. subst (λ x. Contains x []) (sym c.in_ok-refute.ensures.ok) (Contains-push c.begin.new.self.learnt [])

-- what the search learnt
searched : (c : After-search) → (new : List (List ℤ)) → new ≡ c.search.new.self.learnt → IsLearning c.args.assumptions.now c.args.engine.now.added c.args.engine.now.learnt new
searched c new e = learning_search c.args.assumptions.now c.begin.new.self c.search.new.self c.args.engine.now.added c.args.engine.now.learnt new c.search.ensures.found c.begin.ensures.added c.begin.ensures.learnt e

pub returns-in_err-search-clause-learning : goal.returns-in_err-search-clause-learning
returns-in_err-search-clause-learning c = searched (goal.at.returns-in_err-search-clause-learning c).After-search c.search.new.self.learnt refl

pub returns-in_err-assignment-in-Whole-clause-learning : goal.returns-in_err-assignment-in-Whole-clause-learning
returns-in_err-assignment-in-Whole-clause-learning c = searched (goal.at.returns-in_err-assignment-in-Whole-clause-learning c).After-search c.search.new.self.learnt refl

pub returns-in_ok-assignment-in-Whole-clause-learning : goal.returns-in_ok-assignment-in-Whole-clause-learning
returns-in_ok-assignment-in-Whole-clause-learning c = searched (goal.at.returns-in_ok-assignment-in-Whole-clause-learning c).After-search c.search.new.self.learnt refl

pub returns-in_ok-assignment-in-Whole-clause-answer : goal.returns-in_ok-assignment-in-Whole-clause-answer
returns-in_ok-assignment-in-Whole-clause-answer c =
    let s = c.search.new.self in
    let assumptions = c.args.assumptions.now in
    let whole : IsWhole assumptions s.board = subst (IsVerdict assumptions s) c.in-Whole.is c.in_ok-search.ensures.verdict in
    let none = c.search.ensures.whole (c.in_ok-search.was ∙ ap Ok c.in-Whole.is) in (
      subst (λ x. IsModel c.in_ok-assignment-in-Whole.field-0 x assumptions) (c.search.ensures.added ∙ c.begin.ensures.added) (whole_model s assumptions c.in_ok-assignment-in-Whole.field-0 c.facts-in-Whole.ensures whole c.in_ok-assignment-in-Whole.ensures),
      (λ h. none (subst (λ x. Settles x assumptions) (λ i. sym c.begin.ensures.added i ++ sym c.begin.ensures.learnt i) h)),
    )

-- the search came to a clause that is false though nothing was decided
root : (c : In-Closed) → IsRootConflict c.search.new.self.board c.in-Closed.conflict
root c = subst (IsVerdict c.args.assumptions.now c.search.new.self) c.in-Closed.is c.in_ok-search.ensures.verdict

pub returns-in_err-refute-in-Closed-clause-learning : goal.returns-in_err-refute-in-Closed-clause-learning
returns-in_err-refute-in-Closed-clause-learning c = searched (goal.at.returns-in_err-refute-in-Closed-clause-learning c).After-search c.refute-in-Closed.new.self.learnt c.in_err-refute-in-Closed.ensures.err

closed : (c : In_ok-refute-in-Closed) → IsRootConflict c.search.new.self.board c.in-Closed.conflict → IsLearning c.args.assumptions.now c.args.engine.now.added c.args.engine.now.learnt c.refute-in-Closed.new.self.learnt
closed c root_is =
    let s = c.search.new.self in
    learning_closed c.args.assumptions.now c.begin.new.self s c.args.engine.now.added c.args.engine.now.learnt c.refute-in-Closed.new.self.learnt c.search.ensures.found c.facts-in-Closed.ensures (c.search.ensures.added ∙ c.begin.ensures.added) c.begin.ensures.added c.begin.ensures.learnt c.in_ok-refute-in-Closed.ensures.ok
    (unlearnt c.args.engine.now.learnt c.is_refuted.result c.is_refuted.ensures.1 c.if-is_refuted.false) (root_follows s.board c.in-Closed.conflict c.facts-in-Closed.ensures.kept root_is)

pub returns-in_err-core-in-Closed-clause-learning : goal.returns-in_err-core-in-Closed-clause-learning
returns-in_err-core-in-Closed-clause-learning c = closed (goal.at.returns-in_err-core-in-Closed-clause-learning c).In_ok-refute-in-Closed (root (goal.at.returns-in_err-core-in-Closed-clause-learning c).In-Closed)

pub returns-in_ok-core-in-Closed-clause-learning : goal.returns-in_ok-core-in-Closed-clause-learning
returns-in_ok-core-in-Closed-clause-learning c = closed (goal.at.returns-in_ok-core-in-Closed-clause-learning c).In_ok-refute-in-Closed (root (goal.at.returns-in_ok-core-in-Closed-clause-learning c).In-Closed)

pub returns-in_ok-core-in-Closed-clause-answer : goal.returns-in_ok-core-in-Closed-clause-answer
returns-in_ok-core-in-Closed-clause-answer c =
    let t = c.refute-in-Closed.new.self in
    let has : Contains t.learnt [] = subst (λ x. Contains x []) (sym c.in_ok-refute-in-Closed.ensures.ok) (Contains-push c.search.new.self.learnt []) in
    subst (λ x. IsCore c.in_ok-core-in-Closed.field-0 c.args.assumptions.now x t.learnt) (c.refute-in-Closed.ensures.added ∙ c.search.ensures.added ∙ c.begin.ensures.added)
    (core_is t c.args.assumptions.now c.in_ok-core-in-Closed.field-0 0 c.facts-in-Closed-2.ensures c.in_ok-core-in-Closed.ensures (omega arith) (empty_settles t (take 0 c.args.assumptions.now) c.facts-in-Closed-2.ensures has))

pub returns-in_ok-core-in-Closed-clause-closed : goal.returns-in_ok-core-in-Closed-clause-closed
returns-in_ok-core-in-Closed-clause-closed c = λ e. subst (λ x. Contains x []) (sym c.in_ok-refute-in-Closed.ensures.ok) (Contains-push c.search.new.self.learnt [])

pub returns-in_err-core-in-Refuted-clause-learning : goal.returns-in_err-core-in-Refuted-clause-learning
returns-in_err-core-in-Refuted-clause-learning c = searched (goal.at.returns-in_err-core-in-Refuted-clause-learning c).After-search c.search.new.self.learnt refl

pub returns-in_ok-core-in-Refuted-clause-learning : goal.returns-in_ok-core-in-Refuted-clause-learning
returns-in_ok-core-in-Refuted-clause-learning c = searched (goal.at.returns-in_ok-core-in-Refuted-clause-learning c).After-search c.search.new.self.learnt refl

pub returns-in_ok-core-in-Refuted-clause-answer : goal.returns-in_ok-core-in-Refuted-clause-answer
returns-in_ok-core-in-Refuted-clause-answer c =
    let s = c.search.new.self in
    let told : (1 ≤ c.in-Refuted.n) × (c.in-Refuted.n ≤ length c.args.assumptions.now) × Settles s.board.clauses (take c.in-Refuted.n c.args.assumptions.now) = subst (IsVerdict c.args.assumptions.now s) c.in-Refuted.is c.in_ok-search.ensures.verdict in
    subst (λ x. IsCore c.in_ok-core-in-Refuted.field-0 c.args.assumptions.now x s.learnt) (c.search.ensures.added ∙ c.begin.ensures.added)
    (core_is s c.args.assumptions.now c.in_ok-core-in-Refuted.field-0 c.in-Refuted.n c.facts-in-Refuted.ensures c.in_ok-core-in-Refuted.ensures told.1 told.2)
