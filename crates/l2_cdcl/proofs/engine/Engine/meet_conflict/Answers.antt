use Rattle.std.proofs.Common.{◌≡◌, ◌++◌, ◌∷◌, [], ◌∙◌, ◌-◌, ◌+◌, ◌≤◌, ◌<◌, ℕ, length, reverse, take, get_or, sym, ap, refl, true, arith, subst}
use Rattle.std.specs.Prelude.{pos, neg_ℤ}
use Rattle.l2_cnf.specs.Logic.{Settles, Follows, IsAbsorbed}
use Rattle.l2_cnf.specs.Trail.{AreOver}
use Rattle.l2_watch.specs.Visit.{AreFalse}
use Rattle.l2_watch.specs.Board.{Board, IsBoard, IsLearnt, start_of}
use Rattle.l2_cdcl.specs.Analysis.{IsPoint}
use Rattle.l2_cdcl.specs.Level.{IsPresent}
use Rattle.l2_cdcl.specs.Target.{IsTarget}
use Rattle.l2_cdcl.specs.Search.{AreAssumed}
use Rattle.l2_cdcl.specs.Learning.{added_of}
use Rattle.l2_cdcl.proofs.Reached.{settled_conflict, unsettled_levels, assumed_back}
use Rattle.l2_cdcl.proofs.Targets.{point_over, point_follows, point_new, point_learnt}
use Rattle.l2_cdcl.proofs.Chains.{point_step}
use Rattle.l2_cdcl.specs.Log.{greatest_of}
use Rattle.l2_cnf.specs.Logic.{AllWithin}
use Rattle.l2_cnf.specs.Steps.{IsStep}
use Rattle.std.proofs.lemmas.List.{nil_from_length}
use Rattle.l2_cdcl.proofs.engine.Engine.meet_conflict.Goals as goal
use Rattle.l2_cdcl.proofs.engine.Engine.meet_conflict.Goals.{After-facts, In_ok-push}

board : (c : After-facts) → c.self.inside.watch ≡ c.args.self.now.board
board c = ap (λ s. s.board) c.self.view_is

assumed : (c : After-facts) → AreAssumed c.args.assumptions.now c.self.inside.watch.levels
assumed c = subst (λ b. AreAssumed c.args.assumptions.now b.levels) (sym (board c)) c.requires.ready.assumed

small : (c : After-facts) → c.args.conflict < length c.self.inside.watch.clauses
small c = omega (arith, c.requires.conflict, ap (λ b. length b.clauses) (board c))

false_ones : (c : After-facts) → AreFalse c.self.inside.watch.past.literals (get_or c.self.inside.watch.clauses c.args.conflict [])
false_ones c = subst (λ b. AreFalse b.past.literals (get_or b.clauses c.args.conflict [])) (sym (board c)) c.requires.false_ones

pub returns-then-level-assumptions-clause-turn : goal.returns-then-level-assumptions-clause-turn
returns-then-level-assumptions-clause-turn c =
    let d = (goal.at.returns-then-level-assumptions-clause-turn c).After-facts in
    let b = c.self.inside.watch in
    let assumptions = c.args.assumptions.now in
    let settled : Settles b.clauses (take (length b.levels) assumptions) = settled_conflict b assumptions c.args.conflict c.facts.ensures (assumed d) (omega (arith, c.levels-level.ensures)) (small d) (false_ones d) in
    (refl, omega arith, omega arith, subst (λ x. Settles x (take c.levels-level.result assumptions)) (ap (λ x. x.clauses) (board d)) (subst (λ n. Settles b.clauses (take n assumptions)) (sym c.levels-level.ensures) settled))

pub returns-then-level-eq0-clause-turn : goal.returns-then-level-eq0-clause-turn
returns-then-level-eq0-clause-turn c =
    let d = (goal.at.returns-then-level-eq0-clause-turn c).After-facts in
    (refl, record { levels = nil_from_length c.args.self.now.board.levels (omega (arith, c.levels-level.ensures, ap (λ b. length b.levels) (board d))); within = c.requires.conflict; false_ones = c.requires.false_ones })

pub trace-requires-clause-false_ones : goal.trace-requires-clause-false_ones
trace-requires-clause-false_ones c = false_ones (goal.at.trace-requires-clause-false_ones c).After-facts

-- the board, the bounds and the point
present_is : (b : Board) (n low start : ℕ) → b.ready ≡ true → 0 < n → length b.levels ≡ n → low ≤ start_of b.levels 0 → start ≡ start_of b.levels (n - 1) → IsPresent b low start
present_is b n low start ready some e f g = record { ready = ready; last = (n - 1, omega (arith, some, e), g); low_is = f }

module _ (c : In_ok-push) (is : IsBoard c.self.inside.watch) (ready : c.self.inside.watch.ready ≡ true) (some : 0 < c.levels-level.result) where
  here : IsPresent c.self.inside.watch c.low_of.result c.start_of.result
  here = present_is c.self.inside.watch c.levels-level.result c.low_of.result c.start_of.result ready some (sym c.levels-level.ensures) c.low_of.ensures.most c.start_of.ensures

  point : IsPoint c.self.inside.watch.clauses c.self.inside.watch.past.literals c.low_of.result c.start_of.result c.in_ok-point.point c.trace.new.aside.items
  point = c.in_ok-point.ensures.point

  u_is : c.negated-u.result ≡ neg_ℤ (get_or c.self.inside.watch.past.literals c.in_ok-point.point (pos 0))
  u_is = c.negated-u.ensures ∙ ap neg_ℤ c.literal.ensures

  clause_is : c.push.new.self.items ≡ c.trace.new.aside.items ++ c.negated-u.result ∷ []
  clause_is = c.in_ok-push.ensures.ok

  target_is : IsTarget c.self.inside.watch.past.literals c.self.inside.watch.levels c.trace.new.aside.items c.negated-u.result c.aim-target.result.level c.aim-target.result.second
  target_is = subst (λ x. IsTarget c.self.inside.watch.past.literals c.self.inside.watch.levels x c.negated-u.result c.aim-target.result.level c.aim-target.result.second) c.as_slice.ensures c.aim-target.ensures

  over_is : AreOver c.self.inside.watch.variables c.push.new.self.items
  over_is = subst (AreOver c.self.inside.watch.variables) (sym clause_is) (point_over c.self.inside.watch c.low_of.result c.start_of.result c.in_ok-point.point c.trace.new.aside.items c.negated-u.result is here point u_is)

  follows_is : Follows c.self.inside.watch.clauses c.push.new.self.items
  follows_is = subst (Follows c.self.inside.watch.clauses) (sym clause_is) (point_follows c.self.inside.watch c.low_of.result c.start_of.result c.in_ok-point.point c.trace.new.aside.items c.negated-u.result is here point u_is (omega (arith, some, c.levels-level.ensures)))

  new_is : ¬ IsAbsorbed c.self.inside.watch.clauses c.push.new.self.items
  new_is = subst (λ x. ¬ IsAbsorbed c.self.inside.watch.clauses x) (sym clause_is) (point_new c.self.inside.watch c.low_of.result c.start_of.result c.in_ok-point.point c.trace.new.aside.items c.negated-u.result is here point u_is c.aim-target.result.level c.aim-target.result.second target_is ready)

  learnt_is : IsLearnt (take (start_of c.self.inside.watch.levels c.aim-target.result.level) c.self.inside.watch.past.literals) (take c.aim-target.result.level c.self.inside.watch.levels) c.push.new.self.items c.negated-u.result c.aim-target.result.second
  learnt_is = subst (λ x. IsLearnt (take (start_of c.self.inside.watch.levels c.aim-target.result.level) c.self.inside.watch.past.literals) (take c.aim-target.result.level c.self.inside.watch.levels) x c.negated-u.result c.aim-target.result.second) (sym clause_is)
      (point_learnt c.self.inside.watch c.low_of.result c.start_of.result c.in_ok-point.point c.trace.new.aside.items c.negated-u.result is here point u_is c.aim-target.result.level c.aim-target.result.second target_is)

  step_is : (n : ℕ) → c.self.inside.log.kept ≡ true → AllWithin n c.self.inside.watch.clauses → IsStep c.self.inside.watch.clauses n (length c.self.inside.watch.clauses + 1) c.push.new.self.items (reverse c.trace.new.hints.numbers)
  step_is n kept within = point_step c.self.inside.watch c.low_of.result c.start_of.result c.in_ok-point.point n c.trace.new.aside.items c.push.new.self.items c.negated-u.result (reverse c.trace.new.hints.numbers) is here point u_is clause_is
      (c.low_of.ensures.all (c.is_kept-2.ensures ∙ kept)) within (c.in_ok-point.ensures.chain (c.new-hints.ensures.kept ∙ c.is_kept.ensures ∙ kept))

ready_is : (c : After-facts) → c.self.inside.watch.ready ≡ true
ready_is c = ap (λ b. b.ready) (board c) ∙ c.requires.ready.ready

pub learn-requires-clause-learnt : goal.learn-requires-clause-learnt
learn-requires-clause-learnt c =
    let d = (goal.at.learn-requires-clause-learnt c).In_ok-push in
    let e = (goal.at.learn-requires-clause-learnt c).After-facts in
    subst (λ x. IsLearnt (take (start_of c.self.inside.watch.levels c.aim-target.result.level) c.self.inside.watch.past.literals) (take c.aim-target.result.level c.self.inside.watch.levels) x c.negated-u.result c.aim-target.result.second) (sym c.as_slice-2.ensures)
    (learnt_is d c.facts.ensures (ready_is e) (omega arith))

pub learn-requires-clause-over : goal.learn-requires-clause-over
learn-requires-clause-over c =
    let d = (goal.at.learn-requires-clause-over c).In_ok-push in
    let e = (goal.at.learn-requires-clause-over c).After-facts in
    subst (AreOver c.self.inside.watch.variables) (sym c.as_slice-2.ensures) (over_is d c.facts.ensures (ready_is e) (omega arith))

pub learn-requires-clause-follows : goal.learn-requires-clause-follows
learn-requires-clause-follows c =
    let d = (goal.at.learn-requires-clause-follows c).In_ok-push in
    let e = (goal.at.learn-requires-clause-follows c).After-facts in
    subst (Follows c.self.inside.watch.clauses) (sym c.as_slice-2.ensures) (follows_is d c.facts.ensures (ready_is e) (omega arith))

pub learn-requires-clause-step : goal.learn-requires-clause-step
learn-requires-clause-step c = λ kept.
    let d = (goal.at.learn-requires-clause-step c).In_ok-push in
    let e = (goal.at.learn-requires-clause-step c).After-facts in
    let b = c.self.inside.watch in
    let n : ℕ = greatest_of (added_of c.self.inside.learnt_at.items b.clauses) in
    let step : IsStep b.clauses n (length b.clauses + 1) c.push.new.self.items (reverse c.trace.new.hints.numbers) = step_is d c.facts.ensures (ready_is e) (omega arith) n kept (c.self.invariant.logged kept).over in
    rw (c.as_slice-2.ensures, c.numbers.ensures, c.turn.ensures) step

pub returns-in_err-learn-clause-ready : goal.returns-in_err-learn-clause-ready
returns-in_err-learn-clause-ready c =
    let e = (goal.at.returns-in_err-learn-clause-ready c).After-facts in
    record {
      ready = c.learn.ensures.still;
      over = subst (λ n. AreOver n c.args.assumptions.now) (sym (c.learn.ensures.variables ∙ ap (λ b. b.variables) (board e))) c.requires.ready.over;
      assumed = subst (AreAssumed c.args.assumptions.now) (sym c.learn.ensures.levels) (assumed_back c.args.assumptions.now c.self.inside.watch.levels c.aim-target.result.level (omega (arith, c.aim-target.ensures.within)) (assumed e));
    }

pub returns-clause-ready : goal.returns-clause-ready
returns-clause-ready c =
    let e = (goal.at.returns-clause-ready c).After-facts in
    let first = assumed_back c.args.assumptions.now c.self.inside.watch.levels c.aim-target.result.level (omega (arith, c.aim-target.ensures.within)) (assumed e) in
    let second = subst (AreAssumed c.args.assumptions.now) (sym c.learn.ensures.levels) first in
    let (n, within, back) = c.restart.ensures.levels in
    record {
      ready = c.restart.ensures.ready;
      over = subst (λ n. AreOver n c.args.assumptions.now) (sym (c.restart.ensures.variables ∙ c.learn.ensures.variables ∙ ap (λ b. b.variables) (board e))) c.requires.ready.over;
      assumed = subst (AreAssumed c.args.assumptions.now) (sym back) (assumed_back c.args.assumptions.now c.learn.new.self.board.levels n within second);
    }

pub returns-clause-turn : goal.returns-clause-turn
returns-clause-turn c =
    let d = (goal.at.returns-clause-turn c).In_ok-push in
    let e = (goal.at.returns-clause-turn c).After-facts in
    let same : c.self.inside.watch.clauses ≡ c.args.self.now.board.clauses = ap (λ b. b.clauses) (board e) in
    let clause = c.push.new.self.items in (
      clause,
      c.restart.ensures.learnt ∙ c.in_ok-learn.ensures.ok ∙ ap (λ s. s.learnt ++ c.as_slice-2.result.now ∷ []) c.self.view_is ∙ ap (λ x. c.args.self.now.learnt ++ x ∷ []) c.as_slice-2.ensures,
      subst (λ x. Follows x clause) same (follows_is d c.facts.ensures (ready_is e) (omega arith)),
      subst (λ x. ¬ IsAbsorbed x clause) same (new_is d c.facts.ensures (ready_is e) (omega arith)),
      subst (λ n. AreOver n clause) (ap (λ b. b.variables) (board e)) (over_is d c.facts.ensures (ready_is e) (omega arith)),
      subst (λ x. ¬ Settles x c.args.assumptions.now) same (unsettled_levels c.self.inside.watch c.args.assumptions.now c.facts.ensures (ready_is e) (assumed e) (omega (arith, c.levels-level.ensures))),
    )
