use Rattle.std.proofs.Common.{◌≡◌, ◌+◌, ◌++◌, ◌∷◌, [], sym, ap, ◌∙◌, arith, length, get_or, refl, List, subst, take}
use Rattle.std.specs.Prelude.{ℤ, pos, Contains}
use Rattle.std.proofs.lemmas.List.{length_push, take_all, get_or_push, get_or_append_left}
use Rattle.std.proofs.lemmas.List.Elements.{Contains-append_left, Contains-push}
use Rattle.l2_watch.specs.Visit.{items_of}
use Rattle.l2_watch.specs.Board.{IsKept}
use Rattle.l2_watch.proofs.Boards.{IsKept-decide, take_push}
use Rattle.l2_watch.proofs.board.Watch.decide.Goals as goal
use Rattle.l2_watch.proofs.board.Watch.decide.Goals.{After-is_true}

levels_are : (c : After-is_true) → c.push.new.self.items ≡ c.self.inside.levels.items ++ (length c.self.inside.history.literals, c.args.l) ∷ []
levels_are c = c.in_ok-push.ensures.items ∙ ap (λ n. c.self.inside.levels.items ++ (n, c.args.l) ∷ []) c.len-start.ensures.len

seen_is : (c : After-is_true) → c.self.inside.seen ≡ length c.self.inside.history.literals
seen_is c = ap (λ b. b.seen) c.self.view_is ∙ c.requires.seen ∙ sym (ap (λ b. length b.past.literals) c.self.view_is)

pub invariant_of-self-then-not-is_true : goal.invariant_of-self-then-not-is_true
invariant_of-self-then-not-is_true c =
    let was = c.self.inside in
    let d = (goal.at.invariant_of-self-then-not-is_true c).After-is_true in
    let old : List ℤ = was.history.literals in
    let le = c.push-then-not-is_true.ensures.literals in
    let re = c.push-then-not-is_true.ensures.reasons in
    let n : length c.push-then-not-is_true.new.self.literals ≡ length old + 1 = ap length le ∙ length_push old c.args.l in (
      subst (λ x. IsKept was.clauses was.variables was.pairs.items (items_of was.lists.items) c.push-then-not-is_true.new.self x was.seen was.ready) (sym (levels_are d))
          (IsKept-decide was.clauses was.variables was.pairs.items (items_of was.lists.items) was.history c.push-then-not-is_true.new.self was.levels.items was.seen was.ready c.args.l c.self.invariant.0 (seen_is d) c.push-then-not-is_true.ensures.variables
          (ap (take (length old)) le ∙ take_push old c.args.l (length old) (omega arith) ∙ take_all (length old) old (omega arith))
          (omega (arith, n))
          (λ m h. subst (λ x. Contains x m) (sym le) (Contains-append_left old (c.args.l ∷ []) m h))
          (subst (λ x. Contains x c.args.l) (sym le) (Contains-push old c.args.l))
          (λ k h. ap (λ x. get_or x k 0) re ∙ get_or_append_left was.history.reasons (0 ∷ []) 0 k (omega (arith, h, c.len-start.ensures.count)))
          (λ k low high.
          let at : k ≡ length old = omega (arith, low, high, n) in
          (at, ap (λ x. get_or x k (pos 0)) le ∙ get_or_push old c.args.l (pos 0) k (sym at), ap (λ x. get_or x k 0) re ∙ get_or_push was.history.reasons 0 0 k (omega (arith, at, c.len-start.ensures.count))))),
      c.self.invariant.1,
      c.self.invariant.2,
    )

pub invariant_of-self-else-not-is_true : goal.invariant_of-self-else-not-is_true
invariant_of-self-else-not-is_true c =
    let was = c.self.inside in
    let d = (goal.at.invariant_of-self-else-not-is_true c).After-is_true in
    let old : List ℤ = was.history.literals in (
      subst (λ x. IsKept was.clauses was.variables was.pairs.items (items_of was.lists.items) was.history x was.seen was.ready) (sym (levels_are d))
          (IsKept-decide was.clauses was.variables was.pairs.items (items_of was.lists.items) was.history was.history was.levels.items was.seen was.ready c.args.l c.self.invariant.0 (seen_is d) refl
          (take_all (length old) old (omega arith))
          (omega arith)
          (λ m h. h)
          (c.is_true.ensures.0 c.if-not-is_true.false)
          (λ k h. refl)
          (λ k low high. absurd (omega (arith, low, high)))),
      c.self.invariant.1,
      c.self.invariant.2,
    )
