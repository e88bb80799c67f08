use Rattle.std.proofs.Common.{◌≡◌, sym, ap, ◌∙◌, arith, false}
use Rattle.l2_watch.proofs.Entries.{items_length}
use Rattle.l2_watch.specs.Visit.{items_of}
use Rattle.l2_watch.proofs.Boards.{IsKept-cover, IsKept-more}
use Rattle.l2_watch.proofs.board.Watch.cover.Goals as goal

pub invariant_of-self-then-var-self : goal.invariant_of-self-then-var-self
invariant_of-self-then-var-self c =
    let was = c.self-then-var-self.inside in
    let idle : was.ready ≡ false = ap (λ b. b.ready) c.self-then-var-self.view_is ∙ c.reset.ensures.ready in
    let same : was.variables ≡ c.self.inside.variables = ap (λ b. b.variables) c.self-then-var-self.view_is ∙ c.reset.ensures.variables ∙ sym (ap (λ b. b.variables) c.self.view_is) in (
      IsKept-cover was.clauses was.variables c.args.var was.pairs.items (items_of was.lists.items) (items_of c.widen.new.lists.items) was.history was.levels.items was.seen was.ready c.self-then-var-self.invariant.0 c.widen.ensures.more
          (omega (arith, c.widen.ensures.longer, items_length was.lists.items, items_length c.widen.new.lists.items))
          (omega (arith, same, c.if-var-self.true)) (omega arith) (omega (arith, c.in_ok-widen.ensures.len, items_length c.widen.new.lists.items)) idle,
      c.widen.ensures.entered was.clauses c.self-then-var-self.invariant.1,
      c.self-then-var-self.invariant.2,
    )

pub invariant_of-self : goal.invariant_of-self
invariant_of-self c =
    let was = c.self-then-var-self.inside in (
      IsKept-more was.clauses was.variables was.pairs.items (items_of was.lists.items) (items_of c.widen.new.lists.items) was.history was.levels.items was.seen was.ready c.self-then-var-self.invariant.0 c.widen.ensures.more
          (omega (arith, c.widen.ensures.longer, items_length was.lists.items, items_length c.widen.new.lists.items)),
      c.widen.ensures.entered was.clauses c.self-then-var-self.invariant.1,
      c.self-then-var-self.invariant.2,
    )
