use Rattle.std.proofs.Common.{◌≡◌, ℕ, true, subst, sym}
use Rattle.l2_inclusions.proofs.settle.Numbers.take_node.Goals as goal

pub returns-after-loop : goal.returns-after-loop
returns-after-loop c = λ w q leads moves node all.
    c.loop.invariant w q leads moves node (c.in_ok-take.ensures q (subst (λ (k : ℕ). q k ≡ true) (sym c.number.ensures.value) (moves c.args.node node)) all)

pub returns-then-edge-eq0 : goal.returns-then-edge-eq0
returns-then-edge-eq0 c = λ w q leads moves node all.
    c.loop.invariant w q leads moves node (c.in_ok-take.ensures q (subst (λ (k : ℕ). q k ≡ true) (sym c.number.ensures.value) (moves c.args.node node)) all)
