use Rattle.std.proofs.Common.{◌≡◌, ℕ, true, subst, sym}
use Rattle.l2_inclusions.proofs.settle.Numbers.take_end.Goals as goal

pub returns-in_ok-take : goal.returns-in_ok-take
returns-in_ok-take c = λ w q leads moves node all.
    c.in_ok-take.ensures q (subst (λ (k : ℕ). q k ≡ true) (sym c.number.ensures.value) (moves c.in-Some.end (c.in-Some.ensures w leads node))) all
