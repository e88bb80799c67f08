use Rattle.std.proofs.Common.{◌∙◌, ap}
use Rattle.l2_walker.specs.Made.{state_of, standing, temps_of}
use Rattle.l2_walker.proofs.Temps.{temps_grow}
use Rattle.l2_walker.proofs.walker.Walker.reach.Goals as goal

pub loop-self-preserved : goal.loop-self-preserved
unfolding state_of
loop-self-preserved c =
    let s = state_of c.loop-self.self in
    ap (λ xs. standing s (record s.walk { temps = temps_of xs })) c.in_ok-push.ensures.items
    ∙ ap (λ f. standing s (record s.walk { temps = f })) (temps_grow c.loop-self.self.temps.items)
    ∙ c.loop-self.invariant
