use Rattle.std.proofs.Common.{arith, ◌<◌, ◌∙◌, ap}
use Rattle.l2_ssa.specs.Walks.{with_temp}
use Rattle.l2_walker.specs.Made.{state_of, standing}
use Rattle.l2_walker.proofs.Temps.{temps_set}
use Rattle.l2_walker.proofs.walker.Walker.set_temp.Goals as goal

pub returns : goal.returns
unfolding state_of
returns c =
    let s = state_of c.reach.new.self in
    let there : c.args.temp < c.reach.new.self.temps.len = c.in_ok-reach.ensures.there in
    ap (λ f. standing s (record s.walk { temps = f })) (temps_set c.reach.new.self.temps.items c.args.temp c.args.value (omega (arith, there, c.reach.new.self.temps.ok.0)))
    ∙ ap (λ s. standing s (with_temp s.walk c.args.temp c.args.value)) c.in_ok-reach.ensures.same
