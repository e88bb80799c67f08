use Rattle.std.proofs.Common.{◌≡◌, ◌-◌, suc, length}
use Rattle.l2_walker.specs.Made.{state_of}
use Rattle.l2_walker.proofs.walker.Walker.reach.Given as goal

abbrev pub invariant-loop-self : goal.invariant-loop-self
invariant-loop-self l = state_of l.self ≡ state_of l.initial.self

abbrev pub decreases-loop-self : goal.decreases-loop-self
decreases-loop-self l = suc l.temp - length l.self.temps.items
