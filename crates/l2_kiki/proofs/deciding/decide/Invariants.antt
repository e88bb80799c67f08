use Rattle.std.proofs.Common.{◌-◌}
use Rattle.l2_kiki.specs.Answers.{IsOpen}
use Rattle.l2_kiki.proofs.Steps.{IsAsked}
use Rattle.l2_kiki.proofs.deciding.decide.Given as goal

abbrev pub invariant-loop-k : goal.invariant-loop-k
invariant-loop-k g l =
    IsAsked (g.I.Infer.problem l.fn.engine) (g.I.Infer.problem l.engine) (g.I.Infer.at l.engine) (g.I.Infer.is_halted l.engine) (g.I.Infer.is_ranked l.engine) l.mode l.limit l.k
    (IsOpen (g.I.Infer.is_too_large (g.I.Infer.problem l.fn.engine)) (g.I.Infer.breaks (g.I.Infer.problem l.fn.engine)) (g.I.Infer.is_break (g.I.Infer.problem l.fn.engine)) (g.I.Infer.is_strongest (g.I.Infer.problem l.fn.engine)) (g.I.Infer.proves_at (g.I.Infer.problem l.fn.engine)) (g.I.Infer.ranks_are (g.I.Infer.problem l.fn.engine)) l.mode)

abbrev pub decreases-loop-k : goal.decreases-loop-k
decreases-loop-k g l = l.limit - l.k
