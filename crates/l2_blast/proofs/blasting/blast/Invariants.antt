use Rattle.std.proofs.Common.{◌≡◌, [], drop}
use Rattle.l2_code.specs.Trees.{code_of}
use Rattle.l2_code.specs.Sets.{family}
use Rattle.l2_ssa.specs.Views.{steps_of}
use Rattle.l2_blast.specs.Blasting.{blast}
use Rattle.l2_blast.specs.Kept.{setting_of}
use Rattle.l2_blast.proofs.blasting.blast.Given as goal

abbrev pub invariant-loop-step : goal.invariant-loop-step
invariant-loop-step g l =
    let s = setting_of (code_of l.code) (g.F.Fill.fill l.fill) in
    let f = family l.ssa.sets.now in
    blast s (steps_of f (drop l.step-index l.ssa.steps.items)) l.words l.gates ≡ blast s (steps_of f l.ssa.steps.items) [] l.initial.gates
