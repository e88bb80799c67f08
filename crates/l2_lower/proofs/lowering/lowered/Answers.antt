use Rattle.std.proofs.Common.{ap, arith}
use Rattle.l2_program.specs.Programs.{program_tree}
use Rattle.l2_meaning.specs.Execution.{cells_of, main_among}
use Rattle.l2_code.specs.Sizes.{instructions}
use Rattle.l2_lower.specs.Code.{main_code}
use Rattle.l2_lower.specs.Output.{Counts}
use Rattle.l2_lower.proofs.lowering.lowered.Goals as goal

pub returns-clause-few : goal.returns-clause-few
returns-clause-few c =
    let p = program_tree c.args.program.now in
    let e = ap (λ o. o.count) c.in_ok-program_code.ensures.1 in
    let z = ap (λ (x : Counts). x.count) c.new-at.ensures in
    let n = ap (λ (x : Counts). instructions (main_code (cells_of p) x.next (main_among p.names p.functions)).nodes) c.new-at.ensures in
    let f = c.temps.ensures.few in
    omega arith
