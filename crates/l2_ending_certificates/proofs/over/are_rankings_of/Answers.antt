use Rattle.l2_code.specs.Trees.{code_of}
use Rattle.l2_ending_certificates.proofs.Ranked.{over_told}
use Rattle.l2_ending_certificates.proofs.over.are_rankings_of.Goals as goal

pub returns : goal.returns
returns c = over_told (code_of c.args.code.now) c.args.ranks.now c.are_over_loops.result c.as_slice.result.now c.as_slice.ensures c.are_over_loops.ensures
