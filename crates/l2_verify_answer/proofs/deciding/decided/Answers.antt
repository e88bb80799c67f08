use Rattle.l2_program.specs.Programs.{program_tree}
use Rattle.l2_code.specs.Trees.{code_of}
use Rattle.l2_verify_answer.proofs.Told.{decided_so}
use Rattle.l2_verify_answer.proofs.deciding.decided.Goals as goal

pub returns : goal.returns
returns c =
    decided_so c.args.mode c.args.unwind c.args.domain c.args.wanted (program_tree c.args.program.now) (code_of c.args.code.now) c.args.sets.now c.in_ok-decision.decision c.requires.begun c.in_ok-decision.ensures c.said.result c.said.ensures
