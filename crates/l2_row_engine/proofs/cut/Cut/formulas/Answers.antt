use Rattle.std.proofs.Common.{length, subst}
use Rattle.std.specs.Prelude.{IfOk}
use Rattle.l2_program.specs.Programs.{program_tree}
use Rattle.l2_code.specs.Trees.{code_of}
use Rattle.l2_code.specs.Sets.{family}
use Rattle.l2_row_engine.specs.Cutting.{CutProgram, TellRuns}
use Rattle.l2_row_engine.proofs.Answering.{told}
use Rattle.l2_row_engine.proofs.cut.Cut.formulas.Goals as goal

pub returns : goal.returns
returns c =
    subst (λ (x : CutProgram). IfOk c.formulas_at.result (λ g. TellRuns (program_tree x.program) (family x.sets).object x.copies c.args.point.now (length x.code.checks) g.base g.last)) c.self.view_is
    (told c.goals_tell.ensures c.formulas_at.result (program_tree c.self.inside.program.now) (code_of c.self.inside.code.now) c.self.inside.sets.now c.self.inside.copies c.args.point.now c.self.invariant.belongs c.self.invariant.some c.if-not-is_point_of.ensures c.formulas_at.ensures)
