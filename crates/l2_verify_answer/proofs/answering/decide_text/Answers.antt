use Rattle.std.proofs.Common.{sym, subst}
use Rattle.l2_program.specs.Programs.{program_tree}
use Rattle.l2_status.specs.declared.status.Answer.{Answer}
use Rattle.l2_status.specs.Texts.{IsRefused}
use Rattle.l2_verify_answer.proofs.Texts.{thresholds_known}
use Rattle.l2_verify_answer.proofs.Told.{text_so, refused_so}
use Rattle.l2_verify_answer.proofs.answering.decide_text.Goals as goal

pub decided_program-requires-clause-bounds : goal.decided_program-requires-clause-bounds
decided_program-requires-clause-bounds c = thresholds_known c.thresholds_rise.ensures.rise c.thresholds_rise.ensures.zero c.args.text.now (program_tree c.in-Ok.loaded.program) c.in-Ok.ensures.ok

pub returns-in-Ok : goal.returns-in-Ok
returns-in-Ok c = text_so c.args.mode c.args.text.now c.args.unwind c.args.domain c.args.wanted (program_tree c.in-Ok.loaded.program) c.in-Ok.ensures.ok c.decided_program.result c.decided_program.ensures

pub returns-in_ok-refused-in-Err : goal.returns-in_ok-refused-in-Err
returns-in_ok-refused-in-Err c =
    refused_so c.args.mode c.args.text.now c.args.unwind c.args.domain c.args.wanted c.in-Err.fault c.alone.result.answer.status c.alone.result.answer.output.items _ c.in-Err.ensures.refused
    (subst (λ (z : Answer). IsRefused c.in-Err.fault z.status z.output.items) (sym c.alone.ensures.answer) c.in_ok-refused-in-Err.ensures) c.alone.ensures.certificate
