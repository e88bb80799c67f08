use Rattle.std.proofs.Common.{sym, ap, ◌∙◌, subst}
use Rattle.l2_program.specs.Programs.{program_tree}
use Rattle.l2_front.specs.Codes.{Kept}
use Rattle.l2_kiki.specs.declared.decision.Decision.TheVariants.{Size}
use Rattle.l2_status.specs.declared.status.Answer.{Answer}
use Rattle.l2_verdict_text.specs.Texts.{Says}
use Rattle.l2_verify_answer.proofs.Told.{too_large_so}
use Rattle.l2_verify_answer.proofs.deciding.decided_program.Goals as goal

pub returns-in_ok-size_text-in-None : goal.returns-in_ok-size_text-in-None
returns-in_ok-size_text-in-None c =
    too_large_so c.args.loaded.now c.whole.ensures (sym (ap (λ (k : Kept). k.code) c.loaded.view_is) ∙ c.in-None.is) c.args.mode c.args.unwind c.args.domain c.args.wanted c.alone.result.answer.status c.alone.result.answer.output.items _
    (subst (λ (z : Answer). Says (program_tree c.args.loaded.now.program) (Size 1) z.status z.output.items) (sym c.alone.ensures.answer) (c.in_ok-size_text-in-None.ensures (program_tree c.args.loaded.now.program))) c.alone.ensures.certificate
