use Rattle.l2_program.specs.Programs.{program_tree}
use Rattle.l2_code.specs.Trees.{code_of}
use Rattle.l2_kiki.specs.declared.decision.Decision.TheVariants.{Unwind, Size}
use Rattle.l2_verify_answer.proofs.Arms as arms
use Rattle.l2_verify_answer.proofs.Told.{plain_so}
use Rattle.l2_verify_answer.proofs.deciding.said.Goals as goal

pub safe_verdict-requires-clause-domain : goal.safe_verdict-requires-clause-domain
safe_verdict-requires-clause-domain c = arms.safe_domain (program_tree c.args.program.now) (code_of c.args.code.now) c.args.sets.now c.args.domain c.args.mode c.args.unwind c.requires.begun c.requires.bounds c.args.decision c.in-Safe.k c.in-Safe.point c.requires.answered c.in-Safe.is

pub unsafe_text-requires-clause-listed : goal.unsafe_text-requires-clause-listed
unsafe_text-requires-clause-listed c = arms.unsafe_listed (program_tree c.args.program.now) (code_of c.args.code.now) c.args.sets.now c.args.domain c.args.mode c.args.unwind c.requires.begun c.requires.bounds c.broken_checks_are_listed.ensures c.args.decision c.in-Unsafe.k c.in-Unsafe.found c.requires.answered c.in-Unsafe.is

pub ending_verdict-requires-clause-domain : goal.ending_verdict-requires-clause-domain
ending_verdict-requires-clause-domain c = arms.ending_domain (program_tree c.args.program.now) (code_of c.args.code.now) c.args.sets.now c.args.domain c.args.mode c.args.unwind c.requires.begun c.requires.bounds c.args.decision c.in-Terminating.k c.in-Terminating.point c.in-Terminating.ranks c.requires.answered c.in-Terminating.is

pub ending_verdict-requires-clause-ranked : goal.ending_verdict-requires-clause-ranked
ending_verdict-requires-clause-ranked c = arms.ending_ranked (program_tree c.args.program.now) (code_of c.args.code.now) c.args.sets.now c.args.domain c.args.mode c.args.unwind c.requires.begun c.requires.bounds c.terminating_law.ensures c.args.decision c.in-Terminating.k c.in-Terminating.point c.in-Terminating.ranks c.requires.answered c.in-Terminating.is

pub ending_verdict-requires-clause-candidates : goal.ending_verdict-requires-clause-candidates
ending_verdict-requires-clause-candidates c = arms.ending_candidates (program_tree c.args.program.now) (code_of c.args.code.now) c.args.sets.now c.args.domain c.args.mode c.args.unwind c.requires.begun c.requires.bounds c.args.decision c.in-Terminating.k c.in-Terminating.point c.in-Terminating.ranks c.requires.answered c.in-Terminating.is

pub returns-in_ok-unwind_text-in-Unwind : goal.returns-in_ok-unwind_text-in-Unwind
returns-in_ok-unwind_text-in-Unwind c =
    plain_so (program_tree c.args.program.now) c.args.decision (Unwind c.in-Unwind.k) tt c.in-Unwind.is c.args.wanted c.in_ok-unwind_text-in-Unwind.field-0 c.alone-in-Unwind.result.answer c.alone-in-Unwind.ensures.answer
    (c.in_ok-unwind_text-in-Unwind.ensures (program_tree c.args.program.now)) _ c.alone-in-Unwind.ensures.certificate

pub returns-in_ok-size_text-in-Size : goal.returns-in_ok-size_text-in-Size
returns-in_ok-size_text-in-Size c =
    plain_so (program_tree c.args.program.now) c.args.decision (Size c.in-Size.k) tt c.in-Size.is c.args.wanted c.in_ok-size_text-in-Size.field-0 c.alone-in-Size.result.answer c.alone-in-Size.ensures.answer
    (c.in_ok-size_text-in-Size.ensures (program_tree c.args.program.now)) _ c.alone-in-Size.ensures.certificate
