use Rattle.l2_program.specs.Programs.{program_tree}
use Rattle.l2_code.specs.Trees.{code_of}
use Rattle.l2_code.specs.Sets.{family}
use Rattle.l2_cert.specs.declared.cert.CertKind.TheVariants.{Terminating}
use Rattle.l2_certificates.proofs.Answering.{small, file}
use Rattle.l2_ending_certificates.proofs.Ranked.{are_candidates}
use Rattle.l2_ending_certificates.proofs.Answering.{none}
use Rattle.l2_ending_certificates.proofs.files.terminating_file.Goals as goal

pub certify_terminating-requires-clause-small : goal.certify_terminating-requires-clause-small
certify_terminating-requires-clause-small c = small (program_tree c.args.program.now) (code_of c.args.code.now) (family c.args.sets.now) c.args.k c.args.point c.requires.domain

pub unreachable-requires : goal.unreachable-requires
unreachable-requires c =
    none (program_tree c.args.program.now) (code_of c.args.code.now) c.args.sets.now c.args.k c.args.point c.args.ranks c.formulas_are_runs.ensures c.watch_law.ensures.weaker c.bounded_law.ensures.turns c.meet_law.ensures.infers
    c.requires.lawful c.requires.code c.requires.some c.if-not-is_point_of.ensures c.if-not-are_rankings_of.ensures c.requires.ranked c.in_ok-cert.field-0 c.in_ok-cert.ensures c.in-None.is

pub returns : goal.returns
returns c =
    file (λ v. v.items) Terminating (program_tree c.args.program.now) (code_of c.args.code.now) c.args.sets.now c.args.k c.args.point c.args.ranks c.requires.lawful c.requires.code c.requires.domain c.names_law.ensures (are_candidates (program_tree c.args.program.now) c.args.ranks c.requires.candidates)
    c.in_ok-cert.field-0 c.in-Some.cert _ c.in_ok-cert.ensures c.in-Some.is c.write.result c.write.ensures
