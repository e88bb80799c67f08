use Rattle.std.proofs.Common.{[]}
use Rattle.l2_program.specs.Programs.{program_tree}
use Rattle.l2_code.specs.Trees.{code_of}
use Rattle.l2_code.specs.Sets.{family}
use Rattle.l2_cert.specs.declared.cert.CertKind.TheVariants.{Safe}
use Rattle.l2_certificates.proofs.Answering.{small, none, file, none_candidates}
use Rattle.l2_certificates.proofs.files.safe_file.Goals as goal

pub certify_safe-requires-clause-small : goal.certify_safe-requires-clause-small
certify_safe-requires-clause-small c = small (program_tree c.args.program.now) (code_of c.args.code.now) (family c.args.sets.now) c.args.k c.args.point c.requires.domain

pub unreachable-requires : goal.unreachable-requires
unreachable-requires c =
    none (program_tree c.args.program.now) (code_of c.args.code.now) c.args.sets.now c.args.k c.args.point c.formulas_are_runs.ensures c.bounded_law.ensures.proves c.requires.lawful c.requires.code c.requires.some c.if-not-is_point_of.ensures c.requires.proves c.in_ok-cert.field-0 c.in_ok-cert.ensures c.in-None.is

pub returns : goal.returns
returns c =
    file (λ v. v.items) Safe (program_tree c.args.program.now) (code_of c.args.code.now) c.args.sets.now c.args.k c.args.point [] c.requires.lawful c.requires.code c.requires.domain c.names_law.ensures (none_candidates (program_tree c.args.program.now))
    c.in_ok-cert.field-0 c.in-Some.cert _ c.in_ok-cert.ensures c.in-Some.is c.write.result c.write.ensures
