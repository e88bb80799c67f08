use Rattle.std.proofs.Common.{◌≡◌, sym, subst}
use Rattle.std.specs.Prelude.{Result, Ok, Err, IfOk}
use Rattle.l2_program.specs.Programs.{ProgramTree, program_tree}
use Rattle.l2_meaning.specs.Lawful.{IsLawful}
use Rattle.l2_code.specs.declared.code.Code.{Code}
use Rattle.l2_code.specs.Trees.{code_of}
use Rattle.l2_code.specs.WellFormed.{IsWellFormed}
use Rattle.l2_lower.specs.declared.error.LowerError.{LowerError}
use Rattle.l2_lower.specs.Code.{code}
use Rattle.l2_lower.proofs.WellFormedCode.{code_well_formed}
use Rattle.l2_lower.proofs.lowering.lower.Goals as goal

-- a result that is the code of a lawful program is well formed
well : (p : ProgramTree) → IsLawful p → (r : Result Code LowerError) → IfOk r (λ c. code_of c ≡ code p) → IfOk r (λ c. IsWellFormed (code_of c))
well p h (Ok c) e = subst (λ x. IsWellFormed x) (sym e) (code_well_formed p h)
well p h (Err f) e = tt

pub returns-clause-well_formed : goal.returns-clause-well_formed
returns-clause-well_formed c = well (program_tree c.args.program.now) c.requires c.lowered.result c.lowered.ensures.ok
