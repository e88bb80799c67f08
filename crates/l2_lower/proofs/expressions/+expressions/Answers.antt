use Rattle.std.proofs.Common.{◌≡◌, ◌≢◌, ◌+◌, ◌<◌, subst, sym}
use Rattle.l2_code.specs.Sizes.{instructions}
use Rattle.l2_lower.specs.declared.error.LowerError.TheVariants.{NoMemory}
use Rattle.l2_program.specs.Checked.{typed_tree}
use Rattle.l2_program.specs.Programs.{program_tree}
use Rattle.l2_program.specs.Types.{type_of}
use Rattle.l2_meaning.specs.Execution.{cells_of}
use Rattle.l2_lower.specs.Emitting.{truth_code, unary_code, conversion, expression}
use Rattle.l2_lower.specs.Output.{output, most_instructions, Emits}
use Rattle.l2_lower.proofs.Outputs.{too_much}
use Rattle.l2_lower.proofs.OperandTypes.{operand_given}
use Rattle.l2_lower.proofs.expressions.+expressions.Goals as goal

pub condition-returns-in_err-a : goal.condition-returns-in_err-a
condition-returns-in_err-a t c =
    let x = expression c.args.at.now.next (typed_tree c.args.e.now) in
    too_much _ x.nodes (truth_code x.next (type_of (typed_tree c.args.e.now)) x.operand).nodes _ (output c.args.out.now.items c.args.at.now) (output c.number.new.out.items c.number.new.at) c.in_err-a.field-0.0 c.from_residual.result c.from_residual.ensures.0 c.from_residual.ensures.1 c.in_err-a.ensures.emits

pub expression-returns-in_err-a-in-Unary : goal.expression-returns-in_err-a-in-Unary
expression-returns-in_err-a-in-Unary t c =
    let old = output c.args.out.now.items c.args.at.now in
    let new = output c.number.new.out.items c.number.new.at in
    let x = expression c.args.at.now.next (typed_tree c.in-Unary.e.value) in
    subst (λ e. Emits (expression c.args.at.now.next (typed_tree e)).nodes (expression c.args.at.now.next (typed_tree e)).next (λ d. d ≡ (expression c.args.at.now.next (typed_tree e)).operand) old new c.from_residual.result) (sym c.in-Unary.is)
    (too_much _ x.nodes (unary_code x.next c.in-Unary.op c.in-Unary.ty c.in-Unary.c x.operand).nodes _ old new c.in_err-a-in-Unary.field-0.0 c.from_residual.result c.from_residual.ensures.0 c.from_residual.ensures.1
    (subst (λ z. c.in_err-a-in-Unary.field-0.0 ≢ NoMemory → most_instructions < c.args.at.now.count + instructions (expression c.args.at.now.next (typed_tree z)).nodes) c.deref.ensures c.in_err-a-in-Unary.ensures.emits))

pub expression-returns-in_err-a-in-Convert : goal.expression-returns-in_err-a-in-Convert
expression-returns-in_err-a-in-Convert t c =
    let old = output c.args.out.now.items c.args.at.now in
    let new = output c.number-in-Convert.new.out.items c.number-in-Convert.new.at in
    let inner = typed_tree c.in-Convert.e.value in
    let x = expression c.args.at.now.next inner in
    subst (λ e. Emits (expression c.args.at.now.next (typed_tree e)).nodes (expression c.args.at.now.next (typed_tree e)).next (λ d. d ≡ (expression c.args.at.now.next (typed_tree e)).operand) old new c.from_residual-in_err-a-in-Convert.result) (sym c.in-Convert.is)
    (too_much _ x.nodes (conversion x.next (type_of inner) c.in-Convert.ty x.operand).nodes _ old new c.in_err-a-in-Convert.field-0.0 c.from_residual-in_err-a-in-Convert.result c.from_residual-in_err-a-in-Convert.ensures.0 c.from_residual-in_err-a-in-Convert.ensures.1
    (subst (λ z. c.in_err-a-in-Convert.field-0.0 ≢ NoMemory → most_instructions < c.args.at.now.count + instructions (expression c.args.at.now.next (typed_tree z)).nodes) c.deref-in-Convert-2.ensures c.in_err-a-in-Convert.ensures.emits))

pub number-returns-clause-fits : goal.number-returns-clause-fits
number-returns-clause-fits t c =
    operand_given (cells_of (program_tree c.args.p.now)) (typed_tree c.args.e.now) c.args.at.now.next c.args.ty c.requires.typed c.requires.integer c.expression.result _ _ (output c.args.out.now.items c.args.at.now) (output c.expression.new.out.items c.expression.new.at) c.expression.ensures
