use Rattle.std.proofs.Common.{ap, sym, ◌∙◌, ◌∷◌, [], ◌++◌, suc}
use Rattle.l2_program.specs.Programs.{program_tree}
use Rattle.l2_code.specs.Trees.{code_of}
use Rattle.l2_code.specs.Sets.{family}
use Rattle.l2_rank_laws.specs.Moves.{SomeMove}
use Rattle.l2_turn_engine.specs.Lists.{only_at}
use Rattle.l2_turn_engine.proofs.Asked as asked
use Rattle.l2_turn_engine.proofs.asking.moves_at.Goals as goal

pub is_missed-requires-clause-inside : goal.is_missed-requires-clause-inside
is_missed-requires-clause-inside c =
    (asked.moves (program_tree c.args.cut.now.program) (code_of c.args.cut.now.code) (code_of c.code-code.result.now) c.args.cut.now.sets c.code-code.ensures.belongs (ap code_of c.code-code.ensures.is) c.args.cut.now.copies c.code-code.ensures.some c.args.point.now c.if-not-is_point_of.ensures c.args.i c.requires.within c.requires.ranked
    c.turns_tell.ensures.moves c.args.equal.now c.push.new.self.items c.deref.result.now c.args.form c.args.rises c.in_ok-all.all c.in_ok-others.others (c.in_ok-push.ensures.items ∙ ap (λ fs. fs ++ c.args.form ∷ []) c.in_ok-forms.ensures.items) c.deref.ensures.value c.if-not-are_forms_of.ensures (c.in_ok-all.ensures ∙ ap (only_at c.args.i) (c.deref-2.ensures.value ∙ sym c.deref.ensures.value)) c.in_ok-others.ensures c.in_ok-goals.goals c.in_ok-goals.ensures).0

pub returns : goal.returns
returns c =
    asked.told c.is_missed.result c.in_ok-goals.goals c.args.point.now c.args.i (SomeMove (program_tree c.args.cut.now.program) (family c.args.cut.now.sets).object c.args.cut.now.copies c.args.point.now (suc c.args.i) c.args.equal.now c.args.form c.args.rises)
    (asked.moves (program_tree c.args.cut.now.program) (code_of c.args.cut.now.code) (code_of c.code-code.result.now) c.args.cut.now.sets c.code-code.ensures.belongs (ap code_of c.code-code.ensures.is) c.args.cut.now.copies c.code-code.ensures.some c.args.point.now c.if-not-is_point_of.ensures c.args.i c.requires.within c.requires.ranked
    c.turns_tell.ensures.moves c.args.equal.now c.push.new.self.items c.deref.result.now c.args.form c.args.rises c.in_ok-all.all c.in_ok-others.others (c.in_ok-push.ensures.items ∙ ap (λ fs. fs ++ c.args.form ∷ []) c.in_ok-forms.ensures.items) c.deref.ensures.value c.if-not-are_forms_of.ensures (c.in_ok-all.ensures ∙ ap (only_at c.args.i) (c.deref-2.ensures.value ∙ sym c.deref.ensures.value)) c.in_ok-others.ensures c.in_ok-goals.goals c.in_ok-goals.ensures) c.is_missed.ensures
