use Rattle.std.proofs.Common.{rules, ◌≡◌, true, not, Err, sym, ap, ◌∙◌, subst, to_z, of_z, SFits}
use Rattle.std.specs.Int.{w128}
use Rattle.std.proofs.lemmas.Int.{to_z-of_z}
use Rattle.l2_runs.specs.Operators.{binary, binary_overflows}
use Rattle.l2_runs.specs.Runs.{Go, check}
use Rattle.l2_program.specs.Checked.{typed_tree}
use Rattle.l2_meaning.specs.Meaning.{value, number}
use Rattle.l2_replay.specs.Reach.{value_of, setting, Does}
use Rattle.l2_replay.proofs.Results.{binary_goes, binary_fails, does_residual}
use Rattle.l2_replay.proofs.expressions.+expressions.Goals as goal

pub eval-returns-in_err-check-in-Binary-clause-does :
    goal.eval-returns-in_err-check-in-Binary-clause-does
eval-returns-in_err-check-in-Binary-clause-does t c =
    let g = setting c.args.p.now in
    let f = c.in_err-check-in-Binary.field-0.0 in
    let fa : SFits w128 c.in_ok-a-in-Binary.a = search rules in
    let fb : SFits w128 c.in_ok-b-in-Binary.b = search rules in
    let over : c.binary_overflows.result ≡ binary_overflows c.in-Binary.op c.in-Binary.ty c.in_ok-a-in-Binary.a c.in_ok-b-in-Binary.b =
    c.binary_overflows.ensures ∙ ap (λ x. binary_overflows c.in-Binary.op c.in-Binary.ty x (to_z w128 (of_z w128 c.in_ok-b-in-Binary.b))) (to_z-of_z w128 c.in_ok-a-in-Binary.a fa)
    ∙ ap (binary_overflows c.in-Binary.op c.in-Binary.ty c.in_ok-a-in-Binary.a) (to_z-of_z w128 c.in_ok-b-in-Binary.b fb) in
    does_residual value_of (value g true (typed_tree c.args.e.now)) c.args.m.now c.operand-in-Binary-2.new.m c.from_residual-in_err-check-in-Binary.result f
    c.from_residual-in_err-check-in-Binary.ensures.0 c.from_residual-in_err-check-in-Binary.ensures.1
    (subst (λ x. Does value_of (value g true (typed_tree x)) c.args.m.now c.operand-in-Binary-2.new.m (Err f)) (sym c.in-Binary.is)
    (binary_fails g c.in-Binary.op c.in-Binary.ty c.in-Binary.c (typed_tree c.in-Binary.x.value) (typed_tree c.in-Binary.y.value)
    c.args.m.now c.operand-in-Binary.new.m c.operand-in-Binary-2.new.m c.in_ok-a-in-Binary.a c.in_ok-b-in-Binary.b
    (subst (λ x. value g true (typed_tree x) c.args.m.now ≡ Go (number c.in_ok-a-in-Binary.a) c.operand-in-Binary.new.m) c.deref-in-Binary.ensures c.in_ok-a-in-Binary.ensures.does)
    (subst (λ x. value g true (typed_tree x) c.operand-in-Binary.new.m ≡ Go (number c.in_ok-b-in-Binary.b) c.operand-in-Binary-2.new.m) c.deref-in-Binary-2.ensures c.in_ok-b-in-Binary.ensures.does)
    value_of f
    (subst (λ b. Does {A = Unit {0}} (λ u. tt {0}) (check true c.in-Binary.c (not b)) c.operand-in-Binary-2.new.m c.operand-in-Binary-2.new.m (Err f)) over c.in_err-check-in-Binary.ensures)))

pub eval-returns-in_ok-check-in-Binary-clause-does :
    goal.eval-returns-in_ok-check-in-Binary-clause-does
eval-returns-in_ok-check-in-Binary-clause-does t c =
    let g = setting c.args.p.now in
    let fa : SFits w128 c.in_ok-a-in-Binary.a = search rules in
    let fb : SFits w128 c.in_ok-b-in-Binary.b = search rules in
    let fr : SFits w128 c.binary.result = search rules in
    let over : c.binary_overflows.result ≡ binary_overflows c.in-Binary.op c.in-Binary.ty c.in_ok-a-in-Binary.a c.in_ok-b-in-Binary.b =
    c.binary_overflows.ensures ∙ ap (λ x. binary_overflows c.in-Binary.op c.in-Binary.ty x (to_z w128 (of_z w128 c.in_ok-b-in-Binary.b))) (to_z-of_z w128 c.in_ok-a-in-Binary.a fa)
    ∙ ap (binary_overflows c.in-Binary.op c.in-Binary.ty c.in_ok-a-in-Binary.a) (to_z-of_z w128 c.in_ok-b-in-Binary.b fb) in
    let gives : c.binary.result ≡ binary c.in-Binary.op c.in-Binary.ty c.in_ok-a-in-Binary.a c.in_ok-b-in-Binary.b =
    c.binary.ensures.is ∙ ap (λ x. binary c.in-Binary.op c.in-Binary.ty x (to_z w128 (of_z w128 c.in_ok-b-in-Binary.b))) (to_z-of_z w128 c.in_ok-a-in-Binary.a fa)
    ∙ ap (binary c.in-Binary.op c.in-Binary.ty c.in_ok-a-in-Binary.a) (to_z-of_z w128 c.in_ok-b-in-Binary.b fb) in
    let whole =
    binary_goes g c.in-Binary.op c.in-Binary.ty c.in-Binary.c (typed_tree c.in-Binary.x.value) (typed_tree c.in-Binary.y.value)
    c.args.m.now c.operand-in-Binary.new.m c.operand-in-Binary-2.new.m c.in_ok-a-in-Binary.a c.in_ok-b-in-Binary.b
    (subst (λ x. value g true (typed_tree x) c.args.m.now ≡ Go (number c.in_ok-a-in-Binary.a) c.operand-in-Binary.new.m) c.deref-in-Binary.ensures c.in_ok-a-in-Binary.ensures.does)
    (subst (λ x. value g true (typed_tree x) c.operand-in-Binary.new.m ≡ Go (number c.in_ok-b-in-Binary.b) c.operand-in-Binary-2.new.m) c.deref-in-Binary-2.ensures c.in_ok-b-in-Binary.ensures.does)
    (subst (λ b. check true c.in-Binary.c (not b) c.operand-in-Binary-2.new.m ≡ Go tt c.operand-in-Binary-2.new.m) over c.in_ok-check-in-Binary.ensures) in
    ap (λ x. value g true (typed_tree x) c.args.m.now) c.in-Binary.is ∙ whole ∙ ap (λ z. Go (number z) c.operand-in-Binary-2.new.m) (sym gives ∙ sym (to_z-of_z w128 c.binary.result fr))
