use Rattle.std.proofs.Common.{true, ap, ◌∙◌}
use Rattle.l2_runs.specs.Runs.{Run, and_then, on_go, done, enliven}
use Rattle.l2_program.specs.Checked.{typed_tree, Initialise}
use Rattle.l2_meaning.specs.Meaning.{Value, Ending, Next, first_of, put, value, act}
use Rattle.l2_replay.specs.Reach.{value_of, setting}
use Rattle.l2_replay.proofs.Steps.{go_on}
use Rattle.l2_replay.proofs.Results.{does_err, does_residual}
use Rattle.l2_replay.proofs.statements.initialise.Goals as goal

pub returns-in_err-v-clause-does : goal.returns-in_err-v-clause-does
returns-in_err-v-clause-does c =
    let written : Value → Run Ending = λ v. and_then (put (first_of c.args.n) v) (λ u. done Next) in
    let start = value (setting c.args.p.now) true (typed_tree c.args.e.now) in
    let whole = act (setting c.args.p.now) true (Initialise c.args.n (typed_tree c.args.e.now)) in
    does_residual (λ u. Next) whole c.args.m.now c.eval.new.m c.from_residual.result c.in_err-v.field-0.0 c.from_residual.ensures.0 c.from_residual.ensures.1
    (does_err {C = Unit {0}} value_of (λ u. Next) whole start written c.args.m.now c.enliven.new.m c.eval.new.m c.in_err-v.field-0.0 (ap (λ x. on_go x (λ u. and_then start written)) c.enliven.ensures.is) c.in_err-v.ensures.does)

pub returns-clause-does : goal.returns-clause-does
returns-clause-does c =
    let written : Value → Run Ending = λ v. and_then (put (first_of c.args.n) v) (λ u. done Next) in
    let start = value (setting c.args.p.now) true (typed_tree c.args.e.now) in
    go_on (enliven c.args.n c.args.m.now) (λ u. and_then start written) tt c.enliven.new.m c.enliven.ensures.is
    ∙ go_on (start c.enliven.new.m) written (value_of c.in_ok-v.v) c.eval.new.m c.in_ok-v.ensures.does
    ∙ go_on (put (first_of c.args.n) (value_of c.in_ok-v.v) c.eval.new.m) (λ u. done Next) tt c.put.new.m c.put.ensures.is
